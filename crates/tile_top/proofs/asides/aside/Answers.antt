use Rattle.std.proofs.Common.{◌∙◌, inl, inr, refl, sym}
use Rattle.std.specs.Prelude.{map, string_bytes}
use Rattle.tile_top.proofs.Unfollowed.{follow_unasked, load_unfollowed, loaded_unfollowed}
use Rattle.tile_top.proofs.Wanting.{load_wanting}
use Rattle.tile_top.proofs.asides.aside.Goals as goal

-- memory wanted for reading the words behind `load`
pub returns-in-Err-clause-load : goal.returns-in-Err-clause-load
returns-in-Err-clause-load g c = load_wanting _ (g.K.Sink.held c.args.sink.now) (g.K.Sink.held c.end.new.sink) c.end.result c.end.result refl c.end.ensures.told

pub returns-in-Err-clause-follow : goal.returns-in-Err-clause-follow
returns-in-Err-clause-follow g c = follow_unasked (map string_bytes c.args.words.now) _ (load_unfollowed (map string_bytes c.args.words.now) c.in-Err.ensures.begun)

pub returns-in-Err-clause-usage : goal.returns-in-Err-clause-usage
returns-in-Err-clause-usage g c load follow = inr (inr (inl c.in-Err.ensures.begun), c.end.ensures.told)

pub returns-in-Ok-Some-clause-follow : goal.returns-in-Ok-Some-clause-follow
returns-in-Ok-Some-clause-follow g c =
    follow_unasked (map string_bytes c.args.words.now) _ (loaded_unfollowed (map string_bytes c.args.words.now) c.in-Ok-Some.asked (sym c.in-Ok-Some.field-0-is ∙ c.in-Ok-Some.ensures.asked))
