use Rattle.std.proofs.Common.{◌≡◌, ◌∙◌, ap, sym}
use Rattle.std.specs.Prelude.{map}
use Rattle.std.proofs.lemmas.Iterator.Adapters.{YieldsList-from_vec}
use Rattle.std.proofs.lemmas.Iterator.Consumers.{YieldsList-end}
use Rattle.std.proofs.lemmas.List.{map-id}
use Rattle.cmd_words.proofs.FieldValues.{field_more, mark_more, names_cleared}
use Rattle.cmd_words.proofs.fields.fields_of.Goals as goal

pub loop-name-preserved : goal.loop-name-preserved
loop-name-preserved c = (
  field_more c.loop-name.yielded (c.in-Some.name, c.in-Some.value) c.loop-name.fields _ c.loop-name.invariant.0 c.in_ok-set.ensures.ok,
  mark_more c.loop-name.yielded (c.in-Some.name, c.in-Some.value) c.loop-name.zeros _ c.loop-name.invariant.1 c.in_ok-set_mark.ensures.ok,
)

pub returns-clause-ok : goal.returns-clause-ok
returns-clause-ok c =
    let begun = c.into_iter-name-iterator.ensures.into_iter_gives in
    let ended = YieldsList-end (YieldsList-from_vec c.args.given.items begun.0 (begun.1 ∙ c.args.given.ok.0)) c.loop-name.yielded c.loop-name.name-iterator c.loop-name.yielded_by c.next.result c.next.new.self c.in-None.is c.next.ensures.steps in
    let all : c.loop-name.yielded ≡ c.args.given.items = sym (map-id c.loop-name.yielded) ∙ ended.0 in (
      rw all at c.loop-name.invariant.0,
      c.in_ok-cleared.ensures.ok ∙ ap (map (λ f. f.0)) (rw all at c.loop-name.invariant.1) ∙ names_cleared c.args.given.items,
    )
