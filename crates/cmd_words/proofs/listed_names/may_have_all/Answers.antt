use Rattle.std.proofs.Common.{rules, tests}
use Rattle.std.specs.Prelude.{◌==◌}
use Rattle.std.proofs.lemmas.Iterator.Search.{all_from_yields_List}
use Rattle.std.proofs.lemmas.Iterator.Splits.{YieldsList-from_slice_split}
use Rattle.world_model.specs.Kinds.{is_in}
use Rattle.cmd_words.specs.FenceWords.{names_of}
use Rattle.cmd_words.proofs.Pieces.{pieces_split}
use Rattle.cmd_words.proofs.listed_names.may_have_all.Goals as goal

pub returns : goal.returns
returns c = rw (pieces_split c.args.word.now) (all_from_yields_List (is_in (names_of c.args.kind)) _ _ _ c.all.ensures.ran
    (YieldsList-from_slice_split _ (λ b. b == 44) c.args.word.now c.split.ensures.rest c.split.ensures.done c.split.ensures.closure (λ x b q k. search (rules, tests)))
    (λ x b q k. search (rules, tests)))
