use Rattle.std.proofs.Common.{rules, tests}
use Rattle.std.specs.Prelude.{◌==◌}
use Rattle.std.proofs.lemmas.Iterator.Search.{any_from_yields_List}
use Rattle.std.proofs.lemmas.Iterator.Splits.{YieldsList-from_slice_split}
use Rattle.byte_text.specs.Names.{same}
use Rattle.cmd_words.proofs.Pieces.{pieces_split}
use Rattle.cmd_words.proofs.listed_names.is_piece.Goals as goal

pub returns : goal.returns
returns c = rw (pieces_split c.args.word.now) (any_from_yields_List (same c.args.name.now) _ _ _ c.any.ensures.ran
    (YieldsList-from_slice_split _ (λ b. b == 44) c.args.word.now c.split.ensures.rest c.split.ensures.done c.split.ensures.closure (λ x b q k. search (rules, tests)))
    (λ x b q k. search (rules, tests)))
