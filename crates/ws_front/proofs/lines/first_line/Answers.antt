use Rattle.std.proofs.Common.{◌∷◌, ap}
use Rattle.std.specs.List.{position}
use Rattle.ws_front.specs.Pieces.{is_end}
use Rattle.ws_front.proofs.Fronts.{found_end, split_line, line_split}
use Rattle.ws_front.proofs.lines.first_line.Goals as goal

pub returns-in_err-at-clause-only : goal.returns-in_err-at-clause-only
returns-in_err-at-clause-only c = λ text behind one is.
    absurd (cc (c.in_err-at.was, c.first_end.ensures.first, ap (position is_end) is, found_end text (10 ∷ behind) one))

pub returns-in-Some-clause-made : goal.returns-in-Some-clause-made
returns-in-Some-clause-made c =
    split_line c.args.bytes.now _ _ _ c.in_ok-at.at c.in_ok-at.ensures.first c.split_at.ensures.front c.split_at.ensures.back c.in-Some.ensures.made

pub returns-in-None-clause-only : goal.returns-in-None-clause-only
returns-in-None-clause-only c = λ text behind one is.
    c.in-None.ensures.only behind (line_split c.args.bytes.now _ text behind c.in_ok-at.at c.in_ok-at.ensures.first c.split_at.ensures.back one is)
