use Rattle.ws_front.proofs.Shapes.{no_piece, some_piece, piece_found}
use Rattle.ws_front.proofs.pieces.piece_behind.Goals as goal

pub returns-in_err-text-clause-only : goal.returns-in_err-text-clause-only
returns-in_err-text-clause-only c = λ p x at.
    rw c.from_residual.ensures (no_piece c.args.mark c.args.rest.now c.in_err-text.ensures.only p x at)

pub returns-clause-made : goal.returns-clause-made
returns-clause-made c =
    let line = c.in_ok-text.ensures.made in
    some_piece c.args.mark c.args.rest.now c.in_ok-text.text.now c.in_ok-text.behind.now c.piece_of.result line.0 line.1 c.piece_of.ensures.made

pub returns-clause-only : goal.returns-clause-only
returns-clause-only c = λ p x at.
    let line = c.in_ok-text.ensures.made in
    c.piece_of.ensures.only p x (piece_found c.args.mark c.args.rest.now c.in_ok-text.text.now c.in_ok-text.behind.now line.0 line.1 p x at)
