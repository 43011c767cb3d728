use Rattle.std.proofs.Common.{sym, refl, arith}
use Rattle.byte_text.specs.ByteOrder.{same_equal}
use Rattle.byte_text.specs.declared.replies.Piece.TheVariants as piece
use Rattle.ws_front.proofs.Shapes.{bulk_made}
use Rattle.ws_front.proofs.pieces.behind_bulk.Goals as goal

pub returns-then-eq-clause-made : goal.returns-then-eq-clause-made
returns-then-eq-clause-made c = (piece.NoBulk, (refl, same_equal _ _ (sym c.if-eq.ensures), refl), refl)

pub returns-clause-made : goal.returns-clause-made
returns-clause-made c =
    bulk_made c.args.text.now c.args.behind.now c.split_at.result.0.now c.split_at.result.1.now c.in-Ok.len c.past_end.result c.in-Ok.ensures.text (omega arith) c.if-behind-len.false c.split_at.ensures.front c.split_at.ensures.back c.past_end.ensures.made
