use Rattle.std.proofs.Common.{sym, refl}
use Rattle.byte_text.specs.ByteOrder.{same_equal}
use Rattle.byte_text.specs.declared.replies.Piece.TheVariants as piece
use Rattle.ws_front.proofs.pieces.items_of.Goals as goal

pub returns-then-eq-clause-made : goal.returns-then-eq-clause-made
returns-then-eq-clause-made c = (piece.NoList, (λ behind. (refl, same_equal _ _ (sym c.if-eq.ensures), refl)), refl)

pub returns-in-Ok-clause-made : goal.returns-in-Ok-clause-made
returns-in-Ok-clause-made c = (piece.List c.in-Ok.n, (λ behind. (refl, c.in-Ok.ensures.text, refl, c.if-n.true)), refl)
