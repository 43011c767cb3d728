use Rattle.std.proofs.Common.{refl, rules}
use Rattle.byte_text.specs.declared.replies.Piece.TheVariants as piece
use Rattle.ws_front.proofs.Shapes.{text_piece}
use Rattle.ws_front.proofs.pieces.piece_of.Goals as goal

pub returns-in-43-clause-made : goal.returns-in-43-clause-made
returns-in-43-clause-made c = text_piece c.args.mark c.args.text.now c.args.behind.now c.in-43.is

pub returns-in-Ok-clause-made : goal.returns-in-Ok-clause-made
returns-in-Ok-clause-made c = (piece.Number c.in-Ok.field-0, (c.in-58.is, c.in-Ok.ensures.text, refl, search rules), refl)
