use Rattle.std.proofs.Common.{◌≡◌, ◌∷◌, flat_map}
use Rattle.byte_text.specs.declared.replies.Piece.TheVariants as piece
use Rattle.reply_text.proofs.lists.ReplyList.joined.Given as goal

abbrev pub invariant-loop-reply : goal.invariant-loop-reply
invariant-loop-reply l = l.draft ≡ piece.List l.count ∷ flat_map (λ r. r) l.yielded
