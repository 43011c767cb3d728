-- Items that are pushed one after another.
use Rattle.std.proofs.Common.{◌≡◌, ◌+◌, ◌≤◌, ◌<◌, refl, sym, ◌∙◌, ap, subst, List, [], ◌∷◌, ◌++◌, length, length-append, arith}
use Rattle.std.proofs.lemmas.List.{append-nil}
use Rattle.std.proofs.lemmas.Grind.{flat_map-append}
use Rattle.byte_text.specs.Replies.{piece_text, frame_text, array}
use Rattle.byte_text.specs.declared.replies.Piece.{Piece}
use Rattle.byte_text.specs.declared.replies.Piece.TheVariants as piece
use Rattle.world_data.specs.Limits.{max_reply}
use Rattle.reply_text.specs.Items.{Items}
use Rattle.reply_text.specs.declared.frames.ReplyFault.{ReplyFault}
use Rattle.reply_text.specs.declared.frames.ReplyFault.TheVariants as fault
use Rattle.object_plans.specs.Listings.{joined, AreItems, IsTooLong}

joined_more : (replies : List (List Piece)) (reply : List Piece) → joined (replies ++ reply ∷ []) ≡ joined replies ++ reply
joined_more replies reply = flat_map-append (λ r. r) replies (reply ∷ []) ∙ ap (λ r. joined replies ++ r) (append-nil reply)

text_more : (replies : List (List Piece)) (reply : List Piece)
    → frame_text (joined (replies ++ reply ∷ [])) ≡ frame_text (joined replies) ++ frame_text reply
text_more replies reply = ap frame_text (joined_more replies reply) ∙ flat_map-append piece_text (joined replies) reply

-- one more item is pushed
pub items_more : (replies : List (List Piece)) (reply : List Piece) (old new : Items) → AreItems replies old
    → new ≡ record { text = old.text ++ frame_text reply; count = old.count + 1 } → AreItems (replies ++ reply ∷ []) new
items_more replies reply old new are e = record {
  text = ap (λ i. i.text) e ∙ ap (λ t. t ++ frame_text reply) are.text ∙ sym (text_more replies reply);
  count = ap (λ i. i.count) e ∙ ap (λ n. n + 1) are.count ∙ sym (length-append replies (reply ∷ []));
}

-- an item that would be too long
pub items_long : (replies : List (List Piece)) (reply : List Piece) (old : Items) → AreItems replies old
    → max_reply < length (old.text ++ frame_text reply) → max_reply < length (frame_text (joined (replies ++ reply ∷ [])))
items_long replies reply old are e = subst (λ t. max_reply < length t) (ap (λ t. t ++ frame_text reply) are.text ∙ sym (text_more replies reply)) e

-- what makes a reply too long, of whichever fault
pub fault_of : (reply : List Piece) (f : ReplyFault) → (f ≡ fault.TooLong → max_reply < length (frame_text reply)) → IsTooLong reply f
fault_of reply fault.TooLong is = is refl
fault_of reply fault.Memory is = tt

-- the first items of an array are no longer than it
pub first_shorter : (first rest : List (List Piece)) → length (frame_text (joined first)) ≤ length (frame_text (array (first ++ rest)))
first_shorter first rest =
    let behind = ap frame_text (flat_map-append (λ r. r) first rest) ∙ flat_map-append piece_text (joined first) (joined rest) in
    let long = ap length behind ∙ length-append (frame_text (joined first)) (frame_text (joined rest)) in
    let whole = length-append (piece_text (piece.List (length (first ++ rest)))) (frame_text (joined (first ++ rest))) in
    omega (long, whole, arith)

-- a reply is too long where its first items are
pub long_whole : (first rest : List (List Piece)) (f : ReplyFault) → IsTooLong (joined first) f → IsTooLong (array (first ++ rest)) f
long_whole first rest fault.TooLong long = omega (arith, long, first_shorter first rest)
long_whole first rest fault.Memory long = tt
