-- How far the replies at the front of some bytes were gone over.
use Rattle.std.proofs.Common.{◌≡◌, ◌∙◌, ℕ, zero, suc, ◌+◌, ◌-◌, ◌<◌, ◌≤◌, List, [], ◌∷◌, ◌++◌, length, take, refl, sym, ap, subst, arith, append_assoc, append-nil, length-append, take_at, false, true}
use Rattle.std.specs.List.{AllByRecursion}
use Rattle.byte_text.specs.Names.{Bytes}
use Rattle.byte_text.specs.Replies.{IsClean, IsInRange, AreReplies, piece_text, frame_text, inside}
use Rattle.byte_text.specs.declared.replies.Piece.{Piece}
use Rattle.byte_text.specs.declared.replies.Piece.TheVariants as piece
use Rattle.byte_text.proofs.ReplyLaws.{same_piece}
use Rattle.ws_front.specs.FrameTexts.{IsFrameText}
use Rattle.ws_front.specs.Pieces.{IsPieceAt}

abbrev pub AreGood : List Piece → Type 0
AreGood ps = AllByRecursion IsClean ps × AllByRecursion IsInRange ps

-- what stands before the rest are pieces behind which so many whole replies make one
pub record Read (bytes rest : Bytes) (due : ℕ) : Type 0 where
  pub pieces : List Piece
  pub good : AreGood pieces
  pub text : bytes ≡ frame_text pieces ++ rest
  pub whole : (others : List Piece) → AreReplies due others → AreReplies 1 (pieces ++ others)

-- of each whole reply that the bytes begin with, so many whole replies stand in the rest
abbrev pub Left : Bytes → Bytes → ℕ → Type 0
Left bytes rest due = (frame behind : Bytes) → IsFrameText frame → bytes ≡ frame ++ behind
    → (others : List Piece) × AreReplies due others × AreGood others × (rest ≡ frame_text others ++ behind)

abbrev pub Standing : Bytes → Bytes → ℕ → Type 0
Standing bytes rest due = Read bytes rest due × Left bytes rest due

pub at_first : (bytes : Bytes) → Standing bytes bytes 1
at_first bytes = (
  record { pieces = []; good = (tt, tt); text = refl; whole = λ others are. are },
  λ frame behind is e. (is.0, is.1.whole, (is.1.clean, is.2), e ∙ ap (λ (t : Bytes). t ++ behind) is.3),
)

has_byte : (p : Piece) → 0 < length (piece_text p)
has_byte (piece.Status s) = omega arith
has_byte (piece.Fault s) = omega arith
has_byte (piece.Number n) = omega arith
has_byte (piece.Bulk s) = omega arith
has_byte piece.NoBulk = omega arith
has_byte piece.NoList = omega arith
has_byte (piece.List n) = omega arith

-- what stands behind a piece is less
pub shorter : (bytes behind : Bytes) (p : Piece) → IsPieceAt bytes p behind → length behind < length bytes
shorter bytes behind p at = omega (arith, ap length at.text, length-append (piece_text p) behind, has_byte p)

-- each reply has a byte at least
many_bytes : (n : ℕ) (ps : List Piece) → AreReplies n ps → n ≤ length (frame_text ps)
many_bytes zero ps are = omega arith
many_bytes (suc n) [] are = absurd are
many_bytes (suc n) (p ∷ ps) are =
    let more = many_bytes (inside p + n) ps are in
    omega (arith, more, has_byte p, length-append (piece_text p) (frame_text ps))

good_append : (P : Piece → Type 0) (ps : List Piece) (p : Piece) → AllByRecursion P ps → P p → AllByRecursion P (ps ++ p ∷ [])
good_append P [] p all one = (one, tt)
good_append P (q ∷ ps) p all one = (all.0, good_append P ps p all.1 one)

text_append : (ps : List Piece) (p : Piece) (rest : Bytes) → frame_text (ps ++ p ∷ []) ++ rest ≡ frame_text ps ++ (piece_text p ++ rest)
text_append [] p rest = append_assoc (piece_text p) [] rest
text_append (q ∷ ps) p rest =
    append_assoc (piece_text q) (frame_text (ps ++ p ∷ [])) rest ∙ ap (λ (t : Bytes). piece_text q ++ t) (text_append ps p rest)
    ∙ sym (append_assoc (piece_text q) (frame_text ps) (piece_text p ++ rest))

read_on : (bytes rest behind : Bytes) (k m : ℕ) (p : Piece) → Read bytes rest (suc k) → IsPieceAt rest p behind → m ≡ inside p + k → Read bytes behind m
read_on bytes rest behind k m p so at is = record {
  pieces = so.pieces ++ p ∷ [];
  good = (good_append IsClean so.pieces p so.good.0 at.clean, good_append IsInRange so.pieces p so.good.1 at.in_range);
  text = so.text ∙ ap (λ (t : Bytes). frame_text so.pieces ++ t) at.text ∙ sym (text_append so.pieces p behind);
  whole = λ others are.
      subst (λ ps. AreReplies 1 ps) (sym (append_assoc so.pieces (p ∷ []) others)) (so.whole (p ∷ others) (subst (λ n. AreReplies n others) is are));
}

-- the first piece of the replies that are due is the one at the front
first_left : (rest behind x : Bytes) (k : ℕ) (p : Piece) (others : List Piece) → AreReplies (suc k) others → AreGood others → rest ≡ frame_text others ++ behind
    → IsPieceAt rest p x
    → (more : List Piece) × AreReplies (inside p + k) more × AreGood more × (x ≡ frame_text more ++ behind)
first_left rest behind x k p [] are good is at = absurd are
first_left rest behind x k p (q ∷ others) are good is at =
    let both = same_piece p q x (frame_text others ++ behind) at.clean good.0.0 at.in_range good.1.0 (sym at.text ∙ is ∙ append_assoc (piece_text q) (frame_text others) behind) in
    (others, subst (λ r. AreReplies (inside r + k) others) (sym both.0) are, (good.0.1, good.1.1), both.1)

-- one piece more
pub goes_on : (bytes rest behind : Bytes) (due m : ℕ) (p : Piece) → Standing bytes rest due → 0 < due → IsPieceAt rest p behind → m ≡ due - 1 + inside p
    → Standing bytes behind m
goes_on bytes rest behind zero m p so some at is = absurd (omega (arith, some))
goes_on bytes rest behind (suc k) m p so some at is =
    let same : m ≡ inside p + k = omega (arith, is) in (
      read_on bytes rest behind k m p so.0 at same,
      λ frame x is_frame e.
          let l = so.1 frame x is_frame e in
          let f = first_left rest x behind k p l.0 l.1 l.2 l.3 at in
          (f.0, subst (λ n. AreReplies n f.0) (sym same) f.1, f.2, f.3),
    )

piece_front : (k : ℕ) (others : List Piece) (rest behind : Bytes) → AreReplies (suc k) others → AreGood others → rest ≡ frame_text others ++ behind
    → (p : Piece) × (x : Bytes) × IsPieceAt rest p x
piece_front k [] rest behind are good is = absurd are
piece_front k (q ∷ others) rest behind are good is =
    (q, frame_text others ++ behind, record { text = is ∙ append_assoc (piece_text q) (frame_text others) behind; clean = good.0.0; in_range = good.1.0 })

-- where no piece stands at the front of the rest, no whole reply is at the front
pub none_at : (bytes rest : Bytes) (due : ℕ) → Standing bytes rest due → 0 < due → ((p : Piece) (x : Bytes) → IsPieceAt rest p x → false ≡ true)
    → (frame behind : Bytes) → IsFrameText frame → bytes ≡ frame ++ behind → ⊥
none_at bytes rest zero so some none frame behind is e = absurd (omega (arith, some))
none_at bytes rest (suc k) so some none frame behind is e =
    let l = so.1 frame behind is e in
    let f = piece_front k l.0 rest behind l.1 l.2 l.3 in
    absurd (cc (none f.0 f.1 f.2))

-- nor where less bytes are left than replies are due
pub too_few : (bytes rest : Bytes) (due : ℕ) → Standing bytes rest due → length rest < due → (frame behind : Bytes) → IsFrameText frame → bytes ≡ frame ++ behind → ⊥
too_few bytes rest due so few frame behind is e =
    let l = so.1 frame behind is e in
    omega (arith, few, many_bytes due l.0 l.1, ap length l.3, length-append (frame_text l.0) behind)

no_text : (ps : List Piece) → AreReplies 0 ps → ps ≡ []
no_text [] are = refl
no_text (p ∷ ps) are = absurd are

one_byte : (ps : List Piece) → AreReplies 1 ps → 0 < length (frame_text ps)
one_byte ps are = let m = many_bytes 1 ps are in omega (arith, m)

-- at the end
pub made : (bytes rest : Bytes) (due : ℕ) → Standing bytes rest due → due ≤ 0
    → (0 < length bytes - length rest) × (length bytes - length rest ≤ length bytes) × IsFrameText (take (length bytes - length rest) bytes)
made bytes rest zero so none =
    let r = so.0 in
    let whole : AreReplies 1 r.pieces = subst (λ ps. AreReplies 1 ps) (append-nil r.pieces) (r.whole [] tt) in
    let some = one_byte r.pieces whole in
    let long : length bytes - length rest ≡ length (frame_text r.pieces) = omega (arith, ap length r.text, length-append (frame_text r.pieces) rest) in
    let front : take (length bytes - length rest) bytes ≡ frame_text r.pieces = ap (take (length bytes - length rest)) r.text
    ∙ take_at (frame_text r.pieces) rest (length bytes - length rest) (sym long) in
    (omega (arith, some, long), omega arith, (r.pieces, record { whole = whole; clean = r.good.0 }, r.good.1, front))
made bytes rest (suc k) so none = absurd (omega (arith, none))

pub only : (bytes rest : Bytes) (due : ℕ) → Standing bytes rest due → due ≤ 0 → (frame behind : Bytes) → IsFrameText frame → bytes ≡ frame ++ behind
    → length bytes - length rest ≡ length frame
only bytes rest zero so none frame behind is e =
    let l = so.1 frame behind is e in
    let same : rest ≡ behind = l.3 ∙ ap (λ ps. frame_text ps ++ behind) (no_text l.0 l.1) in
    omega (arith, ap length same, ap length e, length-append frame behind)
only bytes rest (suc k) so none frame behind is e = absurd (omega (arith, none))
