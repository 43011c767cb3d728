-- Replies that begin as a message of a session's live fence.
use Rattle.std.proofs.Common.{◌≡◌, ◌≢◌, ◌<◌, ◌^◌, ℕ, ◌+◌, ◌==◌, Bool, true, false, refl, sym, ap, ◌∙◌, List, [], ◌∷◌, ◌++◌, length, append_assoc}
use Rattle.std.proofs.Common.{append-nil, arith, subst, pos}
use Rattle.std.specs.Prelude.{Option, Some, None, codes, decimal, not, ◌&&◌, if◌then◌else◌}
use Rattle.std.specs.List.{AllByRecursion}
use Rattle.std.proofs.lemmas.Bool.Decides.{nat_tests}
use Rattle.std.proofs.lemmas.Fmt.{length-decimal-le, decimal_nonempty, decimal_digit}
use Rattle.std.specs.Fmt.{signed_decimal}
use Rattle.byte_text.specs.Names.{Bytes}
use Rattle.byte_text.specs.Lines.{line, line_end, bulk_text}
use Rattle.byte_text.specs.NumberLaws.{AreDigits, AreDigits-decimal}
use Rattle.byte_text.specs.Replies.{piece_text, frame_text, bulk, IsFrame, IsInRange, AreReplies}
use Rattle.byte_text.specs.declared.replies.Piece.{Piece}
use Rattle.byte_text.specs.declared.replies.Piece.TheVariants as piece
use Rattle.live_fence.specs.LiveFences.{live_name}
use Rattle.live_fence.specs.Parts.{head_pieces, begins_bulk, bulk_in, payload_at, payload_or, own_message}
use Rattle.live_fence.specs.Laws.{OwnAreCut, OthersAreWhole}
use Rattle.live_fence.proofs.Fronts.{front_behind, payload_last, payload_bulk}

-- a payload has its bulk string behind the head

frame_append : (a b : List Piece) → frame_text (a ++ b) ≡ frame_text a ++ frame_text b
frame_append [] b = refl
frame_append (p ∷ a) b = ap (λ (t : Bytes). piece_text p ++ t) (frame_append a b) ∙ sym (append_assoc (piece_text p) (frame_text a) (frame_text b))

no_minus : (ds more : Bytes) → AreDigits ds → 0 < length ds → begins_bulk (36 ∷ ds ++ more) ≡ true
no_minus [] more are some = absurd (omega (arith, some))
no_minus (d ∷ ds) more are some = let other : (d == 45) ≡ false = grind (arith, nat_tests, are.0.0) in ap not other

bulk_begins : (payload : Bytes) → length payload < 2 ^ 64 → begins_bulk (frame_text (bulk payload)) ≡ true
bulk_begins payload small =
    let ds = decimal (length payload) in
    let text : frame_text (bulk payload) ≡ 36 ∷ ds ++ (line_end ++ (payload ++ line_end)) =
    append-nil (bulk_text payload) ∙ ap (λ (t : Bytes). 36 ∷ t) (append_assoc ds line_end (payload ++ line_end)) in
    ap begins_bulk text
    ∙ no_minus ds (line_end ++ (payload ++ line_end)) (AreDigits-decimal (length payload) small) (decimal_nonempty (length payload) small)

pub own_found : (session : ℕ) (payload : Bytes) → length payload < 2 ^ 64
    → payload_at session (frame_text (own_message session payload)) ≡ Some (frame_text (bulk payload))
own_found session payload small =
    let rest = frame_text (bulk payload) in
    ap (payload_at session) (frame_append (head_pieces session) (bulk payload))
    ∙ ap bulk_in (front_behind (frame_text (head_pieces session)) rest)
    ∙ ap (λ (b : Bool). if b then Some rest else None) (bulk_begins payload small)

pub own_cut : OwnAreCut
own_cut session payload small = ap (payload_or (frame_text (own_message session payload))) (own_found session payload small)

-- a reply whose text begins with the head, and behind it a bulk string, is such a message

first_or : Bytes → ℕ
first_or [] = 0
first_or (b ∷ bytes) = b

heads : (a b : ℕ) (s t : Bytes) → a ∷ s ≡ b ∷ t → a ≡ b
unfolding first_or
heads a b s t e = ap first_or e

not_bulk : (m : ℕ) (t : Bytes) → (m == 36) ≡ false → begins_bulk (m ∷ t) ≡ true → ⊥
not_bulk m [] e h = cc h
not_bulk m (d ∷ t) e h = cc (sym (ap (λ (x : Bool). x && not (d == 45)) e) ∙ h)

abbrev pub Differ : Type 0
Differ = (a b : List Piece) (x y : Bytes) → IsFrame a → IsFrame b → AllByRecursion IsInRange a → AllByRecursion IsInRange b
    → frame_text a ++ x ≡ frame_text b ++ y → (a ≡ b) × (x ≡ y)

module _ (differ : Differ) where
  one_bulk : (b : Bytes) → IsFrame (piece.Bulk b ∷ [])
  one_bulk b = record { whole = tt; clean = (tt, tt) }

  -- the number of a list is told by its line
  same_count : (m n : ℕ) (x y : Bytes) → m < 2 ^ 32 → n < 2 ^ 32 → piece_text (piece.List m) ++ x ≡ piece_text (piece.List n) ++ y
      → (m ≡ n) × (x ≡ y)
  same_count m n x y p q e =
      let number : ℕ → List Piece = λ k. piece.Number (pos k) ∷ [] in
      let is : (k : ℕ) → IsFrame (number k) = λ k. record { whole = tt; clean = (tt, tt) } in
      let fits : (k : ℕ) → k < 2 ^ 32 → AllByRecursion IsInRange (number k) = λ k l. (record { sfits = omega (arith, l) }, tt) in
      let nil : (k : ℕ) (z : Bytes) → frame_text (number k) ++ z ≡ piece_text (piece.Number (pos k)) ++ z =
      λ k z. ap (λ (t : Bytes). t ++ z) (append-nil (piece_text (piece.Number (pos k)))) in
      let tails : (decimal m ++ line_end) ++ x ≡ (decimal n ++ line_end) ++ y = cc e in
      let both = differ (number m) (number n) x y (is m) (is n) (fits m p) (fits n q) (nil m x ∙ ap (λ (t : Bytes). 58 ∷ t) tails ∙ sym (nil n y)) in
      let zs : piece.Number (pos m) ≡ piece.Number (pos n) = cc both.0 in
      (cc zs, both.1)

  -- a piece whose text begins as a bulk string is one
  same_bulk : (p : Piece) (b x y : Bytes) → IsInRange p → length b < 2 ^ 64 → piece_text p ++ x ≡ bulk_text b ++ y → (p ≡ piece.Bulk b) × (x ≡ y)
  same_bulk (piece.Status text) b x y r s e = absurd (omega (arith, heads 43 36 _ _ e))
  same_bulk (piece.Fault text) b x y r s e = absurd (omega (arith, heads 45 36 _ _ e))
  same_bulk (piece.Number n) b x y r s e = absurd (omega (arith, heads 58 36 _ _ e))
  same_bulk piece.NoList b x y r s e = absurd (omega (arith, heads 42 36 _ _ e))
  same_bulk (piece.List n) b x y r s e = absurd (omega (arith, heads 42 36 _ _ e))
  same_bulk piece.NoBulk b x y r s e =
      let both = differ (piece.NoBulk ∷ []) (piece.Bulk b ∷ []) x y (record { whole = tt; clean = (tt, tt) }) (one_bulk b) (tt, tt) (s, tt)
      (e ∙ ap (λ (t : Bytes). t ++ y) (sym (append-nil (bulk_text b)))) in
      (cc both.0, both.1)
  same_bulk (piece.Bulk a) b x y r s e =
      let both = differ (piece.Bulk a ∷ []) (piece.Bulk b ∷ []) x y (one_bulk a) (one_bulk b) (r, tt) (s, tt)
      (ap (λ (t : Bytes). t ++ x) (append-nil (bulk_text a)) ∙ e ∙ ap (λ (t : Bytes). t ++ y) (sym (append-nil (bulk_text b)))) in
      (cc both.0, both.1)

  -- the next piece is this bulk string
  next_bulk : (ps : List Piece) (b y : Bytes) → AllByRecursion IsInRange ps → length b < 2 ^ 64 → frame_text ps ≡ bulk_text b ++ y
      → (qs : List Piece) × (ps ≡ piece.Bulk b ∷ qs) × AllByRecursion IsInRange qs × (frame_text qs ≡ y)
  next_bulk [] b y r s e = absurd (cc e)
  next_bulk (p ∷ ps) b y r s e = let both = same_bulk p b (frame_text ps) y r.0 s e in
      (ps, ap (λ (q : Piece). q ∷ ps) both.0, r.1, both.1)

  -- the first is this list's head
  next_list : (ps : List Piece) (n : ℕ) (y : Bytes) → AllByRecursion IsInRange ps → 0 < n → n < 10 → frame_text ps ≡ piece_text (piece.List n) ++ y
      → (qs : List Piece) × (ps ≡ piece.List n ∷ qs) × AllByRecursion IsInRange qs × (frame_text qs ≡ y)
  next_list [] n y r some few e = absurd (cc e)
  next_list (piece.Status text ∷ ps) n y r some few e = absurd (omega (arith, heads 43 42 _ _ e))
  next_list (piece.Fault text ∷ ps) n y r some few e = absurd (omega (arith, heads 45 42 _ _ e))
  next_list (piece.Number m ∷ ps) n y r some few e = absurd (omega (arith, heads 58 42 _ _ e))
  next_list (piece.Bulk text ∷ ps) n y r some few e = absurd (omega (arith, heads 36 42 _ _ e))
  next_list (piece.NoBulk ∷ ps) n y r some few e = absurd (omega (arith, heads 36 42 _ _ e))
  next_list (piece.NoList ∷ ps) n y r some few e =
      let opened : 42 ∷ 45 ∷ 49 ∷ 13 ∷ 10 ∷ frame_text ps ≡ 42 ∷ (48 + n) ∷ 13 ∷ 10 ∷ y =
      e ∙ ap (λ (ds : Bytes). line 42 ds ++ y) (decimal_digit n few) in
      let second : 45 ≡ 48 + n = cc opened in
      absurd (omega (arith, second))
  next_list (piece.List m ∷ ps) n y r some few e =
      let both = same_count m n (frame_text ps) y r.0 (omega (arith, few)) e in
      (ps, ap (λ (k : ℕ). piece.List k ∷ ps) both.0, r.1, both.1)

  -- the last is a bulk string alone
  last_bulk : (ps : List Piece) → AreReplies 1 ps → begins_bulk (frame_text ps) ≡ true → (payload : Bytes) × (ps ≡ bulk payload)
  last_bulk [] whole b = absurd whole
  last_bulk (piece.Bulk payload ∷ []) whole b = (payload, refl)
  last_bulk (piece.Bulk payload ∷ q ∷ qs) whole b = absurd whole
  last_bulk (piece.NoBulk ∷ ps) whole b = absurd (cc b)
  last_bulk (piece.Status text ∷ ps) whole b = absurd (not_bulk 43 ((text ++ line_end) ++ frame_text ps) refl b)
  last_bulk (piece.Fault text ∷ ps) whole b = absurd (not_bulk 45 ((text ++ line_end) ++ frame_text ps) refl b)
  last_bulk (piece.Number n ∷ ps) whole b = absurd (not_bulk 58 ((signed_decimal n ++ line_end) ++ frame_text ps) refl b)
  last_bulk (piece.NoList ∷ ps) whole b = absurd (not_bulk 42 (45 ∷ 49 ∷ 13 ∷ 10 ∷ frame_text ps) refl b)
  last_bulk (piece.List n ∷ ps) whole b = absurd (not_bulk 42 ((decimal n ++ line_end) ++ frame_text ps) refl b)

  module _ (session : ℕ) (small : session < 2 ^ 32) where
    name_short : length (live_name session) < 2 ^ 64
    name_short = let most = length-decimal-le 10 session (omega arith) (omega (arith, small)) (omega (arith, small)) in omega (arith, most)

    rest_of : (rest : Bytes) → frame_text (head_pieces session) ++ rest
        ≡ piece_text (piece.List 3) ++ (bulk_text (codes "message") ++ (bulk_text (live_name session) ++ rest))
    rest_of rest =
        append_assoc (piece_text (piece.List 3)) (bulk_text (codes "message") ++ (bulk_text (live_name session) ++ [])) rest
        ∙ ap (λ (t : Bytes). piece_text (piece.List 3) ++ t) (append_assoc (bulk_text (codes "message")) (bulk_text (live_name session) ++ []) rest
        ∙ ap (λ (t : Bytes). bulk_text (codes "message") ++ t) (append_assoc (bulk_text (live_name session)) [] rest))

    own_is : (reply : List Piece) (rest : Bytes) → IsFrame reply → AllByRecursion IsInRange reply → frame_text reply
        ≡ frame_text (head_pieces session) ++ rest → begins_bulk rest ≡ true
        → (payload : Bytes) × (reply ≡ own_message session payload)
    own_is reply rest is fits e b =
        let one = next_list reply 3 (bulk_text (codes "message") ++ (bulk_text (live_name session) ++ rest)) fits (omega arith) (omega arith)
        (e ∙ rest_of rest) in
        let two = next_bulk one.0 (codes "message") (bulk_text (live_name session) ++ rest) one.2 (omega arith) one.3 in
        let three = next_bulk two.0 (live_name session) rest two.2 name_short two.3 in
        let front : reply ≡ head_pieces session ++ three.0 =
        one.1 ∙ ap (λ (ps : List Piece). piece.List 3 ∷ ps) (two.1 ∙ ap (λ (ps : List Piece). piece.Bulk (codes "message") ∷ ps) three.1) in
        let whole : AreReplies 1 (head_pieces session ++ three.0) = subst (AreReplies 1) front is.whole in
        let last = last_bulk three.0 whole (ap begins_bulk three.3 ∙ b) in
        (last.0, front ∙ ap (λ (ps : List Piece). head_pieces session ++ ps) last.1)

  pub others_none : (session : ℕ) (reply : List Piece) → session < 2 ^ 32 → IsFrame reply → AllByRecursion IsInRange reply
      → ((payload : Bytes) → reply ≢ own_message session payload) → payload_at session (frame_text reply) ≡ None
  others_none session reply small is fits none = by (payload_at session (frame_text reply)) refl
    where
      by : (o : Option Bytes) → payload_at session (frame_text reply) ≡ o → payload_at session (frame_text reply) ≡ None
      by None e = e
      by (Some rest) e =
          let own = own_is session small reply rest is fits (payload_last session (frame_text reply) rest e)
          (payload_bulk session (frame_text reply) rest e) in
          absurd (none own.0 own.1)

  pub others_whole : OthersAreWhole
  others_whole session reply small is fits none = ap (payload_or (frame_text reply)) (others_none session reply small is fits none)
