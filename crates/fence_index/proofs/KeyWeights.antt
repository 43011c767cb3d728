-- What the boxes of a key weigh, as boxes come and go.
use Rattle.std.proofs.Common.{◌≡◌, ◌≤◌, ◌+◌, ℕ, zero, suc, Bool, true, false, cond, refl, sym, ap, ◌∙◌, subst, List, [], ◌∷◌, take, arith}
use Rattle.std.specs.Prelude.{Option, Some, None, slice_get, IfSome}
use Rattle.std.specs.List.{list_all, sum_by, slice_set, insert, remove}
use Rattle.std.proofs.lemmas.List.Sums.{sum_by-append, sum_by-cons, sum_by-insert}
use Rattle.byte_text.specs.Names.{Bytes, before, same}
use Rattle.byte_text.specs.ByteOrder.{before_trans, same_refl, same_equal, other_before, other_behind}
use Rattle.ordered_lists.specs.Lists.{IsHeld, IsFree}
use Rattle.ordered_lists.specs.Reading.{both_of}
use Rattle.ordered_lists.specs.Ascending.{set_held, insert_free, ascends-put_in, ascends-remove}
use Rattle.ordered_lists.specs.NameOrder.{name_trans, name_tie, name_asym, is_named_so}
use Rattle.planar_geom.specs.Points.{Bounds}
use Rattle.rtree.specs.Pairs.{Pair, ids_meeting}
use Rattle.fence_index.specs.declared.marks.Mark.{Mark}
use Rattle.fence_index.specs.declared.key_boxes.KeyBoxes.{KeyBoxes}
use Rattle.fence_index.specs.Held.{Fits, weight_of}
use Rattle.fence_index.specs.Reasons.{Reason, Near, Wide, Always, box_for, spot}
use Rattle.fence_index.specs.Boxed.{AreFound, HasRoom, HasRoomIn, IsFresh, are_by_key, found, key_before, met_weight, other_box, other_reason, part, weight_in, weight_on}
use Rattle.fence_index.proofs.Sums.{sum_met}
use Rattle.fence_index.specs.SumLaws.{sum_remove}

abbrev pub IsKeyHeld : Bytes → List KeyBoxes → ℕ → Type 0
IsKeyHeld key boxes at = IsHeld (λ s. before s.key key) (λ s. before key s.key) boxes at

abbrev pub IsKeyFree : Bytes → List KeyBoxes → ℕ → Type 0
IsKeyFree key boxes at = IsFree (λ s. before s.key key) (λ s. before key s.key) boxes at

-- what one item of the list weighs
abbrev pub weight_at : Reason → Bytes → (Pair → ℕ) → KeyBoxes → ℕ
weight_at r key w s = cond (same s.key key) (sum_by w (part r s).pairs) 0

-- the boxes at a held place are those of the key
pub key_there : (key : Bytes) (boxes : List KeyBoxes) (at : ℕ) (s : KeyBoxes) → IsKeyHeld key boxes at → slice_get boxes at ≡ Some s → s.key ≡ key
key_there key boxes at s h is =
    let t = subst (λ (o : Option KeyBoxes). IfSome o (λ x. (before key x.key ≡ false) × (before x.key key ≡ false))) is h.tie in
    same_equal s.key key (is_named_so (λ (x : KeyBoxes). x.key) key s t.0 t.1)

none_behind : (r : Reason) (key : Bytes) (w : Pair → ℕ) (boxes : List KeyBoxes) → list_all (λ s. before key s.key) boxes ≡ true → weight_in r key w boxes ≡ 0
none_behind r key w [] all = refl
none_behind r key w (s ∷ boxes) all =
    let p = both_of (before key s.key) (list_all (λ s. before key s.key) boxes) all in
    let other = other_behind s.key key p.0 in
    let here : weight_at r key w s ≡ 0 = rw other refl in
    let c = sum_by-cons (weight_at r key w) s boxes in
    omega (arith, here, c, none_behind r key w boxes p.1)

all_behind : (key : Bytes) (s : KeyBoxes) (boxes : List KeyBoxes) → ((t : KeyBoxes) → key_before s t ≡ true → before key t.key ≡ true) → list_all (key_before s) boxes ≡ true → list_all (λ t. before key t.key) boxes ≡ true
all_behind key s [] h all = refl
all_behind key s (t ∷ boxes) h all =
    let p = both_of (key_before s t) (list_all (key_before s) boxes) all in
    rw (h t p.0, all_behind key s boxes h p.1) refl

-- those of a key weigh what its boxes do
pub weight_held : (r : Reason) (key : Bytes) (w : Pair → ℕ) (boxes : List KeyBoxes) (at : ℕ) (s : KeyBoxes) → are_by_key boxes ≡ true → IsKeyHeld key boxes at → slice_get boxes at ≡ Some s
    → weight_in r key w boxes ≡ sum_by w (part r s).pairs
weight_held r key w [] at s asc h is = absurd (omega (arith, h.within))
weight_held r key w (x ∷ boxes) zero s asc h is =
    let p = both_of (list_all (key_before x) boxes) (are_by_key boxes) asc in
    let k = key_there key (x ∷ boxes) 0 x h refl in
    let it : x ≡ s = cc in
    let one : same x.key key ≡ true = subst (λ (n : Bytes). same n key ≡ true) (sym k) (same_refl key) in
    let here : weight_at r key w x ≡ sum_by w (part r x).pairs = rw one refl in
    let none = none_behind r key w boxes (all_behind key x boxes (λ t q. subst (λ (n : Bytes). before n t.key ≡ true) k q) p.0) in
    let c = sum_by-cons (weight_at r key w) x boxes in
    let whole : weight_in r key w (x ∷ boxes) ≡ sum_by w (part r x).pairs = omega (arith, here, none, c) in
    whole ∙ ap (λ (t : KeyBoxes). sum_by w (part r t).pairs) it
weight_held r key w (x ∷ boxes) (suc at) s asc h is =
    let p = both_of (list_all (key_before x) boxes) (are_by_key boxes) asc in
    let q = both_of (before x.key key) (list_all (λ t. before t.key key) (take at boxes)) h.front in
    let other = other_before x.key key q.0 in
    let here : weight_at r key w x ≡ 0 = rw other refl in
    let c = sum_by-cons (weight_at r key w) x boxes in
    let ih = weight_held r key w boxes at s p.1 (record { front = q.1; within = omega (arith, h.within); tie = h.tie }) is in
    omega (arith, here, c, ih)

pub weight_free : (r : Reason) (key : Bytes) (w : Pair → ℕ) (boxes : List KeyBoxes) (at : ℕ) → are_by_key boxes ≡ true → IsKeyFree key boxes at → weight_in r key w boxes ≡ 0
weight_free r key w [] at asc f = refl
weight_free r key w (x ∷ boxes) zero asc f =
    let p = both_of (list_all (key_before x) boxes) (are_by_key boxes) asc in
    let all = all_behind key x boxes (λ t q. before_trans key x.key t.key f.behind q) p.0 in
    none_behind r key w (x ∷ boxes) (rw (f.behind, all) refl)
weight_free r key w (x ∷ boxes) (suc at) asc f =
    let p = both_of (list_all (key_before x) boxes) (are_by_key boxes) asc in
    let q = both_of (before x.key key) (list_all (λ t. before t.key key) (take at boxes)) f.front in
    let other = other_before x.key key q.0 in
    let here : weight_at r key w x ≡ 0 = rw other refl in
    let c = sum_by-cons (weight_at r key w) x boxes in
    let ih = weight_free r key w boxes at p.1 (record { front = q.1; within = omega (arith, f.within); behind = f.behind }) in
    omega (arith, here, c, ih)

-- edits

pub sum_set : {A : Type 0} (f : A → ℕ) (xs : List A) (i : ℕ) (x y : A) → slice_get xs i ≡ Some x → sum_by f (slice_set xs i y) + f x ≡ sum_by f xs + f y
sum_set f [] zero x y is = absurd (cc)
sum_set f [] (suc i) x y is = absurd (cc)
sum_set f (z ∷ xs) zero x y is =
    let s : z ≡ x = cc in
    let e : f z ≡ f x = ap f s in
    let a = sum_by-cons f z xs in
    let b = sum_by-cons f y xs in
    omega (arith, e, a, b)
sum_set f (z ∷ xs) (suc i) x y is =
    let ih = sum_set f xs i x y is in
    let a = sum_by-cons f z xs in
    let b = sum_by-cons f z (slice_set xs i y) in
    omega (arith, ih, a, b)

-- one item weighs as much more or less as a channel of its key
weight_more : (r : Reason) (key : Bytes) (w : Pair → ℕ) (m : Mark) (n : ℕ) (s t : KeyBoxes) → s.key ≡ m.key → t.key ≡ m.key
    → sum_by w (part r t).pairs ≡ sum_by w (part r s).pairs + weight_of w (box_for r m) n → weight_at r key w t ≡ weight_at r key w s + weight_on r key w m n
weight_more r key w m n s t sk tk more =
    ap (λ (k : Bytes). cond (same k key) (sum_by w (part r t).pairs) 0) tk ∙ by_test (same m.key key)
    ∙ ap (λ (k : Bytes). cond (same k key) (sum_by w (part r s).pairs) 0 + cond (same m.key key) (weight_of w (box_for r m) n) 0) (sym sk)
  where
    by_test : (b : Bool) → cond b (sum_by w (part r t).pairs) 0 ≡ cond b (sum_by w (part r s).pairs) 0 + cond b (weight_of w (box_for r m) n) 0
    by_test true = more
    by_test false = omega arith

pub weights_put : (r : Reason) (key : Bytes) (w : Pair → ℕ) (m : Mark) (n : ℕ) (boxes : List KeyBoxes) (at : ℕ) (s t : KeyBoxes) → slice_get boxes at ≡ Some s → s.key ≡ m.key → t.key ≡ s.key
    → sum_by w (part r t).pairs ≡ sum_by w (part r s).pairs + weight_of w (box_for r m) n
    → weight_in r key w (slice_set boxes at t) ≡ weight_in r key w boxes + weight_on r key w m n
weights_put r key w m n boxes at s t is sk tk more =
    let a = sum_set (weight_at r key w) boxes at s t is in
    let b = weight_more r key w m n s t sk (tk ∙ sk) more in
    omega (arith, a, b)

pub weights_taken : (r : Reason) (key : Bytes) (w : Pair → ℕ) (m : Mark) (n : ℕ) (boxes : List KeyBoxes) (at : ℕ) (s t : KeyBoxes) → slice_get boxes at ≡ Some s → s.key ≡ m.key → t.key ≡ s.key
    → sum_by w (part r t).pairs + weight_of w (box_for r m) n ≡ sum_by w (part r s).pairs
    → weight_in r key w (slice_set boxes at t) + weight_on r key w m n ≡ weight_in r key w boxes
weights_taken r key w m n boxes at s t is sk tk less =
    let a = sum_set (weight_at r key w) boxes at s t is in
    let b = weight_more r key w m n t s (tk ∙ sk) sk (sym less) in
    omega (arith, a, b)

-- the first boxes of a key
pub weights_first : (r : Reason) (key : Bytes) (w : Pair → ℕ) (m : Mark) (n : ℕ) (boxes : List KeyBoxes) (at : ℕ) (s t : KeyBoxes) → IsFresh m s → t.key ≡ s.key
    → sum_by w (part r t).pairs ≡ sum_by w (part r s).pairs + weight_of w (box_for r m) n
    → weight_in r key w (insert boxes at t) ≡ weight_in r key w boxes + weight_on r key w m n
weights_first r key w m n boxes at s t fresh tk more =
    let a = sum_by-insert (weight_at r key w) boxes at t in
    let b = weight_more r key w m n s t fresh.key (tk ∙ fresh.key) more in
    let none : weight_at r key w s ≡ 0 = rw (fresh.empty r) (nothing (same s.key key)) in
    omega (arith, a, b, none)
  where
    nothing : (b : Bool) → cond {A = ℕ} b 0 0 ≡ 0
    nothing true = refl
    nothing false = refl

-- a key without a box
pub weights_empty : (r : Reason) (key : Bytes) (w : Pair → ℕ) (boxes : List KeyBoxes) (at : ℕ) (s : KeyBoxes) → slice_get boxes at ≡ Some s → (part r s).pairs ≡ []
    → weight_in r key w (remove boxes at) ≡ weight_in r key w boxes
weights_empty r key w boxes at s is none =
    let a = sum_remove (weight_at r key w) boxes at s is in
    let b : weight_at r key w s ≡ 0 = rw none (nothing (same s.key key)) in
    omega (arith, a, b)
  where
    nothing : (b : Bool) → cond {A = ℕ} b 0 0 ≡ 0
    nothing true = refl
    nothing false = refl

-- order

pub key_order_set : (key : Bytes) (boxes : List KeyBoxes) (at : ℕ) (t : KeyBoxes) → are_by_key boxes ≡ true → IsKeyHeld key boxes at → t.key ≡ key → are_by_key (slice_set boxes at t) ≡ true
key_order_set key boxes at t asc h k =
    let mine : IsHeld (λ s. key_before s t) (key_before t) boxes at = subst (λ (n : Bytes). IsKeyHeld n boxes at) (sym k) h in
    subst (λ (l : List KeyBoxes). are_by_key l ≡ true) (sym (set_held key_before (name_asym (λ (s : KeyBoxes). s.key)) t boxes at mine))
    (ascends-put_in key_before (name_trans (λ (s : KeyBoxes). s.key)) (name_tie (λ (s : KeyBoxes). s.key)) t boxes asc)

pub key_order_insert : (key : Bytes) (boxes : List KeyBoxes) (at : ℕ) (t : KeyBoxes) → are_by_key boxes ≡ true → IsKeyFree key boxes at → t.key ≡ key → are_by_key (insert boxes at t) ≡ true
key_order_insert key boxes at t asc f k =
    let mine : IsFree (λ s. key_before s t) (key_before t) boxes at = subst (λ (n : Bytes). IsKeyFree n boxes at) (sym k) f in
    subst (λ (l : List KeyBoxes). are_by_key l ≡ true) (sym (insert_free key_before (name_asym (λ (s : KeyBoxes). s.key)) t boxes at mine))
    (ascends-put_in key_before (name_trans (λ (s : KeyBoxes). s.key)) (name_tie (λ (s : KeyBoxes). s.key)) t boxes asc)

pub key_order_remove : (boxes : List KeyBoxes) (at : ℕ) → are_by_key boxes ≡ true → are_by_key (remove boxes at) ≡ true
key_order_remove boxes at asc = ascends-remove key_before boxes at asc

-- room

fits_more : (b : Option Bounds) (n k : ℕ) → n ≤ k → Fits b n → Fits b k
fits_more None n k le fits = tt
fits_more (Some b) n k le fits = omega (arith, le, fits)

pub room_more : (m : Mark) (s t : KeyBoxes) → ((r : Reason) → (part r s).spare ≤ (part r t).spare) → HasRoom m s → HasRoom m t
room_more m s t le room = λ r. fits_more (box_for r m) (part r s).spare (part r t).spare (le r) (room r)

pub room_at : (m : Mark) (boxes : List KeyBoxes) (at : ℕ) (s : KeyBoxes) → HasRoomIn m boxes → slice_get boxes at ≡ Some s → s.key ≡ m.key → HasRoom m s
room_at m [] zero s all is k = absurd (cc)
room_at m [] (suc at) s all is k = absurd (cc)
room_at m (x ∷ boxes) zero s all is k =
    let it : x ≡ s = cc in
    subst (HasRoom m) it (all.0 (subst (λ (n : Bytes). same n m.key ≡ true) (sym (ap (λ (t : KeyBoxes). t.key) it ∙ k)) (same_refl m.key)))
room_at m (x ∷ boxes) (suc at) s all is k = room_at m boxes at s all.1 is k

pub room_set : (m : Mark) (boxes : List KeyBoxes) (at : ℕ) (s t : KeyBoxes) → slice_get boxes at ≡ Some s → t.key ≡ s.key → (HasRoom m s → HasRoom m t) → HasRoomIn m boxes → HasRoomIn m (slice_set boxes at t)
room_set m [] zero s t is k more all = all
room_set m [] (suc at) s t is k more all = all
room_set m (x ∷ boxes) zero s t is k more all =
    let it : x ≡ s = cc in
    (λ on. more (subst (HasRoom m) it (all.0 (subst (λ (n : Bytes). same n m.key ≡ true) (k ∙ sym (ap (λ (y : KeyBoxes). y.key) it)) on))), all.1)
room_set m (x ∷ boxes) (suc at) s t is k more all = (all.0, room_set m boxes at s t is k more all.1)

-- room for a channel whose key is there, and where it is not
pub room_there : (m : Mark) (boxes : List KeyBoxes) (at : ℕ) (t : KeyBoxes) → are_by_key boxes ≡ true → IsKeyHeld m.key boxes at → HasRoom m t → HasRoomIn m (slice_set boxes at t)
room_there m [] at t asc h room = tt
room_there m (x ∷ boxes) zero t asc h room =
    let p = both_of (list_all (key_before x) boxes) (are_by_key boxes) asc in
    let k = key_there m.key (x ∷ boxes) 0 x h refl in
    (λ on. room, room_behind m boxes (all_behind m.key x boxes (λ t q. subst (λ (n : Bytes). before n t.key ≡ true) k q) p.0))
  where
    room_behind : (m : Mark) (boxes : List KeyBoxes) → list_all (λ t. before m.key t.key) boxes ≡ true → HasRoomIn m boxes
    room_behind m [] all = tt
    room_behind m (s ∷ boxes) all =
        let p = both_of (before m.key s.key) (list_all (λ t. before m.key t.key) boxes) all in
        let other = other_behind s.key m.key p.0 in
        (λ on. absurd (cc), room_behind m boxes p.1)
room_there m (x ∷ boxes) (suc at) t asc h room =
    let p = both_of (list_all (key_before x) boxes) (are_by_key boxes) asc in
    let q = both_of (before x.key m.key) (list_all (λ t. before t.key m.key) (take at boxes)) h.front in
    let other = other_before x.key m.key q.0 in
    (λ on. absurd (cc), room_there m boxes at t p.1 (record { front = q.1; within = omega (arith, h.within); tie = h.tie }) room)

pub room_free : (m : Mark) (boxes : List KeyBoxes) (at : ℕ) → are_by_key boxes ≡ true → IsKeyFree m.key boxes at → HasRoomIn m boxes
room_free m [] at asc f = tt
room_free m (x ∷ boxes) zero asc f =
    let p = both_of (list_all (key_before x) boxes) (are_by_key boxes) asc in
    let other = other_behind x.key m.key f.behind in
    (λ on. absurd (cc), room_free m boxes zero p.1 (free_next boxes p.0 f.behind))
  where
    free_next : (boxes : List KeyBoxes) → list_all (key_before x) boxes ≡ true → before m.key x.key ≡ true → IsKeyFree m.key boxes 0
    free_next [] all front = record { front = refl; within = omega arith; behind = tt }
    free_next (y ∷ boxes) all front =
        let q = both_of (key_before x y) (list_all (key_before x) boxes) all in
        record { front = refl; within = omega arith; behind = before_trans m.key x.key y.key front q.0 }
room_free m (x ∷ boxes) (suc at) asc f =
    let p = both_of (list_all (key_before x) boxes) (are_by_key boxes) asc in
    let q = both_of (before x.key m.key) (list_all (λ t. before t.key m.key) (take at boxes)) f.front in
    let other = other_before x.key m.key q.0 in
    (λ on. absurd (cc), room_free m boxes at p.1 (record { front = q.1; within = omega (arith, f.within); behind = f.behind }))

pub room_removed : (m : Mark) (boxes : List KeyBoxes) (at : ℕ) → HasRoomIn m boxes → HasRoomIn m (remove boxes at)
room_removed m [] zero all = all
room_removed m [] (suc at) all = all
room_removed m (x ∷ boxes) zero all = all.1
room_removed m (x ∷ boxes) (suc at) all = (all.0, room_removed m boxes at all.1)

-- a channel that weighs no more than the boxes of its key weighs nothing where there are none
pub weightless : (r : Reason) (key : Bytes) (w : Pair → ℕ) (m : Mark) (n : ℕ) (boxes : List KeyBoxes) (at : ℕ) → are_by_key boxes ≡ true → IsKeyFree m.key boxes at
    → weight_on r m.key w m n ≤ weight_in r m.key w boxes → weight_on r key w m n ≡ 0
weightless r key w m n boxes at asc f le = by_test (same m.key key) refl
  where
    by_test : (b : Bool) → same m.key key ≡ b → weight_on r key w m n ≡ 0
    by_test false e = rw e refl
    by_test true e =
        let k = same_equal m.key key e in
        let none = weight_free r m.key w boxes at asc f in
        let here : weight_on r m.key w m n ≡ 0 = omega (arith, le, none) in
        subst (λ (k : Bytes). weight_on r k w m n ≡ 0) k here

-- what a channel weighs on its own key
pub own_weight : (r : Reason) (w : Pair → ℕ) (m : Mark) (n : ℕ) → weight_on r m.key w m n ≡ weight_of w (box_for r m) n
own_weight r w m n = rw (same_refl m.key) refl

-- the same boxes, with more room

pub weights_same : (r : Reason) (key : Bytes) (w : Pair → ℕ) (boxes : List KeyBoxes) (at : ℕ) (s t : KeyBoxes) → slice_get boxes at ≡ Some s → t.key ≡ s.key → (part r t).pairs ≡ (part r s).pairs
    → weight_in r key w (slice_set boxes at t) ≡ weight_in r key w boxes
weights_same r key w boxes at s t is tk pairs =
    let a = sum_set (weight_at r key w) boxes at s t is in
    let b : weight_at r key w t ≡ weight_at r key w s =
    ap (λ (k : Bytes). cond (same k key) (sum_by w (part r t).pairs) 0) tk ∙ ap (λ (ps : List Pair). cond (same s.key key) (sum_by w ps) 0) pairs in
    omega (arith, a, b)

-- the numbers that a search finds

sum_found : (v : ℕ → ℕ) (round : Bounds) (put : Bool) (s : KeyBoxes)
    → sum_by v (found round put s) ≡ sum_by (met_weight round v) (part Near s).pairs + sum_by (met_weight (other_box put round) v) (part (other_reason put) s).pairs
sum_found v round true s =
    let a = sum_by-append v (ids_meeting round s.near.pairs) (ids_meeting spot s.always.pairs) in
    omega (arith, a, sum_met v round s.near.pairs, sum_met v spot s.always.pairs)
sum_found v round false s =
    let a = sum_by-append v (ids_meeting round s.near.pairs) (ids_meeting round s.wide.pairs) in
    omega (arith, a, sum_met v round s.near.pairs, sum_met v round s.wide.pairs)

pub found_there : (key : Bytes) (round : Bounds) (put : Bool) (boxes : List KeyBoxes) (at : ℕ) (s : KeyBoxes) (ns : List ℕ) → are_by_key boxes ≡ true → IsKeyHeld key boxes at → slice_get boxes at ≡ Some s → ns ≡ found round put s → AreFound key round put boxes ns
found_there key round put boxes at s ns asc h is made = λ v.
    let b : sum_by v ns ≡ sum_by v (found round put s) = ap (sum_by v) made in
    let c = sum_found v round put s in
    let d = weight_held Near key (met_weight round v) boxes at s asc h is in
    let e = weight_held (other_reason put) key (met_weight (other_box put round) v) boxes at s asc h is in
    omega (arith, b, c, d, e)

pub found_missing : (key : Bytes) (round : Bounds) (put : Bool) (boxes : List KeyBoxes) (at : ℕ) (ns : List ℕ) → are_by_key boxes ≡ true → IsKeyFree key boxes at → ns ≡ [] → AreFound key round put boxes ns
found_missing key round put boxes at ns asc free none = λ v.
    let a : sum_by v ns ≡ 0 = rw none refl in
    let d = weight_free Near key (met_weight round v) boxes at asc free in
    let e = weight_free (other_reason put) key (met_weight (other_box put round) v) boxes at asc free in
    omega (arith, a, d, e)

-- one for each reason
pub each_reason : (P : Reason → Type 0) → P Near → P Wide → P Always → (r : Reason) → P r
each_reason P near wide always Near = near
each_reason P near wide always Wide = wide
each_reason P near wide always Always = always
