-- Two seats of one hall, and what they show together.
use Rattle.std.proofs.Common.{◌≡◌, ◌⊎◌, ◌<◌, ℕ, Bool, true, false, List, [], ◌∷◌, length, refl, sym, ap, ◌∙◌, subst, inl, inr, ⊎_elim, true≢false, arith}
use Rattle.std.specs.Prelude.{◌||◌, ◌==◌, not, nat_lt, if◌then◌else◌, Some}
use Rattle.std.specs.List.{list_all}
use Rattle.std.proofs.lemmas.Bool.{and_from, lt-ltb}
use Rattle.std.proofs.lemmas.Bool.Decides.{nat_tests}
use mathlib.Core.List.{IsPrefix}
use Rattle.ordered_lists.specs.Lists.{ascends}
use Rattle.turn_lock.specs.declared.seat.Known.{Known}
use Rattle.turn_lock.specs.Places.{IsAmong, AllAfter, Ascends, insert, merge, longer}
use Rattle.turn_lock.specs.Seats.{OwnPlaces, AreApart, joined_known, split_known}
use Rattle.world_model.specs.Histories.{IsLegal}
use Rattle.world_model.specs.Seats.{Begins, AreOfOne, IsJoined, are_ascending, are_apart, are_seen, is_among}
use Rattle.world_model.specs.declared.events.Entry.{Entry}
use Rattle.world_model.specs.declared.events.Opening.{Opening}
use Rattle.shared_hall.specs.declared.places.Begun.{Begun}
use Rattle.shared_hall.specs.Seats.{opening_in, shown}

all_later : (x : ℕ) (xs : List ℕ) → AllAfter x xs → list_all (nat_lt x) xs ≡ true
all_later x [] p = refl
all_later x (y ∷ ys) p = and_from (nat_lt x y) (list_all (nat_lt x) ys) (lt-ltb x y p.0) (all_later x ys p.1)

pub they_ascend : (xs : List ℕ) → Ascends xs → are_ascending xs ≡ true
they_ascend [] p = refl
they_ascend (x ∷ xs) p = and_from (list_all (nat_lt x) xs) (ascends nat_lt xs) (all_later x xs p.0) (they_ascend xs p.1)

all_within : (n : ℕ) (xs : List ℕ) → ((place : ℕ) → IsAmong place xs → place < n) → list_all (λ p. nat_lt p n) xs ≡ true
all_within n [] p = refl
all_within n (x ∷ xs) p = and_from (nat_lt x n) (list_all (λ q. nat_lt q n) xs) (lt-ltb x n (p x (inl refl))) (all_within n xs (λ place among. p place (inr among)))

pub they_are_seen : {D : Type 0} (k : Known (Begun D) Entry) → OwnPlaces k → are_seen (shown k) ≡ true
they_are_seen k own = all_within (length k.seen) k.mine own.are_seen

same_number : (q p : ℕ) → (q == p) ≡ true → p ≡ q
same_number q p e = grind (arith, nat_tests)

found : (p : ℕ) (xs : List ℕ) → is_among xs p ≡ true → IsAmong p xs
found p [] e = absurd (true≢false (sym e))
found p (x ∷ xs) e = by (found p xs) (x == p) refl
  where
    by : (is_among xs p ≡ true → IsAmong p xs) → (b : Bool) → (x == p) ≡ b → IsAmong p (x ∷ xs)
    by rest true is = inl (same_number x p is)
    by rest false is = inr (rest (sym (ap (λ (b : Bool). b || is_among xs p) is) ∙ e))

none_of : (p : ℕ) (xs : List ℕ) → (IsAmong p xs → ⊥) → not (is_among xs p) ≡ true
none_of p xs apart = by (is_among xs p) refl
  where
    by : (b : Bool) → is_among xs p ≡ b → not b ≡ true
    by true is = absurd (apart (found p xs is))
    by false is = refl

pub they_are_apart : (xs ys : List ℕ) → ((place : ℕ) → IsAmong place xs → IsAmong place ys → ⊥) → are_apart xs ys ≡ true
they_are_apart [] ys apart = refl
they_are_apart (x ∷ xs) ys apart = and_from (not (is_among ys x)) (are_apart xs ys) (none_of x ys (apart x (inl refl))) (they_are_apart xs ys (λ place among. apart place (inr among)))

swapped : (a b c : Bool) → (b || (a || c)) ≡ (a || (b || c))
swapped true true c = refl
swapped true false c = refl
swapped false true c = refl
swapped false false c = refl

moved : (a b c : Bool) → (a || (b || c)) ≡ ((a || b) || c)
moved true b c = refl
moved false b c = refl

among_inserted : (p x : ℕ) (ys : List ℕ) → is_among (insert x ys) p ≡ ((x == p) || is_among ys p)
among_inserted p x [] = refl
among_inserted p x (y ∷ ys) = by (among_inserted p x ys) (nat_lt x y)
  where
    by : is_among (insert x ys) p ≡ ((x == p) || is_among ys p) → (b : Bool) → is_among (if b then x ∷ y ∷ ys else y ∷ insert x ys) p ≡ ((x == p) || ((y == p) || is_among ys p))
    by more true = refl
    by more false = ap (λ (b : Bool). (y == p) || b) more ∙ swapped (x == p) (y == p) (is_among ys p)

pub among_merged : (p : ℕ) (xs ys : List ℕ) → is_among (merge xs ys) p ≡ (is_among xs p || is_among ys p)
among_merged p [] ys = refl
among_merged p (x ∷ xs) ys = among_inserted p x (merge xs ys) ∙ (ap (λ (b : Bool). (x == p) || b) (among_merged p xs ys) ∙ moved (x == p) (is_among xs p) (is_among ys p))

pub begins : (xs ys : List Entry) → IsPrefix xs ys → Begins xs ys
begins xs ys p = (p.0, sym p.1)

either : (xs ys : List Entry) → (longer xs ys ≡ xs) ⊎ (longer xs ys ≡ ys)
either xs ys = by (nat_lt (length xs) (length ys))
  where
    by : (b : Bool) → ((if b then ys else xs) ≡ xs) ⊎ ((if b then ys else xs) ≡ ys)
    by true = inr refl
    by false = inl refl

same_opening : {D : Type 0} (k l : Known (Begun D) Entry) (o : Begun D) → k.opening ≡ Some o → l.opening ≡ Some o → (shown k).opening ≡ (shown l).opening
same_opening k l o p q = ap opening_in (p ∙ sym q)

-- what a join tells
pub record Joined {D : Type 0} (k l j : Known (Begun D) Entry) : Type 0 where
  pub is : j ≡ joined_known k l
  pub left : IsPrefix k.seen j.seen
  pub right : IsPrefix l.seen j.seen
  pub apart : AreApart k l

pub are_of_one : {D : Type 0} (k l j : Known (Begun D) Entry) (o : Begun D) → k.opening ≡ Some o → l.opening ≡ Some o → OwnPlaces k → OwnPlaces l → Joined k l j → AreOfOne (shown k) (shown l)
are_of_one {D} k l j o p q own own' t = record {
  opening = same_opening k l o p q;
  history = ⊎_elim (λ (e : longer k.seen l.seen ≡ k.seen). inr (begins l.seen k.seen (subst (λ (z : List Entry). IsPrefix l.seen z) (seen_is ∙ e) t.right)))
      (λ (e : longer k.seen l.seen ≡ l.seen). inl (begins k.seen l.seen (subst (λ (z : List Entry). IsPrefix k.seen z) (seen_is ∙ e) t.left))) (either k.seen l.seen);
  own = they_ascend k.mine own.ascend;
  others = they_ascend l.mine own'.ascend;
  apart = they_are_apart k.mine l.mine t.apart;
}
  where
    seen_is : j.seen ≡ longer k.seen l.seen
    seen_is = ap (λ (z : Known (Begun D) Entry). z.seen) t.is

pub is_joined : {D : Type 0} (k l j : Known (Begun D) Entry) → Joined k l j → IsJoined (shown k) (shown l) (shown j)
is_joined {D} k l j t = record {
  opening = ap (λ (z : Known (Begun D) Entry). (shown z).opening) t.is;
  seen = ⊎_elim (λ (e : longer k.seen l.seen ≡ k.seen). inl (seen_is ∙ e)) (λ (e : longer k.seen l.seen ≡ l.seen). inr (seen_is ∙ e)) (either k.seen l.seen);
  begins = (begins k.seen j.seen t.left, begins l.seen j.seen t.right);
  mine = λ p. ap (λ (z : Known (Begun D) Entry). is_among z.mine p) t.is ∙ among_merged p k.mine l.mine;
  first = ap (λ (z : Known (Begun D) Entry). z.first) t.is;
}
  where
    seen_is : j.seen ≡ longer k.seen l.seen
    seen_is = ap (λ (z : Known (Begun D) Entry). z.seen) t.is

-- of two legal histories the longer is one
pub joined_legal : {D : Type 0} (k l j : Known (Begun D) Entry) (o : Begun D) → k.opening ≡ Some o → l.opening ≡ Some o → Joined k l j → IsLegal (shown k).opening k.seen → IsLegal (shown l).opening l.seen → IsLegal (shown j).opening j.seen
joined_legal {D} k l j o p q t a b =
    let opens : (shown j).opening ≡ (shown k).opening = ap (λ (z : Known (Begun D) Entry). (shown z).opening) t.is in
    let seen_is : j.seen ≡ longer k.seen l.seen = ap (λ (z : Known (Begun D) Entry). z.seen) t.is in
    subst (λ (z : Opening). IsLegal z j.seen) (sym opens)
    (⊎_elim (λ (e : longer k.seen l.seen ≡ k.seen). subst (λ (z : List Entry). IsLegal (shown k).opening z) (sym (seen_is ∙ e)) a)
    (λ (e : longer k.seen l.seen ≡ l.seen). subst (λ (z : List Entry). IsLegal (shown k).opening z) (sym (seen_is ∙ e)) (subst (λ (z : Opening). IsLegal z l.seen) (same_opening l k o q p) b)) (either k.seen l.seen))

-- a seat that is split off has seen the same
pub split_legal : {D : Type 0} (k l : Known (Begun D) Entry) → l ≡ split_known k → IsLegal (shown k).opening k.seen → IsLegal (shown l).opening l.seen
split_legal {D} k l is h = subst (λ (z : Known (Begun D) Entry). IsLegal (shown z).opening z.seen) (sym is) h
