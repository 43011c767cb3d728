-- Items in slots, in the order of a list of slots: an edit of the list and of a slot is an edit of the items.
use Rattle.std.proofs.Common.{◌≡◌, ◌≢◌, ◌<◌, ℕ, zero, suc, Bool, true, false, refl, sym, ap, ◌∙◌, subst, List, [], ◌∷◌, length, map, get_or, arith}
use Rattle.std.specs.Prelude.{Option, Some, None, IsSome, filter_map, nat_eq, not, slice_get}
use Rattle.std.specs.List.{list_all, insert, remove, slice_set}
use Rattle.std.proofs.lemmas.Bool.Decides.{nat_tests}
use Rattle.std.proofs.lemmas.List.{length-map}
use Rattle.std.proofs.lemmas.Option.{slice_get_within, get_or_from_slice_get}
use Rattle.ordered_lists.specs.Lists.{ascends}
use Rattle.ordered_lists.specs.Reading.{both_of, all_at, all-insert}

-- each of these slots has one of the items, in their order
abbrev pub Stores : {A : Type 0} → (ℕ → Option A) → List ℕ → List A → Type 0
Stores slots order xs = map slots order ≡ map Some xs

abbrev pub are_other : ℕ → ℕ → Bool
are_other s t = not (nat_eq s t)

-- a list seen item by item, with one more or one less

module _ {A B : Type 0} (f : A → B) where
  map_insert : (xs : List A) (i : ℕ) (x : A) → map f (insert xs i x) ≡ insert (map f xs) i (f x)
  map_insert [] zero x = refl
  map_insert [] (suc i) x = refl
  map_insert (y ∷ xs) zero x = refl
  map_insert (y ∷ xs) (suc i) x = ap (λ (l : List B). f y ∷ l) (map_insert xs i x)

  map_remove : (xs : List A) (i : ℕ) → map f (remove xs i) ≡ remove (map f xs) i
  map_remove [] zero = refl
  map_remove [] (suc i) = refl
  map_remove (y ∷ xs) zero = refl
  map_remove (y ∷ xs) (suc i) = ap (λ (l : List B). f y ∷ l) (map_remove xs i)

-- slots apart

turned : (a b : ℕ) → are_other a b ≡ true → are_other b a ≡ true
turned a b e = grind (arith, nat_tests)

pub differs : (a b : ℕ) → are_other a b ≡ true → b ≢ a
differs a b e = λ s. absurd (grind (arith, nat_tests))

-- one that is none of them may go among them
pub apart_insert : (slots : List ℕ) (at slot : ℕ) → ascends are_other slots ≡ true → list_all (are_other slot) slots ≡ true
    → ascends are_other (insert slots at slot) ≡ true
apart_insert [] zero slot apart other = refl
apart_insert [] (suc at) slot apart other = refl
apart_insert (s ∷ slots) zero slot apart other = rw other apart
apart_insert (s ∷ slots) (suc at) slot apart other =
    let p = both_of (list_all (are_other s) slots) (ascends are_other slots) apart in
    let q = both_of (are_other slot s) (list_all (are_other slot) slots) other in
    rw (all-insert (are_other s) slots at slot p.0 (turned slot s q.0), apart_insert slots at slot p.1 q.1) refl

-- the one at a place is none of the others
pub others_apart : (slots : List ℕ) (at slot : ℕ) → slice_get slots at ≡ Some slot → ascends are_other slots ≡ true
    → list_all (are_other slot) (remove slots at) ≡ true
others_apart [] zero slot is apart = absurd (cc)
others_apart [] (suc at) slot is apart = absurd (cc)
others_apart (s ∷ slots) zero slot is apart =
    let it : s ≡ slot = cc in
    subst (λ (n : ℕ). list_all (are_other n) slots ≡ true) it (both_of (list_all (are_other s) slots) (ascends are_other slots) apart).0
others_apart (s ∷ slots) (suc at) slot is apart =
    let p = both_of (list_all (are_other s) slots) (ascends are_other slots) apart in
    let here : are_other slot s ≡ true = turned s slot (all_at (are_other s) slots at slot is p.0) in
    rw (here, others_apart slots at slot is p.1) refl

module _ {A : Type 0} where
  -- the items are told by what the slots have
  pub read_off : (f : ℕ → Option A) (slots : List ℕ) (xs : List A) → Stores f slots xs → filter_map f slots ≡ xs
  read_off f [] [] e = refl
  read_off f [] (x ∷ xs) e = absurd (cc)
  read_off f (s ∷ slots) [] e = absurd (cc)
  read_off f (s ∷ slots) (x ∷ xs) e =
      let here : f s ≡ Some x = cc in
      let rest : Stores f slots xs = cc in
      rw here (ap (λ (l : List A). x ∷ l) (read_off f slots xs rest))

  pub as_stored : (f : ℕ → Option A) (slots : List ℕ) (xs : List A) → Stores f slots xs → Stores f slots (filter_map f slots)
  as_stored f slots xs e = subst (Stores f slots) (sym (read_off f slots xs e)) e

  pub as_many : (f : ℕ → Option A) (slots : List ℕ) (xs : List A) → Stores f slots xs → length slots ≡ length xs
  as_many f slots xs e = sym (length-map slots f) ∙ ap length e ∙ length-map xs Some

  -- what the slot at a place has
  pub stored_at : (f : ℕ → Option A) (slots : List ℕ) (xs : List A) (at slot : ℕ) → Stores f slots xs → slice_get slots at ≡ Some slot
      → f slot ≡ slice_get xs at
  stored_at f [] xs zero slot e is = absurd (cc)
  stored_at f [] xs (suc at) slot e is = absurd (cc)
  stored_at f (s ∷ slots) [] at slot e is = absurd (cc)
  stored_at f (s ∷ slots) (x ∷ xs) zero slot e is = let it : s ≡ slot = cc in let here : f s ≡ Some x = cc in ap f (sym it) ∙ here
  stored_at f (s ∷ slots) (x ∷ xs) (suc at) slot e is = let rest : Stores f slots xs = cc in stored_at f slots xs at slot rest is

  pub stored_or : (f : ℕ → Option A) (slots : List ℕ) (xs : List A) (at d : ℕ) (x : A) → Stores f slots xs → at < length slots
      → f (get_or slots at d) ≡ Some (get_or xs at x)
  stored_or f [] xs at d x e lt = absurd (omega arith)
  stored_or f (s ∷ slots) [] at d x e lt = absurd (cc)
  stored_or f (s ∷ slots) (y ∷ xs) zero d x e lt = let here : f s ≡ Some y = cc in here
  stored_or f (s ∷ slots) (y ∷ xs) (suc at) d x e lt = let rest : Stores f slots xs = cc in stored_or f slots xs at d x rest (omega arith)

  pub has_one : (f : ℕ → Option A) (slots : List ℕ) (xs : List A) (at d : ℕ) → Stores f slots xs → at < length slots → IsSome (f (get_or slots at d))
  has_one f [] xs at d e lt = absurd (omega arith)
  has_one f (s ∷ slots) [] at d e lt = absurd (cc)
  has_one f (s ∷ slots) (y ∷ xs) zero d e lt = let here : f s ≡ Some y = cc in rw here refl
  has_one f (s ∷ slots) (y ∷ xs) (suc at) d e lt = let rest : Stores f slots xs = cc in has_one f slots xs at d rest (omega arith)

  pub has_at : (f : ℕ → Option A) (slots : List ℕ) (xs : List A) (at slot : ℕ) → Stores f slots xs → slice_get slots at ≡ Some slot → IsSome (f slot)
  has_at f slots xs at slot e is =
      subst (λ (n : ℕ). IsSome (f n)) (get_or_from_slice_get slots at slot 0 is) (has_one f slots xs at 0 e (slice_get_within slots at slot is))

  -- a slot without an item is none of these
  pub free_slot : (f : ℕ → Option A) (slot : ℕ) (slots : List ℕ) (xs : List A) → f slot ≡ None → Stores f slots xs
      → list_all (are_other slot) slots ≡ true
  free_slot f slot [] xs none e = refl
  free_slot f slot (s ∷ slots) [] none e = absurd (cc)
  free_slot f slot (s ∷ slots) (x ∷ xs) none e =
      let here : f s ≡ Some x = cc in
      let rest : Stores f slots xs = cc in
      rw (other (nat_eq slot s) refl here, free_slot f slot slots xs none rest) refl
    where
      other : (b : Bool) → nat_eq slot s ≡ b → f s ≡ Some x → nat_eq slot s ≡ false
      other false is here = is
      other true is here =
          let same : slot ≡ s = grind (arith, nat_tests) in
          let gone : f s ≡ None = ap f (sym same) ∙ none in
          absurd (cc)

-- a slot has another item, or none any more

module _ {A : Type 0} (f g : ℕ → Option A) (slot : ℕ) (others : (other : ℕ) → other ≢ slot → g other ≡ f other) where
  same_stored : (slots : List ℕ) → list_all (are_other slot) slots ≡ true → map g slots ≡ map f slots
  same_stored [] all = refl
  same_stored (s ∷ slots) all =
      let p = both_of (are_other slot s) (list_all (are_other slot) slots) all in
      rw (others s (differs slot s p.0)) (ap (λ (l : List (Option A)). f s ∷ l) (same_stored slots p.1))

  pub stored_insert : (slots : List ℕ) (xs : List A) (at : ℕ) (x : A) → Stores f slots xs → list_all (are_other slot) slots ≡ true → g slot ≡ Some x
      → Stores g (insert slots at slot) (insert xs at x)
  stored_insert slots xs at x e other new =
      map_insert g slots at slot ∙ ap (λ (l : List (Option A)). insert l at (g slot)) (same_stored slots other ∙ e) ∙ ap (insert (map Some xs) at) new
      ∙ sym (map_insert Some xs at x)

  pub stored_remove : (slots : List ℕ) (xs : List A) (at : ℕ) → Stores f slots xs → list_all (are_other slot) (remove slots at) ≡ true
      → Stores g (remove slots at) (remove xs at)
  stored_remove slots xs at e other =
      same_stored (remove slots at) other ∙ map_remove f slots at ∙ ap (λ (l : List (Option A)). remove l at) e ∙ sym (map_remove Some xs at)

  pub stored_set : (slots : List ℕ) (xs : List A) (at : ℕ) (x : A) → Stores f slots xs → ascends are_other slots ≡ true
      → slice_get slots at ≡ Some slot → g slot ≡ Some x → Stores g slots (slice_set xs at x)
  stored_set [] xs zero x e apart is new = absurd (cc)
  stored_set [] xs (suc at) x e apart is new = absurd (cc)
  stored_set (s ∷ slots) [] at x e apart is new = absurd (cc)
  stored_set (s ∷ slots) (y ∷ xs) zero x e apart is new =
      let it : s ≡ slot = cc in
      let rest : Stores f slots xs = cc in
      let other = subst (λ (n : ℕ). list_all (are_other n) slots ≡ true) it
      (both_of (list_all (are_other s) slots) (ascends are_other slots) apart).0 in
      let here : g s ≡ Some x = ap g it ∙ new in
      rw here (ap (λ (l : List (Option A)). Some x ∷ l) (same_stored slots other ∙ rest))
  stored_set (s ∷ slots) (y ∷ xs) (suc at) x e apart is new =
      let p = both_of (list_all (are_other s) slots) (ascends are_other slots) apart in
      let here : f s ≡ Some y = cc in
      let rest : Stores f slots xs = cc in
      let there : g s ≡ Some y = others s (differs slot s (turned s slot (all_at (are_other s) slots at slot is p.0))) ∙ here in
      rw there (ap (λ (l : List (Option A)). Some y ∷ l) (stored_set slots xs at x rest p.1 is new))
