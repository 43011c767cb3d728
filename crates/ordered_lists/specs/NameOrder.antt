-- Laws of items in the order of a name, or of two.
use Rattle.std.proofs.Common.{◌≡◌, ◌<◌, ◌≤◌, ℕ, Bool, true, false, sym, subst, List, length, get_or, arith}
use Rattle.std.specs.Prelude.{Some, None, ◌&&◌, ◌||◌, filter, find, not}
use Rattle.std.specs.List.{slice_get, remove}
use Rattle.std.specs.List.Sorted.{IsPartitionedBy, IsPartitionPoint}
use Rattle.byte_text.specs.Names.{Bytes, before, same}
use Rattle.byte_text.specs.ByteOrder.{before_trans, before_tie, before_asym, before_self, same_refl, same_equal, other_before, other_behind}
use Rattle.byte_text.specs.ByteOrder.{behind_others}
use Rattle.ordered_lists.specs.Lists.{ascends, IsHeld, IsFree}
use Rattle.ordered_lists.specs.Places.{IsSought, partitioned_by, held_there, free_there, found_held, found_free, left_held, left_free}

-- items in the order of one name

module _ {A : Type 0} (name : A → Bytes) where
  pub name_trans : (x y z : A) → before (name x) (name y) ≡ true → before (name y) (name z) ≡ true → before (name x) (name z) ≡ true
  name_trans x y z = before_trans (name x) (name y) (name z)

  pub name_tie : (x y z : A) → before (name x) (name y) ≡ false → before (name y) (name x) ≡ false → before (name y) (name z) ≡ true
      → before (name x) (name z) ≡ true
  name_tie x y z p q r = subst (λ n. before n (name z) ≡ true) (sym (before_tie (name x) (name y) p q)) r

  pub name_asym : (x y : A) → before (name x) (name y) ≡ true → before (name y) (name x) ≡ false
  name_asym x y = before_asym (name x) (name y)

-- items in the order of two names, the second of which decides where the first ties

module _ {A : Type 0} (first second : A → Bytes) where
  abbrev pub pair_before : A → A → Bool
  pair_before x y = before (first x) (first y) || (same (first x) (first y) && before (second x) (second y))

  pub pair_trans : (x y z : A) → pair_before x y ≡ true → pair_before y z ≡ true → pair_before x z ≡ true
  pair_trans x y z =
      let t = before_trans (first x) (first y) (first z) in
      let u = before_trans (second x) (second y) (second z) in
      let e = same_equal (first x) (first y) in
      let f = same_equal (first y) (first z) in
      let r = same_refl (first x) in
      λ a b. grind arith

  pub pair_tie : (x y z : A) → pair_before x y ≡ false → pair_before y x ≡ false → pair_before y z ≡ true → pair_before x z ≡ true
  pair_tie x y z =
      let k = before_tie (first x) (first y) in
      let i = before_tie (second x) (second y) in
      let r = same_refl (first x) in
      λ a b c. grind arith

  pub pair_asym : (x y : A) → pair_before x y ≡ true → pair_before y x ≡ false
  pair_asym x y =
      let k = before_asym (first x) (first y) in
      let i = before_asym (second x) (second y) in
      let e = same_equal (first x) (first y) in
      let f = same_equal (first y) (first x) in
      let r = before_self (first x) in
      λ a. grind arith

-- items that ascend by their names: those before a word stand in front of the others

module _ {A : Type 0} (name : A → Bytes) (word : Bytes) where
  pub partitioned : (xs : List A) → ascends (λ a b. before (name a) (name b)) xs ≡ true → IsPartitionedBy (λ a. before (name a) word) xs
  partitioned xs asc = partitioned_by (λ a b. before (name a) (name b)) (λ a. before (name a) word)
      (λ x y. before_trans (name x) (name y) word) xs asc

  -- one of this name ties with it
  pub name_ties : (x : A) → same (name x) word ≡ true → (before word (name x) ≡ false) × (before (name x) word ≡ false)
  name_ties x e =
      let is = same_equal (name x) word e in
      (subst (λ n. before word n ≡ false) (sym is) (before_self word), subst (λ n. before n word ≡ false) (sym is) (before_self word))

  pub is_named_so : (x : A) → before word (name x) ≡ false → before (name x) word ≡ false → same (name x) word ≡ true
  is_named_so x p q = subst (λ n. same (name x) n ≡ true) (before_tie (name x) word q p) (same_refl (name x))

  behind_it : (x y : A) → same (name x) word ≡ true → before (name x) (name y) ≡ true → before word (name y) ≡ true
  behind_it x y e h = subst (λ n. before n (name y) ≡ true) (same_equal (name x) word e) h

  pub name_sought : IsSought (λ a b. before (name a) (name b)) (λ a. before (name a) word) (λ a. before word (name a)) (λ a. same (name a) word)
  name_sought = record {
    front_other = λ x. other_before (name x) word;
    back_other = λ x. other_behind (name x) word;
    tied = is_named_so;
    back_on = λ x y. before_trans word (name x) (name y);
    back_it = behind_it;
  }

  -- halving gave a place, and the name of the item there was read
  module _ (xs : List A) (at : ℕ) (bound : at ≤ length xs)
      (parts : IsPartitionPoint (λ a. before (name a) word ≡ true) (λ a. before (name a) word ≡ false) xs at) (x : A) (within : at < length xs)
      (is : x ≡ get_or xs at x) where
    pub named_held : same (name x) word ≡ true → IsHeld (λ a. before (name a) word) (λ a. before word (name a)) xs at
    named_held e = held_there (λ a. before (name a) word) (λ a. before word (name a)) xs at bound parts x within is (name_ties x e).0

    pub named_free : same (name x) word ≡ false → IsFree (λ a. before (name a) word) (λ a. before word (name a)) xs at
    named_free e = free_there (λ a. before (name a) word) (λ a. before word (name a)) xs at bound parts x within is
        (λ f. behind_others (name x) word f e)

  -- the item of this name at the place that was found, and what is left without it
  pub name_found : (xs : List A) (at : ℕ) (x : A) → IsHeld (λ a. before (name a) word) (λ a. before word (name a)) xs at → slice_get xs at ≡ Some x
      → find (λ a. same (name a) word) xs ≡ Some x
  name_found = found_held (λ a b. before (name a) (name b)) (λ a. before (name a) word) (λ a. before word (name a))
      (λ a. same (name a) word) name_sought

  pub name_missing : (xs : List A) (at : ℕ) → ascends (λ a b. before (name a) (name b)) xs ≡ true
      → IsFree (λ a. before (name a) word) (λ a. before word (name a)) xs at → find (λ a. same (name a) word) xs ≡ None
  name_missing = found_free (λ a b. before (name a) (name b)) (λ a. before (name a) word) (λ a. before word (name a))
      (λ a. same (name a) word) name_sought

  pub name_left : (xs : List A) (at : ℕ) → ascends (λ a b. before (name a) (name b)) xs ≡ true
      → IsHeld (λ a. before (name a) word) (λ a. before word (name a)) xs at → filter (λ a. not (same (name a) word)) xs ≡ remove xs at
  name_left = left_held (λ a b. before (name a) (name b)) (λ a. before (name a) word) (λ a. before word (name a))
      (λ a. same (name a) word) name_sought

  pub all_names_left : (xs : List A) (at : ℕ) → ascends (λ a b. before (name a) (name b)) xs ≡ true
      → IsFree (λ a. before (name a) word) (λ a. before word (name a)) xs at → filter (λ a. not (same (name a) word)) xs ≡ xs
  all_names_left = left_free (λ a b. before (name a) (name b)) (λ a. before (name a) word) (λ a. before word (name a))
      (λ a. same (name a) word) name_sought
