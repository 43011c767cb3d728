-- A place is found by halving, among items of which some have nothing.
use Rattle.std.proofs.Common.{◌≡◌, ◌<◌, ◌≤◌, ◌+◌, ℕ, zero, suc, Bool, true, false, refl, sym, ap, ◌∙◌, subst, List, [], ◌∷◌, length, arith}
use Rattle.std.specs.Prelude.{Option, Some, None, IfSome, ◌&&◌, slice_get, filter, find, nat_lt}
use Rattle.std.proofs.lemmas.Bool.Decides.{nat_tests}
use Rattle.std.specs.List.{list_all}
use Rattle.ordered_lists.specs.Lists.{ascends}
use Rattle.ordered_lists.specs.Reading.{both_of}
use Rattle.world_store.specs.Copies.{IsInFront, IsAtBack, AreBare}

stands_within : {A : Type 0} (xs : List A) (k : ℕ) (s : A) → slice_get xs k ≡ Some s → k < length xs
stands_within [] k s at = absurd (cc)
stands_within (x ∷ xs) zero s at = omega arith
stands_within (x ∷ xs) (suc k) s at = let ih = stands_within xs k s at in omega (arith, ih)

pub nothing_past : {A : Type 0} (has test : A → Bool) (xs : List A) → IsAtBack has test xs (length xs)
nothing_past has test xs k x le at = let lt = stands_within xs k x at in absurd (omega (arith, lt, le))

pub nothing_before : {A : Type 0} (has test : A → Bool) (xs : List A) → IsInFront has test xs 0
nothing_before has test xs k x lt = absurd (omega (arith, lt))

-- the first that passes is the one at a place, where none before it does
pub find_at : {A : Type 0} (test : A → Bool) (xs : List A) (i : ℕ) → ((k : ℕ) (x : A) → k < i → slice_get xs k ≡ Some x → test x ≡ false)
    → IfSome (slice_get xs i) (λ x. test x ≡ true) → find test xs ≡ slice_get xs i
find_at test [] i front here = refl
find_at test (x ∷ xs) zero front here = rw here refl
find_at test (x ∷ xs) (suc i) front here =
    let first : test x ≡ false = front 0 x (omega arith) refl in
    rw first (find_at test xs i (λ k y lt at. front (suc k) y (omega (arith, lt)) at) here)

in_filter : {A : Type 0} (has p : A → Bool) (xs : List A) (k : ℕ) (x : A) → slice_get xs k ≡ Some x → has x ≡ true → list_all p (filter has xs) ≡ true → p x ≡ true
in_filter has p [] k x at h all = absurd (cc)
in_filter has p (y ∷ ys) zero x at h all =
    let is : y ≡ x = cc in
    let here : has y ≡ true = ap has is ∙ h in
    let both : (p y && list_all p (filter has ys)) ≡ true = rw here at all in
    subst (λ z. p z ≡ true) is (both_of (p y) (list_all p (filter has ys)) both).0
in_filter has p (y ∷ ys) (suc k) x at h all = by (has y) refl (in_filter has p ys k x at h)
  where
    by : (b : Bool) → has y ≡ b → (list_all p (filter has ys) ≡ true → p x ≡ true) → p x ≡ true
    by true e ih =
        let both : (p y && list_all p (filter has ys)) ≡ true = rw e at all in
        ih (both_of (p y) (list_all p (filter has ys)) both).1
    by false e ih = ih (rw e at all)

rest_ascends : {A : Type 0} (lt : A → A → Bool) (has : A → Bool) (y : A) (ys : List A) → ascends lt (filter has (y ∷ ys)) ≡ true → ascends lt (filter has ys) ≡ true
rest_ascends lt has y ys asc = by (has y) refl
  where
    by : (b : Bool) → has y ≡ b → ascends lt (filter has ys) ≡ true
    by true e =
        let both : (list_all (lt y) (filter has ys) && ascends lt (filter has ys)) ≡ true = rw e at asc in
        (both_of (list_all (lt y) (filter has ys)) (ascends lt (filter has ys)) both).1
    by false e = rw e at asc

-- where those that have something ascend, a later one stands behind an earlier one
later : {A : Type 0} (lt : A → A → Bool) (has : A → Bool) (xs : List A) → ascends lt (filter has xs) ≡ true → (i j : ℕ) (x y : A) → i < j
    → slice_get xs i ≡ Some x → slice_get xs j ≡ Some y → has x ≡ true → has y ≡ true → lt x y ≡ true
later lt has [] asc i j x y less at bt h g = absurd (cc)
later lt has (z ∷ zs) asc zero zero x y less at bt h g = absurd (omega (arith, less))
later lt has (z ∷ zs) asc zero (suc j) x y less at bt h g =
    let is : z ≡ x = cc in
    let here : has z ≡ true = ap has is ∙ h in
    let both : (list_all (lt z) (filter has zs) && ascends lt (filter has zs)) ≡ true = rw here at asc in
    subst (λ w. lt w y ≡ true) is (in_filter has (lt z) zs j y bt g (both_of (list_all (lt z) (filter has zs)) (ascends lt (filter has zs)) both).0)
later lt has (z ∷ zs) asc (suc i) zero x y less at bt h g = absurd (omega (arith, less))
later lt has (z ∷ zs) asc (suc i) (suc j) x y less at bt h g = later lt has zs (rest_ascends lt has z zs asc) i j x y (omega (arith, less)) at bt h g

clash : {B : Bool} → true ≡ false → B ≡ true
clash e = absurd (cc)

module _ {A : Type 0} (lt : A → A → Bool) (has test : A → Bool) (rises : (x y : A) → lt x y ≡ true → test x ≡ true → test y ≡ true)
    (xs : List A) (asc : ascends lt (filter has xs) ≡ true) (at : ℕ) (x : A) (here : slice_get xs at ≡ Some x) (h : has x ≡ true) where
  -- one that does not pass: none in front of it does
  pub go_up : test x ≡ false → IsInFront has test xs (at + 1)
  go_up fails k y less there g = by (nat_lt k at) refl (test y) refl
    where
      by : (a : Bool) → nat_lt k at ≡ a → (b : Bool) → test y ≡ b → b ≡ false
      by a e false q = refl
      by true e true q =
          let passes : test x ≡ true = rises y x (later lt has xs asc k at y x (grind (arith, nat_tests)) there here g h) q in
          absurd (let both : true ≡ false = sym passes ∙ fails in cc)
      by false e true q =
          let same : k ≡ at = grind (arith, nat_tests) in
          let is : Some y ≡ Some x = sym there ∙ ap (slice_get xs) same ∙ here in
          let it : y ≡ x = cc in
          absurd (let both : true ≡ false = sym q ∙ ap test it ∙ fails in cc)

  -- one that passes: all from it on do, and those before it as far as they have nothing
  pub go_down : (mid : ℕ) → AreBare has xs mid at → test x ≡ true → IsAtBack has test xs mid
  go_down mid bare passes k y le there g = by (nat_lt k at) refl (nat_lt at k) refl
    where
      by : (a : Bool) → nat_lt k at ≡ a → (b : Bool) → nat_lt at k ≡ b → test y ≡ true
      by true e b f =
          let none = bare k y le (grind (arith, nat_tests)) there in
          absurd (let both : true ≡ false = sym g ∙ none in cc)
      by false e true f = rises x y (later lt has xs asc at k x y (grind (arith, nat_tests)) here there h g) passes
      by false e false f =
          let same : k ≡ at = grind (arith, nat_tests) in
          let is : Some y ≡ Some x = sym there ∙ ap (slice_get xs) same ∙ here in
          let it : y ≡ x = cc in
          ap test it ∙ passes

filter_true : {A : Type 0} (xs : List A) → filter (λ x. true) xs ≡ xs
filter_true [] = refl
filter_true (x ∷ xs) = ap (λ ys. x ∷ ys) (filter_true xs)

-- the same where each has something
module _ {A : Type 0} (lt : A → A → Bool) (test : A → Bool) (rises : (x y : A) → lt x y ≡ true → test x ≡ true → test y ≡ true)
    (xs : List A) (asc : ascends lt xs ≡ true) (at : ℕ) (x : A) (here : slice_get xs at ≡ Some x) where
  all_ascend : ascends lt (filter (λ y. true) xs) ≡ true
  all_ascend = subst (λ ys. ascends lt ys ≡ true) (sym (filter_true xs)) asc

  pub row_up : test x ≡ false → IsInFront (λ y. true) test xs (at + 1)
  row_up fails = go_up lt (λ y. true) test rises xs all_ascend at x here refl fails

  pub row_down : test x ≡ true → IsAtBack (λ y. true) test xs at
  row_down passes = go_down lt (λ y. true) test rises xs all_ascend at x here refl at (λ k y le less. absurd (omega (arith, le, less))) passes

-- what stands at a place is there, or the list ends
pub there : {A : Type 0} (P : A → Type 0) (xs : List A) (at : ℕ) → ((x : A) → slice_get xs at ≡ Some x → P x) → IfSome (slice_get xs at) P
there P [] at f = tt
there P (x ∷ xs) zero f = f x refl
there P (x ∷ xs) (suc at) f = there P xs at f

pub row_found : {A : Type 0} (test : A → Bool) (xs : List A) (low high : ℕ) → high ≤ low → IsInFront (λ x. true) test xs low → IsAtBack (λ x. true) test xs high
    → slice_get xs low ≡ find test xs
row_found test xs low high le front back =
    sym (find_at test xs low (λ k x less at. front k x less at refl) (there (λ x. test x ≡ true) xs low (λ x at. back low x le at refl)))

-- where none has anything up to a place that is behind another, all from the first on is as from the other on
pub bare_back : {A : Type 0} (has test : A → Bool) (xs : List A) (middle at high : ℕ) → AreBare has xs middle at → high ≤ at → IsAtBack has test xs high → IsAtBack has test xs middle
bare_back has test xs middle at high bare le back k x from is h = by (nat_lt k high) refl
  where
    by : (b : Bool) → nat_lt k high ≡ b → test x ≡ true
    by true e = let none = bare k x from (grind (arith, nat_tests)) is in absurd (let both : true ≡ false = sym h ∙ none in cc)
    by false e = back k x (grind (arith, nat_tests)) is h

both_true : (a b : Bool) → a ≡ true → b ≡ true → (a && b) ≡ true
both_true true b p q = q
both_true false b p q = p

one_false : (a b : Bool) → (a ≡ true → b ≡ false) → (a && b) ≡ false
one_false true b f = f refl
one_false false b f = refl

-- the first that has something and passes
pub held_found : {A : Type 0} (has test : A → Bool) (xs : List A) (low high at : ℕ) → high ≤ low → IsInFront has test xs low → IsAtBack has test xs high → low ≤ at
    → AreBare has xs low at → IfSome (slice_get xs at) (λ x. has x ≡ true) → slice_get xs at ≡ find (λ x. has x && test x) xs
held_found {A} has test xs low high at le front back from bare held =
    sym (find_at (λ x. has x && test x) xs at fails (by (slice_get xs at) refl held))
  where
    fails : (k : ℕ) (x : A) → k < at → slice_get xs k ≡ Some x → (has x && test x) ≡ false
    fails k x less is = split (nat_lt k low) refl (has x) refl
      where
        split : (b : Bool) → nat_lt k low ≡ b → (a : Bool) → has x ≡ a → (has x && test x) ≡ false
        split true e a h = one_false (has x) (test x) (λ g. front k x (grind (arith, nat_tests)) is g)
        split false e a h = let none = bare k x (grind (arith, nat_tests)) less is in rw none refl

    by : (o : Option A) → slice_get xs at ≡ o → IfSome o (λ x. has x ≡ true) → IfSome (slice_get xs at) (λ x. (has x && test x) ≡ true)
    by None e h = subst (λ o. IfSome o (λ x. (has x && test x) ≡ true)) (sym e) tt
    by (Some x) e h = subst (λ o. IfSome o (λ y. (has y && test y) ≡ true)) (sym e) (both_true (has x) (test x) h (back at x (omega (arith, le, from)) e h))

-- what holds of the one at a place
pub got : {A : Type 0} (P : A → Type 0) (xs : List A) (at : ℕ) (x : A) → slice_get xs at ≡ Some x → IfSome (slice_get xs at) P → P x
got {A} P xs at x is h = subst (λ (o : Option A). IfSome o P) is h

-- the first of all
pub first_any : {A : Type 0} (xs : List A) → slice_get xs 0 ≡ find (λ x. true) xs
first_any [] = refl
first_any (x ∷ xs) = refl
