-- Ascending lists: where an item is put in, and that they stay ascending when one is put in, when some are left out, and at their beginning.
use Rattle.std.proofs.Common.{◌≡◌, ◌<◌, ℕ, zero, suc, Bool, true, false, refl, sym, ap, List, [], ◌∷◌, ◌++◌, length, take, arith}
use Rattle.std.specs.Prelude.{filter, IfSome, if◌then◌else◌}
use Rattle.std.specs.List.{list_all, AllByRecursion, slice_get, slice_set, insert, remove}
use Rattle.ordered_lists.specs.Lists.{ascends, put_in, IsHeld, IsFree}
use Rattle.ordered_lists.specs.Reading.{both_of, all-filter, all-weaker, all-left, all-middle}

-- what holds of all items and of the one that is put in holds of all afterwards
pub all-put_in : {A : Type 0} (p : A → Bool) (lt : A → A → Bool) (x : A) (xs : List A) → p x ≡ true → list_all p xs ≡ true
    → list_all p (put_in lt x xs) ≡ true
all-put_in p lt x [] here all = grind arith
all-put_in p lt x (y ∷ ys) here all = let ih = all-put_in p lt x ys here in grind arith

pub each-put_in : {A : Type 0} (P : A → Type 0) (lt : A → A → Bool) (x : A) (xs : List A) → P x → AllByRecursion P xs
    → AllByRecursion P (put_in lt x xs)
each-put_in P lt x [] here each = (here, tt)
each-put_in P lt x (y ∷ ys) here each = by (lt x y) (lt y x) (each-put_in P lt x ys here each.1)
  where
    by : (a b : Bool) → AllByRecursion P (put_in lt x ys) → AllByRecursion P (if a then x ∷ y ∷ ys else if b then y ∷ put_in lt x ys else x ∷ ys)
    by true b more = (here, each)
    by false true more = (each.0, more)
    by false false more = (here, each.1)

-- an item goes in front of what stands behind it
pub put_in-first : {A : Type 0} (lt : A → A → Bool) (x : A) (ys : List A) → list_all (lt x) ys ≡ true → put_in lt x ys ≡ x ∷ ys
put_in-first lt x [] all = refl
put_in-first lt x (y ∷ ys) all = rw ((both_of (lt x y) (list_all (lt x) ys) all).0) refl

module _ {A : Type 0} (lt : A → A → Bool) (asym : (x y : A) → lt x y ≡ true → lt y x ≡ false) where
  -- none stands before itself
  pub irreflexive : (x : A) → lt x x ≡ false
  irreflexive x = by (lt x x) refl
    where
      by : (b : Bool) → lt x x ≡ b → lt x x ≡ false
      by true e = asym x x e
      by false e = e

  -- an item goes behind all that stand before it
  put_behind : (x : A) (front rest : List A) → list_all (λ y. lt y x) front ≡ true → put_in lt x (front ++ rest) ≡ front ++ put_in lt x rest
  put_behind x [] rest all = refl
  put_behind x (y ∷ front) rest all =
      let ih = put_behind x front rest in
      let fails = asym x y in
      grind arith

  -- behind those that stand before it, and before the next one: it is put in between
  pub put_in-insert : (x : A) (xs : List A) (p : ℕ) → list_all (λ y. lt y x) (take p xs) ≡ true → IfSome (slice_get xs p) (λ y. lt x y ≡ true)
      → put_in lt x xs ≡ insert xs p x
  put_in-insert x [] zero all next = refl
  put_in-insert x [] (suc p) all next = refl
  put_in-insert x (y ∷ ys) zero all next = rw next refl
  put_in-insert x (y ∷ ys) (suc p) all next =
      let ih : list_all (λ z. lt z x) (take p ys) ≡ true → put_in lt x ys ≡ insert ys p x = λ more. put_in-insert x ys p more next in
      let fails = asym y x in
      grind arith

  -- where the next one ties with it: it takes that one's place
  pub put_in-set : (x : A) (xs : List A) (p : ℕ) → list_all (λ y. lt y x) (take p xs) ≡ true → p < length xs
      → IfSome (slice_get xs p) (λ y. (lt x y ≡ false) × (lt y x ≡ false)) → put_in lt x xs ≡ slice_set xs p x
  put_in-set x [] p all within tie = absurd (omega arith)
  put_in-set x (y ∷ ys) zero all within tie = rw (tie.0, tie.1) refl
  put_in-set x (y ∷ ys) (suc p) all within tie =
      let ih : list_all (λ z. lt z x) (take p ys) ≡ true → put_in lt x ys ≡ slice_set ys p x = λ more. put_in-set x ys p more (omega arith) tie in
      let fails = asym y x in
      grind arith

  -- one that stands there is put in to no change, and one that may be last goes to the end
  pub put_in-again : (x : A) (xs ys : List A) → ascends lt (xs ++ x ∷ ys) ≡ true → put_in lt x (xs ++ x ∷ ys) ≡ xs ++ x ∷ ys
  put_in-again x [] ys asc = let itself = irreflexive x in rw itself refl
  put_in-again x (y ∷ xs) ys asc =
      let parts = both_of (list_all (lt y) (xs ++ x ∷ ys)) (ascends lt (xs ++ x ∷ ys)) asc in
      let below = all-middle (lt y) xs x ys parts.0 in
      rw (asym y x below, below) (ap (λ l. y ∷ l) (put_in-again x xs ys parts.1))

  pub put_in-last : (x : A) (xs : List A) → ascends lt (xs ++ x ∷ []) ≡ true → put_in lt x xs ≡ xs ++ x ∷ []
  put_in-last x [] asc = refl
  put_in-last x (y ∷ xs) asc =
      let parts = both_of (list_all (lt y) (xs ++ x ∷ [])) (ascends lt (xs ++ x ∷ [])) asc in
      let below = all-middle (lt y) xs x [] parts.0 in
      rw (asym y x below, below) (ap (λ l. y ∷ l) (put_in-last x xs parts.1))

  -- an item put at the place that was found for it
  pub set_held : (x : A) (xs : List A) (at : ℕ) → IsHeld (λ y. lt y x) (lt x) xs at → slice_set xs at x ≡ put_in lt x xs
  set_held x xs at h = sym (put_in-set x xs at h.front h.within h.tie)

  pub insert_free : (x : A) (xs : List A) (at : ℕ) → IsFree (λ y. lt y x) (lt x) xs at → insert xs at x ≡ put_in lt x xs
  insert_free x xs at f = sym (put_in-insert x xs at f.front f.behind)

module _ {A : Type 0} (lt : A → A → Bool) (trans : (x y z : A) → lt x y ≡ true → lt y z ≡ true → lt x z ≡ true) (tie : (x y z : A) → lt x y ≡ false
    → lt y x ≡ false → lt y z ≡ true → lt x z ≡ true) where
  -- what stands behind an item stands behind one before it, and behind one that ties with it
  pub behind_earlier : (x y : A) (zs : List A) → lt x y ≡ true → list_all (lt y) zs ≡ true → list_all (lt x) zs ≡ true
  behind_earlier x y zs p = all-weaker (lt y) (lt x) zs (λ z q. trans x y z p q)

  pub behind_tied : (x y : A) (zs : List A) → lt x y ≡ false → lt y x ≡ false → list_all (lt y) zs ≡ true → list_all (lt x) zs ≡ true
  behind_tied x y zs p r = all-weaker (lt y) (lt x) zs (λ z q. tie x y z p r q)

  pub ascends-put_in : (x : A) (ys : List A) → ascends lt ys ≡ true → ascends lt (put_in lt x ys) ≡ true
  ascends-put_in x [] asc = refl
  ascends-put_in x (y ∷ ys) asc =
      let ih = ascends-put_in x ys in
      let below = behind_earlier x y ys in
      let same = behind_tied x y ys in
      let put = all-put_in (lt y) lt x ys in
      grind arith

pub ascends-filter : {A : Type 0} (lt : A → A → Bool) (q : A → Bool) (xs : List A) → ascends lt xs ≡ true → ascends lt (filter q xs) ≡ true
ascends-filter lt q [] asc = refl
ascends-filter lt q (x ∷ xs) asc = let ih = ascends-filter lt q xs in let all = all-filter (lt x) q xs in grind arith

pub all_remove : {A : Type 0} (p : A → Bool) (xs : List A) (at : ℕ) → list_all p xs ≡ true → list_all p (remove xs at) ≡ true
all_remove p [] zero all = refl
all_remove p [] (suc at) all = refl
all_remove p (x ∷ xs) zero all = (both_of (p x) (list_all p xs) all).1
all_remove p (x ∷ xs) (suc at) all = let ih : list_all p xs ≡ true → list_all p (remove xs at) ≡ true = all_remove p xs at in grind arith

pub ascends-remove : {A : Type 0} (lt : A → A → Bool) (xs : List A) (at : ℕ) → ascends lt xs ≡ true → ascends lt (remove xs at) ≡ true
ascends-remove lt [] zero asc = refl
ascends-remove lt [] (suc at) asc = refl
ascends-remove lt (x ∷ xs) zero asc = (both_of (list_all (lt x) xs) (ascends lt xs) asc).1
ascends-remove lt (x ∷ xs) (suc at) asc =
    let ih : ascends lt xs ≡ true → ascends lt (remove xs at) ≡ true = ascends-remove lt xs at in
    let all = all_remove (lt x) xs at in
    grind arith

-- the beginning of an ascending list
pub ascends-left : {A : Type 0} (lt : A → A → Bool) (xs ys : List A) → ascends lt (xs ++ ys) ≡ true → ascends lt xs ≡ true
ascends-left lt [] ys asc = refl
ascends-left lt (x ∷ xs) ys asc = let ih = ascends-left lt xs ys in let all = all-left (lt x) xs ys in grind arith
