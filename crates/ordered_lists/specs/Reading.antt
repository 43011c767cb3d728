-- Reading lists at places, tests of all their items, and the items that pass one.
use Rattle.std.proofs.Common.{◌≡◌, ◌<◌, ◌≤◌, ◌+◌, ℕ, zero, suc, Bool, true, false, not, refl, sym, ◌∙◌, ap, subst, List, [], ◌∷◌, ◌++◌, length, take}
use Rattle.std.proofs.Common.{get_or, arith}
use Rattle.std.specs.Prelude.{Some, Result, Ok, Err, filter, IfSome, OnOk, OnErr, ◌&&◌, if◌then◌else◌}
use Rattle.std.specs.List.{list_all, AllByRecursion, slice_get, slice_set, insert, remove}

pub both_of : (a b : Bool) → (a && b) ≡ true → (a ≡ true) × (b ≡ true)
both_of a b e = (grind arith, grind arith)

pub all_get : {A : Type 0} (q : A → Bool) (xs : List A) (j : ℕ) (d : A) → j < length xs → list_all q xs ≡ true → q (get_or xs j d) ≡ true
all_get q [] j d lt all = absurd (omega arith)
all_get q (x ∷ xs) zero d lt all = (both_of (q x) (list_all q xs) all).0
all_get q (x ∷ xs) (suc j) d lt all = all_get q xs j d (omega arith) (both_of (q x) (list_all q xs) all).1

pub all_at : {A : Type 0} (q : A → Bool) (xs : List A) (i : ℕ) (x : A) → slice_get xs i ≡ Some x → list_all q xs ≡ true → q x ≡ true
all_at q [] i x is all = absurd (cc)
all_at q (y ∷ xs) zero x is all = let s : y ≡ x = cc in subst (λ z. q z ≡ true) s (both_of (q y) (list_all q xs) all).0
all_at q (y ∷ xs) (suc i) x is all = all_at q xs i x is (both_of (q y) (list_all q xs) all).1

pub front_all : {A : Type 0} (q : A → Bool) (xs : List A) (at : ℕ) → at ≤ length xs → ((k : ℕ) (d : A) → 0 ≤ k → k < at → q (get_or xs k d) ≡ true)
    → list_all q (take at xs) ≡ true
front_all q [] zero le f = refl
front_all q [] (suc at) le f = refl
front_all q (x ∷ xs) zero le f = refl
front_all q (x ∷ xs) (suc at) le f =
    let here : q x ≡ true = f zero x (omega arith) (omega arith) in
    let rest : list_all q (take at xs) ≡ true = front_all q xs at (omega arith) (λ k d lo hi. f (suc k) d (omega arith) (omega arith)) in
    rw (here, rest) refl

-- the item that is read at a place stands there
pub stands_at : {A : Type 0} (xs : List A) (i : ℕ) (x : A) → i < length xs → x ≡ get_or xs i x → slice_get xs i ≡ Some x
stands_at [] i x within is = absurd (omega arith)
stands_at (y ∷ xs) zero x within is = ap Some (sym is)
stands_at (y ∷ xs) (suc i) x within is = stands_at xs i x (omega arith) is

pub got_at : {A : Type 0} (xs : List A) (i : ℕ) (x d : A) → slice_get xs i ≡ Some x → get_or xs i d ≡ x
got_at [] i x d e = absurd (cc)
got_at (y ∷ xs) zero x d e = cc
got_at (y ∷ xs) (suc i) x d e = got_at xs i x d e

pub past_end : {A : Type 0} (xs : List A) (P : A → Type 0) → IfSome (slice_get xs (length xs)) P
past_end [] P = tt
past_end (x ∷ xs) P = past_end xs P

all_more : {A : Type 0} (p : A → Bool) (xs : List A) (i : ℕ) (x : A) → i < length xs → x ≡ get_or xs i x → list_all p (take i xs) ≡ true → p x ≡ true
    → list_all p (take (suc i) xs) ≡ true
all_more p [] i x within is all here = absurd (omega arith)
all_more p (y ∷ xs) zero x within is all here = let e : p y ≡ true = subst (λ z. p z ≡ true) is here in grind arith
all_more p (y ∷ xs) (suc i) x within is all here = let ih : list_all p (take i xs) ≡ true
    → list_all p (take (suc i) xs) ≡ true = λ more. all_more p xs i x (omega arith) is more here in grind arith

pub filter-all : {A : Type 0} (q : A → Bool) (xs : List A) → list_all q xs ≡ true → filter q xs ≡ xs
filter-all q [] all = refl
filter-all q (x ∷ xs) all = let ih = filter-all q xs in grind arith

pub filter-passes : {A : Type 0} (q : A → Bool) (xs : List A) → list_all q (filter q xs) ≡ true
filter-passes q [] = refl
filter-passes q (x ∷ xs) = let ih = filter-passes q xs in grind arith

pub filter-none : {A : Type 0} (q : A → Bool) (xs : List A) → list_all (λ x. not (q x)) xs ≡ true → filter q xs ≡ []
filter-none q [] all = refl
filter-none q (x ∷ xs) all = let ih = filter-none q xs in grind arith

pub filter-nothing : {A : Type 0} (xs : List A) → filter (λ x. false) xs ≡ []
filter-nothing [] = refl
filter-nothing (x ∷ xs) = filter-nothing xs

-- no more items pass than there are
pub filter-most : {A : Type 0} (q : A → Bool) (xs : List A) → length (filter q xs) ≤ length xs
filter-most q [] = omega arith
filter-most q (x ∷ xs) = by (q x) (filter-most q xs)
  where
    by : (b : Bool) → length (filter q xs) ≤ length xs → length (if b then x ∷ filter q xs else filter q xs) ≤ length (x ∷ xs)
    by true le = omega (arith, le)
    by false le = omega (arith, le)

-- what passes both of two tests, told by one
pub filter-both : {A : Type 0} (p q r : A → Bool) (xs : List A) → ((x : A) → p x ≡ false → r x ≡ false) → ((x : A) → p x ≡ true → q x ≡ r x)
    → filter q (filter p xs) ≡ filter r xs
filter-both p q r [] none same = refl
filter-both p q r (x ∷ xs) none same = let ih = filter-both p q r xs none same in let off = none x in let on = same x in grind arith

-- what all items pass, those that pass another test pass
pub all-filter : {A : Type 0} (p q : A → Bool) (xs : List A) → list_all p xs ≡ true → list_all p (filter q xs) ≡ true
all-filter p q [] all = refl
all-filter p q (x ∷ xs) all = let ih = all-filter p q xs in grind arith

pub each-filter : {A : Type 0} (P : A → Type 0) (q : A → Bool) (xs : List A) → AllByRecursion P xs → AllByRecursion P (filter q xs)
each-filter P q [] each = tt
each-filter P q (x ∷ xs) each = by (q x) (each-filter P q xs each.1)
  where
    by : (b : Bool) → AllByRecursion P (filter q xs) → AllByRecursion P (if b then x ∷ filter q xs else filter q xs)
    by true more = (each.0, more)
    by false more = more

-- a test that whatever passes another passes too
pub all-weaker : {A : Type 0} (p q : A → Bool) (xs : List A) → ((x : A) → p x ≡ true → q x ≡ true) → list_all p xs ≡ true → list_all q xs ≡ true
all-weaker p q [] weaker all = refl
all-weaker p q (x ∷ xs) weaker all = let ih = all-weaker p q xs weaker in let here = weaker x in grind arith

-- all of two lists, one behind the other
pub all-append : {A : Type 0} (p : A → Bool) (xs ys : List A) → list_all p xs ≡ true → list_all p ys ≡ true → list_all p (xs ++ ys) ≡ true
all-append p [] ys all more = more
all-append p (x ∷ xs) ys all more = let ih = all-append p xs ys in grind arith

pub each-append : {A : Type 0} (P : A → Type 0) (xs ys : List A) → AllByRecursion P xs → AllByRecursion P ys → AllByRecursion P (xs ++ ys)
each-append P [] ys each more = more
each-append P (x ∷ xs) ys each more = (each.0, each-append P xs ys each.1 more)

pub all-left : {A : Type 0} (p : A → Bool) (xs ys : List A) → list_all p (xs ++ ys) ≡ true → list_all p xs ≡ true
all-left p [] ys all = refl
all-left p (x ∷ xs) ys all = let ih = all-left p xs ys in grind arith

pub all-right : {A : Type 0} (p : A → Bool) (xs ys : List A) → list_all p (xs ++ ys) ≡ true → list_all p ys ≡ true
all-right p [] ys all = all
all-right p (x ∷ xs) ys all = all-right p xs ys (both_of (p x) (list_all p (xs ++ ys)) all).1

pub all-middle : {A : Type 0} (p : A → Bool) (xs : List A) (x : A) (ys : List A) → list_all p (xs ++ x ∷ ys) ≡ true → p x ≡ true
all-middle p xs x ys all = (both_of (p x) (list_all p ys) (all-right p xs (x ∷ ys) all)).0

-- an item that fails the test is not put in
pub filter-insert : {A : Type 0} (q : A → Bool) (xs : List A) (p : ℕ) (x : A) → list_all q xs ≡ true → q x ≡ false → filter q (insert xs p x) ≡ xs
filter-insert q [] zero x all fails = rw fails refl
filter-insert q [] (suc p) x all fails = rw fails refl
filter-insert q (y ∷ ys) zero x all fails = let e = filter-all q ys in grind arith
filter-insert q (y ∷ ys) (suc p) x all fails = let ih : list_all q ys ≡ true
    → filter q (insert ys p x) ≡ ys = λ more. filter-insert q ys p x more fails in grind arith

-- one that takes the place of another takes it away
pub filter-set : {A : Type 0} (q : A → Bool) (xs : List A) (p : ℕ) (x : A) → list_all q xs ≡ true → q x ≡ false → p < length xs
    → filter q (slice_set xs p x) ≡ remove xs p
filter-set q [] p x all fails within = absurd (omega arith)
filter-set q (y ∷ ys) zero x all fails within = let e = filter-all q ys in grind arith
filter-set q (y ∷ ys) (suc p) x all fails within = let ih : list_all q ys ≡ true
    → filter q (slice_set ys p x) ≡ remove ys p = λ more. filter-set q ys p x more fails (omega arith) in grind arith

pub all-insert : {A : Type 0} (q : A → Bool) (xs : List A) (p : ℕ) (x : A) → list_all q xs ≡ true → q x ≡ true → list_all q (insert xs p x) ≡ true
all-insert q [] zero x all holds = rw holds refl
all-insert q [] (suc p) x all holds = rw holds refl
all-insert q (y ∷ ys) zero x all holds = grind arith
all-insert q (y ∷ ys) (suc p) x all holds = let ih : list_all q ys ≡ true
    → list_all q (insert ys p x) ≡ true = λ more. all-insert q ys p x more holds in grind arith

pub all-set : {A : Type 0} (q : A → Bool) (xs : List A) (p : ℕ) (x : A) → list_all q xs ≡ true → q x ≡ true → list_all q (slice_set xs p x) ≡ true
all-set q [] p x all holds = refl
all-set q (y ∷ ys) zero x all holds = grind arith
all-set q (y ∷ ys) (suc p) x all holds = let ih : list_all q ys ≡ true
    → list_all q (slice_set ys p x) ≡ true = λ more. all-set q ys p x more holds in grind arith

-- what holds of the list with the change and of the list before it holds after a call that does one or the other
pub either_way : {A T E : Type 0} (r : Result T E) (xs changed kept : List A) (Q : List A → Type 0) → OnOk r (xs ≡ changed) → OnErr r (xs ≡ kept)
    → Q changed → Q kept → Q xs
either_way (Ok v) xs changed kept Q ok err a b = subst Q (sym ok) a
either_way (Err e) xs changed kept Q ok err a b = subst Q (sym err) b

-- a clause on success, in other words
pub on_ok_as : {A T E : Type 0} (r : Result T E) (xs changed other : List A) → OnOk r (xs ≡ changed) → changed ≡ other → OnOk r (xs ≡ other)
on_ok_as (Ok v) xs changed other ok e = ok ∙ e
on_ok_as (Err e) xs changed other ok same = tt
