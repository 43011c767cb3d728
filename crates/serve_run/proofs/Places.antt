-- The places of a loop's table.
use Rattle.std.proofs.Common.{◌≡◌, ◌⊎◌, ◌<◌, ◌+◌, ℕ, zero, suc, List, [], ◌∷◌, ◌++◌, refl, ap, inl, inr, arith}
use Rattle.std.specs.Prelude.{Option, Some, None, slice_set, length}
use Rattle.std.specs.List.{slice_get}
use Rattle.session_run.specs.Sessions.{SessionState}
use Rattle.serve_run.specs.LoopStates.{time_at, times_open, NoneOpen}

abbrev Places : Type 0
Places = List (Option SessionState)

same_some : (p q : Option SessionState) → Some p ≡ Some q → p ≡ q
same_some p q e = cc

same_session : (x y : SessionState) → Some x ≡ Some y → x ≡ y
same_session x y e = cc

no_session : (x : SessionState) → Some None ≡ Some (Some x) → ⊥
no_session x e = absurd (cc)

-- who stands at a place behind a write to one
pub set_some : (l : Places) (i j : ℕ) (y z : SessionState) → slice_get (slice_set l i (Some y)) j ≡ Some (Some z)
    → ((j ≡ i) × (y ≡ z)) ⊎ ((j ≡ i → ⊥) × (slice_get l j ≡ Some (Some z)))
set_some [] i j y z is = absurd (cc)
set_some (p ∷ l) zero zero y z is = inl (refl, same_session y z (same_some (Some y) (Some z) is))
set_some (p ∷ l) zero (suc j) y z is = inr (λ e. absurd (omega (arith, e)), is)
set_some (p ∷ l) (suc i) zero y z is = inr (λ e. absurd (omega (arith, e)), is)
set_some (p ∷ l) (suc i) (suc j) y z is = next (set_some l i j y z is)
  where
    next : (((j ≡ i) × (y ≡ z)) ⊎ ((j ≡ i → ⊥) × (slice_get l j ≡ Some (Some z))))
        → ((suc j ≡ suc i) × (y ≡ z)) ⊎ ((suc j ≡ suc i → ⊥) × (slice_get l j ≡ Some (Some z)))
    next (inl e) = inl (ap (λ (n : ℕ). suc n) e.0, e.1)
    next (inr e) = inr (λ f. e.0 (omega (arith, f)), e.1)

pub set_none : (l : Places) (i j : ℕ) (z : SessionState) → slice_get (slice_set l i None) j ≡ Some (Some z)
    → (j ≡ i → ⊥) × (slice_get l j ≡ Some (Some z))
set_none [] i j z is = absurd (cc)
set_none (p ∷ l) zero zero z is = absurd (no_session z is)
set_none (p ∷ l) zero (suc j) z is = (λ e. absurd (omega (arith, e)), is)
set_none (p ∷ l) (suc i) zero z is = (λ e. absurd (omega (arith, e)), is)
set_none (p ∷ l) (suc i) (suc j) z is = let r = set_none l i j z is in (λ f. r.0 (omega (arith, f)), r.1)

pub set_again : (l : Places) (i : ℕ) (p q : Option SessionState) → slice_set (slice_set l i p) i q ≡ slice_set l i q
set_again [] i p q = refl
set_again (x ∷ l) zero p q = refl
set_again (x ∷ l) (suc i) p q = ap (λ (r : Places). x ∷ r) (set_again l i p q)

pub set_there : (l : Places) (i : ℕ) (p q : Option SessionState) → slice_get l i ≡ Some p → slice_get (slice_set l i q) i ≡ Some q
set_there [] i p q is = absurd (cc)
set_there (x ∷ l) zero p q is = refl
set_there (x ∷ l) (suc i) p q is = set_there l i p q is

-- one more place, with nobody
pub push_none : (l : Places) (j : ℕ) (z : SessionState) → slice_get (l ++ None ∷ []) j ≡ Some (Some z) → slice_get l j ≡ Some (Some z)
push_none [] zero z is = absurd (no_session z is)
push_none [] (suc j) z is = absurd (cc)
push_none (p ∷ l) zero z is = is
push_none (p ∷ l) (suc j) z is = push_none l j z is

-- the last place
pub less_last : (l : Places) (p : Option SessionState) (j : ℕ) (z : SessionState) → slice_get l j ≡ Some (Some z) → slice_get (l ++ p ∷ []) j ≡ Some (Some z)
less_last [] p j z is = absurd (cc)
less_last (q ∷ l) p zero z is = is
less_last (q ∷ l) p (suc j) z is = less_last l p j z is

pub not_last : (l : Places) (j : ℕ) (z : SessionState) → slice_get l j ≡ Some (Some z) → j < length l
not_last [] j z is = absurd (cc)
not_last (q ∷ l) zero z is = omega arith
not_last (q ∷ l) (suc j) z is = let r = not_last l j z is in omega (arith, r)

pub at_last : (l : Places) (p : Option SessionState) → slice_get (l ++ p ∷ []) (length l) ≡ Some p
at_last [] p = refl
at_last (q ∷ l) p = at_last l p

-- ---- how often a caller stands in the table

pub times_last : (c : ℕ) (l : Places) (p : Option SessionState) → times_open c (l ++ p ∷ []) ≡ times_open c l + time_at c p
times_last c [] p = omega arith
times_last c (q ∷ l) p = let r = times_last c l p in omega (arith, r)

pub times_set : (c : ℕ) (l : Places) (i : ℕ) (p q : Option SessionState) → slice_get l i ≡ Some p
    → times_open c (slice_set l i q) + time_at c p ≡ times_open c l + time_at c q
times_set c [] i p q is = absurd (cc)
times_set c (x ∷ l) zero p q is =
    let e : time_at c x ≡ time_at c p = ap (time_at c) (same_some x p is) in
    omega (arith, e)
times_set c (x ∷ l) (suc i) p q is = let r = times_set c l i p q is in omega (arith, r)

pub times_none : (c : ℕ) (l : Places) → NoneOpen l → times_open c l ≡ 0
times_none c [] none = refl
times_none c (None ∷ l) none = let r = times_none c l (λ i x is. none (suc i) x is) in omega (arith, r)
times_none c (Some x ∷ l) none = absurd (none zero x refl)

-- ---- whether none is open

abbrev pub NoneBelow : ℕ → Places → Type 0
NoneBelow n l = (i : ℕ) → (x : SessionState) → i < n → slice_get l i ≡ Some (Some x) → ⊥

pub none_all : (n : ℕ) (l : Places) → n ≡ length l → NoneBelow n l → NoneOpen l
none_all n l all none = λ i x is. let r = not_last l i x is in none i x (omega (arith, r, all)) is
