-- Where a list is cut by a test.
use Rattle.std.proofs.Common.{◌≡◌, ◌<◌, ◌≤◌, ◌+◌, ◌-◌, ℕ, zero, suc, Bool, true, false, refl, sym, ap, ◌∙◌, List, [], ◌∷◌, length, take, drop, get_or, arith, subst, inl, inr, ◌⊎◌}
use Rattle.std.specs.Prelude.{not, ◌&&◌}
use Rattle.std.specs.List.{list_all}
use Rattle.std.proofs.lemmas.Bool.{cases_lt}
use Rattle.std.proofs.lemmas.List.{get_or_default}
use Rattle.run_list.specs.Runs.{flat, start, is_cut, AreFilled}
use Rattle.run_list.proofs.Flats.{read-at, run-is, start-more, start-most, start-all}

pub both_of : (a b : Bool) → (a && b) ≡ true → (a ≡ true) × (b ≡ true)
both_of a b e = (grind arith, grind arith)

none-get : (p : ℕ → Bool) (xs : List ℕ) (k : ℕ) → k < length xs → list_all (λ y. not (p y)) xs ≡ true → p (get_or xs k 0) ≡ false
none-get p [] k lt all = absurd (omega arith)
none-get p (x ∷ xs) zero lt all = let h = (both_of (not (p x)) (list_all (λ y. not (p y)) xs) all).0 in grind arith
none-get p (x ∷ xs) (suc k) lt all = none-get p xs k (omega arith) (both_of (not (p x)) (list_all (λ y. not (p y)) xs) all).1

none-drop : (p : ℕ → Bool) (xs : List ℕ) (k : ℕ) → list_all (λ y. not (p y)) xs ≡ true → list_all (λ y. not (p y)) (drop k xs) ≡ true
none-drop p [] zero all = refl
none-drop p [] (suc k) all = refl
none-drop p (x ∷ xs) zero all = all
none-drop p (x ∷ xs) (suc k) all = none-drop p xs k (both_of (not (p x)) (list_all (λ y. not (p y)) xs) all).1

pub cut-front : (p : ℕ → Bool) (xs : List ℕ) (k : ℕ) → is_cut p xs ≡ true → k < length xs → p (get_or xs k 0) ≡ true → list_all p (take (suc k) xs) ≡ true
cut-front p [] k cut lt here = absurd (omega arith)
cut-front p (x ∷ xs) zero cut lt here = grind arith
cut-front p (x ∷ xs) (suc k) cut lt here =
    let ih : is_cut p xs ≡ true → list_all p (take (suc k) xs) ≡ true = λ h. cut-front p xs k h (omega arith) here in
    let no : list_all (λ y. not (p y)) xs ≡ true → p (get_or xs k 0) ≡ false = λ h. none-get p xs k (omega arith) h in
    grind arith

pub cut-behind : (p : ℕ → Bool) (xs : List ℕ) (k : ℕ) → is_cut p xs ≡ true → (k < length xs → p (get_or xs k 0) ≡ false) → list_all (λ y. not (p y)) (drop k xs) ≡ true
cut-behind p [] zero cut here = refl
cut-behind p [] (suc k) cut here = refl
cut-behind p (x ∷ xs) zero cut here = let h : p x ≡ false = here (omega arith) in grind arith
cut-behind p (x ∷ xs) (suc k) cut here =
    let ih : is_cut p xs ≡ true → list_all (λ y. not (p y)) (drop k xs) ≡ true = λ h. cut-behind p xs k h (λ lt. here (omega arith)) in
    let none : list_all (λ y. not (p y)) xs ≡ true → list_all (λ y. not (p y)) (drop k xs) ≡ true = λ h. none-drop p xs k h in
    grind arith

-- a place of a list, with a number that passes before it, and one that fails behind it
pub record IsPlace (p : ℕ → Bool) (xs : List ℕ) (i : ℕ) : Type 0 where
  pub some : 0 < i
  pub within : i ≤ length xs
  pub front : p (get_or xs (i - 1) 0) ≡ true
  pub behind : i < length xs → p (get_or xs i 0) ≡ false

-- such a place of a run, which is the last one that begins with a number that passes
pub record IsRunPlace (p : ℕ → Bool) (rs : List (List ℕ)) (next j : ℕ) (r : List ℕ) : Type 0 where
  pub filled : AreFilled rs
  pub some : 0 < next
  pub within : next ≤ length rs
  pub first : p (get_or (get_or rs (next - 1) []) 0 0) ≡ true
  pub other : next < length rs → p (get_or (get_or rs next []) 0 0) ≡ false
  pub is : r ≡ get_or rs (next - 1) r
  pub inside : j ≤ length r
  pub front : 0 < j → p (get_or r (j - 1) 0) ≡ true
  pub behind : j < length r → p (get_or r j 0) ≡ false

not-both : (b : Bool) → b ≡ true → b ≡ false → ⊥
not-both b t f = cc

pub place-is : (p : ℕ → Bool) (rs : List (List ℕ)) (next j : ℕ) (r : List ℕ) → IsRunPlace p rs next j r → IsPlace p (flat rs) (start rs (next - 1) + j)
place-is p rs next j r h =
    let k = next - 1 in
    let lt : k < length rs = omega (arith, h.some, h.within) in
    let more = start-more rs k r lt in
    let most = start-most rs (k + 1) in
    let read = ap length h.is in
    let filled : 0 < length r = subst (λ (z : List ℕ). 0 < length z) (sym h.is) (h.filled k r lt) in
    let begins : p (get_or r 0 0) ≡ true = subst (λ (z : List ℕ). p (get_or z 0 0) ≡ true) (sym (run-is rs k r lt h.is)) h.first in
    let some : 0 < j = elim (positive j) [ inl z ↦ absurd (not-both (p (get_or r 0 0)) begins (subst (λ (n : ℕ). n < length r → p (get_or r n 0) ≡ false) z h.behind filled)) | inr q ↦ q ] in
    let inner : j - 1 < length r = omega (arith, some, h.inside) in
    let before : start rs k + (j - 1) ≡ start rs k + j - 1 = omega (arith, some) in
    record {
      some = omega (arith, some);
      within = omega (arith, more, most, read, h.inside);
      front = sym (ap (λ n. p (get_or (flat rs) n 0)) before) ∙ sym (ap p (read-at rs k (j - 1) 0 r lt h.is inner)) ∙ h.front some;
      behind = λ short. elim (less j (length r)) [
        | inl in' ↦ sym (ap p (read-at rs k j 0 r lt h.is in')) ∙ h.behind in'
        | inr out ↦ at-next short out more read lt
      ];
    }
  where
    positive : (n : ℕ) → (n ≡ 0) ⊎ (0 < n)
    positive zero = inl refl
    positive (suc n) = inr (omega arith)

    less : (m n : ℕ) → (m < n) ⊎ (n ≤ m)
    less m n = cases_lt m n

    at-next : start rs (next - 1) + j < length (flat rs) → length r ≤ j → start rs (next - 1 + 1) ≡ start rs (next - 1) + length (get_or rs (next - 1) r) → length r ≡ length (get_or rs (next - 1) r) → next - 1 < length rs → p (get_or (flat rs) (start rs (next - 1) + j) 0) ≡ false
    at-next short out more read lt =
        let back : next - 1 + 1 ≡ next = omega (arith, h.some) in
        let here : start rs next ≡ start rs (next - 1) + j = ap (λ n. start rs n) (sym back) ∙ (omega (arith, more, read, out, h.inside)) in
        let all = start-all rs in
        let lt' : next < length rs = elim (less next (length rs)) [ inl q ↦ q | inr q ↦ absurd (let e : next ≡ length rs = omega (arith, q, h.within) in let f = ap (λ n. start rs n) e in omega (arith, f, all, here, short)) ] in
        let s = get_or rs next [] in
        let is : s ≡ get_or rs next s = get_or_default rs next [] s lt' in
        let some = h.filled next [] lt' in
        let place : start rs next + 0 ≡ start rs (next - 1) + j = omega (arith, here) in
        sym (ap (λ n. p (get_or (flat rs) n 0)) place) ∙ sym (ap p (read-at rs next 0 0 s lt' is some)) ∙ h.other lt'

pub place-front : (p : ℕ → Bool) (xs : List ℕ) (i : ℕ) → is_cut p xs ≡ true → IsPlace p xs i → list_all p (take i xs) ≡ true
place-front p xs i cut h =
    let n : suc (i - 1) ≡ i = omega (arith, h.some) in
    subst (λ (m : ℕ). list_all p (take m xs) ≡ true) n (cut-front p xs (i - 1) cut (omega (arith, h.some, h.within)) h.front)

pub cut-front-at : (p : ℕ → Bool) (xs : List ℕ) (i : ℕ) → is_cut p xs ≡ true → i ≤ length xs → (0 < i → p (get_or xs (i - 1) 0) ≡ true) → list_all p (take i xs) ≡ true
cut-front-at p xs zero cut le front = refl
cut-front-at p xs (suc i) cut le front =
    let e : suc i - 1 ≡ i = omega arith in
    cut-front p xs i cut (omega arith) (subst (λ (n : ℕ). p (get_or xs n 0) ≡ true) e (front (omega arith)))
