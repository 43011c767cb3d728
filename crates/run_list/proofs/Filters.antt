-- A list held as runs: a test of each run is a test of the list.
use Rattle.std.proofs.Common.{◌≡◌, ◌<◌, ◌≤◌, ◌+◌, ℕ, zero, suc, Bool, refl, sym, ap, ◌∙◌, List, [], ◌∷◌, ◌++◌, length, map, take, drop, set, get_or, add-one, arith}
use Rattle.std.specs.Prelude.{not}
use Rattle.std.specs.List.{filter, remove}
use Rattle.std.proofs.lemmas.List.{nil_from_length}
use Rattle.std.proofs.lemmas.List.Elements.{filter-append}
use Rattle.std.proofs.lemmas.List.Filters.{length-filter_both}
use Rattle.run_list.specs.Runs.{flat}

pub flat-filter : (p : ℕ → Bool) (rs : List (List ℕ)) → flat (map (λ run. filter p run) rs) ≡ filter p (flat rs)
flat-filter p [] = refl
flat-filter p (r ∷ rs) = ap (λ z. filter p r ++ z) (flat-filter p rs) ∙ sym (filter-append p r (flat rs))

pub filter-most : (p : ℕ → Bool) (xs : List ℕ) → length (filter p xs) ≤ length xs
filter-most p xs = let both = length-filter_both p (λ x. not (p x)) (λ x. refl) xs in omega (arith, both)

-- a run that is empty is taken out
pub flat-emptied : (rs : List (List ℕ)) (k : ℕ) (d : List ℕ) → k < length rs → length (get_or rs k d) ≡ 0 → flat (remove rs k) ≡ flat rs
flat-emptied [] k d lt none = absurd (omega (arith, lt))
flat-emptied (r ∷ rs) zero d lt none = ap (λ z. z ++ flat rs) (sym (nil_from_length r none))
flat-emptied (r ∷ rs) (suc k) d lt none = ap (λ z. r ++ z) (flat-emptied rs k d (omega (arith, lt)) none)

-- one run more is changed
front-get : (f : List ℕ → List ℕ) (xs : List (List ℕ)) (i : ℕ) (d : List ℕ) → i < length xs → get_or (map f (take i xs) ++ drop i xs) i d ≡ get_or xs i d
front-get f [] i d lt = absurd (omega (arith, lt))
front-get f (x ∷ xs) zero d lt = refl
front-get f (x ∷ xs) (suc i) d lt = front-get f xs i d (omega (arith, lt))

front-set : (f : List ℕ → List ℕ) (xs : List (List ℕ)) (i : ℕ) (d : List ℕ) → i < length xs → set (map f (take i xs) ++ drop i xs) i (f (get_or xs i d)) ≡ map f (take (suc i) xs) ++ drop (suc i) xs
front-set f [] i d lt = absurd (omega (arith, lt))
front-set f (x ∷ xs) zero d lt = refl
front-set f (x ∷ xs) (suc i) d lt = ap (λ z. f x ∷ z) (front-set f xs i d (omega (arith, lt)))

pub mapped-more : (f : List ℕ → List ℕ) (xs cur : List (List ℕ)) (i : ℕ) (d v : List ℕ) → i < length xs → cur ≡ map f (take i xs) ++ drop i xs → v ≡ f (get_or cur i d) → set cur i v ≡ map f (take (i + 1) xs) ++ drop (i + 1) xs
mapped-more f xs cur i d v lt inv made =
    let front = map f (take i xs) ++ drop i xs in
    ap (λ z. set z i v) inv
    ∙ ap (λ z. set front i z) (made ∙ ap f (ap (λ z. get_or z i d) inv ∙ front-get f xs i d lt))
    ∙ front-set f xs i d lt
    ∙ ap (λ n. map f (take n xs) ++ drop n xs) (sym (add-one i))
