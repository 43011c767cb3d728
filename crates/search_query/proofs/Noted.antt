-- Objects that are noted one after the other.
use Rattle.std.proofs.Common.{◌≡◌, ◌+◌, ◌≤◌, ℕ, Bool, sym, ap, ◌∙◌, List, [], ◌∷◌, ◌++◌, length, take, arith, append_assoc, length-append}
use Rattle.std.specs.Prelude.{filter, slice_get, Some}
use Rattle.std.proofs.lemmas.List.{take_more, length-take}
use Rattle.std.proofs.lemmas.List.Elements.{filter-append}
use Rattle.std.proofs.lemmas.List.Sums.{length-filter, count_by-le-length}
use Rattle.std.proofs.lemmas.Option.{slice_get_within, get_or_from_slice_get}
use Rattle.world_data.specs.declared.objects.Object.{Object}

-- one more is read
pub noted : (p : Object → Bool) (seen xs : List Object) (i : ℕ) (x : Object) → slice_get xs i ≡ Some x → seen ++ filter p (take (i + 1) xs) ≡ (seen ++ filter p (take i xs)) ++ filter p (x ∷ [])
noted p seen xs i x is =
    let first : take (i + 1) xs ≡ take i xs ++ x ∷ [] = take_more xs i x (slice_get_within xs i x is) ∙ ap (λ (y : Object). take i xs ++ y ∷ []) (get_or_from_slice_get xs i x x is) in
    let more : filter p (take (i + 1) xs) ≡ filter p (take i xs) ++ filter p (x ∷ []) = ap (filter p) first ∙ filter-append p (take i xs) (x ∷ []) in
    ap (λ (l : List Object). seen ++ l) more ∙ sym (append_assoc seen (filter p (take i xs)) (filter p (x ∷ [])))

-- no more than were read
pub few_noted : (p : Object → Bool) (seen xs : List Object) (i n found : ℕ) → n ≡ length (seen ++ filter p (take i xs)) → found ≡ length seen → n ≤ found + i
few_noted p seen xs i n found is was =
    let a = length-append seen (filter p (take i xs)) in
    let b = length-filter p (take i xs) in
    let c = count_by-le-length p (take i xs) in
    let d : length (take i xs) ≤ i = rw (length-take i xs) (omega arith) in
    omega (arith, is, was, a, b, c, d)
