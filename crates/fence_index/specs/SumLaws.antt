-- What a list weighs without one of its items.
use Rattle.std.proofs.Common.{◌≡◌, ◌+◌, ℕ, ap, List, get_or, arith}
use Rattle.std.specs.Prelude.{Some, slice_get}
use Rattle.std.specs.List.{sum_by, remove}
use Rattle.std.proofs.lemmas.List.Sums.{sum_by-remove}
use Rattle.std.proofs.lemmas.Option.{slice_get_within, get_or_from_slice_get}

pub sum_remove : {A : Type 0} (f : A → ℕ) (xs : List A) (at : ℕ) (x : A) → slice_get xs at ≡ Some x → sum_by f (remove xs at) + f x ≡ sum_by f xs
sum_remove f xs at x is =
    let a = sum_by-remove f xs at x (slice_get_within xs at x is) in
    let b : f (get_or xs at x) ≡ f x = ap f (get_or_from_slice_get xs at x x is) in
    omega (arith, a, b)
