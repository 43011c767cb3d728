-- What a change of a tree costs, told by the number of objects.
use Rattle.std.proofs.Common.{◌≡◌, ◌≤◌, ◌+◌, ◌*◌, ◌^◌, ℕ, Bool, true, false, refl, sym, ap, ◌∙◌, List, [], ◌∷◌, length, arith}
use Rattle.std.specs.Prelude.{Option, nat_le}
use Rattle.std.specs.List.{sum_by}
use Rattle.std.proofs.lemmas.Bool.Decides.{nat_tests}
use Rattle.std.proofs.lemmas.List.{length-append}
use Rattle.std.proofs.lemmas.List.Sums.{sum_by-cons}
use Rattle.rtree.specs.Pairs.{Pair, IsTaken}
use Rattle.world_data.specs.declared.objects.Object.{Object}
use Rattle.collection.specs.Boxed.{AreBoxed}
use Rattle.collection.specs.Costs.{IsCheap}
use Rattle.collection.specs.Slotted.{objects_at, are_stored}
use Rattle.collection.proofs.Slots.{length_at}

ones : {A : Type 0} (xs : List A) → sum_by (λ (x : A). 1) xs ≡ length xs
ones [] = refl
ones (x ∷ xs) = let s = sum_by-cons (λ y. 1) x xs in let rest = ones xs in omega (arith, s, rest)

-- the tree has as many pairs as there are objects
pub as_many : (f : ℕ → Option Object) (keys : List ℕ) (pairs : List Pair) → AreBoxed f keys pairs → are_stored f keys ≡ true → length pairs ≡ length (objects_at f keys)
as_many f keys pairs boxed stored = sym (ones pairs) ∙ boxed (λ p. 1) ∙ ones keys ∙ sym (length_at f keys stored)

-- nothing was visited
pub unchanged : (n count : ℕ) → IsCheap n count count
unchanged n count = record { depth = 0; levels = omega arith; cost = omega arith }

-- one change of the tree
pub once : (n before after depth : ℕ) → 2 ^ depth ≤ 2 * n + 1 → after ≤ before + 40 * (depth + 1) → IsCheap n before after
once n before after depth levels cost = record { depth = depth; levels = levels; cost = omega (arith, cost) }

-- two changes, the second of a tree that is no larger
pub twice : (n m before between after d e : ℕ) → m ≤ n → 2 ^ d ≤ 2 * n + 1 → 2 ^ e ≤ 2 * m + 1 → between ≤ before + 40 * (d + 1) → after ≤ between + 40 * (e + 1) → IsCheap n before after
twice n m before between after d e few levels levels' cost cost' = deeper (nat_le d e) refl
  where
    deeper : (t : Bool) → nat_le d e ≡ t → IsCheap n before after
    deeper true is = let le : d ≤ e = grind (arith, nat_tests) in record { depth = e; levels = omega (arith, few, levels'); cost = omega (arith, le, cost, cost') }
    deeper false is = let le : e ≤ d = grind (arith, nat_tests) in record { depth = d; levels = levels; cost = omega (arith, le, cost, cost') }

-- no pair more is left
pub no_more : (b : Bool) (p : Pair) (old new : List Pair) → IsTaken b p old new → length new ≤ length old
no_more true p old new is =
    let long = ap length is.with ∙ length-append is.front (p ∷ is.back) in
    let short = ap length is.without ∙ length-append is.front is.back in
    omega (arith, long, short)
no_more false p old new is = let same = ap length is.1 in omega (arith, same)
