-- The weight of the world, and what holds of objects that are found or looked at.
use Rattle.std.proofs.Common.{◌≡◌, ℕ, ◌≤◌, Bool, true, false, refl, sym, subst, List, [], ◌∷◌, arith, add-zero}
use Rattle.std.specs.Prelude.{Some, sum_by, find, filter, if◌then◌else◌}
use Rattle.std.proofs.lemmas.List.Sums.{sum_by-cons}
use Rattle.byte_text.specs.Names.{Bytes}
use Rattle.ordered_lists.specs.Lists.{put_in}
use Rattle.world_data.specs.Worlds.{object_before, is_at}
use Rattle.world_data.specs.Records.{weight}
use Rattle.world_data.specs.declared.objects.Object.{Object}
use Rattle.record_writer.specs.Lengths.{len_of}
use Rattle.record_writer.specs.ObjectSums.{at_is, parts_sum}
use Rattle.object_plans.specs.Moves.{world_of}

-- what is found
pub found_at : (key id : Bytes) (xs : List Object) (o : Object) → find (is_at key id) xs ≡ Some o → (o.key ≡ key) × (o.id ≡ id)
found_at key id [] o e = absurd (cc)
found_at key id (x ∷ xs) o e = by (is_at key id x) refl (found_at key id xs o) e
  where
    by : (t : Bool) → is_at key id x ≡ t → (find (is_at key id) xs ≡ Some o → (o.key ≡ key) × (o.id ≡ id))
        → (if t then Some x else find (is_at key id) xs) ≡ Some o → (o.key ≡ key) × (o.id ≡ id)
    by true a ih e = let is : x ≡ o = cc in at_is key id o (subst (λ (z : Object). is_at key id z ≡ true) is a)
    by false a ih e = ih e

-- it is the one of its own key and id
pub found_own : (key id : Bytes) (xs : List Object) (o : Object) → find (is_at key id) xs ≡ Some o → find (is_at o.key o.id) xs ≡ Some o
found_own key id xs o e = let s = found_at key id xs o e in subst (λ (k : Bytes). find (is_at k o.id) xs ≡ Some o) (sym s.0)
    (subst (λ (i : Bytes). find (is_at key i) xs ≡ Some o) (sym s.1) e)

-- so is what has its key and its id
pub found_place : (key id : Bytes) (xs : List Object) (o x : Object) → o.key ≡ x.key → o.id ≡ x.id → find (is_at key id) xs ≡ Some o
    → find (is_at x.key x.id) xs ≡ Some o
found_place key id xs o x k i e = subst (λ (m : Bytes). find (is_at m x.id) xs ≡ Some o) k
    (subst (λ (m : Bytes). find (is_at o.key m) xs ≡ Some o) i (found_own key id xs o e))

-- what is put is part of the sum
pub put_sum : (f : Object → ℕ) (x : Object) (xs : List Object) → f x ≤ sum_by f (put_in object_before x xs)
put_sum f x [] = omega (arith, sum_by-cons f x [])
put_sum f x (y ∷ ys) = by (object_before x y) (object_before y x) (put_sum f x ys)
  where
    by : (a b : Bool) → f x ≤ sum_by f (put_in object_before x ys)
        → f x ≤ sum_by f (if a then x ∷ y ∷ ys else if b then y ∷ put_in object_before x ys else x ∷ ys)
    by true b ih = omega (arith, sum_by-cons f x (y ∷ ys))
    by false true ih = omega (arith, ih, sum_by-cons f y (put_in object_before x ys))
    by false false ih = omega (arith, sum_by-cons f x ys)

-- the weight is the sum of the records' lengths
pub weight_sum : (xs : List Object) → weight (world_of xs) ≡ sum_by len_of xs
weight_sum xs = add-zero (sum_by len_of xs)

-- some of the objects
pub some_sum : (p : Object → Bool) (xs : List Object) → sum_by len_of (filter p xs) ≤ sum_by len_of xs
some_sum p xs = omega (arith, parts_sum len_of p xs)
