-- What holds of the objects after what is done to them.
use Rattle.std.proofs.Common.{◌≡◌, ℕ, zero, suc, ◌+◌, ◌≤◌, not, sym, ap, ◌∙◌, List, [], ◌∷◌, drop, arith}
use Rattle.std.specs.Prelude.{Some, filter, slice_get}
use Rattle.std.specs.List.{AllByRecursion}
use Rattle.byte_text.specs.Names.{Bytes}
use Rattle.world_data.specs.Worlds.{object_before, has_key, is_at}
use Rattle.world_data.specs.declared.objects.Object.{Object}
use Rattle.object_plans.specs.declared.moves.ObjectChange.{ObjectChange}
use Rattle.object_plans.specs.declared.moves.ObjectChange.TheVariants.{Stay, Put, Delete, DeleteEach, DropKey, Clear}
use Rattle.object_plans.specs.Moves.{moved, without_each, HoldsOfPut}
use Rattle.tile_core.specs.Dues.{IsDueFrom, AreDueFrom}
use Rattle.ordered_lists.specs.Reading.{each-filter}
use Rattle.ordered_lists.specs.Ascending.{each-put_in}

-- the ids that are left, after one more is taken out
next_out : (key : Bytes) (ids : List Bytes) (i : ℕ) (id : Bytes) (xs : List Object) → slice_get ids i ≡ Some id → without_each key (drop i ids) xs ≡ without_each key (drop (suc i) ids) (filter (λ o. not (is_at key id o)) xs)
next_out key [] i id xs at = absurd (cc)
next_out key (j ∷ ids) zero id xs at = let is : j ≡ id = cc in ap (λ (k : Bytes). without_each key ids (filter (λ o. not (is_at key k o)) xs)) is
next_out key (j ∷ ids) (suc i) id xs at = next_out key ids i id xs at

pub one_out : (key : Bytes) (ids : List Bytes) (i : ℕ) (id : Bytes) (xs ys : List Object) → slice_get ids i ≡ Some id → ys ≡ filter (λ o. not (is_at key id o)) xs → without_each key (drop (i + 1) ids) ys ≡ without_each key (drop i ids) xs
one_out key ids i id xs ys at is = let one : i + 1 ≡ suc i = omega arith in ap (without_each key (drop (i + 1) ids)) is ∙ ap (λ (n : ℕ). without_each key (drop n ids) (filter (λ o. not (is_at key id o)) xs)) one ∙ sym (next_out key ids i id xs at)

-- what holds of each object

module _ (P : Object → Type 0) where
  all_without : (key : Bytes) (ids : List Bytes) (xs : List Object) → AllByRecursion P xs → AllByRecursion P (without_each key ids xs)
  all_without key [] xs ps = ps
  all_without key (id ∷ ids) xs ps = all_without key ids (filter (λ o. not (is_at key id o)) xs) (each-filter P (λ o. not (is_at key id o)) xs ps)

  pub all_moved : (xs : List Object) (action : ObjectChange) → HoldsOfPut P action → AllByRecursion P xs → AllByRecursion P (moved xs action)
  all_moved xs Stay h ps = ps
  all_moved xs (Put o) h ps = each-put_in P object_before o xs h ps
  all_moved xs (Delete key id) h ps = each-filter P (λ o. not (is_at key id o)) xs ps
  all_moved xs (DeleteEach key ids) h ps = all_without key ids xs ps
  all_moved xs (DropKey key) h ps = each-filter P (λ o. not (has_key key o)) xs ps
  all_moved xs Clear h ps = tt

-- what is due from a moment on is not due before an earlier one
due_earlier : (due_from less : ℕ) → less ≤ due_from → (xs : List Object) → AreDueFrom due_from xs → AreDueFrom less xs
due_earlier due_from less le [] ps = tt
due_earlier due_from less le (x ∷ xs) ps = (λ d e. let far = ps.0 d e in omega (arith, le, far), due_earlier due_from less le xs ps.1)

pub due_from_moved : (due_from less : ℕ) (xs : List Object) (action : ObjectChange) → less ≤ due_from → HoldsOfPut (IsDueFrom less) action → AreDueFrom due_from xs → AreDueFrom less (moved xs action)
due_from_moved due_from less xs action le h ps = all_moved (IsDueFrom less) xs action h (due_earlier due_from less le xs ps)
