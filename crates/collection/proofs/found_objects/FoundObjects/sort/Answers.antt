use Rattle.std.proofs.Common.{rules, Bor}
use Rattle.std.specs.Ordering.{nat_cmp, is_lt}
use Rattle.std.specs.Cmp.Lexicographic.{slice_cmp}
use Rattle.std.proofs.lemmas.Cmp.{nat_list_cmp_total}
use Rattle.std.proofs.lemmas.Fn.{always_returns_same}
use Rattle.std.proofs.lemmas.List.Sorted.{IsPermutation-map, ranks_by}
use Rattle.world_data.specs.declared.objects.Object.{Object}
use Rattle.collection.proofs.SortedMap.{sorted_map}
use Rattle.collection.proofs.found_objects.FoundObjects.sort.Goals as goal

pub returns-clause-objects : goal.returns-clause-objects
returns-clause-objects c = rw (← c.self.view_is) (IsPermutation-map (λ (r : Bor Object). r.now) c.self.inside.objects.items c.sort_unstable_by.new.self.items c.sort_unstable_by.ensures.permutation)

pub returns-clause-order : goal.returns-clause-order
returns-clause-order c =
    let up = c.sort_unstable_by.ensures.sorted (λ (a b : Bor Object). is_lt (slice_cmp nat_cmp a.now.id b.now.id)) (ranks_by nat_list_cmp_total (λ (r : Bor Object). r.now.id)) (always_returns_same _ _ _ (λ a r f k. search rules)) in
    sorted_map (λ (r : Bor Object). r.now) (λ x y. is_lt (slice_cmp nat_cmp x.id y.id)) c.sort_unstable_by.new.self.items up
