use Rattle.std.proofs.Common.{rules, Bor}
use Rattle.std.specs.Ordering.{nat_cmp, is_lt}
use Rattle.std.specs.Cmp.Lexicographic.{slice_cmp}
use Rattle.std.proofs.lemmas.Cmp.{nat_list_cmp_total}
use Rattle.std.proofs.lemmas.Fn.{always_returns_same}
use Rattle.std.proofs.lemmas.List.Sorted.{IsPermutation-map, ranks_by}
use Rattle.world_data.specs.declared.channels.Channel.{Channel}
use Rattle.channel_hub.proofs.Sorted.{sorted_map}
use Rattle.channel_hub.proofs.candidates.Candidates.sort.Goals as goal

pub returns-clause-channels : goal.returns-clause-channels
returns-clause-channels c = rw (← c.self.view_is) (IsPermutation-map (λ (r : Bor Channel). r.now) c.self.inside.channels.items c.sort_unstable_by.new.self.items c.sort_unstable_by.ensures.permutation)

pub returns-clause-order : goal.returns-clause-order
returns-clause-order c =
    let up = c.sort_unstable_by.ensures.sorted (λ (a b : Bor Channel). is_lt (slice_cmp nat_cmp a.now.name b.now.name)) (ranks_by nat_list_cmp_total (λ (r : Bor Channel). r.now.name)) (always_returns_same _ _ _ (λ a r f k. search rules)) in
    sorted_map (λ (r : Bor Channel). r.now) (λ x y. is_lt (slice_cmp nat_cmp x.name y.name)) c.sort_unstable_by.new.self.items up
