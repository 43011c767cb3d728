use Rattle.std.proofs.Common.{◌≡◌, ◌<◌, false, rules, length, subst, sym, ◌∙◌, arith}
use Rattle.std.proofs.lemmas.List.Sorted.{IsPartitionPoint-from_clause}
use Rattle.std.specs.Prelude.{nat_lt}
use Rattle.ordered_lists.specs.Reading.{stands_at}
use Rattle.session_table.specs.Sessions.{State}
use Rattle.tile_core.proofs.Halving.{parted, all_lesser, other}
use Rattle.tile_core.proofs.sessions.position_of.Goals as goal

pub returns-then-at-sessions-clause-absent : goal.returns-then-at-sessions-clause-absent
returns-then-at-sessions-clause-absent c =
    let n = c.args.number in
    let xs = c.args.sessions.now in
    let at = c.partition_point-at.result in
    let parts = IsPartitionPoint-from_clause (λ (s : State). nat_lt s.number n) xs at c.partition_point-at.ensures.partitioned (parted n xs c.requires) (λ a r f' called. search rules) in
    let end : at ≡ length xs = omega arith in
    λ k s here. all_lesser xs n at k s here parts.0 end

pub returns-then-number-clause-found : goal.returns-then-number-clause-found
returns-then-number-clause-found c =
    let xs = c.args.sessions.now in
    let at = c.partition_point-at.result in
    let x = c.index-sessions-at.result in
    let bound = c.partition_point-at.ensures.bound in
    let within : at < length xs = omega arith in
    record { session = x; here = stands_at xs at x within c.index-sessions-at.is; numbered = sym c.number.ensures ∙ c.if-number.true }

pub returns-else-number-clause-absent : goal.returns-else-number-clause-absent
returns-else-number-clause-absent c =
    let n = c.args.number in
    let xs = c.args.sessions.now in
    let at = c.partition_point-at.result in
    let x = c.index-sessions-at.result in
    let parts = IsPartitionPoint-from_clause (λ (s : State). nat_lt s.number n) xs at c.partition_point-at.ensures.partitioned (parted n xs c.requires) (λ a r f' called. search rules) in
    let bound = c.partition_point-at.ensures.bound in
    let within : at < length xs = omega arith in
    let fails : nat_lt x.number n ≡ false = subst (λ (s : State). nat_lt s.number n ≡ false) (sym c.index-sessions-at.is) (parts.1 at x (omega arith) within) in
    λ k s here. other xs n at k s here c.requires parts.0 x (stands_at xs at x within c.index-sessions-at.is) fails (λ e. c.if-number.false (c.number.ensures ∙ e))
