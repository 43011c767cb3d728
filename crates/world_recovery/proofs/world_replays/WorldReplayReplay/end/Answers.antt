use Rattle.std.proofs.Common.{◌≡◌, ◌≤◌, ℕ, length, Some, subst, sym, arith}
use Rattle.world_recovery.specs.Recorded.{record_fault}
use Rattle.world_recovery.specs.Replayed.{Replayed, StandsFor}
use Rattle.world_recovery.proofs.Steps.{cut_there, whole_there, stands_ended}
use Rattle.world_recovery.proofs.world_replays.WorldReplayReplay.end.Goals as goal

pub returns-then-self-clause-refused : goal.returns-then-self-clause-refused
returns-then-self-clause-refused c = λ v batches part stands at is.
    let s = c.self.inside in
    let here = subst (λ (r : Replayed). StandsFor r v batches part) (sym c.self.view_is) stands in
    let cut = cut_there v s.world s.records s.taken s.place batches part here.1 (omega (arith, c.if-self.true)) in
    let same : s.place ≡ at = cc is in
    subst (λ (k : ℕ). (k ≤ length part) × (record_fault v part ≡ Some k)) same cut

pub returns-clause-took : goal.returns-clause-took
returns-clause-took c = λ v batches part stands.
    let s = c.self.inside in
    let here = subst (λ (r : Replayed). StandsFor r v batches part) (sym c.self.view_is) stands in
    (here.0, stands_ended v s.world s.records s.taken s.place batches part here.1 (omega (arith, c.if-self.false)))

pub returns-clause-whole : goal.returns-clause-whole
returns-clause-whole c = λ v batches part stands.
    let s = c.self.inside in
    let here = subst (λ (r : Replayed). StandsFor r v batches part) (sym c.self.view_is) stands in
    whole_there v s.world s.records s.taken s.place batches part here.1 (omega (arith, c.if-self.false))
