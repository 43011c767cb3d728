use Rattle.std.proofs.Common.{◌≡◌, true, take}
use Rattle.std.specs.List.{list_all}
use Rattle.collection.specs.Objects.{least_due}
use Rattle.keyspace.specs.FirstDue.{is_later}
use Rattle.keyspace.proofs.deadlines.first_known.Given as goal

-- the keys so far have later deadlines
abbrev pub invariant-loop-at : goal.invariant-loop-at
invariant-loop-at l = list_all (λ e. is_later l.known.1 (least_due e.objects)) (take l.at l.list) ≡ true
