use Rattle.std.proofs.Common.{take}
use Rattle.keyspace.specs.FirstDue.{Soonest}
use Rattle.keyspace.proofs.deadlines.first_of_all.Given as goal

-- what is found among the entries so far
abbrev pub invariant-loop-at : goal.invariant-loop-at
invariant-loop-at l = Soonest (take l.at l.list) l.found
