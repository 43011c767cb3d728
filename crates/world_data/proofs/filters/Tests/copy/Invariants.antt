use Rattle.std.proofs.Common.{◌≡◌, take}
use Rattle.world_data.proofs.filters.Tests.copy.Given as goal

-- the list has copies of what was passed
abbrev pub invariant-loop-test : goal.invariant-loop-test
invariant-loop-test l = l.list.items ≡ take l.test-index l.test-items
