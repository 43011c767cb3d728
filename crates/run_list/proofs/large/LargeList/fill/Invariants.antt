use Rattle.std.proofs.Common.{◌≡◌, ◌+◌, ◌++◌, take}
use Rattle.run_list.proofs.large.LargeList.fill.Given as goal

abbrev pub invariant-loop-number : goal.invariant-loop-number
invariant-loop-number l = record {
  items : l.self.items ≡ l.fn.self.items ++ take l.number-index l.numbers;
  spare : l.self.spare + l.number-index ≡ l.fn.self.spare;
}
