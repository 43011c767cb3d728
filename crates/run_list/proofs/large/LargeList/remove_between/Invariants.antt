use Rattle.std.proofs.Common.{◌≡◌, ◌+◌, ◌-◌, ◌≤◌, ◌++◌, take, drop}
use Rattle.run_list.proofs.large.LargeList.remove_between.Given as goal

abbrev pub invariant-loop-left : goal.invariant-loop-left
invariant-loop-left l = record {
  items : l.self.items ≡ take l.from l.fn.self.items ++ drop (l.to - l.left) l.fn.self.items;
  order : l.from + l.left ≤ l.to;
  spare : l.self.spare ≡ l.fn.self.spare + (l.to - l.from - l.left);
}

abbrev pub decreases-loop-left : goal.decreases-loop-left
decreases-loop-left l = l.left
