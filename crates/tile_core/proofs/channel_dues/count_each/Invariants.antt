use Rattle.std.proofs.Common.{◌≡◌, take}
use Rattle.tile_core.specs.Dues.{AreCounted}
use Rattle.tile_core.proofs.channel_dues.count_each.Given as goal

-- the first channels are counted
abbrev pub invariant-loop-i : goal.invariant-loop-i
invariant-loop-i l = record {
  counted : AreCounted l.total (take l.i l.out) l.gone;
  due_from : l.gone.due_from ≡ l.due_from;
}
