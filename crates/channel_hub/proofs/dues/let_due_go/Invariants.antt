use Rattle.std.proofs.Common.{◌≡◌, length}
use Rattle.channel_hub.specs.Dues.{left_at}
use Rattle.channel_hub.proofs.dues.let_due_go.Given as goal

-- those that are not due are left
abbrev pub invariant-loop-at : goal.invariant-loop-at
invariant-loop-at l = record {
  left : left_at l.now l.all.channels ≡ left_at l.now l.initial.all.channels;
  prepared : l.all.prepared ≡ l.initial.all.prepared;
}

abbrev pub decreases-loop-at : goal.decreases-loop-at
decreases-loop-at l = length l.all.channels
