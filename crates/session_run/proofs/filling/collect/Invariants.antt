use Rattle.std.proofs.Common.{◌≡◌, ◌≤◌, ◌-◌, [], length, true, drop}
use Rattle.std.specs.List.{list_all}
use Rattle.world_model.specs.Outcomes.{is_proper}
use Rattle.session_run.specs.Feeds.{Feeds, asked_behind}
use Rattle.session_run.proofs.filling.collect.Given as goal

abbrev pub invariant-loop-alloc : goal.invariant-loop-alloc
invariant-loop-alloc l = record {
  within : l.taken ≤ length l.bytes;
  few : length l.asked ≤ 64;
  proper : list_all is_proper l.asked ≡ true;
  feeds : Feeds l.number l.initial.reader l.bytes l.reader (drop l.taken l.bytes) l.asked;
  dry : asked_behind l.reader [] ≡ [];
}

abbrev pub decreases-loop-alloc : goal.decreases-loop-alloc
decreases-loop-alloc l = 64 - length l.asked
