use Rattle.std.proofs.Common.{◌≡◌, ◌≤◌, take}
use Rattle.world_model.specs.Effects.{changed_count}
use Rattle.object_plans.proofs.changes.changed_given.Given as goal

abbrev pub invariant-loop-i : goal.invariant-loop-i
invariant-loop-i l = record {
  counted : l.count ≡ changed_count l.fields (take l.i l.given);
  few : l.count ≤ l.i;
}
