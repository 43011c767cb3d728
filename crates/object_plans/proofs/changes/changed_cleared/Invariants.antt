use Rattle.std.proofs.Common.{◌≡◌, ◌≤◌, [], take}
use Rattle.world_model.specs.Effects.{changed_count, given_and_cleared}
use Rattle.object_plans.proofs.changes.changed_cleared.Given as goal

abbrev pub invariant-loop-i : goal.invariant-loop-i
invariant-loop-i l = record {
  counted : l.count ≡ changed_count l.fields (given_and_cleared [] (take l.i l.cleared));
  few : l.count ≤ l.i;
}
