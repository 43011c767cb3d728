use Rattle.std.proofs.Common.{◌≡◌, ◌≤◌}
use Rattle.tile_top.proofs.follows.next_link.Given as goal

-- nobody came so far
abbrev pub invariant-loop : goal.invariant-loop
invariant-loop g l = record {
  next : (goal.iterator-loop g).can_next l.iterator';
  finite : (goal.iterator-loop g).is_finite l.iterator';
  door : g.L.ReadyDoor.shows l.door ≡ record (g.L.ReadyDoor.shows l.initial.door) { faults = (g.L.ReadyDoor.shows l.door).faults };
  looks : (g.L.ReadyDoor.shows l.initial.door).faults ≤ (g.L.ReadyDoor.shows l.door).faults;
  shut : (g.W.WaitForLinks.shows l.wait).shut ≡ (g.W.WaitForLinks.shows l.initial.wait).shut;
  waits : (g.W.WaitForLinks.shows l.initial.wait).faults ≤ (g.W.WaitForLinks.shows l.wait).faults;
}
