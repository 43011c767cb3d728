use Rattle.std.proofs.Common.{◌≡◌, [], map, take}
use Rattle.world_model.specs.Halls.{NamesChanged}
use Rattle.world_model.specs.Outcomes.{call_act}
use Rattle.world_model.specs.declared.events.CallOutcome.TheVariants as called
use Rattle.tile_core.specs.Answered.{AreSessions}
use Rattle.shared_hall.specs.Cores.{hall_in, disk_in, ActsInFront, TurnsBy}
use Rattle.shared_hall.proofs.answers.call_each.Given as goal

abbrev pub invariant-loop-i : goal.invariant-loop-i
invariant-loop-i g l = record {
  handed : l.core.handed ≡ l.initial.core.handed;
  front : ActsInFront g.D.Disk.crashes g.D.Disk.seen g.D.Disk.images g.D.Disk.moment g.D.Disk.left_since g.D.Disk.faults (map (call_act l.session l.moment called.Ok) (take l.i l.asked)) l.initial.core.place l.core.place;
  turn : TurnsBy g.D.Disk.crashes g.D.Disk.seen g.D.Disk.images g.D.Disk.moment g.D.Disk.left_since g.D.Disk.faults (map (call_act l.session l.moment called.Ok) (take l.i l.asked)) [] (disk_in l.core.before.value) l.initial.core.place l.core.place;
  named : NamesChanged l.touched (hall_in l.initial.core.place) (hall_in l.core.place);
  room : AreSessions l.touched (hall_in l.core.place);
}
