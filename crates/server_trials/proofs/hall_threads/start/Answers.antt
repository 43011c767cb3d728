use denote.Param.{copied}
use denote.Param.Send.{IsSend, sendable, param_send}
use denote.Param.SendFields.{declared_send}
use Rattle.std.proofs.Crossing.{crosses}
use Rattle.std.proofs.alloc.Global.TheSendSync as heap
use Rattle.atomic_table.proofs.shared.Seat.TheSendSync as seat
use Rattle.outside.proofs.plain_disks.PlainDisk.TheSendSync as disk
use Rattle.shared_hall.proofs.Crosses.{hall_core_send, shared_hall_send, shared_hall_sync, work_send, answer_send}
use Rattle.server_trials.proofs.hall_threads.start.Goals as goal
use Rattle.server_trials.proofs.hall_threads.start.Lts as lts

pub spawn-requires-send-F : goal.spawn-requires-send-F
spawn-requires-send-F g c κs live =
    let r : IsSend (copied 0 g.row.R) = search (c.type_bounds.send-R, sendable) in
    let a : IsSend (lts.of-28 g.row.R g.R.laws g.R.copy g.R.Wait-dict g.R.Threads-dict g.R.Clone-dict) = search (shared_hall_send, shared_hall_sync, disk.the_send, crosses, sendable) depth 60 fits 20000 in
    let o : IsSend (lts.of-34 g.row.R g.R.laws g.R.copy g.R.Wait-dict g.R.Threads-dict g.R.Clone-dict) = search (hall_core_send, work_send, answer_send, disk.the_send, crosses, sendable) depth 60 fits 20000 in
    let s : IsSend (lts.of-36 g.row.R g.R.laws g.R.copy g.R.Wait-dict g.R.Threads-dict g.R.Clone-dict) = search (o, seat.the_send, crosses, sendable) depth 60 fits 20000 in
    let R = lts.arg-6-1 g.row.R g.R.laws g.R.copy g.R.Wait-dict g.R.Threads-dict g.R.Clone-dict κs in
    let t : IsSend (lts.of-40 g.row.R g.R.laws g.R.copy g.R.Wait-dict g.R.Threads-dict g.R.Clone-dict) = search (declared_send, r, a, s, heap.the_send) depth 60 fits 20000 in
    param_send 1 R (search (t, sendable))
