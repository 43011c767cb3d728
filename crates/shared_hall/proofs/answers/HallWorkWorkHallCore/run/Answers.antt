use Rattle.shared_hall.specs.Turns.{acts, note_by}
use Rattle.shared_hall.proofs.Turning.{stands_more}
use Rattle.shared_hall.proofs.answers.HallWorkWorkHallCore.run.Goals as goal

pub returns-clause-adds : goal.returns-clause-adds
returns-clause-adds g c = let m = g.D.Disk in let old = c.args.value.now in let new = c.answer.new.core in
    λ b log s. stands_more m.crashes m.seen m.images m.moment m.left_since m.faults g.met.D.Disk.from_earlier g.met.D.Disk.only_now old new (acts c.args.self c.answer.result) (note_by c.args.self c.answer.result) b log c.answer.ensures.handed c.answer.ensures.turn s
