use Rattle.std.proofs.Common.{refl}
use Rattle.turn_lock.specs.Seats.{known_of}
use Rattle.shared_hall.specs.Cores.{tells}
use Rattle.shared_hall.specs.Seats.{first_writing, handed_of}
use Rattle.shared_hall.specs.Turns.{acts}
use Rattle.shared_hall.proofs.Adding.{is_done, none_kept, same_acts}
use Rattle.shared_hall.proofs.AnswerKinds.{goes_on}
use Rattle.shared_hall.proofs.halls.SharedHall.turn.Goals as goal

pub turn-requires-clause-may : goal.turn-requires-clause-may
turn-requires-clause-may g c = let m = g.D.Disk in
    λ off old out new gives. none_kept _ _ _ (acts c.args.work out) (goes_on m.crashes m.seen m.images m.moment m.left_since m.faults (handed_of c.args.self.now) (first_writing c.args.self.now) c.args.work old.place new.place out gives (c.requires.may off))

pub returns-clause-seat : goal.returns-clause-seat
returns-clause-seat g c = let m = g.D.Disk in
    let handed = handed_of c.args.self.now in
    let t = c.turn.ensures.turn in
    let d = is_done m.crashes m.seen m.images m.moment m.left_since m.faults handed (first_writing c.args.self.now) c.step_laws.ensures.one (tells m.crashes m.seen handed) c.args.work c.turn.result (known_of c.args.seat.now) (known_of c.turn.new.seat) _ t.2 _ t.0.place t.1.place
    refl c.requires.seat.own c.turn.ensures.kept t.4 c.requires.seat.seat.1 t.6 (same_acts _ _ _ (acts c.args.work c.turn.result)) (_, _, refl) t.3.stands t.5.stands in
    record { seat = c.turn.ensures.seat; own = c.turn.ensures.own; legal = d.adds.legal }

pub returns-clause-done : goal.returns-clause-done
returns-clause-done g c = let m = g.D.Disk in
    let handed = handed_of c.args.self.now in
    let t = c.turn.ensures.turn in
    is_done m.crashes m.seen m.images m.moment m.left_since m.faults handed (first_writing c.args.self.now) c.step_laws.ensures.one (tells m.crashes m.seen handed) c.args.work c.turn.result (known_of c.args.seat.now) (known_of c.turn.new.seat) _ t.2 _ t.0.place t.1.place
    refl c.requires.seat.own c.turn.ensures.kept t.4 c.requires.seat.seat.1 t.6 (same_acts _ _ _ (acts c.args.work c.turn.result)) (_, _, refl) t.3.stands t.5.stands
