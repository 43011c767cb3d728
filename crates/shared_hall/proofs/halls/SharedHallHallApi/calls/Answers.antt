use Rattle.shared_hall.specs.Seats.{first_writing, handed_of}
use Rattle.shared_hall.proofs.AnswerKinds.{called, called_back, called_count, called_out}
use Rattle.shared_hall.proofs.halls.SharedHallHallApi.calls.Goals as goal

pub returns-clause-count : goal.returns-clause-count
returns-clause-count g c = let m = g.D.Disk in called_count m.crashes m.seen m.images m.moment m.left_since m.faults (handed_of c.args.self.now) (first_writing c.args.self.now) _ _ _ _ _ _ _ c.in-Called.is c.turn.ensures.done

pub returns-clause-back : goal.returns-clause-back
returns-clause-back g c = let m = g.D.Disk in called_back m.crashes m.seen m.images m.moment m.left_since m.faults (handed_of c.args.self.now) (first_writing c.args.self.now) _ _ _ _ _ _ _ c.in-Called.is c.turn.ensures.done

pub returns-clause-entries : goal.returns-clause-entries
returns-clause-entries g c = let m = g.D.Disk in called m.crashes m.seen m.images m.moment m.left_since m.faults (handed_of c.args.self.now) (first_writing c.args.self.now) _ _ _ _ _ _ _ c.in-Called.is c.turn.ensures.done

pub unreachable-requires : goal.unreachable-requires
unreachable-requires g c = let m = g.D.Disk in let k = called_out m.crashes m.seen m.images m.moment m.left_since m.faults (handed_of c.args.self.now) (first_writing c.args.self.now) _ _ _ _ c.turn.ensures.done in c.in_default.not-Called k.0 k.1 k.2 k.3
