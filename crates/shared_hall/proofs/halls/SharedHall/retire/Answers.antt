use Rattle.shared_hall.specs.Seats.{first_writing, handed_of}
use Rattle.shared_hall.proofs.AnswerKinds.{retired_out}
use Rattle.shared_hall.proofs.Retiring.{retired, given_once, given_counted, given_carries, given_feeds, given_generation, given_lasts, given_safe, given_stands}
use Rattle.shared_hall.proofs.halls.SharedHall.retire.Goals as goal

pub returns-clause-entry : goal.returns-clause-entry
returns-clause-entry g c = let m = g.D.Disk in retired m.crashes m.seen m.images m.moment m.left_since m.faults (handed_of c.args.self.now) (first_writing c.args.self.now) c.turn.result _ _ _ c.in-Retired.is c.turn.ensures.done

pub returns-clause-once : goal.returns-clause-once
returns-clause-once g c = let m = g.D.Disk in given_once m.crashes m.seen m.images m.moment m.left_since m.faults (handed_of c.args.self.now) (first_writing c.args.self.now) c.turn.result _ _ _ c.in-Retired.is c.turn.ensures.done c.requires.first

pub returns-clause-counted : goal.returns-clause-counted
returns-clause-counted g c = let m = g.D.Disk in given_counted m.crashes m.seen m.images m.moment m.left_since m.faults (handed_of c.args.self.now) (first_writing c.args.self.now) c.turn.result _ _ _ c.in-Retired.is c.turn.ensures.done

pub returns-clause-safe : goal.returns-clause-safe
returns-clause-safe g c = let m = g.D.Disk in given_safe m.crashes m.seen m.images m.moment m.left_since m.faults (handed_of c.args.self.now) (first_writing c.args.self.now) c.turn.result _ _ _ c.in-Retired.is c.turn.ensures.done

pub returns-clause-stands : goal.returns-clause-stands
returns-clause-stands g c = let m = g.D.Disk in given_stands m.crashes m.seen m.images m.moment m.left_since m.faults (handed_of c.args.self.now) (first_writing c.args.self.now) c.turn.result _ _ _ c.in-Retired.is c.turn.ensures.done

pub returns-clause-generation : goal.returns-clause-generation
returns-clause-generation g c = let m = g.D.Disk in given_generation m.crashes m.seen m.images m.moment m.left_since m.faults (handed_of c.args.self.now) (first_writing c.args.self.now) c.turn.result _ _ _ c.in-Retired.is c.turn.ensures.done

pub returns-clause-feeds : goal.returns-clause-feeds
returns-clause-feeds g c = let m = g.D.Disk in given_feeds m.crashes m.seen m.images m.moment m.left_since m.faults (handed_of c.args.self.now) (first_writing c.args.self.now) c.turn.result _ _ _ c.in-Retired.is c.turn.ensures.done

pub returns-clause-lasts : goal.returns-clause-lasts
returns-clause-lasts g c = let m = g.D.Disk in given_lasts m.crashes m.seen m.images m.moment m.left_since m.faults (handed_of c.args.self.now) (first_writing c.args.self.now) c.turn.result _ _ _ c.in-Retired.is c.turn.ensures.done

pub returns-clause-carries : goal.returns-clause-carries
returns-clause-carries g c = let m = g.D.Disk in given_carries m.crashes m.seen m.images m.moment m.left_since m.faults (handed_of c.args.self.now) (first_writing c.args.self.now) c.turn.result _ _ _ c.in-Retired.is c.turn.ensures.done

pub unreachable-requires : goal.unreachable-requires
unreachable-requires g c = let m = g.D.Disk in let k = retired_out m.crashes m.seen m.images m.moment m.left_since m.faults (handed_of c.args.self.now) (first_writing c.args.self.now) _ _ _ c.turn.ensures.done in c.in_default.not-Retired k.0 k.1
