use Rattle.std.proofs.Common.{ap}
use Rattle.shared_hall.specs.Turns.{retire_outcome}
use Rattle.shared_hall.specs.Seats.{first_writing, handed_of, knows_of}
use Rattle.tile_top.proofs.Fronting.{behind_as, counts_as, given_left, given_well, given_written}
use Rattle.tile_top.proofs.serves.retire_hall.Goals as goal

pub returns-in-Some-clause-front : goal.returns-in-Some-clause-front
returns-in-Some-clause-front g c = record {
  retired = retire_outcome c.retire-given.result;
  retires = c.retire-given.ensures.entry;
  ended = behind_as _ _ _ _ _ _ (ap retire_outcome c.in-Some.is) c.end_behind.ensures.ended;
}

pub returns-in-Some-clause-safe : goal.returns-in-Some-clause-safe
returns-in-Some-clause-safe g c told =
    let r = c.retire-given.ensures in
    given_left g.D.Disk.seen g.D.Disk.images g.D.Disk.moment g.D.Disk.left_since (handed_of c.args.hall.now) (first_writing c.args.hall.now) (knows_of c.args.seat) (knows_of c.retire-given.new.seat) c.retire-given.result (c.in-Some.disk, c.in-Some.answer) c.in-Some.is r.entry (r.safe told) (r.stands told) (r.lasts told) (r.carries told)

pub returns-in-None-clause-front : goal.returns-in-None-clause-front
returns-in-None-clause-front g c = record {
  retired = retire_outcome c.retire-given.result;
  retires = c.retire-given.ensures.entry;
  ended = behind_as _ _ _ _ _ _ (ap retire_outcome c.in-None.is) c.end_behind-in-None.ensures.ended;
}

pub returns-in-None-clause-given : goal.returns-in-None-clause-given
returns-in-None-clause-given g c due =
    let r = c.retire-given.ensures in
    absurd (given_well (knows_of c.args.seat) (knows_of c.retire-given.new.seat) c.retire-given.result c.in-None.is r.once r.entry due)

pub returns-in-Some-clause-counted : goal.returns-in-Some-clause-counted
returns-in-Some-clause-counted g c handed begun =
    let r = c.retire-given.ensures in
    counts_as g.D.Disk.faults handed (knows_of c.args.seat) (knows_of c.retire-given.new.seat) c.retire-given.result (c.in-Some.disk, c.in-Some.answer) c.in-Some.is r.entry.opening begun r.counted

pub returns-in-Some-clause-rewritten : goal.returns-in-Some-clause-rewritten
returns-in-Some-clause-rewritten g c told =
    let r = c.retire-given.ensures in
    given_written g.D.Disk.seen (first_writing c.args.hall.now) (knows_of c.args.seat) (knows_of c.retire-given.new.seat) c.retire-given.result (c.in-Some.disk, c.in-Some.answer)
    c.in-Some.is r.entry (r.generation told)
