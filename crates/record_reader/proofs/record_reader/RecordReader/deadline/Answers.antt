use Rattle.std.proofs.lemmas.Result.{err_from_is_err_and}
use Rattle.record_reader.proofs.PutParts.{no_deadline, moment_refused, moment_found}
use Rattle.record_reader.proofs.record_reader.RecordReader.deadline.Goals as goal

pub returns-then-not-takes : goal.returns-then-not-takes
returns-then-not-takes c = let left = c.takes.ensures.left c.if-not-takes.true in no_deadline c.args.self.now c.takes.new.self left.0 left.1

pub returns-in_err-moment : goal.returns-in_err-moment
returns-in_err-moment c =
    let p = err_from_is_err_and c.from_residual.result c.from_residual.ensures.1 in
    rw (p.1, p.2) (moment_refused c.args.self.now c.takes.new.self (c.takes.ensures.taken c.if-not-takes.false) c.moment.new.self _ c.in_err-moment.ensures)

pub returns : goal.returns
returns c = moment_found c.args.self.now c.takes.new.self (c.takes.ensures.taken c.if-not-takes.false) c.in_ok-moment.moment c.moment.new.self c.in_ok-moment.ensures
