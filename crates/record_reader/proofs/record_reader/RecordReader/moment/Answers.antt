use Rattle.std.specs.Prelude.{decimal}
use Rattle.record_reader.specs.Reading.{IsMoment}
use Rattle.record_reader.proofs.Parts.{one_found, one_lacks}
use Rattle.record_reader.proofs.record_reader.RecordReader.moment.Goals as goal

pub returns-in-Some : goal.returns-in-Some
returns-in-Some c = one_found (λ n. decimal n) IsMoment c.in-Some.word.now c.args.self.now c.next.new.self c.moment_of.result c.in-Some.ensures c.moment_of.ensures

pub returns-in-None : goal.returns-in-None
returns-in-None c = one_lacks (λ n. decimal n) IsMoment c.args.self.now c.next.new.self c.in-None.ensures.1
