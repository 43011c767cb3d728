use Rattle.record_reader.specs.Reading.{IsName}
use Rattle.record_reader.proofs.Parts.{one_found, one_lacks}
use Rattle.record_reader.proofs.record_reader.RecordReader.name.Goals as goal

pub returns : goal.returns
returns c = one_found (λ n. n) IsName c.in-Some.word.now c.args.self.now c.next.new.self c.name_of.result c.in-Some.ensures c.name_of.ensures

pub returns-in_default : goal.returns-in_default
returns-in_default c = one_lacks (λ n. n) IsName c.args.self.now c.next.new.self c.in_default.ensures.1
