use Rattle.record_reader.proofs.PutParts.{no_text, last_refused, text_read}
use Rattle.record_reader.proofs.puts.read_text.Goals as goal

pub returns-then-not-takes : goal.returns-then-not-takes
returns-then-not-takes c = let left = c.takes.ensures.left c.if-not-takes.true in no_text c.args.reader.now left.1

pub returns-in_default : goal.returns-in_default
returns-in_default c = last_refused c.args.reader.now c.takes.new.self (c.takes.ensures.taken c.if-not-takes.false) c.in_default.ensures

pub returns : goal.returns
returns c = text_read c.args.reader.now c.takes.new.self (c.takes.ensures.taken c.if-not-takes.false) c.in-Some.word.now c.in-Some.ensures c.place_of.result c.place_of.ensures
