use Rattle.cmd_words.proofs.SetchanWords.{kind_read, no_kind}
use Rattle.cmd_words.proofs.setchans.read_kind.Goals as goal

pub returns-in-Some : goal.returns-in-Some
returns-in-Some c = kind_read c.args.reader.now c.kind_next.new.reader c.in-Some.kind c.in-Some.ensures

pub returns-in-None : goal.returns-in-None
returns-in-None c = no_kind c.args.reader.now c.kind_next.new.reader c.kind_next.new.reader c.refusal.result c.in-None.ensures c.refusal.ensures
