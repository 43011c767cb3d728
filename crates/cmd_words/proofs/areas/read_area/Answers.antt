use Rattle.cmd_words.proofs.AreaWords.{area_read, no_area}
use Rattle.cmd_words.proofs.areas.read_area.Goals as goal

pub returns-in-Some : goal.returns-in-Some
returns-in-Some c = area_read c.args.reader.now c.area_word.new.reader c.read_behind.new.reader c.in-Some.word c.in-Some.ensures c.read_behind.result c.read_behind.ensures

pub returns-in-None : goal.returns-in-None
returns-in-None c = no_area c.args.reader.now c.area_word.new.reader c.area_word.new.reader c.refusal.result c.in-None.ensures c.refusal.ensures
