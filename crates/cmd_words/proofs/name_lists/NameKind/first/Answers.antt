use Rattle.world_model.specs.Grammar.{a_word}
use Rattle.cmd_words.specs.NameLists.{kind_of}
use Rattle.cmd_words.proofs.Ends.{one_found, one_lacks}
use Rattle.cmd_words.proofs.name_lists.NameKind.first.Goals as goal

pub returns-in-Some : goal.returns-in-Some
returns-in-Some c = one_found a_word (kind_of c.args.self) c.args.reader.now c.next.new.self c.in-Some.word.now c.read.result c.in-Some.ensures c.read.ensures

pub returns-in-None : goal.returns-in-None
returns-in-None c = one_lacks a_word (kind_of c.args.self) c.args.reader.now c.next.new.self c.wrong_count.result c.in-None.ensures c.wrong_count.ensures
