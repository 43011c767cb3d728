use Rattle.world_model.specs.Grammar.{a_word}
use Rattle.world_model.specs.Kinds.{value_of_word}
use Rattle.cmd_words.proofs.Ends.{one_found, one_lacks}
use Rattle.cmd_words.proofs.request_reader.Reader.value.Goals as goal

pub returns-in-Some : goal.returns-in-Some
returns-in-Some c = one_found a_word value_of_word c.args.self.now c.next.new.self c.in-Some.word.now c.read_value.result c.in-Some.ensures c.read_value.ensures

pub returns-in-None : goal.returns-in-None
returns-in-None c = one_lacks a_word value_of_word c.args.self.now c.next.new.self c.wrong_count.result c.in-None.ensures c.wrong_count.ensures
