use Rattle.cmd_words.specs.SearchWords.{first_of}
use Rattle.cmd_words.proofs.ValueTests.{ahead_found, ahead_lacks}
use Rattle.cmd_words.proofs.request_reader.Reader.first_value.Goals as goal

pub returns-in-Some : goal.returns-in-Some
returns-in-Some c = ahead_found first_of c.args.self.now c.next.new.self c.in-Some.word.now c.read_first.result c.in-Some.ensures c.read_first.ensures

pub returns-in-None : goal.returns-in-None
returns-in-None c = ahead_lacks first_of c.args.self.now c.next.new.self c.wrong_count.result c.in-None.ensures c.wrong_count.ensures
