use Rattle.script_text.proofs.WordLaws.{none_found, one_found}
use Rattle.script_text.proofs.line_words.split_word.Goals as goal

pub returns-in-None : goal.returns-in-None
returns-in-None c = none_found c.args.bytes.now c.in-None.ensures

pub returns-in-Some : goal.returns-in-Some
returns-in-Some c = one_found c.args.bytes.now c.in-Some.at c.in-Some.ensures
