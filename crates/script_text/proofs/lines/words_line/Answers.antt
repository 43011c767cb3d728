use Rattle.script_text.proofs.WordLaws.{four_and_more}
use Rattle.script_text.proofs.lines.words_line.Goals as goal

pub returns-in_default-Some : goal.returns-in_default-Some
returns-in_default-Some c =
    four_and_more c.args.bytes.now c.split_word.result.0.now c.split_word-2.result.0.now c.split_word-3.result.0.now c.split_word-4.result.0.now
    c.split_word.result.1 c.split_word-2.result.1 c.split_word-3.result.1 c.split_word-4.result.1
    c.in-Some.rest c.in-Some-rest.rest c.in-Some-rest-2.rest c.in_default-Some.field-0-1
    c.split_word.ensures c.in-Some.is c.split_word-2.ensures c.in-Some-rest.is c.split_word-3.ensures c.in-Some-rest-2.is c.split_word-4.ensures c.in_default-Some.is-1
