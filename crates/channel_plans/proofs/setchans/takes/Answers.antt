use Rattle.std.proofs.Common.{◌+◌, ◌≤◌, ◌<◌, length, arith}
use Rattle.byte_text.specs.Requests.{max_word, max_words}
use Rattle.record_writer.specs.LengthLaws.{fits_one_more, within_limit}
use Rattle.channel_plans.proofs.setchans.takes.Goals as goal

pub returns-clause-fits : goal.returns-clause-fits
returns-clause-fits c = λ e.
    let words = c.args.words.now in
    let word = c.args.word.now in
    let few : length words < max_words = omega (arith, c.if-words-ge-MAX_WORDS.false, c.words.ensures.count) in
    let short : length word ≤ max_word = omega (arith, c.if-word-gt-MAX_WORD.false) in
    let small = within_limit (c.bytes_of.result + length word) e in
    fits_one_more words word c.words.ensures.fits few short (omega (arith, small, c.bytes_of.ensures))
