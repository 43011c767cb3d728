use Rattle.std.proofs.Common.{◌≡◌, ◌++◌, map, drop}
use Rattle.byte_text.specs.Replies.{array, bulk}
use Rattle.reply_text.proofs.WordParts.{pieces}
use Rattle.reply_text.proofs.channels.push_words.Given as goal

abbrev pub invariant-loop-at : goal.invariant-loop-at
invariant-loop-at l = l.draft ++ pieces (drop l.at l.words) ≡ l.fn.draft ++ array (map bulk l.fn.words)
