use Rattle.std.proofs.Common.{◌≡◌, take}
use Rattle.cmd_words.proofs.channel_words.Words.request.Given as goal

-- the request has the words that were passed
abbrev pub invariant-loop-text : goal.invariant-loop-text
invariant-loop-text l = l.words ≡ take l.text-index l.text-items
