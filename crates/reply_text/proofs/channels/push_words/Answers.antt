use Rattle.std.proofs.Common.{◌++◌, map}
use Rattle.byte_text.specs.Replies.{array, bulk}
use Rattle.reply_text.proofs.WordParts.{written, begun}
use Rattle.reply_text.proofs.channels.push_words.Goals as goal

pub loop-at-init : goal.loop-at-init
loop-at-init c = begun c.args.words.now _ c.args.draft.now c.head.new.self c.words.ensures.count c.in_ok-head.ensures

pub loop-at-preserved : goal.loop-at-preserved
loop-at-preserved c = written c.args.words.now c.loop-at.at c.word.result.now c.loop-at.draft c.bulk.new.self (c.args.draft.now ++ array (map bulk c.args.words.now)) c.word.ensures c.in_ok-bulk.ensures c.loop-at.invariant
