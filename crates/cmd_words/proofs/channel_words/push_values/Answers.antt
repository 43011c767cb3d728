use Rattle.world_data.specs.Filters.{value_text}
use Rattle.cmd_words.proofs.Growing.{word_more}
use Rattle.cmd_words.proofs.channel_words.push_values.Goals as goal

pub loop-at-preserved : goal.loop-at-preserved
loop-at-preserved c =
    word_more c.args.values.now c.loop-at.at c.at.result.now c.at.ensures c.args.words.now c.loop-at.words c.push_value.new.self value_text c.loop-at.invariant c.in_ok-push_value.ensures
