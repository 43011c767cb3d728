use Rattle.world_model.specs.Commands.{test_words}
use Rattle.cmd_words.proofs.Growing.{words_more}
use Rattle.cmd_words.proofs.channel_words.push_tests.Goals as goal

pub loop-at-preserved : goal.loop-at-preserved
loop-at-preserved c = words_more c.args.tests.now c.loop-at.at c.at.result.now c.at.ensures c.args.words.now c.loop-at.words c.push_test.new.words test_words c.loop-at.invariant c.in_ok-push_test.ensures
