use Rattle.std.proofs.Common.{◌≡◌, ◌++◌, take}
use Rattle.std.specs.Prelude.{flat_map}
use Rattle.world_model.specs.Commands.{test_words}
use Rattle.cmd_words.proofs.channel_words.push_tests.Given as goal

-- the words of the tests that were passed stand last
abbrev pub invariant-loop-at : goal.invariant-loop-at
invariant-loop-at l = l.words ≡ l.fn.words ++ flat_map test_words (take l.at l.tests)
