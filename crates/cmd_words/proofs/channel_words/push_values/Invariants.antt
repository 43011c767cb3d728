use Rattle.std.proofs.Common.{◌≡◌, ◌++◌, map, take}
use Rattle.world_data.specs.Filters.{value_text}
use Rattle.cmd_words.proofs.channel_words.push_values.Given as goal

-- the words of the values that were passed stand last
abbrev pub invariant-loop-at : goal.invariant-loop-at
invariant-loop-at l = l.words ≡ l.fn.words ++ map value_text (take l.at l.values)
