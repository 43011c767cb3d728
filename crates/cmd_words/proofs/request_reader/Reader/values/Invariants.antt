use Rattle.std.proofs.Common.{◌-◌}
use Rattle.cmd_words.proofs.ValueLists.{HasValues}
use Rattle.cmd_words.proofs.request_reader.Reader.values.Given as goal

abbrev pub invariant-loop : goal.invariant-loop
invariant-loop l = HasValues l.count l.fn.self l.self (l.count - l.counter) l.values
