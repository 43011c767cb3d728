use Rattle.session_table.specs.FanLaws.{bare_staged}
use Rattle.message_fanout.proofs.Turns.{quiet_more, without_channels}
use Rattle.message_fanout.proofs.laws.turn_laws.Goals as goal

pub returns : goal.returns
returns c = record { first = bare_staged; silent = quiet_more; channels = without_channels }
