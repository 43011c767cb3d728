use Rattle.std.proofs.Common.{sym}
use Rattle.fence_backtest.proofs.ZoneLaws.{other_command}
use Rattle.fence_backtest.proofs.requests.zone_set.Goals as goal

pub returns-in_default : goal.returns-in_default
returns-in_default c = sym (other_command c.args.command c.in_default.not-Setchan)
