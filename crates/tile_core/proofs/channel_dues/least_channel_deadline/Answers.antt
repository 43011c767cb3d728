use Rattle.tile_core.proofs.Counting.{from_least}
use Rattle.tile_core.proofs.channel_dues.least_channel_deadline.Goals as goal

pub returns : goal.returns
returns c = from_least c.args.hub.now.channels c.least_due.result c.unwrap_or.result 18446744073709551615 c.least_due.ensures c.unwrap_or.ensures
