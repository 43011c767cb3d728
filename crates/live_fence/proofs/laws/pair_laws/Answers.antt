use Rattle.live_fence.proofs.Asking.{pairs_ask}
use Rattle.live_fence.proofs.laws.pair_laws.Goals as goal

pub returns : goal.returns
returns c = pairs_ask
