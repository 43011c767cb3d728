use Rattle.std.proofs.Common.{sym}
use Rattle.live_fence.proofs.Spellings.{cannot_be}
use Rattle.live_fence.proofs.pairs.live_pair.Goals as goal

pub returns-then-not-may_be_live : goal.returns-then-not-may_be_live
returns-then-not-may_be_live c = sym (cannot_be c.args.session c.args.request.now (sym c.if-not-may_be_live.ensures))
