use Rattle.command_plans.proofs.SessionEffects.{any_held}
use Rattle.command_plans.proofs.sessions.has_any.Goals as goal

pub returns : goal.returns
returns c = any_held c.len.result c.args.subs.now c.len.ensures.count
