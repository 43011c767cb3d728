use Rattle.std.proofs.Common.{sym, ◌∙◌}
use Rattle.session_run.proofs.Showing.{set_at, none_next}
use Rattle.session_run.proofs.live.sets_one.Goals as goal

pub returns-then-sets : goal.returns-then-sets
returns-then-sets c = sym (set_at c.args.number c.args.asked.now c.loop-at.at c.args.count c.at.result.now c.loop-at-test.true c.at.ensures (sym c.sets.ensures ∙ c.if-sets.true))

pub loop-at-preserved : goal.loop-at-preserved
loop-at-preserved c = none_next c.args.number c.args.asked.now c.loop-at.at c.at.result.now c.at.ensures (sym c.sets.ensures ∙ c.if-sets.false) c.loop-at.invariant
