use Rattle.std.proofs.Common.{◌≡◌, ℕ, None, sym, subst}
use Rattle.outside.specs.declared.sides.Side.{Side}
use Rattle.log_sides.specs.Texts.{StandsFor, newest}
use Rattle.log_sides.specs.States.{IsLog}
use Rattle.log_rewrite.specs.NewSides.{ShutOrStands}
use Rattle.journal.specs.Logs.{HoldsOrNew}
use Rattle.journal.specs.Keeping.{IsKept}
use Rattle.journal.specs.Standing.{holds_opened}
use Rattle.journal.proofs.Steps.{kept_finished, leaves_beside, if_ok_three}
use Rattle.journal.proofs.disk_steps.open_new.Goals as goal

pub returns-clause-kept : goal.returns-clause-kept
returns-clause-kept g c side version generation gate batches copied any kept =
    let D = g.D.Disk in
    let old = c.args.disk.now in
    let new = c.finish.new.disk in
    let r = c.args.rewriter in
    if_ok_three c.finish.result (λ made. IsLog (D.crashes new) (D.seen new) (D.images new) r.side newest r.generation made.gate copied) (λ made. made.side ≡ r.side) (λ made. made.generation ≡ r.generation) _
    (λ made log side_is generation_is.
    subst (λ (n : ℕ). IsKept (D.crashes new) (D.seen new) (D.images new) made.side newest n made.gate None copied any) (sym generation_is)
    (subst (λ (s : Side). IsKept (D.crashes new) (D.seen new) (D.images new) s newest r.generation made.gate None copied any) (sym side_is)
    (kept_finished D.crashes D.seen D.images D.moment D.left_since side version generation gate made.gate r batches copied any old new (ShutOrStands r.generation copied) c.finish.ensures.told kept
    (c.finish.ensures.either copied kept.beside.new) log)))
    (c.finish.ensures.stands copied kept.beside.new) c.finish.ensures.side c.finish.ensures.generation

pub returns-clause-leaves : goal.returns-clause-leaves
returns-clause-leaves g c side version generation gate batches copied kept told =
    let D = g.D.Disk in
    let r = c.args.rewriter in
    leaves_beside D.crashes D.seen D.images D.moment D.left_since side r.side (ShutOrStands r.generation copied) (StandsFor version generation batches) (HoldsOrNew version generation batches copied) c.args.disk.now c.finish.new.disk told kept.beside.beside kept.log.safe
    (c.finish.ensures.either copied kept.beside.new)
    (λ x stands left. holds_opened x side version generation r.generation batches copied kept.beside.next stands left)
