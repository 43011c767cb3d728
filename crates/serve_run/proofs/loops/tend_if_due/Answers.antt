use Rattle.std.proofs.Common.{◌≡◌, ap, ◌∙◌, subst}
use Rattle.std.specs.Prelude.{None, Result, IfSome}
use Rattle.world_model.specs.declared.events.LogState.{LogState}
use Rattle.serve_run.specs.declared.tendings.Tending.{Tending}
use Rattle.serve_run.specs.declared.tends.ServeEnd.{ServeEnd}
use Rattle.serve_run.specs.declared.tends.ServeEnd.TheVariants as end
use Rattle.serve_run.specs.Pacing.{HasWanted, tended, wanted}
use Rattle.serve_run.specs.Tends.{Shrinks, Tends}
use Rattle.serve_run.proofs.Keeping.{shrunk_table, broken_table}
use Rattle.serve_run.proofs.loops.tend_if_due.Goals as goal

pub returns-in-Ok-clause-tends : goal.returns-in-Ok-clause-tends
returns-in-Ok-clause-tends g c = λ told timely.
    let t = c.args.pace.now.tending in
    let k = g.H.HallApi.knows c.args.seat.now in
    let mid = g.H.HallApi.knows c.tick_and_rewrite-tended.new.seat in
    let k' = g.H.HallApi.knows c.shrink_if_due.new.seat in
    let now : c.tended.new.self.tending ≡ tended t c.in-Ok.log =
    c.tended.ensures ∙ ap (λ (x : Tending). tended x c.in-Ok.log) c.is_tick_due-is_due.ensures in
    shrunk_table told c.args.terms t c.shrink_if_due.new.pace.tending c.in-Ok.log k mid k' c.args.moment c.shrink_if_due.result.0 timely
    (subst (λ (r : Result LogState ServeEnd). Tends c.args.moment k mid r) c.in-Ok.is c.tick_and_rewrite-tended.ensures.tends)
    (subst (λ (x : Tending). Shrinks told c.args.terms x mid k' c.shrink_if_due.result.0) now (c.shrink_if_due.ensures.shrinks told timely))
    (c.shrink_if_due.ensures.same ∙ now)

pub returns-in-Err-clause-tends : goal.returns-in-Err-clause-tends
returns-in-Err-clause-tends g c = λ told timely.
    let t = c.args.pace.now.tending in
    let m = c.args.moment in
    let k = g.H.HallApi.knows c.args.seat.now in
    let k' = g.H.HallApi.knows c.tick_and_rewrite-tended.new.seat in
    broken_table told c.args.terms t c.end_of.new.self.tending k k' m c.in-Err.end c.end_of.result timely
    (subst (λ (r : Result LogState ServeEnd). Tends m k k' r) c.in-Err.is c.tick_and_rewrite-tended.ensures.tends)
    (subst (λ (x : Tending). IfSome c.end_of.result (λ e. (e ≡ c.in-Err.end) × (e ≡ end.Memory → HasWanted x m))) c.is_tick_due-is_due.ensures c.end_of.ensures.end)
    (subst (λ (x : Tending). c.end_of.result ≡ None → (c.in-Err.end ≡ end.Memory) × (HasWanted x m → ⊥) × (c.end_of.new.self.tending ≡ wanted x m))
    c.is_tick_due-is_due.ensures c.end_of.ensures.on)
