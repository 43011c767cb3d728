use Rattle.std.proofs.Common.{List, subst, sym}
use Rattle.std.specs.Prelude.{Option, None, slice_set}
use Rattle.outside.specs.Links.{LinkState}
use Rattle.session_run.specs.Sessions.{SessionState}
use Rattle.serve_run.specs.declared.tends.ServeEnd.{ServeEnd}
use Rattle.serve_run.specs.LoopEnds.{ShutBy}
use Rattle.serve_run.specs.LoopStates.{KeepsShutTo}
use Rattle.serve_run.proofs.Shutting.{shut_to}
use Rattle.serve_run.proofs.tables.shut_one.Goals as goal

pub returns-in-Some-clause-keeps : goal.returns-in-Some-clause-keeps
returns-in-Some-clause-keeps g c = λ told terms timely.
    let k = g.H.HallApi.knows c.args.seat.now in
    let k' = g.H.HallApi.knows c.remove-removed.new.seat in
    let w = g.W.WaitForLinks.shows c.args.wait.now in
    let w' = g.W.WaitForLinks.shows c.shut-is_told.new.wait in
    let places = c.args.table.now.items in
    subst (λ (l : List (Option SessionState)). KeepsShutTo told terms k k' w w' places l c.end_behind.result) (sym c.in-Some.ensures.taken)
    (subst (λ (r : Option ServeEnd). KeepsShutTo told terms k k' w w' places (slice_set places c.args.place None) r) (sym c.end_behind.ensures)
    (shut_to told terms k k' w w' places c.args.place c.in-Some.session c.shut-is_told.result c.remove-removed.result.0 c.in-Some.ensures.there
    c.in-Some.ensures.over (c.remove-removed.ensures.removes told timely)
    (subst (λ (l : LinkState). ShutBy w w' c.shut-is_told.result l) c.into_link.ensures c.shut-is_told.ensures)))
