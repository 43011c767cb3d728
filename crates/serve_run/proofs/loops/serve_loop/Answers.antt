use Rattle.std.proofs.Common.{List, [], true, false, sym, subst}
use Rattle.std.specs.Prelude.{Option}
use Rattle.session_run.specs.Sessions.{SessionState}
use Rattle.serve_run.specs.Loops.{around}
use Rattle.serve_run.specs.LoopStates.{Holds, loop_state}
use Rattle.serve_run.specs.Pacing.{untended}
use Rattle.serve_run.proofs.Looping.{holds_at_first, serves_end}
use Rattle.serve_run.proofs.loops.serve_loop.Goals as goal

pub returns-clause-serves : goal.returns-clause-serves
returns-clause-serves g c =
    let told = g.C.Clock.told c.args.clock.now in
    let terms = c.args.terms in
    let k0 = g.H.HallApi.knows c.args.seat.now in
    let d0 = g.D.ReadyDoor.shows c.args.door.now in
    let w0 = g.W.WaitForLinks.shows c.args.wait.now in
    let counts = c.serve_up_to-end.new.counts in
    let turned = c.serve_up_to-end.ensures.turn (around k0 d0 w0) [] tt
    (subst (λ (l : List (Option SessionState)). Holds told terms (around k0 d0 w0) untended []
    (loop_state k0 d0 w0 l 0 0 false true)) (sym c.new-table.ensures.items) (holds_at_first told terms k0 d0 w0)) in
    serves_end told (g.H.FeedApi.answers c.args.hall.now) terms (around k0 d0 w0) untended turned.0
    (g.H.HallApi.knows c.serve_up_to-end.new.seat) (g.D.ReadyDoor.shows c.serve_up_to-end.new.door)
    (g.W.WaitForLinks.shows c.serve_up_to-end.new.wait) (g.W.WaitForLinks.shows c.end_loop.new.wait) c.serve_up_to-end.new.table.items counts.joined counts.starved
    counts.is_over c.serve_up_to-end.result turned.1 c.serve_up_to-end.ensures.room turned.2
    c.end_loop.ensures.done
    (λ rest mid goes_on. c.end_loop.ensures.rest rest told terms mid (g.D.ReadyDoor.shows c.serve_up_to-end.new.door) counts.joined counts.starved counts.is_over goes_on)
    c.end_loop.ensures.faults
