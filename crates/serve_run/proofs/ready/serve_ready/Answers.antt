use Rattle.std.proofs.Common.{◌≡◌, ◌≤◌, ap, subst, ◌∙◌, inl, inr}
use Rattle.std.specs.Prelude.{Some}
use Rattle.outside.specs.Causes.{Rose}
use Rattle.outside.specs.Doors.{DoorState, opened_at}
use Rattle.outside.specs.Waits.{WaitState}
use Rattle.serve_run.specs.Loops.{around}
use Rattle.serve_run.specs.Openings.{gains_opening, gains_first}
use Rattle.serve_run.proofs.ready.serve_ready.Goals as goal

pub returns-in-Err-clause-serves : goal.returns-in-Err-clause-serves
returns-in-Err-clause-serves g c = inr (inl (record {
  same = ap (λ (d : DoorState). around (g.H.HallApi.knows c.args.seat.now) d (g.W.WaitForLinks.shows c.args.wait.now)) c.in-Err.ensures.same;
  cause = c.in-Err.ensures.rose;
  later = c.in-Err.ensures.later;
  ended = c.end-in-Err.ensures.told;
}))

pub returns-in-Err-watch_door-clause-serves : goal.returns-in-Err-watch_door-clause-serves
returns-in-Err-watch_door-clause-serves g c =
    let k = g.H.HallApi.knows c.args.seat.now in
    inr (inr (inl (record {
      same = ap (λ (d : DoorState). around k d (g.W.WaitForLinks.shows c.watch_door.new.self)) (c.watch_door.ensures.door ∙ c.in_default-listen.ensures)
          ∙ ap (λ (w : WaitState). around k (record (g.D.ReadyDoor.shows c.args.door.now) { opened = Some (opened_at c.args.asked.port) }) w) c.in-Err-watch_door.ensures.tries.2;
      cause = c.in-Err-watch_door.ensures.tries.0;
      later = c.in-Err-watch_door.ensures.tries.1;
      ended = c.end-in-Err-watch_door.ensures.told;
    })))

pub returns-in-Err-watch_end-clause-serves : goal.returns-in-Err-watch_end-clause-serves
returns-in-Err-watch_end-clause-serves g c =
    let k = g.H.HallApi.knows c.args.seat.now in
    let w' = g.W.WaitForLinks.shows c.watch_end.new.self in
    let still : g.W.WaitForLinks.shows c.watch_door.new.self ≡ g.W.WaitForLinks.shows c.args.wait.now = c.in_default-watch_door.ensures.tries in
    inr (inr (inl (record {
      same = ap (λ (d : DoorState). around k d w') (c.watch_door.ensures.door ∙ c.in_default-listen.ensures)
          ∙ ap (λ (w : WaitState). around k (record (g.D.ReadyDoor.shows c.args.door.now) { opened = Some (opened_at c.args.asked.port) }) w)
          (subst (λ (w : WaitState). w' ≡ record w { faults = w'.faults }) still c.in-Err-watch_end.ensures.2);
      cause = subst (λ (w : WaitState). Rose w.faults w'.faults) still c.in-Err-watch_end.ensures.0;
      later = subst (λ (w : WaitState). w.faults ≤ w'.faults) still c.in-Err-watch_end.ensures.1;
      ended = c.end-in-Err-watch_end.ensures.told;
    })))

pub returns-clause-opening : goal.returns-clause-opening
returns-clause-opening g c = gains_opening _ _ _ c.serve_loop-done.ensures.serves.gains

pub returns-clause-first : goal.returns-clause-first
returns-clause-first g c = gains_first _ _ _ c.serve_loop-done.ensures.serves.gains
