use Rattle.std.proofs.Common.{◌∙◌, sym, subst, true}
use Rattle.std.specs.Prelude.{Option, Some}
use Rattle.serve_run.specs.declared.tends.ServeEnd.{ServeEnd}
use Rattle.serve_run.specs.LoopStates.{KeepsShutTo}
use Rattle.serve_run.proofs.Shutting.{shut_more, shut_more_to}
use Rattle.serve_run.proofs.tables.shut_over.Goals as goal

pub returns-in-Some-clause-keeps : goal.returns-in-Some-clause-keeps
returns-in-Some-clause-keeps g c = λ told terms timely.
    let k1 = g.H.HallApi.knows c.args.seat.now in
    let k2 = g.H.HallApi.knows c.loop-place.seat in
    let k3 = g.H.HallApi.knows c.shut_one-end.new.seat in
    let w1 = g.W.WaitForLinks.shows c.args.wait.now in
    let w2 = g.W.WaitForLinks.shows c.loop-place.wait in
    let w3 = g.W.WaitForLinks.shows c.shut_one-end.new.wait in
    let before = c.loop-place.table.items in
    let after = c.shut_one-end.new.table.items in
    shut_more_to told terms k1 k2 k3 w1 w2 w3 c.args.table.now.items before after (Some c.in-Some.end) (c.loop-place.invariant.keeps told terms timely)
    (subst (λ (r : Option ServeEnd). KeepsShutTo told terms k2 k3 w2 w3 before after r) c.in-Some.is (c.shut_one-end.ensures.keeps told terms timely))

pub loop-place-preserved : goal.loop-place-preserved
loop-place-preserved g c =
    let k1 = g.H.HallApi.knows c.args.seat.now in
    let k2 = g.H.HallApi.knows c.loop-place.seat in
    let k3 = g.H.HallApi.knows c.shut_one-end.new.seat in
    let w1 = g.W.WaitForLinks.shows c.args.wait.now in
    let w2 = g.W.WaitForLinks.shows c.loop-place.wait in
    let w3 = g.W.WaitForLinks.shows c.shut_one-end.new.wait in
    let before = c.loop-place.table.items in
    let after = c.shut_one-end.new.table.items in
    record {
      seat = c.shut_one-end.ensures.seat;
      ends = c.loop-place.invariant.ends ∙ sym c.shut_one-end.ensures.length;
      keeps = λ told terms timely.
          shut_more told terms k1 k2 k3 w1 w2 w3 c.args.table.now.items before after true (c.loop-place.invariant.keeps told terms timely)
          (subst (λ (r : Option ServeEnd). KeepsShutTo told terms k2 k3 w2 w3 before after r) c.in_default.is (c.shut_one-end.ensures.keeps told terms timely));
    }
