use Rattle.std.proofs.Common.{arith, sym, ◌∙◌, ◌+◌}
use Rattle.serve_run.proofs.Tending.{rewrote_next, rewrote_last, rewrote_some}
use Rattle.serve_run.proofs.tends.step_rewrites.Goals as goal

pub returns-in-Some-clause-rewritten : goal.returns-in-Some-clause-rewritten
returns-in-Some-clause-rewritten g c =
    rewrote_last (g.H.HallApi.knows c.args.seat.now) (g.H.HallApi.knows c.loop.seat) (g.H.HallApi.knows c.step_rewrite-rewritten.new.seat) c.loop.counter
    c.step_rewrite-rewritten.result.0 c.in-Some.end (omega (arith, c.loop-test.true, c.requires.few.1)) (sym c.serve_end.ensures ∙ c.in-Some.is)
    c.loop.invariant.made c.step_rewrite-rewritten.ensures.entry

pub returns-then-not-told-clause-rewritten : goal.returns-then-not-told-clause-rewritten
returns-then-not-told-clause-rewritten g c =
    rewrote_some (g.H.HallApi.knows c.args.seat.now) (g.H.HallApi.knows c.step_rewrite-rewritten.new.seat) (c.loop.counter + 1) c.step_rewrite-rewritten.result.1 (omega arith)
    (omega (arith, c.loop-test.true, c.requires.few.1))
    (rewrote_next (g.H.HallApi.knows c.args.seat.now) (g.H.HallApi.knows c.loop.seat) (g.H.HallApi.knows c.step_rewrite-rewritten.new.seat) c.loop.counter
    c.step_rewrite-rewritten.result.0 (sym c.serve_end.ensures ∙ c.in_default.is) c.loop.invariant.made c.step_rewrite-rewritten.ensures.entry)

pub loop-preserved : goal.loop-preserved
loop-preserved g c = record {
  seat = c.step_rewrite-rewritten.ensures.seat;
  within = omega (arith, c.loop-test.true);
  made = rewrote_next (g.H.HallApi.knows c.args.seat.now) (g.H.HallApi.knows c.loop.seat) (g.H.HallApi.knows c.step_rewrite-rewritten.new.seat)
      c.loop.counter c.step_rewrite-rewritten.result.0 (sym c.serve_end.ensures ∙ c.in_default.is) c.loop.invariant.made
      c.step_rewrite-rewritten.ensures.entry;
}
