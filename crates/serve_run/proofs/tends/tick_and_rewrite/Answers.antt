use Rattle.std.proofs.Common.{sym, ◌∙◌}
use Rattle.serve_run.proofs.Tending.{tends_tick, tends_all}
use Rattle.serve_run.proofs.tends.tick_and_rewrite.Goals as goal

pub returns-in-Some-clause-tends : goal.returns-in-Some-clause-tends
returns-in-Some-clause-tends g c =
    tends_tick (g.H.HallApi.knows c.args.seat.now) (g.H.HallApi.knows c.tick-ticked.new.seat) c.args.moment c.tick-ticked.result.0 c.in-Some.end
    (sym c.serve_end.ensures ∙ c.in-Some.is) c.tick-ticked.ensures.entry.adds

pub returns-in-None-clause-tends : goal.returns-in-None-clause-tends
returns-in-None-clause-tends g c =
    tends_all (g.H.HallApi.knows c.args.seat.now) (g.H.HallApi.knows c.tick-ticked.new.seat) (g.H.HallApi.knows c.step_rewrites.new.seat)
    c.args.moment c.tick-ticked.result.0 c.step_rewrites.result (sym c.serve_end.ensures ∙ c.in-None.is) c.tick-ticked.ensures.entry.adds
    c.step_rewrites.ensures.rewritten
