use Rattle.serve_run.proofs.Shrinking.{shrinks_refused, shrinks_all}
use Rattle.serve_run.proofs.shrinks.shrink.Goals as goal

pub returns-in_default-enter-clause-shrinks : goal.returns-in_default-enter-clause-shrinks
returns-in_default-enter-clause-shrinks g c = λ told terms t timely grown.
    shrinks_refused told terms t (g.H.HallApi.knows c.args.seat.now) (g.H.HallApi.knows c.enter.new.seat) _ grown c.in_default-enter.ensures.entry

pub returns-clause-shrinks : goal.returns-clause-shrinks
returns-clause-shrinks g c = λ told terms t timely grown.
    shrinks_all told terms t (g.H.HallApi.knows c.args.seat.now) (g.H.HallApi.knows c.enter.new.seat) (g.H.HallApi.knows c.calls-asked.new.seat)
    (g.H.HallApi.knows c.remove.new.seat) c.in-Ok-enter.session c.args.moment c.calls-asked.result.0.served c.calls-asked.result.0.end c.in-Ok.asked
    c.calls-asked.result.2 c.shrink_end.result timely grown c.in-Ok.ensures c.shrink_end.ensures c.in-Ok-enter.ensures.entry c.calls-asked.ensures.count
    c.calls-asked.ensures.entries c.remove.ensures.entry
