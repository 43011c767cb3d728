use Rattle.serve_run.proofs.Unfencing.{unfences_refused, unfences_all}
use Rattle.serve_run.proofs.unfences.unfence.Goals as goal

pub returns-in_default-enter-clause-unfences : goal.returns-in_default-enter-clause-unfences
returns-in_default-enter-clause-unfences g c = λ told timely.
    unfences_refused told c.args.gone (g.H.HallApi.knows c.args.seat.now) (g.H.HallApi.knows c.enter.new.seat) _ c.in_default-enter.ensures.entry

pub returns-clause-unfences : goal.returns-clause-unfences
returns-clause-unfences g c = λ told timely.
    unfences_all told c.args.gone (g.H.HallApi.knows c.args.seat.now) (g.H.HallApi.knows c.enter.new.seat) (g.H.HallApi.knows c.calls-asked.new.seat)
    (g.H.HallApi.knows c.remove.new.seat) c.in-Ok-enter.session c.args.moment c.calls-asked.result.0.served c.calls-asked.result.0.end c.in-Ok.asked
    c.calls-asked.result.2 c.shrink_end.result timely c.in-Ok.ensures c.shrink_end.ensures c.in-Ok-enter.ensures.entry c.calls-asked.ensures.count
    c.calls-asked.ensures.entries c.remove.ensures.entry
