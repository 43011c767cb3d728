use Rattle.serve_run.proofs.Shutting.{table_then}
use Rattle.serve_run.proofs.loops.serve_all.Goals as goal

pub returns-clause-keeps : goal.returns-clause-keeps
returns-clause-keeps g c = λ told timely.
    let terms = c.args.terms in
    let k2 = g.H.HallApi.knows c.all_in-touched.new.seat in
    let between = c.all_in-touched.new.table.items in (
      k2,
      between,
      c.all_in-touched.ensures.keeps told timely,
      table_then told terms k2 (g.H.HallApi.knows c.all_out.new.seat) (g.H.HallApi.knows c.shut_over.new.seat) (g.W.WaitForLinks.shows c.args.wait.now)
          (g.W.WaitForLinks.shows c.shut_over.new.wait) between c.all_out.new.table.items c.shut_over.new.table.items c.shut_over.result.0
          (c.all_out.ensures.keeps told terms) (c.shut_over.ensures.keeps told terms timely),
    )
