use Rattle.std.proofs.Common.{◌≡◌, refl, ap, ◌∙◌}
use Rattle.std.specs.Prelude.{Option, Some, length}
use Rattle.std.proofs.lemmas.Option.{slice_get_read}
use Rattle.session_run.specs.Sessions.{SessionState}
use Rattle.std.specs.List.{slice_get}
use Rattle.serve_run.proofs.Keeping.{table_step}
use Rattle.serve_run.proofs.tables.one_out.Goals as goal

pub returns-in-Some-clause-keeps : goal.returns-in-Some-clause-keeps
returns-in-Some-clause-keeps g c = λ told terms.
    let there : slice_get c.args.table.now.items c.args.place ≡ Some (Some c.in-Some.session) =
    slice_get_read c.args.table.now.items (length c.args.table.now.items) c.args.place c.index_mut.result.now refl c.requires.within c.index_mut.ensures.value
    ∙ ap (λ (p : Option SessionState). Some p) c.in-Some.is in
    table_step told terms (g.H.HallApi.knows c.args.seat.now) (g.H.HallApi.knows c.step_out.new.seat) c.args.table.now.items c.args.place c.in-Some.session
    c.step_out.new.session there (c.step_out.ensures.steps told)
