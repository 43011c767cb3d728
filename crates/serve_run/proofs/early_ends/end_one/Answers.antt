use Rattle.std.proofs.Common.{◌≡◌, refl, ap, ◌∙◌}
use Rattle.std.specs.Prelude.{Option, Some, length}
use Rattle.std.proofs.lemmas.Option.{slice_get_read}
use Rattle.session_run.specs.Sessions.{SessionState}
use Rattle.std.specs.List.{slice_get}
use Rattle.serve_run.proofs.Keeping.{early_step}
use Rattle.serve_run.proofs.early_ends.end_one.Goals as goal

pub returns-in-Some-clause-keeps : goal.returns-in-Some-clause-keeps
returns-in-Some-clause-keeps g c = λ told k w may.
    let there : slice_get c.args.table.now.items c.args.place ≡ Some (Some c.in-Some.session) =
    slice_get_read c.args.table.now.items (length c.args.table.now.items) c.args.place c.index_mut.result.now refl c.requires.within c.index_mut.ensures.value
    ∙ ap (λ (p : Option SessionState). Some p) c.in-Some.is in
    early_step told c.args.terms k w c.args.table.now.items c.args.place c.in-Some.session c.end_session.new.session may there (c.end_session.ensures told k)
