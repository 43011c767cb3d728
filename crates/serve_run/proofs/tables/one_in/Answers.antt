use Rattle.std.proofs.Common.{◌≡◌, refl, ap, ◌∙◌, List, sym, subst}
use Rattle.std.specs.Prelude.{Option, Some, length, slice_set}
use Rattle.std.proofs.lemmas.List.{set-get_or}
use Rattle.std.proofs.lemmas.Option.{slice_get_read}
use Rattle.session_run.specs.Sessions.{SessionState}
use Rattle.std.specs.List.{slice_get}
use Rattle.serve_run.proofs.Keeping.{feeds_none, feeds_step}
use Rattle.serve_run.specs.Feeds.{FedBy}
use Rattle.serve_run.specs.LoopStates.{FeedsTable}
use Rattle.serve_run.proofs.tables.one_in.Goals as goal

pub returns-in-Some-clause-keeps : goal.returns-in-Some-clause-keeps
returns-in-Some-clause-keeps g c = λ told timely.
    let there : slice_get c.args.table.now.items c.args.place ≡ Some (Some c.in-Some.session) =
    slice_get_read c.args.table.now.items (length c.args.table.now.items) c.args.place c.index_mut.result.now refl c.requires.within c.index_mut.ensures.value
    ∙ ap (λ (p : Option SessionState). Some p) c.in-Some.is in
    feeds_step (FedBy (g.H.FeedApi.answers c.args.hall.now) c.args.terms) told c.args.terms (g.H.HallApi.knows c.args.seat.now)
    (g.H.HallApi.knows c.step_in.new.seat) c.args.table.now.items c.args.place c.in-Some.session
    c.step_in.new.session there (c.step_in.ensures.steps told timely)

pub returns-in-None-clause-keeps : goal.returns-in-None-clause-keeps
returns-in-None-clause-keeps g c = λ told timely.
    let By = FedBy (g.H.FeedApi.answers c.args.hall.now) c.args.terms in
    let k = g.H.HallApi.knows c.args.seat.now in
    let same : slice_set c.args.table.now.items c.args.place c.index_mut.result.now ≡ c.args.table.now.items =
    ap (λ (p : Option SessionState). slice_set c.args.table.now.items c.args.place p) c.index_mut.ensures.value
    ∙ set-get_or c.args.table.now.items c.args.place c.index_mut.result.now in
    subst (λ (l : List (Option SessionState)). FeedsTable By told c.args.terms k k c.args.table.now.items l) (sym same)
    (feeds_none By told c.args.terms k c.args.table.now.items)
