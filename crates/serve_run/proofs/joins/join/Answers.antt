use Rattle.std.proofs.Common.{◌<◌, arith, subst, ap, ◌∙◌, length}
use Rattle.std.specs.Prelude.{None, Err}
use Rattle.std.proofs.lemmas.Option.{slice_get_within}
use Rattle.outside.specs.Links.{LinkState}
use Rattle.session_run.specs.Sessions.{opened}
use Rattle.serve_run.specs.declared.joins.Unseated.{Unseated}
use Rattle.serve_run.specs.declared.joins.Unseated.TheVariants as unseated
use Rattle.serve_run.specs.LoopEnds.{ShutBy, IsPlaced}
use Rattle.serve_run.proofs.Joining.{turned_out, turned_starved, turned_unwatched, seated, enter_refusal}
use Rattle.serve_run.proofs.joins.join.Goals as goal

pub returns-in_default-clause-keeps : goal.returns-in_default-clause-keeps
returns-in_default-clause-keeps g c = λ told terms door new old t feeds h.
    turned_out told terms old t feeds door (g.W.WaitForLinks.shows c.args.wait.now) (g.H.HallApi.knows c.args.seat.now) c.args.table.now.items c.args.counts.now.joined
    c.args.counts.now.starved c.args.counts.now.is_over (g.D.Link.ReadyLink.shows c.args.link) new h (g.H.HallApi.knows c.enter.new.seat)
    (g.W.WaitForLinks.shows c.shut.new.wait) c.shut.result _ (enter_refusal c.in_default.field-0) c.in_default.ensures.entry c.shut.ensures

pub index_mut-requires : goal.index_mut-requires
index_mut-requires g c =
    let within : c.in-Ok-place_for.place < length c.place_for.new.table.items = slice_get_within c.place_for.new.table.items c.in-Ok-place_for.place None c.in-Ok-place_for.ensures.placed.0 in
    omega (arith, within, c.place_for.new.table.ok)

pub returns-in-Ok-place_for-clause-keeps : goal.returns-in-Ok-place_for-clause-keeps
returns-in-Ok-place_for-clause-keeps g c = λ told terms door new old t feeds h.
    seated told terms old t feeds door (g.W.WaitForLinks.shows c.args.wait.now) (g.H.HallApi.knows c.args.seat.now) c.args.table.now.items c.args.counts.now.joined
    c.args.counts.now.starved c.args.counts.now.is_over (g.D.Link.ReadyLink.shows c.args.link) new h (g.H.HallApi.knows c.enter.new.seat) c.in-Ok.session
    c.in-Ok.ensures.entry (g.W.WaitForLinks.shows c.place_for.new.wait) c.place_for.new.table.items c.in-Ok-place_for.place c.new.result
    (c.new.ensures ∙ ap (λ (l : LinkState). opened l c.in-Ok.session) c.place_for.ensures.link) c.place_for.ensures.place c.in-Ok-place_for.ensures.placed.0
    c.in-Ok-place_for.ensures.placed.1

pub returns-in-Err-Starved-clause-keeps : goal.returns-in-Err-Starved-clause-keeps
returns-in-Err-Starved-clause-keeps g c = λ told terms door new old t feeds h.
    turned_starved told terms old t feeds door (g.W.WaitForLinks.shows c.args.wait.now) (g.H.HallApi.knows c.args.seat.now) c.args.table.now.items c.args.counts.now.joined
    c.args.counts.now.starved c.args.counts.now.is_over (g.D.Link.ReadyLink.shows c.args.link) new h (g.H.HallApi.knows c.enter.new.seat) c.in-Ok.session
    c.in-Ok.ensures.entry (g.H.HallApi.knows c.remove.new.seat) (g.W.WaitForLinks.shows c.shut-in-Err-Starved.new.wait) c.place_for.new.table.items
    c.shut-in-Err-Starved.result c.remove.ensures.entry c.place_for.ensures.place
    (subst (λ (l : LinkState). ShutBy (g.W.WaitForLinks.shows c.args.wait.now) (g.W.WaitForLinks.shows c.shut-in-Err-Starved.new.wait) c.shut-in-Err-Starved.result l)
    c.place_for.ensures.link
    (subst (λ w. ShutBy w (g.W.WaitForLinks.shows c.shut-in-Err-Starved.new.wait) c.shut-in-Err-Starved.result (g.D.Link.ReadyLink.shows c.place_for.new.link))
    (subst (λ (u : Unseated). IsPlaced c.place_for.new.table.items (g.W.WaitForLinks.shows c.args.wait.now) (g.W.WaitForLinks.shows c.place_for.new.wait) (Err u))
    c.in-Err-Starved.field-0-is c.in-Err-Starved.ensures.placed) c.shut-in-Err-Starved.ensures))

pub returns-in-Err-Unwatched-clause-keeps : goal.returns-in-Err-Unwatched-clause-keeps
returns-in-Err-Unwatched-clause-keeps g c = λ told terms door new old t feeds h.
    let placed : IsPlaced c.place_for.new.table.items (g.W.WaitForLinks.shows c.args.wait.now) (g.W.WaitForLinks.shows c.place_for.new.wait) (Err unseated.Unwatched) =
    subst (λ (u : Unseated). IsPlaced c.place_for.new.table.items (g.W.WaitForLinks.shows c.args.wait.now) (g.W.WaitForLinks.shows c.place_for.new.wait) (Err u))
    c.in-Err-Unwatched.field-0-is c.in-Err-Unwatched.ensures.placed in
    turned_unwatched told terms old t feeds door (g.W.WaitForLinks.shows c.args.wait.now) (g.H.HallApi.knows c.args.seat.now) c.args.table.now.items c.args.counts.now.joined
    c.args.counts.now.starved c.args.counts.now.is_over (g.D.Link.ReadyLink.shows c.args.link) new h (g.H.HallApi.knows c.enter.new.seat) c.in-Ok.session
    c.in-Ok.ensures.entry (g.H.HallApi.knows c.remove-in-Err-Unwatched.new.seat) (g.W.WaitForLinks.shows c.place_for.new.wait)
    (g.W.WaitForLinks.shows c.shut-in-Err-Unwatched.new.wait) c.place_for.new.table.items c.shut-in-Err-Unwatched.result c.remove-in-Err-Unwatched.ensures.entry
    c.place_for.ensures.place placed.0 placed.1 placed.2
    (subst (λ (l : LinkState). ShutBy (g.W.WaitForLinks.shows c.place_for.new.wait) (g.W.WaitForLinks.shows c.shut-in-Err-Unwatched.new.wait)
    c.shut-in-Err-Unwatched.result l) c.place_for.ensures.link c.shut-in-Err-Unwatched.ensures)
