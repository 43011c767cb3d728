use Rattle.std.proofs.Common.{◌≡◌, Bool, false, refl, sym, subst, inr, rules}
use Rattle.outside.specs.Causes.{next_count}
use Rattle.outside.specs.Doors.{DoorState}
use Rattle.outside.specs.Links.{IsNew}
use Rattle.serve_run.specs.LoopStates.{Holds, loop_state}
use Rattle.serve_run.proofs.Looping.{door_failed, over_told}
use Rattle.serve_run.proofs.joins.let_one_in.Goals as goal

pub returns-in-Err-clause-turn : goal.returns-in-Err-clause-turn
returns-in-Err-clause-turn g c = λ told t old feeds h.
    door_failed told c.args.terms (g.H.HallApi.knows c.args.seat.now) (g.D.ReadyDoor.shows c.args.door.now) (g.D.ReadyDoor.shows c.accept.new.self)
    (g.W.WaitForLinks.shows c.args.wait.now) c.args.table.now.items c.args.counts.now.joined c.args.counts.now.starved c.args.counts.now.is_over
    c.in-Err.ensures.rose c.in-Err.ensures.later c.in-Err.ensures.same old t t feeds h

pub returns-in-Ok-Over-clause-turn : goal.returns-in-Ok-Over-clause-turn
returns-in-Ok-Over-clause-turn g c = λ told t old feeds.
    let d = g.D.ReadyDoor.shows c.args.door.now in
    let ends : g.D.ReadyDoor.shows c.accept.new.self ≡ record d { ends = next_count d.ends } = search rules in
    over_told told c.args.terms (g.H.HallApi.knows c.args.seat.now) d (g.D.ReadyDoor.shows c.accept.new.self) (g.W.WaitForLinks.shows c.args.wait.now) c.args.table.now.items
    c.args.counts.now.joined c.args.counts.now.starved c.args.counts.now.is_over ends old t feeds

pub returns-else-join-clause-turn : goal.returns-else-join-clause-turn
returns-else-join-clause-turn g c = λ told t old feeds h.
    let d = g.D.ReadyDoor.shows c.args.door.now in
    let is_new : IsNew d.links (g.D.Link.ReadyLink.shows c.in-Ok-Came.link) = search rules in
    let more : g.D.ReadyDoor.shows c.accept.new.self ≡ record d { links = next_count d.links } = search rules in
    let kept = c.join.ensures.keeps told c.args.terms d is_new old t feeds h in (
      g.H.HallApi.knows c.join.new.seat,
      t,
      subst (λ (x : DoorState). Holds told c.args.terms old t feeds (loop_state (g.H.HallApi.knows c.join.new.seat) x (g.W.WaitForLinks.shows c.join.new.wait) c.join.new.table.items
          c.join.new.counts.joined c.join.new.counts.starved c.join.new.counts.is_over false)) (sym more)
          (subst (λ (b : Bool). Holds told c.args.terms old t feeds (loop_state (g.H.HallApi.knows c.join.new.seat) (record d { links = next_count d.links }) (g.W.WaitForLinks.shows c.join.new.wait)
          c.join.new.table.items c.join.new.counts.joined c.join.new.counts.starved c.join.new.counts.is_over b)) c.if-join.false kept),
      inr refl,
    )
