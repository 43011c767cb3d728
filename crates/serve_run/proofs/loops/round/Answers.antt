use Rattle.std.proofs.Common.{true, sym, subst, ◌++◌}
use Rattle.std.specs.Prelude.{Option}
use Rattle.serve_run.specs.declared.paces.Pace.{Pace}
use Rattle.serve_run.specs.declared.tendings.Tending.{Tending}
use Rattle.serve_run.specs.declared.tends.ServeEnd.{ServeEnd}
use Rattle.serve_run.specs.Feeds.{FedBy}
use Rattle.serve_run.specs.LoopStates.{loop_state, Holds, KeepsShutTo}
use Rattle.serve_run.specs.LoopEnds.{TendsTable}
use Rattle.serve_run.proofs.Looping.{wait_failed, wait_looked, tended_last, shut_end, done_last}
use Rattle.serve_run.proofs.Stepping.{all_more}
use Rattle.serve_run.proofs.loops.round.Goals as goal

pub returns-in-Err-clause-turn : goal.returns-in-Err-clause-turn
returns-in-Err-clause-turn g c = λ old feeds by h. (
  feeds,
  by,
  wait_failed (g.C.Clock.told c.args.clock.now) c.args.terms (g.H.HallApi.knows c.args.seat.now) (g.D.ReadyDoor.shows c.args.door.now)
      (g.W.WaitForLinks.shows c.args.wait.now) (g.W.WaitForLinks.shows c.look.new.wait) c.args.table.now.items c.args.counts.now.joined c.args.counts.now.starved
      c.args.counts.now.is_over c.in-Err.ensures.waits.0 c.in-Err.ensures.waits.1 c.in-Err.ensures.waits.2 old c.args.work.now.pace.tending c.args.work.now.pace.tending feeds h,
)

pub returns-in-Some-clause-turn : goal.returns-in-Some-clause-turn
returns-in-Some-clause-turn g c = λ old feeds by h.
    let told = g.C.Clock.told c.args.clock.now in
    let t = c.args.work.now.pace.tending in
    let t' = c.tend_if_due-tended.new.pace.tending in
    let k = g.H.HallApi.knows c.args.seat.now in
    let k' = g.H.HallApi.knows c.tend_if_due-tended.new.seat in
    let d = g.D.ReadyDoor.shows c.args.door.now in
    let w = g.W.WaitForLinks.shows c.look.new.wait in
    let counts = c.args.counts.now in
    let looked = wait_looked told c.args.terms k d (g.W.WaitForLinks.shows c.args.wait.now) w c.args.table.now.items counts.joined counts.starved counts.is_over
    c.in_default.ensures.waits.0 c.in_default.ensures.waits.1 old t feeds h in (
      feeds,
      by,
      tended_last told c.args.terms t t' c.tend_if_due-tended.new.pace.tending k k' d w c.args.table.now.items counts.joined counts.starved counts.is_over c.in-Some.end
          (subst (λ (r : Option ServeEnd). TendsTable told c.args.terms t t' k k' r) c.in-Some.is
          (subst (λ (x : Tending). TendsTable told c.args.terms x t' k k' c.tend_if_due-tended.result.0) c.look.ensures.pace
          (c.tend_if_due-tended.ensures.tends told c.now-moment.ensures.told))) old feeds looked,
    )

pub returns-in-Some-came-clause-turn : goal.returns-in-Some-came-clause-turn
returns-in-Some-came-clause-turn g c = λ old feeds by h.
    let told = g.C.Clock.told c.args.clock.now in
    let terms = c.args.terms in
    let t = c.args.work.now.pace.tending in
    let t' = c.tend_if_due-tended.new.pace.tending in
    let k = g.H.HallApi.knows c.args.seat.now in
    let k' = g.H.HallApi.knows c.tend_if_due-tended.new.seat in
    let d = g.D.ReadyDoor.shows c.args.door.now in
    let w = g.W.WaitForLinks.shows c.look.new.wait in
    let places = c.args.table.now.items in
    let before = c.args.counts.now in
    let looked = wait_looked told terms k d (g.W.WaitForLinks.shows c.args.wait.now) w places before.joined before.starved before.is_over
    c.in_default.ensures.waits.0 c.in_default.ensures.waits.1 old t feeds h in
    let tends = subst (λ (r : Option ServeEnd). TendsTable told terms t t' k k' r) c.in_default-tended.is
    (subst (λ (x : Tending). TendsTable told terms x t' k k' c.tend_if_due-tended.result.0) c.look.ensures.pace
    (c.tend_if_due-tended.ensures.tends told c.now-moment.ensures.told)) in
    let tended = tends places d w before.joined before.starved before.is_over true old feeds looked in
    let early = c.end_early.ensures.keeps told k' d before.joined before.starved before.is_over true old t' feeds tended in
    (feeds, by, c.in-Some-came.ensures.turn told t' old feeds early)

pub returns-in-Some-served-clause-turn : goal.returns-in-Some-served-clause-turn
returns-in-Some-served-clause-turn g c = λ old feeds by h.
    let told = g.C.Clock.told c.args.clock.now in
    let terms = c.args.terms in
    let t = c.args.work.now.pace.tending in
    let t' = c.tend_if_due-tended.new.pace.tending in
    let k = g.H.HallApi.knows c.args.seat.now in
    let k' = g.H.HallApi.knows c.tend_if_due-tended.new.seat in
    let d = g.D.ReadyDoor.shows c.args.door.now in
    let w = g.W.WaitForLinks.shows c.look.new.wait in
    let places = c.args.table.now.items in
    let before = c.args.counts.now in
    let looked = wait_looked told terms k d (g.W.WaitForLinks.shows c.args.wait.now) w places before.joined before.starved before.is_over
    c.in_default.ensures.waits.0 c.in_default.ensures.waits.1 old t feeds h in
    let tends = subst (λ (r : Option ServeEnd). TendsTable told terms t t' k k' r) c.in_default-tended.is
    (subst (λ (x : Tending). TendsTable told terms x t' k k' c.tend_if_due-tended.result.0) c.look.ensures.pace
    (c.tend_if_due-tended.ensures.tends told c.now-moment.ensures.told)) in
    let tended = tends places d w before.joined before.starved before.is_over true old feeds looked in
    let early = c.end_early.ensures.keeps told k' d before.joined before.starved before.is_over true old t' feeds tended in
    let came = c.in_default-came.ensures.turn told t' old feeds early in
    let d' = g.D.ReadyDoor.shows c.let_in-came.new.door in
    let counts = c.let_in-came.new.counts in
    let k3 = g.H.HallApi.knows c.serve_all-served.new.seat in
    let w' = g.W.WaitForLinks.shows c.serve_all-served.new.wait in
    let w2 = g.W.WaitForLinks.shows c.let_in-came.new.wait in
    let after = c.serve_all-served.new.table.items in
    let By = FedBy (g.H.FeedApi.answers c.args.hall.now) terms in
    let served = c.serve_all-served.ensures.keeps told c.now-moment.ensures.told in
    let fed = served.2.2 d' w2 counts.joined counts.starved counts.is_over true old t' feeds came in (
      feeds ++ served.2.0,
      all_more By feeds served.2.0 by served.2.1,
      shut_end told terms t' t' served.0 k3 d' w2 w' served.1 after counts.joined counts.starved counts.is_over c.in-Some-served.end
          (subst (λ (r : Option ServeEnd). KeepsShutTo told terms served.0 k3 w2 w' served.1 after r) c.in-Some-served.is served.3) old
          (feeds ++ served.2.0) fed,
    )

pub returns-then-none_open-clause-turn : goal.returns-then-none_open-clause-turn
returns-then-none_open-clause-turn g c = λ old feeds by h.
    let told = g.C.Clock.told c.args.clock.now in
    let terms = c.args.terms in
    let t = c.args.work.now.pace.tending in
    let t' = c.tend_if_due-tended.new.pace.tending in
    let k = g.H.HallApi.knows c.args.seat.now in
    let k' = g.H.HallApi.knows c.tend_if_due-tended.new.seat in
    let d = g.D.ReadyDoor.shows c.args.door.now in
    let w = g.W.WaitForLinks.shows c.look.new.wait in
    let places = c.args.table.now.items in
    let before = c.args.counts.now in
    let looked = wait_looked told terms k d (g.W.WaitForLinks.shows c.args.wait.now) w places before.joined before.starved before.is_over
    c.in_default.ensures.waits.0 c.in_default.ensures.waits.1 old t feeds h in
    let tends = subst (λ (r : Option ServeEnd). TendsTable told terms t t' k k' r) c.in_default-tended.is
    (subst (λ (x : Tending). TendsTable told terms x t' k k' c.tend_if_due-tended.result.0) c.look.ensures.pace
    (c.tend_if_due-tended.ensures.tends told c.now-moment.ensures.told)) in
    let tended = tends places d w before.joined before.starved before.is_over true old feeds looked in
    let early = c.end_early.ensures.keeps told k' d before.joined before.starved before.is_over true old t' feeds tended in
    let came = c.in_default-came.ensures.turn told t' old feeds early in
    let d' = g.D.ReadyDoor.shows c.let_in-came.new.door in
    let counts = c.let_in-came.new.counts in
    let k3 = g.H.HallApi.knows c.serve_all-served.new.seat in
    let w' = g.W.WaitForLinks.shows c.serve_all-served.new.wait in
    let w2 = g.W.WaitForLinks.shows c.let_in-came.new.wait in
    let after = c.serve_all-served.new.table.items in
    let By = FedBy (g.H.FeedApi.answers c.args.hall.now) terms in
    let served = c.serve_all-served.ensures.keeps told c.now-moment.ensures.told in
    let fed = served.2.2 d' w2 counts.joined counts.starved counts.is_over true old t' feeds came in
    let shut = subst (λ (r : Option ServeEnd). KeepsShutTo told terms served.0 k3 w2 w' served.1 after r) c.in_default-served.is served.3 in
    let on = shut d' counts.joined counts.starved counts.is_over old t' (feeds ++ served.2.0) fed in (
      feeds ++ served.2.0,
      all_more By feeds served.2.0 by served.2.1,
      done_last told terms k3 d' w' after counts.joined counts.starved counts.is_over (c.none_open.ensures c.if-none_open.true)
          (c.is_last.ensures c.if-is_last.true) old t' t' (feeds ++ served.2.0) on,
    )

pub returns-clause-turn : goal.returns-clause-turn
returns-clause-turn g c = λ old feeds by h.
    let told = g.C.Clock.told c.args.clock.now in
    let terms = c.args.terms in
    let t = c.args.work.now.pace.tending in
    let t' = c.tend_if_due-tended.new.pace.tending in
    let k = g.H.HallApi.knows c.args.seat.now in
    let k' = g.H.HallApi.knows c.tend_if_due-tended.new.seat in
    let d = g.D.ReadyDoor.shows c.args.door.now in
    let w = g.W.WaitForLinks.shows c.look.new.wait in
    let places = c.args.table.now.items in
    let before = c.args.counts.now in
    let looked = wait_looked told terms k d (g.W.WaitForLinks.shows c.args.wait.now) w places before.joined before.starved before.is_over
    c.in_default.ensures.waits.0 c.in_default.ensures.waits.1 old t feeds h in
    let tends = subst (λ (r : Option ServeEnd). TendsTable told terms t t' k k' r) c.in_default-tended.is
    (subst (λ (x : Tending). TendsTable told terms x t' k k' c.tend_if_due-tended.result.0) c.look.ensures.pace
    (c.tend_if_due-tended.ensures.tends told c.now-moment.ensures.told)) in
    let tended = tends places d w before.joined before.starved before.is_over true old feeds looked in
    let early = c.end_early.ensures.keeps told k' d before.joined before.starved before.is_over true old t' feeds tended in
    let came = c.in_default-came.ensures.turn told t' old feeds early in
    let d' = g.D.ReadyDoor.shows c.let_in-came.new.door in
    let counts = c.let_in-came.new.counts in
    let k3 = g.H.HallApi.knows c.serve_all-served.new.seat in
    let w' = g.W.WaitForLinks.shows c.serve_all-served.new.wait in
    let w2 = g.W.WaitForLinks.shows c.let_in-came.new.wait in
    let after = c.serve_all-served.new.table.items in
    let By = FedBy (g.H.FeedApi.answers c.args.hall.now) terms in
    let served = c.serve_all-served.ensures.keeps told c.now-moment.ensures.told in
    let fed = served.2.2 d' w2 counts.joined counts.starved counts.is_over true old t' feeds came in
    let shut = subst (λ (r : Option ServeEnd). KeepsShutTo told terms served.0 k3 w2 w' served.1 after r) c.in_default-served.is served.3 in
    let on = shut d' counts.joined counts.starved counts.is_over old t' (feeds ++ served.2.0) fed in (
      feeds ++ served.2.0,
      all_more By feeds served.2.0 by served.2.1,
      subst (λ (x : Pace). Holds told terms old x.tending (feeds ++ served.2.0) (loop_state k3 d' w' after counts.joined counts.starved counts.is_over true))
          (sym c.serve_all-served.ensures.pace) on,
    )
