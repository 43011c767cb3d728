use Rattle.std.proofs.Common.{◌≡◌, ◌≤◌, ◌+◌, List, length, map, sym, ap, ◌∙◌, subst, arith}
use Rattle.std.specs.Prelude.{filter}
use Rattle.world_model.specs.Halls.{Hall, NamesChanged}
use Rattle.world_model.specs.Halls as halls
use Rattle.world_model.specs.Histories.{Step}
use Rattle.world_model.specs.declared.events.Event.TheVariants as event
use Rattle.world_model.specs.declared.events.Outcome.TheVariants as outcome
use Rattle.world_model.specs.declared.events.CallOutcome.TheVariants as called
use Rattle.session_table.specs.Sessions.{State, session_of}
use Rattle.tile_core.specs.CoreStates.{CoreState}
use Rattle.tile_core.specs.Answered.{AreNamed, AreRoomy, AreSessions, is_named}
use Rattle.tile_core.specs.Ready.{dues}
use Rattle.tile_core.specs.RecordSinks.{IsRecordedBy}
use Rattle.tile_core.specs.Stores.{hall_of}
use Rattle.tile_core.proofs.Calls.{rises_as, tick_refused}
use Rattle.tile_core.proofs.Named.{none_named, same_hall, same_room}
use Rattle.tile_core.proofs.Pushing.{recorded_by}
use Rattle.tile_core.proofs.Readying.{as_before, as_long, same_world}
use Rattle.tile_core.proofs.Ticked.{tick_named, tick_room, tick_sound, tick_step, tick_writes}
use Rattle.tile_core.proofs.cores.Core.tick_with.Goals as goal

pub invariant_of-self : goal.invariant_of-self
invariant_of-self g c =
    let k = c.self.inside in
    let new = c.unstage.new.sessions.items in
    let same : map session_of new ≡ map session_of k.sessions.items = c.unstage.ensures.same ∙ c.make_tick_ready-ready.ensures.same in
    record {
      kept = as_before k.store c.make_tick_ready-ready.new.store c.in_default.ensures.err c.self.invariant.kept;
      early = c.self.invariant.early;
      present = record {
        rises = rises_as 0 k.drawn new k.sessions.items same c.self.invariant.present.rises;
        few = let long = as_long new k.sessions.items same in let few = c.self.invariant.present.few in omega (arith, long, few);
      };
      bare = c.unstage.ensures.bare;
    }

pub returns-in_default-clause-step : goal.returns-in_default-clause-step
returns-in_default-clause-step g c =
    let k = c.self.inside in
    let new = c.unstage.new.sessions.items in
    let same : map session_of new ≡ map session_of k.sessions.items = c.unstage.ensures.same ∙ c.make_tick_ready-ready.ensures.same in
    let hall = same_hall k.store c.make_tick_ready-ready.new.store k.clock k.logged k.drawn k.sessions.items new (same_world k.store c.make_tick_ready-ready.new.store c.in_default.ensures.err) same in
    subst (λ (n : CoreState). Step n.hall (event.Tick c.args.moment) (outcome.Answered called.Memory) (hall_of c.make_tick_ready-ready.new.store k.clock k.logged k.drawn new)) c.self.view_is
    (subst (λ (h : Hall). Step (hall_of k.store k.clock k.logged k.drawn k.sessions.items) (event.Tick c.args.moment) (outcome.Answered called.Memory) h) (sym hall)
    (tick_refused k.store k.clock k.logged k.drawn k.sessions.items c.args.moment c.if-self-ge-MOST_LOGGED.false))

pub returns-in_default-clause-named : goal.returns-in_default-clause-named
returns-in_default-clause-named g c =
    let k = c.self.inside in
    let new = c.unstage.new.sessions.items in
    let same : map session_of new ≡ map session_of k.sessions.items = c.unstage.ensures.same ∙ c.make_tick_ready-ready.ensures.same in
    none_named c.args.touched.now _ _ (same_hall k.store c.make_tick_ready-ready.new.store k.clock k.logged k.drawn k.sessions.items new (same_world k.store c.make_tick_ready-ready.new.store c.in_default.ensures.err) same ∙ ap (λ (n : CoreState). n.hall) c.self.view_is)

pub returns-in_default-clause-room : goal.returns-in_default-clause-room
returns-in_default-clause-room g c =
    let k = c.self.inside in
    let new = c.unstage.new.sessions.items in
    let same : map session_of new ≡ map session_of k.sessions.items = c.unstage.ensures.same ∙ c.make_tick_ready-ready.ensures.same in
    same_room c.args.touched.now c.args.self.now.hall (hall_of c.make_tick_ready-ready.new.store k.clock k.logged k.drawn new)
    (same_hall k.store c.make_tick_ready-ready.new.store k.clock k.logged k.drawn k.sessions.items new (same_world k.store c.make_tick_ready-ready.new.store c.in_default.ensures.err) same ∙ ap (λ (n : CoreState). n.hall) c.self.view_is) c.requires.room

pub name_told-requires-clause-few : goal.name_told-requires-clause-few
name_told-requires-clause-few g c =
    let k = c.self.inside in
    let mid = c.make_tick_ready-ready.new.sessions.items in
    let long = as_long mid k.sessions.items c.make_tick_ready-ready.ensures.same in
    let few = c.self.invariant.present.few in
    let shown = ap (λ (ss : List State). length ss) c.as_slice.ensures.value in
    omega (arith, long, few, shown)

pub name_told-requires-clause-room : goal.name_told-requires-clause-room
name_told-requires-clause-room g c =
    let k = c.self.inside in
    let room = subst (λ (n : CoreState). AreSessions c.args.touched.now n.hall) (sym c.self.view_is) c.requires.room in
    subst (AreRoomy c.args.touched.now) (sym c.as_slice.ensures.value)
    (subst (λ (hs : List halls.Session). length c.args.touched.now ≤ length (filter (λ h. is_named c.args.touched.now h.number) hs)) (sym c.make_tick_ready-ready.ensures.same) room)

pub invariant_of-self-2 : goal.invariant_of-self-2
invariant_of-self-2 g c =
    let k = c.self.inside in
    let early = c.self.invariant.early in
    tick_sound k.store k.clock k.logged k.drawn k.sessions.items c.make_tick_ready-ready.new.sessions.items c.place_staged.new.sessions.items c.args.moment c.max-now.result c.make_tick_ready-ready.new.store c.let_go.new.store c.in-Ok.ready.gone
    c.self.invariant.kept c.self.invariant.present c.max-now.ensures c.make_tick_ready-ready.ensures.same c.in-Ok.ensures.taken c.place_staged.ensures.placed c.let_go.ensures.objects c.let_go.ensures.channels c.let_go.ensures.rest
    (omega (arith, c.max-now.ensures, early, c.requires.moment))

pub returns-clause-step : goal.returns-clause-step
returns-clause-step g c =
    let k = c.self.inside in
    subst (λ (n : CoreState). Step n.hall (event.Tick c.args.moment) (outcome.Answered called.Ok) (hall_of c.let_go.new.store c.max-now.result (k.logged + c.in-Ok.ready.gone.length) k.drawn c.place_staged.new.sessions.items)) c.self.view_is
    (tick_step k.store k.clock k.logged k.drawn k.sessions.items c.make_tick_ready-ready.new.sessions.items c.place_staged.new.sessions.items c.args.moment c.max-now.result c.make_tick_ready-ready.new.store c.let_go.new.store c.in-Ok.ready.gone
    c.self.invariant.kept c.self.invariant.present c.max-now.ensures c.make_tick_ready-ready.ensures.same c.in-Ok.ensures.taken c.place_staged.ensures.placed c.let_go.ensures.objects c.let_go.ensures.channels c.let_go.ensures.rest
    c.if-self-ge-MOST_LOGGED.false)

pub returns-clause-named : goal.returns-clause-named
returns-clause-named g c =
    let k = c.self.inside in
    subst (λ (n : CoreState). NamesChanged c.name_told.new.touched n.hall (hall_of c.let_go.new.store c.max-now.result (k.logged + c.in-Ok.ready.gone.length) k.drawn c.place_staged.new.sessions.items)) c.self.view_is
    (tick_named k.store k.clock k.logged k.drawn k.sessions.items c.make_tick_ready-ready.new.sessions.items c.place_staged.new.sessions.items c.args.moment c.max-now.result c.make_tick_ready-ready.new.store c.let_go.new.store c.in-Ok.ready.gone
    c.self.invariant.kept c.self.invariant.present c.max-now.ensures c.make_tick_ready-ready.ensures.same c.in-Ok.ensures.taken c.place_staged.ensures.placed c.let_go.ensures.objects c.let_go.ensures.channels c.let_go.ensures.rest
    c.name_told.new.touched (subst (AreNamed c.name_told.new.touched) c.as_slice.ensures.value c.name_told.ensures.named))

pub returns-clause-room : goal.returns-clause-room
returns-clause-room g c =
    let k = c.self.inside in
    tick_room k.store k.clock k.logged k.drawn k.sessions.items c.make_tick_ready-ready.new.sessions.items c.place_staged.new.sessions.items c.args.moment c.max-now.result c.make_tick_ready-ready.new.store c.let_go.new.store c.in-Ok.ready.gone
    c.self.invariant.kept c.self.invariant.present c.max-now.ensures c.make_tick_ready-ready.ensures.same c.in-Ok.ensures.taken c.place_staged.ensures.placed c.let_go.ensures.objects c.let_go.ensures.channels c.let_go.ensures.rest
    c.name_told.new.touched (subst (AreNamed c.name_told.new.touched) c.as_slice.ensures.value c.name_told.ensures.named)
    (subst (AreRoomy c.name_told.new.touched) c.as_slice.ensures.value c.name_told.ensures.room)

pub returns-clause-recorded : goal.returns-clause-recorded
returns-clause-recorded g c = λ fine.
    let k = c.self.inside in
    let gone = c.in-Ok.ready.gone in
    let tick = event.Tick c.args.moment in
    subst (λ (n : CoreState). IsRecordedBy g.L.RecordSink.takes n.hall tick c.args.ledger.now c.make_tick_ready-ready.new.ledger) c.self.view_is
    (recorded_by g.L.RecordSink.takes (hall_of k.store k.clock k.logged k.drawn k.sessions.items) tick (dues k.store c.max-now.result) c.args.ledger.now c.make_tick_ready-ready.new.ledger
    (tick_writes k.store k.clock k.logged k.drawn k.sessions.items c.make_tick_ready-ready.new.sessions.items c.place_staged.new.sessions.items c.args.moment c.max-now.result c.make_tick_ready-ready.new.store c.let_go.new.store gone
    c.self.invariant.kept c.self.invariant.present c.max-now.ensures c.make_tick_ready-ready.ensures.same c.in-Ok.ensures.taken c.place_staged.ensures.placed c.let_go.ensures.objects c.let_go.ensures.channels c.let_go.ensures.rest)
    c.in-Ok.ensures.recorded)
