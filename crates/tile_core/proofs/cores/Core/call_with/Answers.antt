use Rattle.std.proofs.Common.{◌≡◌, ◌≤◌, ◌+◌, ◌++◌, ℕ, true, List, length, sym, ap, ◌∙◌, subst, arith}
use Rattle.std.specs.Prelude.{Result, Ok, Err, filter}
use Rattle.world_model.specs.Halls.{Hall, NamesChanged}
use Rattle.world_model.specs.Halls as halls
use Rattle.world_model.specs.Histories.{Step}
use Rattle.world_model.specs.declared.events.Event.TheVariants as event
use Rattle.world_model.specs.declared.events.Outcome.TheVariants as outcome
use Rattle.world_model.specs.declared.events.CallOutcome.{CallOutcome}
use Rattle.world_model.specs.declared.events.CallOutcome.TheVariants as called
use Rattle.keyspace.specs.Entries.{objects_in}
use Rattle.session_table.specs.Fans.{AreBare}
use Rattle.session_table.specs.Sessions.{State}
use Rattle.tile_core.specs.CoreStates.{CoreState}
use Rattle.tile_core.specs.Answered.{AreNamed, AreRoomy, AreSessions, IsAnswered, MayCall, is_named}
use Rattle.tile_core.specs.Ready.{dues}
use Rattle.tile_core.specs.RecordSinks.{IsRecordedBy, writes_if}
use Rattle.tile_core.specs.Sessions.{IsServed, are_rising}
use Rattle.tile_core.specs.Stores.{hall_of}
use Rattle.tile_core.proofs.Answered.{may_not}
use Rattle.tile_core.proofs.Called.{all_named, answered_, can, room_left, short, sound, step, writes}
use Rattle.tile_core.proofs.Calls.{lacks, refused, rises_as}
use Rattle.tile_core.proofs.Halving.{rising}
use Rattle.tile_core.proofs.Named.{none_named, same_hall, same_room}
use Rattle.tile_core.proofs.NamedChanges.{is_it, named_more, room_for_one, stay, still_roomy, with_name}
use Rattle.tile_core.proofs.Pushing.{recorded_by}
use Rattle.tile_core.proofs.Readying.{as_before, as_long, same_at, same_world}
use Rattle.tile_core.proofs.Taken.{are_few}
use Rattle.tile_core.proofs.cores.Core.call_with.Goals as goal

pub served-requires : goal.served-requires
served-requires g c =
    let k = c.self.inside in
    subst (λ (ss : List State). are_rising ss ≡ true) (sym c.as_slice.ensures.value) (rising 0 k.drawn k.sessions.items c.self.invariant.present.rises)

pub returns-in-Err-clause-step : goal.returns-in-Err-clause-step
returns-in-Err-clause-step g c =
    let k = c.self.inside in
    let e : IsServed k.sessions.items c.args.session (Err c.in-Err.answer) = subst (λ (r : Result ℕ CallOutcome). IsServed k.sessions.items c.args.session r) c.in-Err.is (subst (λ (ss : List State). IsServed ss c.args.session c.served.result) c.as_slice.ensures.value c.served.ensures) in
    subst (λ (n : CoreState). Step n.hall (event.Call c.args.session c.args.moment c.args.asked.now) (outcome.Answered c.in-Err.answer) n.hall) c.self.view_is
    (refused k.store k.clock k.logged k.drawn k.sessions.items c.args.session c.args.moment c.args.asked.now c.if-self-ge-MOST_LOGGED.false c.self.invariant.present.rises c.in-Err.answer e)

pub returns-in-Err-clause-done : goal.returns-in-Err-clause-done
returns-in-Err-clause-done g c = λ may.
    let k = c.self.inside in
    let e : IsServed k.sessions.items c.args.session (Err c.in-Err.answer) = subst (λ (r : Result ℕ CallOutcome). IsServed k.sessions.items c.args.session r) c.in-Err.is (subst (λ (ss : List State). IsServed ss c.args.session c.served.result) c.as_slice.ensures.value c.served.ensures) in
    let here = subst (λ (n : CoreState). MayCall n.hall c.args.session) (sym c.self.view_is) may in
    absurd (may_not k.drawn k.sessions.items c.args.session c.self.invariant.present.rises c.in-Err.answer e here.1 here.2)

pub returns-in-Err-clause-answered : goal.returns-in-Err-clause-answered
returns-in-Err-clause-answered g c = λ fine.
    let k = c.self.inside in
    let e : IsServed k.sessions.items c.args.session (Err c.in-Err.answer) = subst (λ (r : Result ℕ CallOutcome). IsServed k.sessions.items c.args.session r) c.in-Err.is (subst (λ (ss : List State). IsServed ss c.args.session c.served.result) c.as_slice.ensures.value c.served.ensures) in
    absurd (subst (λ (a : CallOutcome). IsServed k.sessions.items c.args.session (Err a)) fine e)

pub returns-in-Err-clause-recorded : goal.returns-in-Err-clause-recorded
returns-in-Err-clause-recorded g c = λ fine.
    let k = c.self.inside in
    let e : IsServed k.sessions.items c.args.session (Err c.in-Err.answer) = subst (λ (r : Result ℕ CallOutcome). IsServed k.sessions.items c.args.session r) c.in-Err.is (subst (λ (ss : List State). IsServed ss c.args.session c.served.result) c.as_slice.ensures.value c.served.ensures) in
    absurd (subst (λ (a : CallOutcome). IsServed k.sessions.items c.args.session (Err a)) fine e)

pub make_ready-ready-requires-clause-at : goal.make_ready-ready-requires-clause-at
make_ready-ready-requires-clause-at g c =
    let sv = subst (λ (ss : List State). IsServed ss c.args.session (Ok c.in-Ok.at)) c.as_slice.ensures.value c.in-Ok.ensures in
    sv.3

pub make_ready-ready-requires-clause-moment : goal.make_ready-ready-requires-clause-moment
make_ready-ready-requires-clause-moment g c = let early = c.self.invariant.early in omega (arith, c.max-now.ensures, early, c.requires.moment)

pub invariant_of-self : goal.invariant_of-self
invariant_of-self g c =
    let k = c.self.inside in
    let new = c.make_ready-ready.new.sessions.items in
    let same = c.make_ready-ready.ensures.same in
    record {
      kept = as_before k.store c.make_ready-ready.new.store c.in_default.ensures.err c.self.invariant.kept;
      early = c.self.invariant.early;
      present = record {
        rises = rises_as 0 k.drawn new k.sessions.items same c.self.invariant.present.rises;
        few = let long = as_long new k.sessions.items same in let few = c.self.invariant.present.few in omega (arith, long, few);
      };
      bare = c.in_default.ensures.bare;
    }

pub returns-in_default-clause-step : goal.returns-in_default-clause-step
returns-in_default-clause-step g c =
    let k = c.self.inside in
    let sv = subst (λ (ss : List State). IsServed ss c.args.session (Ok c.in-Ok.at)) c.as_slice.ensures.value c.in-Ok.ensures in
    let new = c.make_ready-ready.new.sessions.items in
    let hall = same_hall k.store c.make_ready-ready.new.store k.clock k.logged k.drawn k.sessions.items new (same_world k.store c.make_ready-ready.new.store c.in_default.ensures.err) c.make_ready-ready.ensures.same in
    let call = event.Call c.args.session c.args.moment c.args.asked.now in
    subst (λ (n : CoreState). Step n.hall call (outcome.Answered called.Memory) (hall_of c.make_ready-ready.new.store k.clock k.logged k.drawn new)) c.self.view_is
    (subst (λ (h : Hall). Step (hall_of k.store k.clock k.logged k.drawn k.sessions.items) call (outcome.Answered called.Memory) h) (sym hall)
    (lacks k.store k.clock k.logged k.drawn k.sessions.items c.args.session c.args.moment c.args.asked.now c.if-self-ge-MOST_LOGGED.false c.in-Ok.at sv.0.session c.self.invariant.present.rises sv.0.here sv.0.numbered sv.1 sv.2))

pub returns-in_default-clause-named : goal.returns-in_default-clause-named
returns-in_default-clause-named g c =
    let k = c.self.inside in
    let new = c.make_ready-ready.new.sessions.items in
    none_named c.args.touched.now _ _ (same_hall k.store c.make_ready-ready.new.store k.clock k.logged k.drawn k.sessions.items new (same_world k.store c.make_ready-ready.new.store c.in_default.ensures.err) c.make_ready-ready.ensures.same ∙ ap (λ (n : CoreState). n.hall) c.self.view_is)

pub returns-in_default-clause-room : goal.returns-in_default-clause-room
returns-in_default-clause-room g c =
    let k = c.self.inside in
    let new = c.make_ready-ready.new.sessions.items in
    same_room c.args.touched.now c.args.self.now.hall (hall_of c.make_ready-ready.new.store k.clock k.logged k.drawn new)
    (same_hall k.store c.make_ready-ready.new.store k.clock k.logged k.drawn k.sessions.items new (same_world k.store c.make_ready-ready.new.store c.in_default.ensures.err) c.make_ready-ready.ensures.same ∙ ap (λ (n : CoreState). n.hall) c.self.view_is) c.requires.room

pub name_told-requires-clause-few : goal.name_told-requires-clause-few
name_told-requires-clause-few g c =
    let k = c.self.inside in
    let mid = c.make_ready-ready.new.sessions.items in
    let long = as_long mid k.sessions.items c.make_ready-ready.ensures.same in
    let few = c.self.invariant.present.few in
    let shown = ap (λ (ss : List State). length ss) c.as_slice-2.ensures.value in
    omega (arith, long, few, shown)

pub name_told-requires-clause-room : goal.name_told-requires-clause-room
name_told-requires-clause-room g c =
    let k = c.self.inside in
    let mid = c.make_ready-ready.new.sessions.items in
    let room = subst (λ (n : CoreState). AreSessions c.args.touched.now n.hall) (sym c.self.view_is) c.requires.room in
    subst (AreRoomy c.args.touched.now) (sym c.as_slice-2.ensures.value)
    (subst (λ (hs : List halls.Session). length c.args.touched.now ≤ length (filter (λ h. is_named c.args.touched.now h.number) hs)) (sym c.make_ready-ready.ensures.same) room)

pub name_session-requires : goal.name_session-requires
name_session-requires g c = λ was.
    let k = c.self.inside in
    let sv = subst (λ (ss : List State). IsServed ss c.args.session (Ok c.in-Ok.at)) c.as_slice.ensures.value c.in-Ok.ensures in
    let mid = c.make_ready-ready.new.sessions.items in
    let ready = c.in-Ok-ready.ensures.ready in
    let number : ready.caller.number ≡ c.args.session = ap (λ (h : halls.Session). h.number) (same_at mid k.sessions.items c.in-Ok.at ready.caller sv.0.session c.make_ready-ready.ensures.same ready.here sv.0.here) ∙ sv.0.numbered in
    let room = subst (AreRoomy c.name_told.new.touched) c.as_slice-2.ensures.value c.name_told.ensures.room in
    let lt = room_for_one c.name_told.new.touched mid room c.in-Ok.at ready.caller ready.here (ap (is_named c.name_told.new.touched) number ∙ was) in
    let long = as_long mid k.sessions.items c.make_ready-ready.ensures.same in
    let few = c.self.invariant.present.few in
    omega (arith, lt, long, few)

pub name_told-requires-clause-quiet : goal.name_told-requires-clause-quiet
name_told-requires-clause-quiet g c = λ is. subst AreBare (sym c.as_slice-2.ensures.value) (c.in-Ok-ready.ensures.ready.quiet is)

pub complete-requires-clause-quiet : goal.complete-requires-clause-quiet
complete-requires-clause-quiet g c = c.in-Ok-ready.ensures.ready.quiet

pub complete-requires-clause-few : goal.complete-requires-clause-few
complete-requires-clause-few g c =
    let ready = c.in-Ok-ready.ensures.ready in
    are_few (objects_in c.make_ready-ready.new.store.objects) c.make_ready-ready.new.store.weight ready.kept.kept

pub complete-requires-clause-at : goal.complete-requires-clause-at
complete-requires-clause-at g c =
    let k = c.self.inside in
    let sv = subst (λ (ss : List State). IsServed ss c.args.session (Ok c.in-Ok.at)) c.as_slice.ensures.value c.in-Ok.ensures in
    let long = as_long c.make_ready-ready.new.sessions.items k.sessions.items c.make_ready-ready.ensures.same in
    let lt = sv.3 in
    omega (arith, long, lt)

pub complete-requires-clause-can : goal.complete-requires-clause-can
complete-requires-clause-can g c =
    let k = c.self.inside in
    let sv = subst (λ (ss : List State). IsServed ss c.args.session (Ok c.in-Ok.at)) c.as_slice.ensures.value c.in-Ok.ensures in
    can k.store k.clock k.logged k.drawn k.sessions.items c.make_ready-ready.new.sessions.items c.args.session c.in-Ok.at c.args.moment c.max-now.result c.args.asked.now c.make_ready-ready.new.store c.in-Ok-ready.ready
    c.self.invariant.kept c.self.invariant.present sv c.max-now.ensures c.make_ready-ready.ensures.same c.in-Ok-ready.ensures.ready

pub complete-requires-clause-short : goal.complete-requires-clause-short
complete-requires-clause-short g c =
    let k = c.self.inside in
    let sv = subst (λ (ss : List State). IsServed ss c.args.session (Ok c.in-Ok.at)) c.as_slice.ensures.value c.in-Ok.ensures in
    let le = short k.store k.clock k.logged k.drawn k.sessions.items c.make_ready-ready.new.sessions.items c.args.session c.in-Ok.at c.args.moment c.max-now.result c.args.asked.now c.make_ready-ready.new.store c.in-Ok-ready.ready
    c.self.invariant.kept c.self.invariant.present sv c.max-now.ensures c.make_ready-ready.ensures.same c.in-Ok-ready.ensures.ready in
    omega (arith, le)

pub invariant_of-self-2 : goal.invariant_of-self-2
invariant_of-self-2 g c =
    let k = c.self.inside in
    let sv = subst (λ (ss : List State). IsServed ss c.args.session (Ok c.in-Ok.at)) c.as_slice.ensures.value c.in-Ok.ensures in
    let early = c.self.invariant.early in
    sound k.store k.clock k.logged k.drawn k.sessions.items c.make_ready-ready.new.sessions.items c.args.session c.in-Ok.at c.args.moment c.max-now.result c.args.asked.now c.make_ready-ready.new.store c.in-Ok-ready.ready
    c.self.invariant.kept c.self.invariant.present sv c.max-now.ensures c.make_ready-ready.ensures.same c.in-Ok-ready.ensures.ready
    c.if-self-ge-MOST_LOGGED.false c.complete.new.store c.complete.new.sessions.items c.complete.result c.complete.ensures (omega (arith, c.max-now.ensures, early, c.requires.moment))

pub returns-clause-step : goal.returns-clause-step
returns-clause-step g c =
    let k = c.self.inside in
    let sv = subst (λ (ss : List State). IsServed ss c.args.session (Ok c.in-Ok.at)) c.as_slice.ensures.value c.in-Ok.ensures in
    subst (λ (n : CoreState). Step n.hall (event.Call c.args.session c.args.moment c.args.asked.now) (outcome.Answered called.Ok) (hall_of c.complete.new.store c.max-now.result (k.logged + c.complete.result) k.drawn c.complete.new.sessions.items)) c.self.view_is
    (step k.store k.clock k.logged k.drawn k.sessions.items c.make_ready-ready.new.sessions.items c.args.session c.in-Ok.at c.args.moment c.max-now.result c.args.asked.now c.make_ready-ready.new.store c.in-Ok-ready.ready
    c.self.invariant.kept c.self.invariant.present sv c.max-now.ensures c.make_ready-ready.ensures.same c.in-Ok-ready.ensures.ready
    c.if-self-ge-MOST_LOGGED.false c.complete.new.store c.complete.new.sessions.items c.complete.result c.complete.ensures)

pub returns-clause-named : goal.returns-clause-named
returns-clause-named g c =
    let k = c.self.inside in
    let sv = subst (λ (ss : List State). IsServed ss c.args.session (Ok c.in-Ok.at)) c.as_slice.ensures.value c.in-Ok.ensures in
    let mid = c.make_ready-ready.new.sessions.items in
    let named : c.name_session.new.touched ≡ with_name c.name_told.new.touched c.args.session = c.name_session.ensures in
    let told = subst (AreNamed c.name_told.new.touched) c.as_slice-2.ensures.value c.name_told.ensures.named in
    subst (λ (n : CoreState). NamesChanged c.name_session.new.touched n.hall (hall_of c.complete.new.store c.max-now.result (k.logged + c.complete.result) k.drawn c.complete.new.sessions.items)) c.self.view_is
    (subst (λ (t : List ℕ). NamesChanged t (hall_of k.store k.clock k.logged k.drawn k.sessions.items) (hall_of c.complete.new.store c.max-now.result (k.logged + c.complete.result) k.drawn c.complete.new.sessions.items)) (sym named)
    (all_named k.store k.clock k.logged k.drawn k.sessions.items mid c.args.session c.in-Ok.at c.args.moment c.max-now.result c.args.asked.now c.make_ready-ready.new.store c.in-Ok-ready.ready
    c.self.invariant.kept c.self.invariant.present sv c.max-now.ensures c.make_ready-ready.ensures.same c.in-Ok-ready.ensures.ready
    c.if-self-ge-MOST_LOGGED.false c.complete.new.store c.complete.new.sessions.items c.complete.result c.complete.ensures
    (with_name c.name_told.new.touched c.args.session) (named_more c.name_told.new.touched (with_name c.name_told.new.touched c.args.session) mid (stay c.name_told.new.touched c.args.session) told) (is_it c.name_told.new.touched c.args.session)))

pub returns-clause-kept : goal.returns-clause-kept
returns-clause-kept g c = λ n was.
    subst (λ (t : List ℕ). is_named t n ≡ true) (sym c.name_session.ensures) (stay c.name_told.new.touched c.args.session n (c.name_told.ensures.kept n was))

pub returns-clause-room : goal.returns-clause-room
returns-clause-room g c =
    let k = c.self.inside in
    let sv = subst (λ (ss : List State). IsServed ss c.args.session (Ok c.in-Ok.at)) c.as_slice.ensures.value c.in-Ok.ensures in
    let mid = c.make_ready-ready.new.sessions.items in
    let ready = c.in-Ok-ready.ensures.ready in
    let number : ready.caller.number ≡ c.args.session = ap (λ (h : halls.Session). h.number) (same_at mid k.sessions.items c.in-Ok.at ready.caller sv.0.session c.make_ready-ready.ensures.same ready.here sv.0.here) ∙ sv.0.numbered in
    let named : c.name_session.new.touched ≡ with_name c.name_told.new.touched c.args.session = c.name_session.ensures in
    let told = subst (AreNamed c.name_told.new.touched) c.as_slice-2.ensures.value c.name_told.ensures.named in
    let room = subst (AreRoomy c.name_told.new.touched) c.as_slice-2.ensures.value c.name_told.ensures.room in
    let left : AreRoomy (with_name c.name_told.new.touched c.args.session) mid = subst (λ (n : ℕ). AreRoomy (with_name c.name_told.new.touched n) mid) number (still_roomy c.name_told.new.touched mid room c.in-Ok.at ready.caller ready.here) in
    subst (λ (t : List ℕ). AreSessions t (hall_of c.complete.new.store c.max-now.result (k.logged + c.complete.result) k.drawn c.complete.new.sessions.items)) (sym named)
    (room_left k.store k.clock k.logged k.drawn k.sessions.items mid c.args.session c.in-Ok.at c.args.moment c.max-now.result c.args.asked.now c.make_ready-ready.new.store c.in-Ok-ready.ready
    c.self.invariant.kept c.self.invariant.present sv c.max-now.ensures c.make_ready-ready.ensures.same c.in-Ok-ready.ensures.ready
    c.if-self-ge-MOST_LOGGED.false c.complete.new.store c.complete.new.sessions.items c.complete.result c.complete.ensures
    (with_name c.name_told.new.touched c.args.session) (named_more c.name_told.new.touched (with_name c.name_told.new.touched c.args.session) mid (stay c.name_told.new.touched c.args.session) told) (is_it c.name_told.new.touched c.args.session) left)

pub returns-clause-logged : goal.returns-clause-logged
returns-clause-logged g c =
    let k = c.self.inside in
    let sv = subst (λ (ss : List State). IsServed ss c.args.session (Ok c.in-Ok.at)) c.as_slice.ensures.value c.in-Ok.ensures in
    let le = short k.store k.clock k.logged k.drawn k.sessions.items c.make_ready-ready.new.sessions.items c.args.session c.in-Ok.at c.args.moment c.max-now.result c.args.asked.now c.make_ready-ready.new.store c.in-Ok-ready.ready
    c.self.invariant.kept c.self.invariant.present sv c.max-now.ensures c.make_ready-ready.ensures.same c.in-Ok-ready.ensures.ready in
    let was : c.args.self.now.hall.logged ≡ k.logged = sym (ap (λ (n : CoreState). n.hall.logged) c.self.view_is) in
    let long = c.complete.ensures.length_is in
    omega (arith, le, was, long)

pub returns-clause-answered : goal.returns-clause-answered
returns-clause-answered g c = λ fine.
    let k = c.self.inside in
    let sv = subst (λ (ss : List State). IsServed ss c.args.session (Ok c.in-Ok.at)) c.as_slice.ensures.value c.in-Ok.ensures in
    subst (λ (n : CoreState). IsAnswered n.hall (hall_of c.complete.new.store c.max-now.result (k.logged + c.complete.result) k.drawn c.complete.new.sessions.items) c.args.moment c.args.session c.args.asked.now) c.self.view_is
    (answered_ k.store k.clock k.logged k.drawn k.sessions.items c.make_ready-ready.new.sessions.items c.args.session c.in-Ok.at c.args.moment c.max-now.result c.args.asked.now c.make_ready-ready.new.store c.in-Ok-ready.ready
    c.self.invariant.kept c.self.invariant.present sv c.max-now.ensures c.make_ready-ready.ensures.same c.in-Ok-ready.ensures.ready
    c.if-self-ge-MOST_LOGGED.false c.complete.new.store c.complete.new.sessions.items c.complete.result c.complete.ensures)

pub returns-clause-recorded : goal.returns-clause-recorded
returns-clause-recorded g c = λ fine.
    let k = c.self.inside in
    let sv = subst (λ (ss : List State). IsServed ss c.args.session (Ok c.in-Ok.at)) c.as_slice.ensures.value c.in-Ok.ensures in
    let call = event.Call c.args.session c.args.moment c.args.asked.now in
    subst (λ (n : CoreState). IsRecordedBy g.L.RecordSink.takes n.hall call c.args.ledger.now c.make_ready-ready.new.ledger) c.self.view_is
    (recorded_by g.L.RecordSink.takes (hall_of k.store k.clock k.logged k.drawn k.sessions.items) call (dues k.store c.max-now.result ++ writes_if c.in-Ok-ready.ready.planned) c.args.ledger.now c.make_ready-ready.new.ledger
    (writes k.store k.clock k.logged k.drawn k.sessions.items c.make_ready-ready.new.sessions.items c.args.session c.in-Ok.at c.args.moment c.max-now.result c.args.asked.now c.make_ready-ready.new.store c.in-Ok-ready.ready
    c.self.invariant.kept c.self.invariant.present sv c.max-now.ensures c.make_ready-ready.ensures.same c.in-Ok-ready.ensures.ready
    c.if-self-ge-MOST_LOGGED.false c.complete.new.store c.complete.new.sessions.items c.complete.result c.complete.ensures)
    c.in-Ok-ready.ensures.recorded)
