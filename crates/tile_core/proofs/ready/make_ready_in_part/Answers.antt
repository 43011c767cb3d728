use Rattle.std.proofs.Common.{◌≡◌, ◌∙◌, ◌++◌, false, IfOk, OnOk, List, map, length, sym, ap, subst, arith}
use Rattle.std.specs.Prelude.{Result, Ok, Err}
use Rattle.world_data.specs.Expiry.{deadline_of, in_turn}
use Rattle.world_data.specs.declared.channels.Channel.{Channel}
use Rattle.fence_model.specs.Writes.{Write, going}
use Rattle.keyspace.specs.Entries.{objects_in}
use Rattle.session_table.specs.Fans.{AreBare}
use Rattle.tile_core.specs.Orders.{Rise}
use Rattle.tile_core.specs.RecordSinks.{AreTaken, writes_if}
use Rattle.tile_core.specs.declared.ready.Ready.{Ready}
use Rattle.tile_core.specs.declared.stores.Store.{Store}
use Rattle.tile_core.specs.Ready.{IsReady, dues}
use Rattle.tile_core.specs.Stores.{world_at}
use Rattle.tile_core.proofs.Readying.{as_long, bare_by, can_record_if, ready_from}
use Rattle.tile_core.proofs.Taken.{are_few}
use Rattle.tile_core.proofs.ready.make_ready_in_part.Goals as goal

-- what was made ready is so still where its records were taken
if_kept : {T E Same : Type 0} (result : Result T E) (x : T) (P : T → Type 0) → IfOk result (λ r. r ≡ x) → OnOk result Same → (Same → P x) → IfOk result P
if_kept (Ok r) x P is same then = subst P (sym is) (then same)
if_kept (Err e) x P is same then = tt

pub undo-requires-clause-few : goal.undo-requires-clause-few
undo-requires-clause-few g c =
    let s = c.args.store.now in
    let count = c.in_ok-gone.ensures.taken.count in
    let same : length (objects_in c.plan_rest-planned.new.store.objects) ≡ length (objects_in c.take_out_due.new.store.objects) = ap length c.plan_rest-planned.ensures.room.before.objects in
    omega (arith, same, count, are_few (objects_in s.objects) s.weight c.requires.kept.kept)

pub record_or_undo-requires-clause-few : goal.record_or_undo-requires-clause-few
record_or_undo-requires-clause-few g c =
    let s = c.args.store.now in
    let count = c.in_ok-gone.ensures.taken.count in
    let same : length (objects_in c.plan_rest-planned.new.store.objects) ≡ length (objects_in c.take_out_due.new.store.objects) = ap length c.plan_rest-planned.ensures.room.before.objects in
    omega (arith, same, count, are_few (objects_in s.objects) s.weight c.requires.kept.kept)

pub record_or_undo-requires-clause-can : goal.record_or_undo-requires-clause-can
record_or_undo-requires-clause-can g c =
    let long = as_long c.take_out_due.new.sessions.items c.args.sessions.now.items c.take_out_due.ensures.same in
    can_record_if c.take_out_due.new.store c.args.call.now c.args.call.asked.now c.args.call.at c.plan_rest-planned.new.store c.take_out_due.new.sessions.items c.plan_rest-planned.new.sessions.items c.in-Ok.planned (omega (arith, long, c.requires.at)) c.in-Ok.ensures.planned

pub returns-in-Ok-clause-ready : goal.returns-in-Ok-clause-ready
returns-in-Ok-clause-ready g c =
    let told = c.may_be_told.result in
    let ready : Ready = record { gone = c.in_ok-gone.gone; planned = c.in-Ok.planned; is_told = told } in
    let one = c.take_out_due.new.sessions.items in
    let taken = c.in_ok-gone.ensures.taken in
    let quiet : told ≡ false → AreBare c.plan_rest-planned.new.sessions.items =
    λ is. let none = c.may_be_told.ensures is in c.in-Ok.ensures.quiet none.1 (bare_by (world_at c.args.store.now) (dues c.args.store.now c.args.call.now) one (sym taken.done.length_is ∙ none.0) taken.staged) in
    if_kept c.record_or_undo.result ready (λ r. IsReady c.args.store.now c.args.call.now c.args.call.asked.now c.args.call.at c.record_or_undo.new.store c.plan_rest-planned.new.sessions.items r) c.record_or_undo.ensures.same c.record_or_undo.ensures.stays
    (λ same. subst (λ (s : Store). IsReady c.args.store.now c.args.call.now c.args.call.asked.now c.args.call.at s c.plan_rest-planned.new.sessions.items ready) (sym same)
    (ready_from c.args.store.now c.take_out_due.new.store c.plan_rest-planned.new.store c.args.call.now c.args.call.asked.now c.args.call.at c.in_ok-gone.gone
    c.args.sessions.now.items c.take_out_due.new.sessions.items c.plan_rest-planned.new.sessions.items
    c.in_ok-gone.ensures.taken c.requires.at c.take_out_due.ensures.same c.plan_rest-planned.ensures.same c.plan_rest-planned.ensures.room.before
    c.in-Ok.planned told quiet c.in-Ok.ensures.planned))

pub record_or_undo-requires-clause-rise : goal.record_or_undo-requires-clause-rise
record_or_undo-requires-clause-rise g c =
    subst (λ (cs : List Channel). Rise (λ d. deadline_of d.deadline) cs) (sym c.plan_rest-planned.ensures.room.taken) c.in_ok-gone.ensures.taken.rise

pub record_or_undo-requires-clause-room : goal.record_or_undo-requires-clause-room
record_or_undo-requires-clause-room g c = λ key. let one = c.in_ok-gone.ensures.room key in let two = c.plan_rest-planned.ensures.room.room key in omega (arith, one, two)

pub undo-requires-clause-room : goal.undo-requires-clause-room
undo-requires-clause-room g c = λ key. let one = c.in_ok-gone.ensures.room key in let two = c.plan_rest-planned.ensures.room.room key in omega (arith, one, two)

pub returns-in-Ok-clause-recorded : goal.returns-in-Ok-clause-recorded
returns-in-Ok-clause-recorded g c =
    let taken = c.in_ok-gone.ensures.taken in
    let ready : Ready = record { gone = c.in_ok-gone.gone; planned = c.in-Ok.planned; is_told = c.may_be_told.result } in
    let turn : map going (in_turn c.in_ok-gone.gone.held.items c.plan_rest-planned.new.store.hub.taken) ≡ dues c.args.store.now c.args.call.now =
    ap (λ (cs : List Channel). map going (in_turn c.in_ok-gone.gone.held.items cs)) c.plan_rest-planned.ensures.room.taken ∙ taken.turn in
    if_kept c.record_or_undo.result ready (λ r. AreTaken g.L.RecordSink.takes (dues c.args.store.now c.args.call.now ++ writes_if r.planned) c.args.ledger.now c.record_or_undo.new.ledger) c.record_or_undo.ensures.same c.record_or_undo.ensures.recorded
    (λ recorded. subst (λ (ws : List Write). AreTaken g.L.RecordSink.takes (ws ++ writes_if c.in-Ok.planned) c.args.ledger.now c.record_or_undo.new.ledger) turn recorded)
