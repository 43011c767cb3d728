use Rattle.std.proofs.Common.{◌≡◌, ◌<◌, ℕ, List, length, map, refl, sym, ap, ◌∙◌, subst, arith}
use Rattle.std.specs.Prelude.{Some, slice_get}
use Rattle.std.proofs.lemmas.Option.{slice_get_read}
use Rattle.ordered_lists.specs.Reading.{got_at}
use Rattle.world_data.specs.declared.worlds.World.{World}
use Rattle.world_model.specs.Subscriptions.{Sub}
use Rattle.keyspace.specs.Entries.{objects_in}
use Rattle.delivery_model.specs.Plans.{effect_of_asked}
use Rattle.session_table.specs.Sessions.{State, session_of}
use Rattle.session_table.specs.Fans.{AreBare}
use Rattle.session_table.specs.FanLaws.{same_set}
use Rattle.object_plans.specs.Moves.{world_with}
use Rattle.channel_plans.specs.Planned.{IsPlanned}
use Rattle.tile_core.specs.Ready.{planned_writes}
use Rattle.tile_core.specs.Staged.{StagesBehind}
use Rattle.tile_core.specs.Stores.{world_at}
use Rattle.tile_core.proofs.Finishing.{bare_at, bare_set}
use Rattle.tile_core.proofs.Present.{get_set}
use Rattle.tile_core.proofs.Readying.{as_long, roomier, same_world, staged_set}
use Rattle.tile_core.proofs.ready.plan_request.Goals as goal

same_is : (a b : State) → Some a ≡ Some b → a ≡ b
same_is a b e = cc

-- the place is within the list, whatever was staged
read_there : (old new : List State) (i : ℕ) (s : State) → map session_of new ≡ map session_of old → i < length old → (i < length new → slice_get new i ≡ Some s) → slice_get new i ≡ Some s
read_there old new i s same lt f = let long = as_long new old same in f (omega (arith, long, lt))

pub returns-in_err-hold_reply-clause-same : goal.returns-in_err-hold_reply-clause-same
returns-in_err-hold_reply-clause-same g c =
    let old = c.args.sessions.now.items in
    let mid = c.stage_planned.new.sessions.items in
    let s = c.index_mut.result.now in
    let at = read_there old mid c.args.at s c.stage_planned.ensures.same c.requires.at (λ lt. slice_get_read mid (length mid) c.args.at s refl lt c.index_mut.ensures.value) in
    same_set mid c.args.at s c.hold_reply.new.caller at c.hold_reply.ensures.same ∙ c.stage_planned.ensures.same

pub returns-clause-same : goal.returns-clause-same
returns-clause-same g c =
    let old = c.args.sessions.now.items in
    let mid = c.stage_planned.new.sessions.items in
    let s = c.index_mut.result.now in
    let at = read_there old mid c.args.at s c.stage_planned.ensures.same c.requires.at (λ lt. slice_get_read mid (length mid) c.args.at s refl lt c.index_mut.ensures.value) in
    same_set mid c.args.at s c.hold_reply.new.caller at c.hold_reply.ensures.same ∙ c.stage_planned.ensures.same

pub returns-clause-quiet : goal.returns-clause-quiet
returns-clause-quiet g c = λ is bare.
    let mid = c.stage_planned.new.sessions.items in
    let s = c.index_mut.result.now in
    let still : AreBare mid = subst AreBare (sym (ap (λ v. v.items) (c.in_ok-is_told.ensures.quiet is))) bare in
    let at = read_there c.args.sessions.now.items mid c.args.at s c.stage_planned.ensures.same c.requires.at (λ lt. slice_get_read mid (length mid) c.args.at s refl lt c.index_mut.ensures.value) in
    bare_set mid c.args.at c.hold_reply.new.caller still (c.hold_reply.ensures.staged ∙ bare_at mid c.args.at s still at)

pub returns-clause-planned : goal.returns-clause-planned
returns-clause-planned g c =
    let store = c.args.store.now in
    let old = c.args.sessions.now.items in
    let mid = c.stage_planned.new.sessions.items in
    let s = c.index_mut.result.now in
    let v = c.hold_reply.new.caller in
    let p = c.in_ok-planned.planned in
    let at = read_there old mid c.args.at s c.stage_planned.ensures.same c.requires.at (λ lt. slice_get_read mid (length mid) c.args.at s refl lt c.index_mut.ensures.value) in
    let world : world_with c.make_room_for.new.store.hub.channels (objects_in c.make_room_for.new.store.objects) ≡ world_at store = same_world (record store { steps = c.plan_asked.new.steps }) c.make_room_for.new.store c.make_room_for.ensures.kept.before in
    let behind : StagesBehind (world_at store) (planned_writes p) old mid = subst (λ (w : World). StagesBehind w (planned_writes p) old mid) world c.in_ok-is_told.ensures.staged in
    record {
      plan = λ t here.
          let subs : c.subscriptions.result.now ≡ t.subs = c.subscriptions.ensures.same ∙ ap (λ (x : State). x.subs) (c.index.ensures ∙ got_at old c.args.at t c.index.result.now here) in
          subst (λ (held : List Sub). IsPlanned (world_at store) store.weight held (effect_of_asked (world_at store) c.args.now held c.args.asked.now) p) subs c.in_ok-planned.ensures;
      staged = λ first writes is staged. staged_set first _ mid c.args.at s v at c.hold_reply.ensures.same c.hold_reply.ensures.staged (behind first writes is staged);
      room = c.in_ok-make_room_for.ensures.room;
      replies = λ t here.
          let is : v ≡ t = same_is v t (sym (get_set mid c.args.at s v at) ∙ here) in
          ap (λ (x : State). x.mail.replies) (sym is) ∙ c.in_ok-hold_reply.ensures.replies;
    }

pub returns-clause-room : goal.returns-clause-room
returns-clause-room g c =
    let store = c.args.store.now in
    let room = c.make_room_for.new.store in
    roomier store (record store { steps = c.plan_asked.new.steps }) room (record room { steps = c.stage_planned.new.steps }) refl c.make_room_for.ensures.kept refl

pub returns-in_err-hold_reply-clause-room : goal.returns-in_err-hold_reply-clause-room
returns-in_err-hold_reply-clause-room g c =
    let store = c.args.store.now in
    let room = c.make_room_for.new.store in
    roomier store (record store { steps = c.plan_asked.new.steps }) room (record room { steps = c.stage_planned.new.steps }) refl c.make_room_for.ensures.kept refl

pub returns-in_err-is_told-clause-room : goal.returns-in_err-is_told-clause-room
returns-in_err-is_told-clause-room g c =
    let store = c.args.store.now in
    let room = c.make_room_for.new.store in
    roomier store (record store { steps = c.plan_asked.new.steps }) room (record room { steps = c.stage_planned.new.steps }) refl c.make_room_for.ensures.kept refl

pub returns-in_err-make_room_for-clause-room : goal.returns-in_err-make_room_for-clause-room
returns-in_err-make_room_for-clause-room g c =
    let store = c.args.store.now in
    roomier store (record store { steps = c.plan_asked.new.steps }) c.make_room_for.new.store c.make_room_for.new.store refl c.make_room_for.ensures.kept refl
