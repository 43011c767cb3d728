use Rattle.std.proofs.Common.{◌≡◌, ◌∙◌, List, ap, sym, subst, length, arith}
use Rattle.world_data.specs.declared.objects.Object.{Object}
use Rattle.keyspace.specs.Entries.{Entry, objects_in}
use Rattle.channel_hub.specs.Hubs.{Held}
use Rattle.tile_core.specs.declared.stores.Store.{Store}
use Rattle.tile_core.specs.Dues.{AreOut, HaveRoom, IsExpired}
use Rattle.tile_core.specs.Staged.{AreStagedEach}
use Rattle.tile_core.specs.Stores.{sums_of}
use Rattle.tile_core.proofs.Readying.{due_taken}
use Rattle.tile_core.proofs.Taken.{are_few}
use Rattle.tile_core.proofs.ready.take_out_due.Goals as goal

pub put_back-requires-clause-few : goal.put_back-requires-clause-few
put_back-requires-clause-few g c =
    let s = c.args.store.now in
    let e : IsExpired (objects_in s.objects) c.args.now s.weight (objects_in c.expire.new.objects) c.in_ok-objects.objects = c.in_ok-objects.ensures.expired in
    let same = ap (λ (t : Store). length (objects_in t.objects)) c.take_out_channels.ensures.rest in
    omega (arith, e.taken.count, same, are_few (objects_in s.objects) s.weight c.requires.kept.kept)

pub put_back-requires-clause-room : goal.put_back-requires-clause-room
put_back-requires-clause-room g c =
    subst (λ (xs : List Entry). HaveRoom xs c.in_ok-objects.objects.held.items) (sym (ap (λ (t : Store). t.objects) c.take_out_channels.ensures.rest)) c.in_ok-objects.ensures.room

pub returns-in-Ok-clause-taken : goal.returns-in-Ok-clause-taken
returns-in-Ok-clause-taken g c =
    let s = c.args.store.now in
    let mid = c.take_out_channels.new.store in
    let last = c.note_gone.new.store in
    let g = c.in_ok-objects.objects in
    let old = c.args.sessions.now.items in
    let new = c.take_out_channels.new.sessions.items in
    let objects : last.objects ≡ c.expire.new.objects = ap (λ (t : Store). t.objects) c.note_gone.ensures.store ∙ ap (λ (t : Store). t.objects) c.take_out_channels.ensures.rest in
    due_taken c.turn_laws.ensures.silent s last c.args.now c.note_gone.result g c.in-Ok.channels old new c.requires.kept c.requires.bare c.len-count.ensures.by_name
    (subst (λ (xs : List Entry). IsExpired (objects_in s.objects) c.args.now s.weight (objects_in xs) g) (sym objects) c.in_ok-objects.ensures.expired)
    (subst (λ (h : Held). AreOut s.hub c.args.now s.channel_weight h c.in-Ok.channels) (sym (ap (λ (t : Store). t.hub) c.note_gone.ensures.store)) c.in-Ok.ensures.out)
    (ap sums_of c.note_gone.ensures.store) (ap (λ v. v.items) c.note_gone.ensures.held) c.note_gone.ensures.length
    (subst (λ (xs : List Object). AreStagedEach s.hub.channels xs old new) c.as_slice.ensures.value c.in-Ok.ensures.staged)

pub returns-in-Ok-clause-room : goal.returns-in-Ok-clause-room
returns-in-Ok-clause-room g c =
    let last = c.note_gone.new.store in
    let objects : last.objects ≡ c.expire.new.objects = ap (λ (t : Store). t.objects) c.note_gone.ensures.store ∙ ap (λ (t : Store). t.objects) c.take_out_channels.ensures.rest in
    subst (λ (xs : List Entry). HaveRoom xs c.note_gone.result.held.items) (sym objects)
    (subst (λ (hs : List Object). HaveRoom c.expire.new.objects hs) (sym (ap (λ v. v.items) c.note_gone.ensures.held)) c.in_ok-objects.ensures.room)
