-- A call is ready, from its parts.
use Rattle.std.proofs.Common.{◌≡◌, ℕ, zero, suc, ◌+◌, ◌<◌, Bool, true, false, true≢false, not, inl, inr, refl, sym, ap, ◌∙◌, subst, List, [], ◌∷◌, ◌++◌, length, map, arith}
use Rattle.std.specs.Prelude.{Some, None, Option, filter, slice_get, slice_set, ◌&&◌}
use Rattle.std.specs.List.{AllByRecursion, list_all}
use Rattle.std.proofs.lemmas.List.{append-nil}
use Rattle.std.proofs.lemmas.Option.{same_Some}
use Rattle.byte_text.specs.ListLaws.{holds_at}
use Rattle.byte_text.specs.Names.{Bytes}
use Rattle.world_data.specs.Worlds.{after, are_channels}
use Rattle.world_data.specs.declared.objects.Object.{Object}
use Rattle.world_data.specs.declared.channels.Channel.{Channel}
use Rattle.world_data.specs.declared.worlds.World.{World}
use Rattle.world_data.specs.declared.worlds.Change.TheVariants as change
use Rattle.fence_model.specs.Writes.{Write, going}
use Rattle.message_fanout.specs.Laws.{QuietBringsNothing}
use Rattle.ordered_lists.specs.Lists.{sorted_by}
use Rattle.ordered_lists.specs.Reading.{each-filter}
use Rattle.world_data.specs.Expiry.{deadline_of, channel_due_before, due_before, due_channels, due_objects, in_turn, is_channel_due, is_due}
use Rattle.world_model.specs.Effects.{Effect}
use Rattle.world_model.specs.Halls as halls
use Rattle.world_model.specs.declared.events.Asked.{Asked}
use Rattle.world_model.specs.Subscriptions.{Sub}
use Rattle.keyspace.specs.Entries.{Entry, objects_in, room_for}
use Rattle.channel_hub.specs.Hubs.{Held}
use Rattle.delivery_model.specs.Staging.{Suffice, after_all, has_room_for, have_room, heard, listens, records_len}
use Rattle.delivery_model.specs.Plans.{effect_of_asked}
use Rattle.session_table.specs.Mail.{has_room_left}
use Rattle.session_table.specs.Sessions.{State, session_of}
use Rattle.session_table.specs.Fans.{AreBare, HaveStaged}
use Rattle.session_table.specs.FanLaws.{bare_staged}
use Rattle.tile_core.specs.declared.channel_dues.ExpiredChannels.{ExpiredChannels}
use Rattle.tile_core.specs.declared.dues.Expired.{Expired}
use Rattle.tile_core.specs.declared.ready.Gone.{Gone}
use Rattle.channel_plans.specs.declared.planned.Planned.{Planned}
use Rattle.channel_plans.specs.declared.planned.Planned.TheVariants.{Objects, Channels, Subscribed}
use Rattle.tile_core.specs.declared.stores.Store.{Store}
use Rattle.tile_core.specs.declared.stores.Sums.{Sums}
use Rattle.object_plans.specs.Kept.{AreKept}
use Rattle.tile_core.specs.Dues.{AllStand, AreChannelsDueFrom, AreDueFrom, AreOut, IsExpired, with_back}
use Rattle.tile_core.specs.Orders.{Rise}
use Rattle.tile_core.specs.RecordSinks.{CanRecord, CanRecordIf}
use Rattle.object_plans.specs.Moves.{world_of, world_with}
use Rattle.world_data.specs.Sound.{is_sound_channel}
use Rattle.channel_plans.specs.Planned.{IsPlanned, IsRecordedChannel}
use Rattle.object_plans.specs.Beside.{channels_weight}
use Rattle.tile_core.specs.Ready.{IsAsBefore, IsRoomier, IsDueTaken, IsReady, IsRestBehind, IsRestReady, IsUndone, dues}
use Rattle.tile_core.specs.Staged.{AreStagedEach}
use Rattle.tile_core.specs.Stores.{IsStore, sums_of, world_at}
use Rattle.tile_core.proofs.Finishing.{rest_kept, sound_filter}
use Rattle.tile_core.proofs.Leaving.{all_leave, due_between}
use Rattle.tile_core.proofs.Orders.{channels_rise}
use Rattle.tile_core.proofs.Turns.{all_stay, due_among, filter_as, is_among, turned_len, turned_world}

-- what is due

stand_with : (cs : List Channel) (xs held : List Object) → AllStand (world_of xs) held → AllStand (world_with cs xs) held
stand_with cs xs [] all = tt
stand_with cs xs (h ∷ held) all = (all.0, stand_with cs (after (world_of xs) (change.Del h.key h.id)).objects held all.1)

-- what is due is staged in turn
due_staged : QuietBringsNothing → (store : Store) (now : ℕ) (held : List Object) (old new : List State) → are_channels store.hub.channels ≡ true → AreBare old → AllStand (world_of (objects_in store.objects)) held
    → held ≡ due_objects (world_at store) now → AreStagedEach store.hub.channels held old new → HaveStaged (world_at store) (map going (in_turn held (due_channels (world_at store) now))) new
due_staged quiet store now held old new sorted bare stand is each =
    let w = world_at store in
    let cs = store.hub.channels in
    all_leave quiet now cs (due_channels w now) (due_among now channel_due_before cs sorted) held w old new refl (stand_with cs (objects_in store.objects) held stand)
    (due_between now held (objects_in store.objects) is) each w [] refl (bare_staged w old bare)

-- the objects that were taken out are those that are due
gone_are : (objects : List Object) (now total : ℕ) (rest : List Object) (g : Expired) → IsExpired objects now total rest g → g.held.items ≡ sorted_by due_before (filter (is_due now) objects)
gone_are objects now total rest g e =
    sym (append-nil g.held.items) ∙ ap (λ (os : List Object). g.held.items ++ sorted_by due_before os) (sym e.none) ∙ e.taken.order

-- channels that are not among those that are due are not due
not_among : (now : ℕ) (cs : List Channel) → are_channels cs ≡ true
    → filter (λ d. not (is_among (sorted_by channel_due_before (filter (is_channel_due now) cs)) d)) cs ≡ filter (λ d. not (is_channel_due now d)) cs
not_among now cs sorted =
    let due = sorted_by channel_due_before (filter (is_channel_due now) cs) in
    ap (λ (l : List Channel). filter (λ d. not (is_among l d)) cs) (sym (all_stay due))
    ∙ filter_as (λ d. not (is_among (filter (λ c. true) due) d)) (λ d. not (is_channel_due now d)) cs (told cs (due_among now channel_due_before cs sorted (λ c. true)))
  where
    and_true : (b : Bool) → (b && true) ≡ b
    and_true true = refl
    and_true false = refl

    told : (ds : List Channel) → AllByRecursion (λ d. is_among (filter (λ c. true) (sorted_by channel_due_before (filter (is_channel_due now) cs))) d ≡ (is_channel_due now d && true)) ds
        → AllByRecursion (λ d. not (is_among (filter (λ c. true) (sorted_by channel_due_before (filter (is_channel_due now) cs))) d) ≡ not (is_channel_due now d)) ds
    told [] all = tt
    told (d ∷ ds) all = (ap not (all.0 ∙ and_true (is_channel_due now d)), told ds all.1)

-- all that is due is taken out
module _ (quiet : QuietBringsNothing) (old store : Store) (now : ℕ) (gone : Gone) (g : Expired) (c : ExpiredChannels) (before after_ : List State)
    (kept : IsStore old) (bare : AreBare before) (sorted : are_channels old.hub.channels ≡ true)
    (e : IsExpired (objects_in old.objects) now old.weight (objects_in store.objects) g) (out : AreOut old.hub now old.channel_weight store.hub c)
    (sums : sums_of store ≡ record { weight = g.weight; due_from = g.due_from; channel_weight = c.weight; channels_due_from = c.due_from })
    (held_is : gone.held.items ≡ g.held.items) (length_is : gone.length ≡ g.length + c.length) (each : AreStagedEach old.hub.channels g.held.items before after_) where
  taken_turn : map going (in_turn g.held.items store.hub.taken) ≡ dues old now
  taken_turn =
      ap (λ (os : List Object). map going (in_turn os store.hub.taken)) (gone_are (objects_in old.objects) now old.weight (objects_in store.objects) g e)
      ∙ ap (λ (cs : List Channel). map going (in_turn (due_objects (world_at old) now) cs)) out.taken

  taken_kept : IsStore store
  taken_kept = record {
    kept = subst (AreKept (objects_in store.objects)) (sym (ap (λ (n : Sums). n.weight) sums)) (rest_kept (objects_in old.objects) now old.weight (objects_in store.objects) g.held.items g.length g.weight kept.kept.light e.taken);
    sound = subst (λ (cs : List Channel). list_all is_sound_channel cs ≡ true) (sym out.channels) (sound_filter (λ d. not (is_channel_due now d)) old.hub.channels kept.sound);
    recorded = subst (AllByRecursion IsRecordedChannel) (sym out.channels) (each-filter IsRecordedChannel (λ d. not (is_channel_due now d)) old.hub.channels kept.recorded);
    weighed = ap (λ (n : Sums). n.channel_weight) sums ∙ out.weight_is;
    light = let one = e.taken.small in let two = out.small in let light = kept.light in let w = ap (λ (n : Sums). n.weight) sums in let cw = ap (λ (n : Sums). n.channel_weight) sums in omega (arith, one, two, light, w, cw);
    due_from = subst (λ (n : ℕ). AreDueFrom n (objects_in store.objects)) (sym (ap (λ (n : Sums). n.due_from) sums)) e.due_from;
    channels_due_from = subst (λ (n : ℕ). AreChannelsDueFrom n store.hub.channels) (sym (ap (λ (n : Sums). n.channels_due_from) sums)) out.due_from;
  }

  taken_world : after_all (world_at old) (dues old now) ≡ world_at store
  taken_world =
      ap (after_all (world_at old)) (sym taken_turn)
      ∙ turned_world g.held.items store.hub.taken old.hub.channels (objects_in old.objects)
      ∙ ap (λ (w : World). world_with (filter (λ d. not (is_among store.hub.taken d)) old.hub.channels) w.objects) e.taken.world
      ∙ ap (λ (cs : List Channel). world_with (filter (λ d. not (is_among cs d)) old.hub.channels) (objects_in store.objects)) out.taken
      ∙ ap (λ (cs : List Channel). world_with cs (objects_in store.objects)) (not_among now old.hub.channels sorted ∙ sym out.channels)

  taken_length : gone.length ≡ records_len (dues old now)
  taken_length =
      let all = turned_len g.held.items store.hub.taken in
      let same = ap records_len taken_turn in
      let one = e.taken.length_is in
      let two = out.length_is in
      omega (arith, length_is, all, same, one, two)

  pub due_taken : IsDueTaken old now store gone after_
  due_taken = record {
    kept = taken_kept;
    done = record {
      world = taken_world;
      length_is = taken_length;
      small = let one = e.taken.small in let two = out.small in let light = kept.light in omega (arith, length_is, one, two, light);
    };
    turn = ap (λ (os : List Object). map going (in_turn os store.hub.taken)) held_is ∙ taken_turn;
    rise = subst (Rise (λ (d : Channel). deadline_of d.deadline)) (sym out.taken) (channels_rise (filter (is_channel_due now) old.hub.channels));
    back = ap (with_back (objects_in store.objects)) held_is ∙ e.taken.back;
    count = let count = e.taken.count in let same = ap length held_is in omega (arith, count, same);
    every = out.every;
    staged = subst (λ (ws : List Write). HaveStaged (world_at old) ws after_) (ap (λ (cs : List Channel). map going (in_turn g.held.items cs)) (sym out.taken) ∙ taken_turn)
        (due_staged quiet old now g.held.items before after_ sorted bare e.taken.stand (gone_are (objects_in old.objects) now old.weight (objects_in store.objects) g e) each);
  }

-- where no write is due, nothing is staged

front_none : (some rest : List Bytes) → [] ≡ some ++ rest → some ≡ []
front_none [] rest e = refl
front_none (x ∷ some) rest e = absurd (cc)

bare_by_none : (w : World) (ss : List State) → HaveStaged w [] ss → AreBare ss
bare_by_none w [] all = tt
bare_by_none w (s ∷ ss) all = (front_none s.mail.staged all.0.rest all.0.front, bare_by_none w ss all.1)

-- each record has a byte at least
none_of_length : (writes : List Write) → records_len writes ≡ 0 → writes ≡ []
none_of_length [] e = refl
none_of_length (d ∷ writes) e = absurd (omega (arith, e))

pub bare_by : (w : World) (writes : List Write) (ss : List State) → records_len writes ≡ 0 → HaveStaged w writes ss → AreBare ss
bare_by w writes ss e all = bare_by_none w ss (subst (λ (ds : List Write). HaveStaged w ds ss) (none_of_length writes e) all)

-- a store with the same objects, channels and weights is as good
pub as_good : (s t : Store) → objects_in t.objects ≡ objects_in s.objects → t.hub.channels ≡ s.hub.channels → t.weight ≡ s.weight → t.due_from ≡ s.due_from → t.channel_weight ≡ s.channel_weight
    → t.channels_due_from ≡ s.channels_due_from → IsStore s → IsStore t
as_good s t objects channels weight due_from heavy channels_due is = record {
  kept = subst (λ (n : ℕ). AreKept (objects_in t.objects) n) (sym weight) (subst (λ (xs : List Object). AreKept xs s.weight) (sym objects) is.kept);
  sound = ap (λ (cs : List Channel). list_all is_sound_channel cs) channels ∙ is.sound;
  recorded = subst (AllByRecursion IsRecordedChannel) (sym channels) is.recorded;
  weighed = heavy ∙ is.weighed ∙ ap channels_weight (sym channels);
  light = let light = is.light in omega (arith, light, weight, heavy);
  due_from = subst (λ (n : ℕ). AreDueFrom n (objects_in t.objects)) (sym due_from) (subst (λ (xs : List Object). AreDueFrom s.due_from xs) (sym objects) is.due_from);
  channels_due_from = subst (λ (n : ℕ). AreChannelsDueFrom n t.hub.channels) (sym channels_due) (subst (AreChannelsDueFrom s.channels_due_from) (sym channels) is.channels_due_from);
}

pub as_before : (s t : Store) → IsAsBefore s t → IsStore s → IsStore t
as_before s t b is = as_good s t b.objects b.channels (ap (λ (u : Store). u.weight) b.rest) (ap (λ (u : Store). u.due_from) b.rest) (ap (λ (u : Store). u.channel_weight) b.rest) (ap (λ (u : Store). u.channels_due_from) b.rest) is

-- room is made between two counts of the nodes that were visited
pub roomier : (old mid last new : Store) → mid ≡ record old { steps = mid.steps } → IsRoomier mid last → new ≡ record last { steps = new.steps } → IsRoomier old new
roomier old mid last new begun is ended =
    let objects = ap (λ (u : Store). u.objects) ended in
    let hub = ap (λ (u : Store). u.hub) ended in
    let before = ap (λ (u : Store). objects_in u.objects) begun in
    record {
      before = record {
        rest = ended ∙ ap (λ (u : Store). record u { steps = new.steps }) is.before.rest ∙ ap (λ (u : Store). record u { objects = last.objects; hub = last.hub; steps = new.steps }) begun
            ∙ ap (λ (xs : List Entry). record old { objects = xs; hub = last.hub; steps = new.steps }) (sym objects) ∙ ap (λ (h : Held). record old { objects = new.objects; hub = h; steps = new.steps }) (sym hub);
        objects = ap objects_in objects ∙ is.before.objects ∙ before;
        channels = ap (λ (h : Held). h.channels) hub ∙ is.before.channels ∙ ap (λ (u : Store). u.hub.channels) begun;
      };
      room = λ key. rw (objects, ← ap (λ (u : Store). room_for u.objects key) begun) (is.room key);
      taken = ap (λ (h : Held). h.taken) hub ∙ is.taken ∙ ap (λ (u : Store). u.hub.taken) begun;
      every = ap (λ (h : Held). h.every) hub ∙ is.every ∙ ap (λ (u : Store). u.hub.every) begun;
    }

pub same_world : (s t : Store) → IsAsBefore s t → world_at t ≡ world_at s
same_world s t b = ap (λ (cs : List Channel). world_with cs (objects_in t.objects)) b.channels ∙ ap (world_with s.hub.channels) b.objects

pub as_itself : (s : Store) → IsAsBefore s s
as_itself s = record { rest = refl; objects = refl; channels = refl }

-- what was taken out is put back
pub undone : (before mid store last : Store) (held : List Object) → with_back (objects_in mid.objects) held ≡ objects_in before.objects → mid.hub.every ≡ before.hub.channels
    → IsRoomier mid store → IsUndone store held (sums_of before) last → IsAsBefore before last
undone before mid store last held back every as_mid u = record {
  rest = u.rest;
  objects = u.objects ∙ ap (λ (xs : List Object). with_back xs held) as_mid.before.objects ∙ back;
  channels = u.channels ∙ as_mid.every ∙ every;
}

-- sessions at a place

pub there_is : (xs : List State) (i : ℕ) → i < length xs → (s : State) × (slice_get xs i ≡ Some s)
there_is [] i lt = absurd (omega (arith, lt))
there_is (x ∷ xs) zero lt = (x, refl)
there_is (x ∷ xs) (suc i) lt = there_is xs i (omega (arith, lt))

pub as_long : (xs ys : List State) → map session_of xs ≡ map session_of ys → length xs ≡ length ys
as_long [] [] e = refl
as_long [] (y ∷ ys) e = absurd (cc)
as_long (x ∷ xs) [] e = absurd (cc)
as_long (x ∷ xs) (y ∷ ys) e = let rest : map session_of xs ≡ map session_of ys = cc in ap suc (as_long xs ys rest)

pub same_at : (xs ys : List State) (i : ℕ) (s t : State) → map session_of xs ≡ map session_of ys → slice_get xs i ≡ Some s → slice_get ys i ≡ Some t → session_of s ≡ session_of t
same_at [] ys i s t e a b = absurd (cc)
same_at (x ∷ xs) [] i s t e a b = absurd (cc)
same_at (x ∷ xs) (y ∷ ys) zero s t e a b =
    let first : session_of x ≡ session_of y = cc in
    let p : x ≡ s = cc in
    let q : y ≡ t = cc in
    ap session_of (sym p) ∙ first ∙ ap session_of q
same_at (x ∷ xs) (y ∷ ys) (suc i) s t e a b = let rest : map session_of xs ≡ map session_of ys = cc in same_at xs ys i s t rest a b

-- a session that has more room has the same staged
pub staged_set : (w : World) (writes : List Write) (ss : List State) (i : ℕ) (s v : State) → slice_get ss i ≡ Some s → session_of v ≡ session_of s → v.mail.staged ≡ s.mail.staged → HaveStaged w writes ss → HaveStaged w writes (slice_set ss i v)
staged_set w writes [] i s v at same staged all = absurd (cc)
staged_set w writes (x ∷ ss) zero s v at same staged all =
    let is : x ≡ s = cc in
    let here : Suffice s.mail.frames (heard w writes (listens (session_of s))) s.mail.staged = subst (λ (t : State). Suffice t.mail.frames (heard w writes (listens (session_of t))) t.mail.staged) is all.0 in (
      subst (λ (h : halls.Session). Suffice h.frames (heard w writes (listens h)) v.mail.staged) (sym same)
          (subst (λ (fs : List Bytes). Suffice s.mail.frames (heard w writes (listens (session_of s))) fs) (sym staged) here),
      all.1,
    )
staged_set w writes (x ∷ ss) (suc i) s v at same staged all = (all.0, staged_set w writes ss i s v at same staged all.1)

-- where there is room for what is staged, it is all
roomy : (frames all some : List Bytes) → Suffice frames all some → have_room frames some ≡ true → have_room frames all ≡ true
roomy frames all some f room = elim f.enough [
  | inl none ↦ ap (have_room frames) (f.front ∙ ap (λ (rest : List Bytes). some ++ rest) none ∙ append-nil some) ∙ room
  | inr full ↦ absurd (true≢false (sym room ∙ full))
]

-- what is planned is read back from its records
can_record : (w : World) (total : ℕ) (held : List Sub) (e : Effect) (p : Planned) → IsPlanned w total held e p → CanRecord p
can_record w total held e (Objects p) is = is.0.accepted
can_record w total held e (Channels p) is = is.0.recorded
can_record w total held e (Subscribed p) is = tt

pub can_record_if : (mid : Store) (now : ℕ) (asked : Asked) (at : ℕ) (store : Store) (old new : List State) (p : Option Planned) → at < length old → IsRestBehind mid now asked at store old new p → CanRecordIf p
can_record_if mid now asked at store old new None lt r = tt
can_record_if mid now asked at store old new (Some p) lt r =
    let s = there_is old at lt in
    can_record (world_at mid) mid.weight s.0.subs (effect_of_asked (world_at mid) now s.0.subs asked) p (r.0.plan s.0 s.1)

-- the whole
module _ (before mid store : Store) (now : ℕ) (asked : Asked) (at : ℕ) (g : Gone) (ss one two : List State)
    (taken : IsDueTaken before now mid g one) (within : at < length ss)
    (same_one : map session_of one ≡ map session_of ss) (same_two : map session_of two ≡ map session_of one) (as_mid : IsAsBefore mid store) where
  first : (s : State) × (slice_get one at ≡ Some s)
  first = there_is one at (let long = as_long one ss same_one in omega (arith, within, long))

  second : (s : State) × (slice_get two at ≡ Some s)
  second = there_is two at (let long = as_long two one same_two in let more = as_long one ss same_one in omega (arith, within, long, more))

  same_caller : session_of second.0 ≡ session_of first.0
  same_caller = same_at two one at second.0 first.0 same_two second.1 first.1

  pub ready_from : (p : Option Planned) (is_told : Bool) → (is_told ≡ false → AreBare two) → IsRestBehind mid now asked at store one two p
      → IsReady before now asked at store two (record { gone = g; planned = p; is_told = is_told })
  ready_from p is_told quiet rest = record {
    gone = record { world = taken.done.world ∙ sym (same_world mid store as_mid); length_is = taken.done.length_is; small = taken.done.small };
    kept = as_before mid store as_mid taken.kept;
    caller = second.0;
    here = second.1;
    rest = by p rest;
    quiet = quiet;
  }
    where
      by : (q : Option Planned) → IsRestBehind mid now asked at store one two q → IsRestReady before store now asked second.0 two q
      by None r =
          let is : second.0 ≡ first.0 = same_Some second.0 first.0 (sym second.1 ∙ ap (λ (xs : List State). slice_get xs at) r.0 ∙ first.1) in
          (subst (λ (xs : List State). HaveStaged (world_at before) (dues before now) xs) (sym r.0) taken.staged, ap (λ (s : State). has_room_left s.mail) is ∙ r.1 first.0 first.1)
      by (Some q) r =
          let planned = r.0 in
          let subs : second.0.subs ≡ first.0.subs = ap (λ (h : halls.Session). h.subs) same_caller in
          let world = same_world mid store as_mid in
          let weight : store.weight ≡ mid.weight = ap (λ (s : Store). s.weight) as_mid.rest in
          record {
            roomy = subst (λ (h : halls.Session). has_room_for h (heard (world_at before) (dues before now) (listens h)) ≡ true) (sym same_caller)
                (roomy first.0.mail.frames (heard (world_at before) (dues before now) (listens (session_of first.0))) first.0.mail.staged
                (holds_at (λ s. Suffice s.mail.frames (heard (world_at before) (dues before now) (listens (session_of s))) s.mail.staged) one at first.0 taken.staged first.1)
                (r.1 first.0 first.1));
            plan = subst (λ (w : World). IsPlanned w store.weight second.0.subs (effect_of_asked w now second.0.subs asked) q) (sym world)
                (subst (λ (n : ℕ). IsPlanned (world_at mid) n second.0.subs (effect_of_asked (world_at mid) now second.0.subs asked) q) (sym weight)
                (subst (λ (held : List Sub). IsPlanned (world_at mid) mid.weight held (effect_of_asked (world_at mid) now held asked) q) (sym subs) (planned.plan first.0 first.1)));
            staged = planned.staged (world_at before) (dues before now) taken.done.world taken.staged;
            room = planned.room;
            replies = planned.replies second.0 second.1;
          }
