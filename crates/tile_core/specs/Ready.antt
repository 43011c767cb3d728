-- A call made ready, and what its finish does.
use Rattle.std.specs.Prelude.{◌≡◌, ℕ, Bool, ◌≤◌, true, false, List, [], ◌∷◌, ◌++◌, ◌+◌, length, map, slice_get, slice_set, Option, Some, None}
use Rattle.std.specs.Prelude.{if◌then◌else◌}
use Rattle.byte_text.specs.Names.{Bytes}
use Rattle.fence_model.specs.Writes.{Write, due_writes, going}
use Rattle.world_data.specs.Expiry.{deadline_of, in_turn}
use Rattle.world_data.specs.declared.channels.Channel.{Channel}
use Rattle.world_data.specs.declared.objects.Object.{Object}
use Rattle.world_model.specs.Halls as halls
use Rattle.world_model.specs.Halls.{placed, placed_each}
use Rattle.world_model.specs.declared.events.Asked.{Asked}
use Rattle.keyspace.specs.Entries.{objects_in, room_for}
use Rattle.channel_hub.specs.Hubs.{Held, IsPrepared}
use Rattle.world_model.specs.Effects.{Effect}
use Rattle.world_model.specs.Subscriptions.{Sub}
use Rattle.delivery_model.specs.Staging.{after_all, has_room_for, heard, listens, records_len}
use Rattle.delivery_model.specs.Plans.{effect_of_asked, ending}
use Rattle.session_table.specs.Mail.{has_room_left}
use Rattle.session_table.specs.Sessions.{AreReplies, AreSoundSubs, State, session_of}
use Rattle.session_table.specs.Fans.{AreBare, ArePlaced, HaveStaged}
use Rattle.object_plans.specs.declared.moves.ObjectChange.{ObjectChange}
use Rattle.channel_plans.specs.declared.planned.ChannelChange.{ChannelChange}
use Rattle.channel_plans.specs.declared.planned.ChannelChange.TheVariants.{Set, Drop}
use Rattle.channel_plans.specs.declared.planned.Planned.{Planned}
use Rattle.channel_plans.specs.declared.planned.Planned.TheVariants.{Objects, Channels, Subscribed}
use Rattle.tile_core.specs.declared.ready.Gone.{Gone}
use Rattle.tile_core.specs.declared.ready.Ready.{Ready}
use Rattle.tile_core.specs.declared.stores.Store.{Store}
use Rattle.tile_core.specs.declared.stores.Sums.{Sums}
use Rattle.tile_core.specs.Dues.{with_back}
use Rattle.tile_core.specs.Orders.{Rise}
use Rattle.object_plans.specs.Kept.{most_kept}
use Rattle.object_plans.specs.Moves.{HasRoom}
use Rattle.channel_plans.specs.Planned.{IsPlanned, channel_writes}
use Rattle.object_plans.specs.Plans.{writes_of}
use Rattle.tile_core.specs.Staged.{StagesBehind}
use Rattle.tile_core.specs.Stores.{IsStore, world_at}

-- the writes that a request will do
abbrev pub planned_writes : Planned → List Write
planned_writes (Objects p) = writes_of p.action p.announced
planned_writes (Channels p) = channel_writes p.action
planned_writes (Subscribed p) = []

-- it holds of what is done to the objects
abbrev pub HoldsOfObjects : (ObjectChange → Type 0) → Planned → Type 0
HoldsOfObjects P (Objects p) = P p.action
HoldsOfObjects P (Channels p) = Unit {0}
HoldsOfObjects P (Subscribed p) = Unit {0}

-- it holds of what is put among the channels
abbrev pub HoldsOfSet : (Channel → Type 0) → ChannelChange → Type 0
HoldsOfSet P (Set c) = P c
HoldsOfSet P (Drop names) = Unit {0}

-- the bytes of their records
abbrev pub planned_length : Planned → ℕ
planned_length (Objects p) = p.length
planned_length (Channels p) = p.length
planned_length (Subscribed p) = 0

-- the frames of its reply
abbrev pub reply_frames : Planned → List Bytes
reply_frames (Objects p) = p.frame ∷ []
reply_frames (Channels p) = p.frame ∷ []
reply_frames (Subscribed p) = p.frames.items

-- what is put among the channels is prepared there
abbrev pub IsPreparedFor : Held → ChannelChange → Type 0
IsPreparedFor hub (Set c) = IsPrepared hub c
IsPreparedFor hub (Drop names) = Unit {0}

-- the subscriptions that a session is given are sound
abbrev pub IsSoundAnswer : Planned → Type 0
IsSoundAnswer (Objects p) = Unit {0}
IsSoundAnswer (Channels p) = Unit {0}
IsSoundAnswer (Subscribed p) = AreSoundSubs p.subs

-- there is room for what is put
abbrev pub HasRoomFor : Store → Planned → Type 0
HasRoomFor store (Objects p) = HasRoom store.objects p.action
HasRoomFor store (Channels p) = IsPreparedFor store.hub p.action
HasRoomFor store (Subscribed p) = Unit {0}

-- the store is as it was, but for room and the count of nodes that were visited
pub record IsAsBefore (old new : Store) : Type 0 where
  pub rest : new ≡ record old { objects = new.objects; hub = new.hub; steps = new.steps }
  pub objects : objects_in new.objects ≡ objects_in old.objects
  pub channels : new.hub.channels ≡ old.hub.channels

-- and none was lost among the objects; what is out stays out
pub record IsRoomier (old new : Store) : Type 0 where
  pub before : IsAsBefore old new
  pub room : (key : Bytes) → room_for old.objects key ≤ room_for new.objects key
  pub taken : new.hub.taken ≡ old.hub.taken
  pub every : new.hub.every ≡ old.hub.every

-- what was taken out is put back into a store, which has these sums again
pub record IsUndone (old : Store) (held : List Object) (sums : Sums) (new : Store) : Type 0 where
  pub objects : objects_in new.objects ≡ with_back (objects_in old.objects) held
  pub channels : new.hub.channels ≡ old.hub.every
  pub rest : new ≡ record {
    objects = new.objects;
    weight = sums.weight;
    due_from = sums.due_from;
    hub = new.hub;
    channel_weight = sums.channel_weight;
    channels_due_from = sums.channels_due_from;
    steps = new.steps;
  }

-- the writes of what is due in a store
abbrev pub dues : Store → ℕ → List Write
dues store now = due_writes (world_at store) now

-- all that is due has gone from a store, with records of this length
pub record IsDueGone (before : Store) (now : ℕ) (store : Store) (len : ℕ) : Type 0 where
  pub world : after_all (world_at before) (dues before now) ≡ world_at store
  pub length_is : len ≡ records_len (dues before now)
  pub small : len ≤ most_kept

-- what is due is taken out of a store, from which it may be put back, and what that brings is staged
pub record IsDueTaken (old : Store) (now : ℕ) (store : Store) (gone : Gone) (sessions : List State) : Type 0 where
  pub kept : IsStore store
  pub done : IsDueGone old now store gone.length
  pub turn : map going (in_turn gone.held.items store.hub.taken) ≡ dues old now
  pub rise : Rise (λ c. deadline_of c.deadline) store.hub.taken
  pub back : with_back (objects_in store.objects) gone.held.items ≡ objects_in old.objects
  pub count : length (objects_in store.objects) + length gone.held.items ≤ length (objects_in old.objects)
  pub every : store.hub.every ≡ old.hub.channels
  pub staged : HaveStaged (world_at old) (dues old now) sessions

-- what a request will do is planned for the session at a place, what it brings is staged, with the reply behind, and there is room for all of it
pub record IsPlannedBehind (before : Store) (now : ℕ) (asked : Asked) (at : ℕ) (store : Store) (old new : List State) (p : Planned) : Type 0 where
  pub plan : (s : State) → slice_get old at ≡ Some s
      → IsPlanned (world_at before) before.weight s.subs (effect_of_asked (world_at before) now s.subs asked) p
  pub staged : StagesBehind (world_at before) (planned_writes p) old new
  pub room : HasRoomFor store p
  pub replies : (s : State) → slice_get new at ≡ Some s → s.mail.replies ≡ reply_frames p

-- a session without room for what is staged has no request done
abbrev pub IsRestBehind : Store → ℕ → Asked → ℕ → Store → List State → List State → Option Planned → Type 0
IsRestBehind before now asked at store old new None = (new ≡ old) × ((s : State) → slice_get old at ≡ Some s → has_room_left s.mail ≡ false)
IsRestBehind before now asked at store old new (Some p) = IsPlannedBehind before now asked at store old new p
    × ((s : State) → slice_get old at ≡ Some s → has_room_left s.mail ≡ true)

-- behind what is due, what a request will do is planned for its session, and what it brings is staged, with room for all that it needs
pub record IsRequestReady (before store : Store) (now : ℕ) (asked : Asked) (caller : State) (sessions : List State) (p : Planned) : Type 0 where
  pub roomy : has_room_for (session_of caller) (heard (world_at before) (dues before now) (listens (session_of caller))) ≡ true
  pub plan : IsPlanned (world_at store) store.weight caller.subs (effect_of_asked (world_at store) now caller.subs asked) p
  pub staged : HaveStaged (world_at before) (dues before now ++ planned_writes p) sessions
  pub room : HasRoomFor store p
  pub replies : caller.mail.replies ≡ reply_frames p

-- the request of a session that what is due will cut is not done
abbrev pub IsRestReady : Store → Store → ℕ → Asked → State → List State → Option Planned → Type 0
IsRestReady before store now asked caller sessions None = HaveStaged (world_at before) (dues before now) sessions
    × (has_room_left caller.mail ≡ false)
IsRestReady before store now asked caller sessions (Some p) = IsRequestReady before store now asked caller sessions p

-- a call of the session at a place is ready
pub record IsReady (before : Store) (now : ℕ) (asked : Asked) (at : ℕ) (store : Store) (sessions : List State) (r : Ready) : Type 0 where
  pub gone : IsDueGone before now store r.gone.length
  pub kept : IsStore store
  pub caller : State
  pub here : slice_get sessions at ≡ Some caller
  pub rest : IsRestReady before store now asked caller sessions r.planned
  pub quiet : r.is_told ≡ false → AreBare sessions

-- the finish

abbrev pub ending_if : Bool → halls.Session → halls.Session
ending_if closes s = if closes then ending s else s

-- its session with the replies, and with the subscriptions that it has then
abbrev pub replied : Planned → halls.Session → halls.Session
replied (Objects p) s = ending_if p.closes (placed p.frame s)
replied (Channels p) s = placed p.frame s
replied (Subscribed p) s = placed_each (record s { subs = p.subs }) p.frames.items

abbrev pub length_if : Option Planned → ℕ
length_if None = 0
length_if (Some p) = planned_length p

-- what is planned for the session at a place can be done without memory
abbrev pub CanComplete : Store → List State → ℕ → Option Planned → Type 0
CanComplete store sessions at None = Unit {0}
CanComplete store sessions at (Some p) = IsSoundAnswer p × HasRoomFor store p
    × ((s : State) → slice_get sessions at ≡ Some s → AreReplies (reply_frames p) s)

-- the plan is done behind what is placed, and the session at the place is answered
pub record IsDone (before : Store) (placed_ : List State) (at : ℕ) (p : Planned) (store : Store) (new : List State) : Type 0 where
  pub caller : State
  pub here : slice_get placed_ at ≡ Some caller
  pub answered : State
  pub set : new ≡ slice_set placed_ at answered
  pub reply : session_of answered ≡ replied p (session_of caller)
  pub staged : answered.mail.staged ≡ caller.mail.staged
  pub world : world_at store ≡ after_all (world_at before) (planned_writes p)
  pub kept : (held : List Sub) (e : Effect) → IsPlanned (world_at before) before.weight held e p → IsStore before → IsStore store

abbrev pub IsDoneIf : Store → List State → ℕ → Option Planned → Store → List State → Type 0
IsDoneIf before placed_ at None store new = (new ≡ placed_) × (world_at store ≡ world_at before) × (IsStore before → IsStore store)
IsDoneIf before placed_ at (Some p) store new = IsDone before placed_ at p store new

-- all that was staged is placed, and what was made ready is done
pub record IsCompleted (before : Store) (old : List State) (at : ℕ) (r : Ready) (store : Store) (new : List State) (logged : ℕ) : Type 0 where
  pub placed_ : List State
  pub are_placed : ArePlaced old placed_
  pub done : IsDoneIf before placed_ at r.planned store new
  pub length_is : logged ≡ r.gone.length + length_if r.planned
