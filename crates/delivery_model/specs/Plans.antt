-- What a call will do, made ready before anything is changed, and its finish, which takes no memory.
use Rattle.std.specs.Prelude.{◌≡◌, ◌≢◌, ◌⊎◌, ◌≤◌, ℕ, ◌+◌, length, max, Bool, true, false, ◌&&◌, ◌||◌, List, [], ◌∷◌, ◌++◌, map, Option, Some, None}
use Rattle.std.specs.Prelude.{Result, Ok, Err, if◌then◌else◌}
use Rattle.std.specs.List.{AllByRecursion}
use Rattle.byte_text.specs.Names.{Bytes, max_name}
use Rattle.byte_text.specs.Requests.{max_words}
use Rattle.byte_text.specs.Replies.{frame_text}
use Rattle.byte_text.specs.declared.replies.Piece.{Piece}
use Rattle.world_model.specs.Subscriptions.{Sub, with_subs}
use Rattle.world_model.specs.Effects.{Effect, says, effect}
use Rattle.fence_model.specs.Writes.{Write, due_writes}
use Rattle.world_model.specs.Refusals.{fault_reply, broken_reply}
use Rattle.world_model.specs.Commands.{reads}
use Rattle.world_model.specs.Halls.{Hall, Session, is_live, cut, closing, session_of, placed_each}
use Rattle.world_data.specs.Frames.{frame_bytes}
use Rattle.world_data.specs.declared.worlds.World.{World}
use Rattle.world_data.specs.declared.worlds.Change.{Change}
use Rattle.world_data.specs.declared.worlds.Change.TheVariants as change
use Rattle.world_model.specs.declared.commands.Command.{Command}
use Rattle.world_model.specs.declared.commands.Command.TheVariants as command
use Rattle.world_model.specs.declared.session_commands.SessionCommand.TheVariants as of_session
use Rattle.world_data.specs.Limits.{max_reply, full_frames, full_bytes, cap_frames, cap_bytes}
use Rattle.world_model.specs.declared.faults.WordFault.{WordFault}
use Rattle.world_model.specs.declared.events.Asked.{Asked}
use Rattle.world_model.specs.declared.events.Asked.TheVariants.{Words, Broken}
use Rattle.delivery_model.specs.Staging.{AreStaged, Delivery, after_all, records_len, staged, frames_to, all_to, names, listens, changed_at}
use Rattle.delivery_model.specs.Staging.{placed_all, has_room_for, heard}

-- what words do in a world at a moment, for a session with these subscriptions, by how they are read
abbrev pub effect_of_read : World → ℕ → List Sub → Result Command WordFault → Effect
effect_of_read w now subs (Ok c) = effect w now subs c
effect_of_read w now subs (Err f) = says (fault_reply f)

-- a reply, and the end of the session
abbrev pub ends_with : List Piece → Effect
ends_with reply = record { replies = reply ∷ []; subs = []; writes = []; closes = true }

-- what is asked does it: the words, or the fault of a broken protocol, behind which the session ends
abbrev pub effect_of_asked : World → ℕ → List Sub → Asked → Effect
effect_of_asked w now subs (Words words) = effect_of_read w now subs (reads words)
effect_of_asked w now subs (Broken f) = ends_with (broken_reply f)

-- what a session's request will do: the frames of its replies, its new subscriptions, the frames that its changes bring, the world after them and the
-- bytes of their records
pub record Part : Type 0 where
  pub replies : List Bytes
  pub subs : List Sub
  pub brings : List Delivery
  pub world : World
  pub length : ℕ
  pub closes : Bool

-- what a call will do: the frames that the writes of what is due bring, the world after them and the bytes of their records, and the part of its
-- request, where it is done
pub record CallPlan : Type 0 where
  pub dues : List Delivery
  pub world : World
  pub length : ℕ
  pub part : Option Part

-- the part is that of an effect in a world, with these sessions
pub record IsPart (w : World) (sessions : List Session) (e : Effect) (q : Part) : Type 0 where
  pub replies : q.replies ≡ map frame_text e.replies
  pub subs : q.subs ≡ e.subs
  pub brings : AreStaged w e.writes sessions q.brings
  pub world : q.world ≡ after_all w e.writes
  pub length_is : q.length ≡ records_len e.writes
  pub closes : q.closes ≡ e.closes

-- the caller, where it is served and has room for all that comes for it before its request is done
abbrev pub caller_behind : List Delivery → Option Session → Option Session
caller_behind list None = None
caller_behind list (Some s) = if is_live s && has_room_for s (frames_to s.number list) then Some s else None

-- the request of a caller that is still served has a part, and that of another none
abbrev pub IsPartOf : World → ℕ → List Session → Asked → Option Session → Option Part → Type 0
IsPartOf w now sessions asked None part = part ≡ None
IsPartOf w now sessions asked (Some s) None = ⊥
IsPartOf w now sessions asked (Some s) (Some q) = IsPart w sessions (effect_of_asked w now s.subs asked) q

-- the plan of a call at a moment, all of it staged with the sessions of the start
pub record IsCallPlan (h : Hall) (moment n : ℕ) (asked : Asked) (p : CallPlan) : Type 0 where
  pub dues : AreStaged h.world (due_writes h.world (max h.now moment)) h.sessions p.dues
  pub world : p.world ≡ after_all h.world (due_writes h.world (max h.now moment))
  pub length_is : p.length ≡ records_len (due_writes h.world (max h.now moment))
  pub part : IsPartOf p.world (max h.now moment) h.sessions asked (caller_behind p.dues (session_of h n)) p.part

-- the finish

abbrev pub subscribing : List Sub → Session → Session
subscribing subs s = record s { subs = with_subs s.subs subs }

abbrev pub ending : Session → Session
ending s = if is_live s then record s { stage = closing; subs = [] } else s

abbrev pub ended_if : Bool → ℕ → List Session → List Session
ended_if closes n sessions = if closes then changed_at ending n sessions else sessions

-- the subscriptions are added, the replies placed, then the frames of the changes, and the session may close
abbrev pub with_part : ℕ → Part → List Session → List Session
with_part n q sessions = ended_if q.closes n (placed_all (placed_all (changed_at (subscribing q.subs) n sessions) (all_to n q.replies)) q.brings)

abbrev pub with_parts : ℕ → Option Part → List Session → List Session
with_parts n None sessions = sessions
with_parts n (Some q) sessions = with_part n q sessions

abbrev pub last_world : World → Option Part → World
last_world w None = w
last_world w (Some q) = q.world

abbrev pub part_length : Option Part → ℕ
part_length None = 0
part_length (Some q) = q.length

-- the hall with the plan done
abbrev pub finish : Hall → ℕ → ℕ → CallPlan → Hall
finish h moment n p = record h {
  world = last_world p.world p.part;
  now = max h.now moment;
  logged = (h.logged + p.length) + part_length p.part;
  sessions = with_parts n p.part (placed_all h.sessions p.dues);
}

-- kinds of effects

-- one reply, which is short enough for a frame, and no subscription
pub record IsAnswer (e : Effect) : Type 0 where
  pub reply : List Piece
  pub one : e.replies ≡ reply ∷ []
  pub none : e.subs ≡ []
  pub short : length (frame_text reply) ≤ max_reply

-- it subscribes and changes nothing, or changes something and subscribes to nothing
abbrev pub SubscribesOrChanges : Effect → Type 0
SubscribesOrChanges e = (e.subs ≡ []) ⊎ (e.writes ≡ [])

abbrev pub subscribes : Command → Bool
subscribes (command.Session (of_session.Subscribe words)) = true
subscribes (command.Session (of_session.Psubscribe words)) = true
subscribes c = false

-- the part of an effect, and the plan of a call

abbrev pub part_of : World → List Session → Effect → Part
part_of w sessions e = record {
  replies = map frame_text e.replies;
  subs = e.subs;
  brings = staged w sessions e.writes;
  world = after_all w e.writes;
  length = records_len e.writes;
  closes = e.closes;
}

abbrev pub part_if : World → ℕ → List Session → Asked → Option Session → Option Part
part_if w now sessions asked None = None
part_if w now sessions asked (Some s) = Some (part_of w sessions (effect_of_asked w now s.subs asked))

-- names in a plan

abbrev pub part_names : ℕ → Option Part → Bool
part_names k None = false
part_names k (Some q) = names k q.brings

abbrev pub plan_names : ℕ → CallPlan → Bool
plan_names k p = names k p.dues || part_names k p.part

-- what a call brings to its caller

-- these frames fit behind those of a queue that is not full
pub record FitBehind (frames : List Bytes) : Type 0 where
  pub few : full_frames + length frames ≤ cap_frames
  pub light : full_bytes + frame_bytes frames ≤ cap_bytes

-- frames stand last in the queue of the session, which was not cut
pub record IsReplied (old new : Option Session) (frames : List Bytes) : Type 0 where
  pub before : Session
  pub after : Session
  pub was : old ≡ Some before
  pub is : new ≡ Some after
  pub placed : after.frames ≡ before.frames ++ frames
  pub uncut : after.stage ≢ cut

-- a subscription to each of the words
abbrev pub subs_of : Bool → List Bytes → List Sub
subs_of pattern words = map (λ n. record { pattern = pattern; word = n }) words

-- the words of a command that subscribes are no more and no longer than those of a request
abbrev pub HasShortWords : Command → Type 0
HasShortWords (command.Session (of_session.Subscribe words)) = (length words ≤ max_words) × AllByRecursion (λ w. length w ≤ max_name) words
HasShortWords (command.Session (of_session.Psubscribe words)) = (length words ≤ max_words) × AllByRecursion (λ w. length w ≤ max_name) words
HasShortWords c = Unit {0}

-- no session hears anything
abbrev pub NoneListens : List Session → Type 0
NoneListens sessions = AllByRecursion (λ s. listens s ≡ []) sessions

-- a change of objects, which leaves the channels as they are, or takes them away
abbrev pub IsOfObjects : Change → Type 0
IsOfObjects (change.Put o) = Unit {0}
IsOfObjects (change.Del key id) = Unit {0}
IsOfObjects (change.Drop key) = Unit {0}
IsOfObjects change.Flush = Unit {0}
IsOfObjects (change.SetChan c) = ⊥
IsOfObjects (change.DelChan name) = ⊥

-- session by session

-- each session is brought the frames of what it hears of writes
abbrev pub brought : World → List Write → List Session → List Session
brought w writes sessions = map (λ s. placed_each s (heard w writes (listens s))) sessions

-- the caller has its new subscriptions and its replies, and may close
abbrev pub answered : ℕ → Effect → List Session → List Session
answered n e sessions = ended_if e.closes n (placed_all (changed_at (subscribing e.subs) n sessions) (all_to n (map frame_text e.replies)))
