-- Halls: a world, a clock and sessions with their frames; placing frames, applying changes, doing commands.
use Rattle.std.specs.Prelude.{◌≡◌, ◌≢◌, ℕ, ◌+◌, max, Bool, true, false, not, ◌&&◌, ◌==◌, nat_lt, nat_le, List, [], ◌∷◌, ◌++◌, length, filter, find}
use Rattle.std.specs.Prelude.{map, flat_map, Option, Some, None, if◌then◌else◌, Result, Ok, Err}
use Rattle.std.specs.List.{list_any}
use Rattle.byte_text.specs.Names.{Bytes, same}
use Rattle.byte_text.specs.Globs.{glob_meets}
use Rattle.byte_text.specs.Replies.{frame_text, array, bulk}
use Rattle.std.specs.Prelude.{codes}
use Rattle.world_data.specs.Worlds.{after}
use Rattle.world_data.specs.Records.{record_len}
use Rattle.world_model.specs.Commands.{reads}
use Rattle.world_data.specs.Frames.{frame_bytes}
use Rattle.world_data.specs.Limits.{cap_frames, cap_bytes}
use Rattle.world_model.specs.Subscriptions.{Sub, with_subs}
use Rattle.world_model.specs.Effects.{Effect, says, effect}
use Rattle.fence_model.specs.Writes.{Write, due_writes}
use Rattle.world_model.specs.Refusals.{fault_reply, broken_reply}
use Rattle.fence_model.specs.Messages.{Message, messages}
use Rattle.world_data.specs.declared.worlds.World.{World}
use Rattle.world_model.specs.declared.commands.Command.{Command}
use Rattle.world_model.specs.declared.faults.WordFault.{WordFault}
use Rattle.world_model.specs.declared.events.Asked.{Asked}
use Rattle.world_model.specs.declared.events.Asked.TheVariants.{Words, Broken}

-- whether a session is served, was cut off for its queue, or is to end behind its frames
pub data Stage : Type 0 where
  live : Stage
  cut : Stage
  closing : Stage

pub record Session : Type 0 where
  pub number : ℕ
  pub subs : List Sub
  pub frames : List Bytes
  pub stage : Stage

-- `drawn` is the last session number that was given out
pub record Hall : Type 0 where
  pub world : World
  pub now : ℕ
  pub logged : ℕ
  pub stopped : Bool
  pub drawn : ℕ
  pub sessions : List Session

abbrev pub is_live : Session → Bool
is_live s = elim (s.stage) [ live ↦ true | cut ↦ false | closing ↦ false ]

abbrev pub is_session : ℕ → Session → Bool
is_session n s = s.number == n

abbrev pub session_of : Hall → ℕ → Option Session
session_of h n = find (is_session n) h.sessions

-- the hall with a session changed
abbrev pub change_session : (Session → Session) → ℕ → Hall → Hall
change_session f n h = record h { sessions = map (λ s. if is_session n s then f s else s) h.sessions }

abbrev pub without_session : ℕ → Hall → Hall
without_session n h = record h { sessions = filter (λ s. not (is_session n s)) h.sessions }

-- placing frames

abbrev pub has_room : Session → Bytes → Bool
has_room s frame = nat_lt (length s.frames) cap_frames && nat_le (frame_bytes s.frames + length frame) cap_bytes

-- the frame goes last; where there is no room the session is cut, and keeps the frames it has
abbrev pub placed : Bytes → Session → Session
placed frame s = if not (is_live s) then s else
    if has_room s frame then record s { frames = s.frames ++ frame ∷ [] } else record s { stage = cut; subs = [] }

-- frames placed on a session, one after another
abbrev pub placed_each : Session → List Bytes → Session
placed_each s [] = s
placed_each s (frame ∷ frames) = placed_each (placed frame s) frames

-- a frame placed on the session of a number
abbrev pub place : Hall → ℕ × Bytes → Hall
place h delivery = change_session (placed delivery.1) delivery.0 h

abbrev pub place_all : Hall → List (ℕ × Bytes) → Hall
place_all h [] = h
place_all h (d ∷ deliveries) = place_all (place h d) deliveries

-- deliveries: each message to each live session, first for its name, then for each pattern that meets it

abbrev pub message_frame : Message → Bytes
message_frame m = frame_text (array (bulk (codes "message") ∷ bulk m.0 ∷ bulk m.1 ∷ []))

abbrev pub pattern_frame : Bytes → Message → Bytes
pattern_frame pattern m = frame_text (array (bulk (codes "pmessage") ∷ bulk pattern ∷ bulk m.0 ∷ bulk m.1 ∷ []))

abbrev pub holds_name : Bytes → Sub → Bool
holds_name n s = not s.pattern && same s.word n

abbrev pub pattern_meets : Bytes → Sub → Bool
pattern_meets n s = if s.pattern then glob_meets s.word n else false

abbrev pub frames_for : Message → List Sub → List Bytes
frames_for m subs = (if list_any (holds_name m.0) subs then message_frame m ∷ [] else [])
    ++ map (λ s. pattern_frame s.word m) (filter (pattern_meets m.0) subs)

abbrev pub sent_to : Message → Session → List (ℕ × Bytes)
sent_to m s = if is_live s then map (λ f. (s.number, f)) (frames_for m s.subs) else []

abbrev pub deliveries_of : List Message → List Session → List (ℕ × Bytes)
deliveries_of ms sessions = flat_map (λ m. flat_map (sent_to m) sessions) ms

-- the deliveries of a write, from the world before it
abbrev pub deliveries : World → List Session → Write → List (ℕ × Bytes)
deliveries w sessions d = deliveries_of (messages w d) sessions

-- the world becomes the one after the change, its record is logged, and its messages are placed
unfoldable pub apply : Hall → Write → Hall
apply h d = place_all (record h { world = after h.world d.change; logged = h.logged + record_len d.change }) (deliveries h.world h.sessions d)

abbrev pub apply_all : Hall → List Write → Hall
apply_all h [] = h
apply_all h (d ∷ writes) = apply_all (apply h d) writes

-- the clock goes on, and each object and channel that is due then is deleted
abbrev pub due : Hall → ℕ → Hall
due h moment = let now = max h.now moment in apply_all (record h { now = now }) (due_writes h.world now)

-- doing a command

abbrev pub close_session : ℕ → Hall → Hall
close_session n h = change_session (λ s. if is_live s then record s { stage = closing; subs = [] } else s) n h

abbrev pub closed_if : Bool → ℕ → Hall → Hall
closed_if closes n h = if closes then close_session n h else h

-- the subscriptions are added, the replies placed, the changes applied
abbrev pub do_effect : Hall → ℕ → Effect → Hall
do_effect h n e = closed_if e.closes n
    (apply_all (place_all (change_session (λ s. record s { subs = with_subs s.subs e.subs }) n h) (map (λ r. (n, frame_text r)) e.replies)) e.writes)

-- the effect of what the words are: a command, or a refusal
abbrev pub effect_of : Hall → Session → Result Command WordFault → Effect
effect_of h s (Ok c) = effect h.world h.now s.subs c
effect_of h s (Err f) = says (fault_reply f)

-- a session's words are done, whatever they are
abbrev pub do_words : Hall → Session → Result Command WordFault → Hall
do_words h s asked = do_effect h s.number (effect_of h s asked)

-- what is asked is done: the words, or the end of a session that broke the protocol
abbrev pub do_asked : Hall → Session → Asked → Hall
do_asked h s (Words words) = do_words h s (reads words)
do_asked h s (Broken f) = close_session s.number (place h (s.number, frame_text (broken_reply f)))

abbrev pub do_live : Hall → Option Session → Asked → Hall
do_live h None asked = h
do_live h (Some s) asked = if is_live s then do_asked h s asked else h

-- what is asked is done for a session, where it is live
unfoldable pub do_call : Hall → ℕ → Asked → Hall
do_call h n asked = do_live h (session_of h n) asked

-- who is to be told

-- every session that is another in the second hall is named
abbrev pub NamesChanged : List ℕ → Hall → Hall → Type 0
NamesChanged named old new = (n : ℕ) → session_of new n ≢ session_of old n → list_any (λ m. m == n) named ≡ true
