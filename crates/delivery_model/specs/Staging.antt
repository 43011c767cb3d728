-- Staging: the frames that changes bring, listed before any of them is placed.
use Rattle.std.specs.Prelude.{◌≡◌, ◌⊎◌, ◌<◌, ℕ, ◌+◌, ◌==◌, Bool, true, false, ◌&&◌, nat_le, List, [], ◌∷◌, ◌++◌, length, map, flat_map, if◌then◌else◌}
use Rattle.std.specs.List.{AllByRecursion, list_any}
use Rattle.byte_text.specs.Names.{Bytes}
use Rattle.world_data.specs.Limits.{cap_frames, cap_bytes}
use Rattle.world_data.specs.Worlds.{after}
use Rattle.world_data.specs.Records.{record_len}
use Rattle.world_model.specs.Subscriptions.{Sub}
use Rattle.fence_model.specs.Messages.{Message, messages}
use Rattle.fence_model.specs.Writes.{Write}
use Rattle.world_model.specs.Halls.{Hall, Session, is_live, is_session, placed, frames_for, deliveries}
use Rattle.world_data.specs.Frames.{frame_bytes}
use Rattle.world_data.specs.declared.worlds.World.{World}

-- a frame for the session of a number
abbrev pub Delivery : Type 0
Delivery = ℕ × Bytes

-- no two sessions have one number
abbrev pub HaveOwnNumbers : List Session → Type 0
HaveOwnNumbers [] = Unit {0}
HaveOwnNumbers (s ∷ sessions) = AllByRecursion (λ t. is_session s.number t ≡ false) sessions × HaveOwnNumbers sessions

-- the world after changes in order
abbrev pub after_all : World → List Write → World
after_all w [] = w
after_all w (d ∷ writes) = after_all (after w d.change) writes

-- the bytes of the records of changes
abbrev pub records_len : List Write → ℕ
records_len [] = 0
records_len (d ∷ writes) = record_len d.change + records_len writes

-- the hall after all changes, with these sessions
abbrev pub after_writes : Hall → List Write → List Session → Hall
after_writes h writes sessions = record h { world = after_all h.world writes; logged = h.logged + records_len writes; sessions = sessions }

-- what changes in order bring to sessions: the world goes on, and the sessions stand as they were before the first of them
abbrev pub staged : World → List Session → List Write → List Delivery
staged w sessions [] = []
staged w sessions (d ∷ writes) = deliveries w sessions d ++ staged (after w d.change) sessions writes

-- the frames of a list for one number, in order
abbrev pub frames_to : ℕ → List Delivery → List Bytes
frames_to n [] = []
frames_to n (d ∷ list) = if n == d.0 then d.1 ∷ frames_to n list else frames_to n list

-- a list names a number
abbrev pub names : ℕ → List Delivery → Bool
names n list = list_any (λ d. n == d.0) list

-- frames for one number
abbrev pub all_to : ℕ → List Bytes → List Delivery
all_to n frames = map (λ f. (n, f)) frames

-- sessions with the one of a number changed
abbrev pub changed_at : (Session → Session) → ℕ → List Session → List Session
changed_at f n sessions = map (λ s. if is_session n s then f s else s) sessions

-- sessions with a list placed on them, one frame after another
abbrev pub placed_all : List Session → List Delivery → List Session
placed_all sessions [] = sessions
placed_all sessions (d ∷ list) = placed_all (changed_at (placed d.1) d.0 sessions) list

-- what one session hears: its subscriptions, where it is served
abbrev pub listens : Session → List Sub
listens s = if is_live s then s.subs else []

abbrev pub frames_each : List Message → List Sub → List Bytes
frames_each ms subs = flat_map (λ m. frames_for m subs) ms

abbrev pub heard_of : World → Write → List Sub → List Bytes
heard_of w d subs = frames_each (messages w d) subs

-- the frames that changes in order bring to one session with these subscriptions
abbrev pub heard : World → List Write → List Sub → List Bytes
heard w [] subs = []
heard w (d ∷ writes) subs = heard_of w d subs ++ heard (after w d.change) writes subs

-- a queue with these frames has room for all of those behind them; for no more it always has
abbrev pub have_room : List Bytes → List Bytes → Bool
have_room frames [] = true
have_room frames (f ∷ more) = nat_le (length frames + length (f ∷ more)) cap_frames && nat_le (frame_bytes frames + frame_bytes (f ∷ more)) cap_bytes

-- so has the queue of a session
abbrev pub has_room_for : Session → List Bytes → Bool
has_room_for s frames = have_room s.frames frames

-- numbers rise along the list from above `low` on
abbrev pub Rise : ℕ → List Session → Type 0
Rise low [] = Unit {0}
Rise low (s ∷ sessions) = (low < s.number) × Rise s.number sessions

-- some first of these frames, which are all of them, or for which together a queue with frames has no room already
pub record Suffice (frames all some : List Bytes) : Type 0 where
  pub rest : List Bytes
  pub front : all ≡ some ++ rest
  pub enough : (rest ≡ []) ⊎ (have_room frames some ≡ false)

-- a list has what changes in order bring to each session, as far as it has room; the order among sessions is free
abbrev pub AreStaged : World → List Write → List Session → List Delivery → Type 0
AreStaged w writes sessions list = AllByRecursion (λ s. Suffice s.frames (heard w writes (listens s)) (frames_to s.number list)) sessions
