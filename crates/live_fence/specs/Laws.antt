-- The laws of what is shown.
use Rattle.std.specs.Prelude.{◌≡◌, ◌≢◌, ◌<◌, ◌^◌, ℕ, Bool, true, List, [], ◌∷◌, ◌++◌, length, filter, map, if◌then◌else◌}
use Rattle.std.specs.Prelude.{Some, None, is_some, Ok}
use Rattle.std.specs.List.{AllByRecursion, list_any}
use Rattle.byte_text.specs.Names.{Bytes, same}
use Rattle.byte_text.specs.Replies.{frame_text, bulk, IsFrame, IsInRange}
use Rattle.byte_text.specs.declared.replies.Piece.{Piece}
use Rattle.world_data.specs.Worlds.{after}
use Rattle.world_data.specs.declared.worlds.World.{World}
use Rattle.fence_model.specs.Messages.{Message, messages}
use Rattle.fence_model.specs.Writes.{Write}
use Rattle.world_model.specs.Subscriptions.{Sub}
use Rattle.world_model.specs.Commands.{reads}
use Rattle.world_model.specs.declared.commands.Command.{Command}
use Rattle.world_model.specs.declared.commands.Command.TheVariants as command
use Rattle.world_model.specs.declared.channel_commands.ChannelCommand.TheVariants as of_channel
use Rattle.world_model.specs.declared.session_commands.SessionCommand.TheVariants as of_session
use Rattle.world_model.specs.Halls.{Hall, Session, session_of, is_live as is_served, apply_all, message_frame, pattern_frame, holds_name}
use Rattle.world_model.specs.Halls.{pattern_meets, frames_for}
use Rattle.delivery_model.specs.Staging.{HaveOwnNumbers, heard}
use Rattle.live_fence.specs.LiveFences.{live_name, is_live, fence_request, listen_request, end_request}
use Rattle.live_fence.specs.Parts.{payload_at, shown, own_message}

-- of a message of the session's live fence the payload is shown, as a bulk string
abbrev pub OwnAreCut : Type 0
OwnAreCut = (session : ℕ) (payload : Bytes) → length payload < 2 ^ 64
    → shown session (frame_text (own_message session payload)) ≡ frame_text (bulk payload)

-- every other reply is shown as it is
abbrev pub OthersAreWhole : Type 0
OthersAreWhole = (session : ℕ) (reply : List Piece) → session < 2 ^ 32 → IsFrame reply → AllByRecursion IsInRange reply
    → ((payload : Bytes) → reply ≢ own_message session payload)
    → shown session (frame_text reply) ≡ frame_text reply

-- a message whose channel and payload have lengths that a frame can tell
pub record IsTold (m : Message) : Type 0 where
  pub name : length m.0 < 2 ^ 64
  pub payload : length m.1 < 2 ^ 64

-- what is shown of the frame of a message that is sent for its channel's name
abbrev pub shown_message : ℕ → Message → Bytes
shown_message session m = if same m.0 (live_name session) then frame_text (bulk m.1) else message_frame m

-- what is shown of the frames that a message brings to a session with these subscriptions
abbrev pub shown_for : ℕ → Message → List Sub → List Bytes
shown_for session m subs = (if list_any (holds_name m.0) subs then shown_message session m ∷ [] else [])
    ++ map (λ s. pattern_frame s.word m) (filter (pattern_meets m.0) subs)

-- frame by frame, a message of the live fence is shown as its payload, each other frame as it is
abbrev pub MessagesAreShown : Type 0
MessagesAreShown = (session : ℕ) (m : Message) (subs : List Sub) → session < 2 ^ 32 → IsTold m
    → map (shown session) (frames_for m subs) ≡ shown_for session m subs

-- the messages of writes in order, each in the world before it
abbrev pub messages_along : World → List Write → List Message
messages_along w [] = []
messages_along w (d ∷ writes) = messages w d ++ messages_along (after w d.change) writes

-- the payloads of the messages of one channel
abbrev pub payloads_of : Bytes → List Message → List Bytes
payloads_of name ms = map (λ m. m.1) (filter (λ m. same m.0 name) ms)

-- of the frame a payload alone is shown
abbrev pub is_cut : ℕ → Bytes → Bool
is_cut session frame = is_some (payload_at session frame)

-- a session that has subscribed to its live fence is shown, of all that it hears, just the payloads of that channel's messages alone, in
-- order, change by change
abbrev pub PayloadsAreMessages : Type 0
PayloadsAreMessages = (session : ℕ) (w : World) (writes : List Write) (subs : List Sub) → session < 2 ^ 32
    → AllByRecursion IsTold (messages_along w writes) → list_any (holds_name (live_name session)) subs ≡ true
    → map (shown session) (filter (is_cut session) (heard w writes subs))
    ≡ map (λ p. frame_text (bulk p)) (payloads_of (live_name session) (messages_along w writes))

-- so are the frames that the writes of other sessions, or what is due, place on its queue, as long as it is served
abbrev pub PayloadsArePlaced : Type 0
PayloadsArePlaced = (h : Hall) (writes : List Write) (n : ℕ) (s t : Session) → HaveOwnNumbers h.sessions → session_of h n ≡ Some s
    → session_of (apply_all h writes) n ≡ Some t → is_served s ≡ true → is_served t ≡ true → n < 2 ^ 32
    → AllByRecursion IsTold (messages_along h.world writes) → list_any (holds_name (live_name n)) s.subs ≡ true
    → (frames : List Bytes) × (t ≡ record s { frames = s.frames ++ frames })
    × (map (shown n) (filter (is_cut n) frames) ≡ map (λ p. frame_text (bulk p)) (payloads_of (live_name n) (messages_along h.world writes)))

-- the command sets the channel of this name, without a deadline
abbrev pub IsSetting : Bytes → Command → Type 0
IsSetting name (command.Channel (of_channel.Setchan c from None)) = (c.name ≡ name) × (c.deadline ≡ None)
IsSetting name c = ⊥

-- what the requests of a live search ask for: the setting of the session's channel, a subscription to it, and its deletion
pub record AskFor (session : ℕ) (words : List Bytes) : Type 0 where
  pub fence : (c : Command) × (reads (fence_request session words) ≡ Ok c) × IsSetting (live_name session) c
  pub listen : reads (listen_request session) ≡ Ok (command.Session (of_session.Subscribe (live_name session ∷ [])))
  pub end : reads (end_request session) ≡ Ok (command.Channel (of_channel.Delchan (live_name session)))

abbrev pub PairsAsk : Type 0
PairsAsk = (session : ℕ) (words : List Bytes) → session < 2 ^ 32 → is_live session words ≡ true → AskFor session words
