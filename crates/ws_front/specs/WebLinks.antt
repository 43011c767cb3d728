-- A link over a conversation: what it shows of the messages that come and that were said.
use Rattle.std.specs.Prelude.{◌≡◌, ℕ, List, [], ◌∷◌, ◌++◌, take, Option, None, Some, option_map, Result, Ok, Err}
use Rattle.std.specs.List.{concat}
use Rattle.byte_text.specs.Names.{Bytes}
use Rattle.outside.specs.Links.{LinkState}
use Rattle.outside.specs.declared.links.Sent.{Sent}
use Rattle.outside.specs.declared.links.Sent.TheVariants as sent
use Rattle.ws_front.specs.FrameTexts.{IsFrameText}
use Rattle.ws_front.specs.Requests.{request_texts}
use Rattle.ws_front.specs.Talks.{TalkState}
use Rattle.ws_front.specs.declared.talks.Message.{Message}
use Rattle.ws_front.specs.declared.talks.Message.TheVariants as message
use Rattle.ws_front.specs.declared.web_links.Phase.{Phase}
use Rattle.ws_front.specs.declared.web_links.Phase.TheVariants.{Open, Ended, Failing}

-- its conversation, its caller, a message that was heard and not looked at yet, the bytes that were heard and not read yet, how far the reading is, and how often it failed
pub record WebState : Type 0 where
  pub talk : TalkState
  pub caller : ℕ
  pub pending : Option Bytes
  pub unread : Bytes
  pub phase : Phase
  pub faults : ℕ

-- before any call
abbrev pub begun : ℕ → TalkState → WebState
begun caller talk = record { talk = talk; caller = caller; pending = None; unread = []; phase = Open; faults = 0 }

-- what is read of the messages that come
abbrev pub to_read : Phase → List Message → Bytes
to_read Open ms = request_texts ms
to_read Ended ms = []
to_read Failing ms = request_texts ms

-- the messages that come, the one that was heard first
abbrev pub to_come : Option Bytes → List Message → List Message
to_come None ms = ms
to_come (Some bytes) ms = message.Binary bytes ∷ ms

abbrev pub link_of : WebState → LinkState
link_of w = record {
  caller = w.caller;
  left = option_map (λ ms. w.unread ++ to_read w.phase (to_come w.pending ms)) w.talk.left;
  held = option_map concat w.talk.said;
  faults = w.faults;
}

-- the bytes that were taken are one frame, which is the last message that was said; or nothing was said
abbrev pub Saying : {E : Type 0} → TalkState → TalkState → Result Sent E → Bytes → Type 0
Saying old new (Ok (sent.Bytes n)) piece = IsFrameText (take n piece) × (new.said ≡ option_map (λ ms. ms ++ take n piece ∷ []) old.said)
Saying old new (Ok sent.Later) piece = new.said ≡ old.said
Saying old new (Err e) piece = new.said ≡ old.said
