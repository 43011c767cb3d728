-- What a conversation shows, and what one call of it does.
use Rattle.std.specs.Prelude.{◌≡◌, ◌≤◌, ℕ, Bool, true, List, [], ◌∷◌, ◌++◌, Option, None, Result, Ok, Err, option_map, IfSome}
use Rattle.byte_text.specs.Names.{Bytes}
use Rattle.outside.specs.Causes.{Rose}
use Rattle.ws_front.specs.declared.talks.Message.{Message}
use Rattle.ws_front.specs.declared.talks.Message.TheVariants as message
use Rattle.ws_front.specs.declared.talks.Said.{Said}
use Rattle.ws_front.specs.declared.talks.Said.TheVariants as said
use Rattle.ws_front.specs.declared.talks.Told.{Told}
use Rattle.ws_front.specs.declared.talks.Told.TheVariants as told
use Rattle.ws_front.specs.declared.talks.TalkFault.{TalkFault}
use Rattle.ws_front.specs.declared.talks.TalkFault.TheVariants as fault

-- the messages that are still to be heard and those that were said, where the conversation tells them; whether it was closed; and how often it has failed
pub record TalkState : Type 0 where
  pub left : Option (List Message)
  pub said : Option (List Bytes)
  pub is_closed : Bool
  pub faults : ℕ

-- a conversation that tells nothing but whether it was closed and its failures
abbrev pub silent : Bool → ℕ → TalkState
silent is_closed faults = record { left = None; said = None; is_closed = is_closed; faults = faults }

-- the same, of which nothing more is heard
abbrev pub closed : TalkState → TalkState
closed t = record t { left = option_map (λ ms. []) t.left; is_closed = true }

-- a call failed: the count of failures rose, and nothing else changed
pub record TalkFails (old new : TalkState) : Type 0 where
  pub rose : Rose old.faults new.faults
  pub later : old.faults ≤ new.faults
  pub same : new ≡ record old { faults = new.faults }

-- this message was the next
abbrev pub IsNext : Message → TalkState → TalkState → Type 0
IsNext m old new = (old.left ≡ option_map (λ ms. m ∷ ms) new.left) × (new ≡ record old { left = new.left })

-- the next message was heard, and where it is a binary one its bytes stand behind those of before; or none is left; or nothing changed
abbrev pub Hears : TalkState → TalkState → Bytes → Bytes → Result Said TalkFault → Type 0
Hears old new before after (Ok said.Binary) = (bytes : Bytes) × (after ≡ before ++ bytes) × IsNext (message.Binary bytes) old new
Hears old new before after (Ok said.Other) = (after ≡ before) × IsNext message.Other old new
Hears old new before after (Ok said.Quiet) = (after ≡ before) × (new ≡ old)
Hears old new before after (Ok said.Later) = (after ≡ before) × (new ≡ old)
Hears old new before after (Ok said.Over) = (after ≡ before) × IfSome old.left (λ ms. ms ≡ []) × (new ≡ old)
Hears old new before after (Err fault.Failed) = (after ≡ before) × TalkFails old new
Hears old new before after (Err fault.Memory) = (after ≡ before) × (new ≡ old)

-- the bytes are the last message that was said; or nothing changed
abbrev pub Says : TalkState → TalkState → Bytes → Result Told TalkFault → Type 0
Says old new bytes (Ok told.Whole) = new ≡ record old { said = option_map (λ ms. ms ++ bytes ∷ []) old.said }
Says old new bytes (Ok told.Later) = new ≡ old
Says old new bytes (Err fault.Failed) = TalkFails old new
Says old new bytes (Err fault.Memory) = new ≡ old
