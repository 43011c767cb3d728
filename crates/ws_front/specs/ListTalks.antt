-- What a conversation in memory shows: a script that is played, and what came of it.
use Rattle.std.specs.Prelude.{◌≡◌, ◌⊎◌, ℕ, Bool, true, false, List, [], ◌∷◌, Some, Result, Ok, Err}
use Rattle.byte_text.specs.Names.{Bytes}
use Rattle.ws_front.specs.Talks.{TalkState}
use Rattle.ws_front.specs.declared.talks.Message.{Message}
use Rattle.ws_front.specs.declared.talks.Message.TheVariants as message
use Rattle.ws_front.specs.declared.talks.Said.{Said}
use Rattle.ws_front.specs.declared.talks.Said.TheVariants as said
use Rattle.ws_front.specs.declared.talks.Told.{Told}
use Rattle.ws_front.specs.declared.talks.Told.TheVariants as told
use Rattle.ws_front.specs.declared.talks.TalkFault.{TalkFault}
use Rattle.ws_front.specs.declared.talks.TalkFault.TheVariants as fault
use Rattle.ws_front.specs.declared.list_talks.Listening.{Listening}
use Rattle.ws_front.specs.declared.list_talks.Listening.TheVariants as listening
use Rattle.ws_front.specs.declared.list_talks.Saying.{Saying}
use Rattle.ws_front.specs.declared.list_talks.Saying.TheVariants as saying

-- what each listening and each saying to come brings, what was said, whether it was closed, and how often it failed
pub record Listed : Type 0 where
  pub listenings : List Listening
  pub sayings : List Saying
  pub said : List Bytes
  pub is_closed : Bool
  pub faults : ℕ

-- before any call
abbrev pub begun : List Listening → List Saying → Listed
begun listenings sayings = record { listenings = listenings; sayings = sayings; said = []; is_closed = false; faults = 0 }

-- no listening is to come any more
abbrev pub ended : Listed → Listed
ended t = record t { listenings = []; is_closed = true }

-- the messages that come
abbrev pub messages : List Listening → List Message
messages [] = []
messages (listening.Comes m ∷ ls) = m ∷ messages ls
messages (listening.Quiet ∷ ls) = messages ls
messages (listening.Later ∷ ls) = messages ls
messages (listening.Fails ∷ ls) = messages ls

abbrev pub shown : Listed → TalkState
shown t = record { left = Some (messages t.listenings); said = Some t.said; is_closed = t.is_closed; faults = t.faults }

-- what a listening answers; want of memory is free
abbrev pub HeardBy : List Listening → Result Said TalkFault → Type 0
HeardBy [] r = r ≡ Ok said.Over
HeardBy (listening.Comes (message.Binary bytes) ∷ ls) r = (r ≡ Ok said.Binary) ⊎ (r ≡ Err fault.Memory)
HeardBy (listening.Comes message.Other ∷ ls) r = r ≡ Ok said.Other
HeardBy (listening.Quiet ∷ ls) r = r ≡ Ok said.Quiet
HeardBy (listening.Later ∷ ls) r = r ≡ Ok said.Later
HeardBy (listening.Fails ∷ ls) r = r ≡ Err fault.Failed

-- what a saying answers, by whether it was closed; want of memory is free
abbrev pub SaidBy : Bool → List Saying → Result Told TalkFault → Type 0
SaidBy true ss r = r ≡ Err fault.Failed
SaidBy false [] r = (r ≡ Ok told.Whole) ⊎ (r ≡ Err fault.Memory)
SaidBy false (saying.Whole ∷ ss) r = (r ≡ Ok told.Whole) ⊎ (r ≡ Err fault.Memory)
SaidBy false (saying.Later ∷ ss) r = r ≡ Ok told.Later
SaidBy false (saying.Fails ∷ ss) r = r ≡ Err fault.Failed
