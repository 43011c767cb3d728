-- What a session is asked of bytes, some requests at a time.
use Rattle.std.specs.Prelude.{◌≡◌, ◌<◌, ◌≤◌, ℕ, true, List, [], ◌∷◌, ◌++◌, length, map, Some, None}
use Rattle.std.specs.List.{list_all}
use Rattle.byte_text.specs.Names.{Bytes}
use Rattle.byte_text.specs.Streams.{Stream, StreamEnd, holds, fails, stream_of}
use Rattle.byte_text.specs.declared.faults.RespFault.{RespFault}
use Rattle.resp_frames.specs.RequestReader.{Held}
use Rattle.world_model.specs.Outcomes.{is_proper}
use Rattle.world_model.specs.declared.events.Asked.{Asked}
use Rattle.world_model.specs.declared.events.Asked.TheVariants.{Words, Broken}
use Rattle.session_run.specs.Live.{asked_of}

-- what a stream asks for: each of its requests, and at last the end that its fault brings
abbrev pub last_asked : StreamEnd → List Asked
last_asked (holds rest) = []
last_asked (fails fault) = Broken fault ∷ []

abbrev pub asked_by : Stream → List Asked
asked_by stream = map Words stream.requests ++ last_asked stream.ending

-- what some bytes ask for behind those that a reader holds; nothing once it is dead
abbrev pub asked_behind : Held → Bytes → List Asked
asked_behind None bytes = []
asked_behind (Some held) bytes = asked_by (stream_of (held ++ bytes))

-- what the session of a number is asked of them
abbrev pub asked_next : ℕ → Held → Bytes → List Asked
asked_next n held bytes = asked_of n (asked_behind held bytes)

-- of the bytes the session is asked these first, and then what is asked of the rest; so too with more bytes behind them
pub record Feeds (n : ℕ) (old : Held) (bytes : Bytes) (new : Held) (rest : Bytes) (asks : List Asked) : Type 0 where
  pub goes : (more : Bytes) → asked_next n old (bytes ++ more) ≡ asks ++ asked_next n new (rest ++ more)

-- the last that is asked for is the end that a fault brings
abbrev pub EndsBroken : List Asked → Type 0
EndsBroken asks = (front : List Asked) × (fault : RespFault) × (asks ≡ front ++ Broken fault ∷ [])

-- one request was read, in whose place one or two are asked; or the fault that is there
pub record Reads (n : ℕ) (old : Held) (bytes : Bytes) (new : Held) (rest : Bytes) (before now : List Asked) : Type 0 where
  pub asks : List Asked
  pub some : 0 < length asks
  pub few : length asks ≤ 2
  pub pushed : now ≡ before ++ asks
  pub proper : list_all is_proper asks ≡ true
  pub feeds : Feeds n old bytes new rest asks

pub record ReadsFault (n : ℕ) (old : Held) (bytes : Bytes) (new : Held) (before now : List Asked) : Type 0 where
  pub fault : RespFault
  pub pushed : now ≡ before ++ Broken fault ∷ []
  pub proper : is_proper (Broken fault) ≡ true
  pub feeds : Feeds n old bytes new [] (Broken fault ∷ [])
  pub dead : new ≡ None
