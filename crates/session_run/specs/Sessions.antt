-- A session that is stepped: what it shows, what it is still to be asked, and what its link is still to be written.
use Rattle.std.specs.Prelude.{◌≡◌, ◌<◌, ℕ, Bool, true, false, List, [], ◌++◌, length, Option, Some, None}
use Rattle.std.specs.Io.KnownBytes.{append_known}
use Rattle.byte_text.specs.Names.{Bytes}
use Rattle.resp_frames.specs.RequestReader.{Held}
use Rattle.world_model.specs.declared.events.Asked.{Asked}
use Rattle.outside.specs.Links.{LinkState}
use Rattle.session_run.specs.Feeds.{asked_next}
use Rattle.session_run.specs.declared.ends.InEnd.{InEnd}
use Rattle.session_run.specs.declared.phases.Asking.{Asking}
use Rattle.session_run.specs.declared.phases.Asking.TheVariants.{Open, Breaking, Ended}
use Rattle.session_run.specs.declared.phases.TakeEnd.{TakeEnd}
use Rattle.session_run.specs.declared.phases.TakeEnd.TheVariants.{WriteFault, Late}

-- its link and its number; the bytes that begin a request, what was read behind them and not looked at yet, and the requests that wait
-- for their calls; what is to be written; how far its asking is, and how the taking of its frames ended, if it did; and whether its calls
-- have set its live channel
pub record SessionState : Type 0 where
  pub line : LinkState
  pub number : ℕ
  pub held : Held
  pub rest : Bytes
  pub asked : List Asked
  pub out : Bytes
  pub asking : Asking
  pub taking : Option TakeEnd
  pub is_fenced : Bool

-- before the first byte
abbrev pub opened : LinkState → ℕ → SessionState
opened line number = record {
  line = line;
  number = number;
  held = Some [];
  rest = [];
  asked = [];
  out = [];
  asking = Open;
  taking = None;
  is_fenced = false;
}

-- what it is still to be asked, where these bytes come behind those that were read
abbrev pub demand : SessionState → Bytes → List Asked
demand s more = s.asked ++ asked_next s.number s.held (s.rest ++ more)

-- all that its link was written, and is to be written
abbrev pub owed : SessionState → Option Bytes
owed s = append_known s.line.held s.out

-- it is read only where nothing is kept
abbrev pub WantsToRead : SessionState → Type 0
WantsToRead s = (s.asking ≡ Open) × (s.taking ≡ None) × (s.rest ≡ []) × (s.asked ≡ []) × (s.out ≡ [])

abbrev pub goes_on : Asking → Bool
goes_on Open = true
goes_on Breaking = true
goes_on (Ended end) = false

-- calls are made only where nothing is to be written
abbrev pub WantsTurn : SessionState → Type 0
WantsTurn s = (goes_on s.asking ≡ true) × (s.taking ≡ None) × (0 < length s.asked) × (s.out ≡ [])

-- frames are taken only where none is to be written
abbrev pub WantsTake : SessionState → Type 0
WantsTake s = (s.taking ≡ None) × (s.out ≡ [])

abbrev pub can_write : Option TakeEnd → Bool
can_write (Some WriteFault) = false
can_write (Some Late) = false
can_write taking = true

abbrev pub WantsToWrite : SessionState → Type 0
WantsToWrite s = (0 < length s.out) × (can_write s.taking ≡ true)

-- nothing is taken any more, and what was taken is written, as far as it can be
abbrev pub IsOver : SessionState → Type 0
IsOver s = (s.taking ≡ None → ⊥) × (WantsToWrite s → ⊥)

-- the server may end its asking only where nothing that was read waits for its call
abbrev pub CanDismiss : SessionState → Type 0
CanDismiss s = (s.asking ≡ Open) × (s.rest ≡ []) × (s.asked ≡ [])

-- how its asking ended, if it did
abbrev pub end_of_asking : Asking → Option InEnd
end_of_asking (Ended end) = Some end
end_of_asking asking = None
