-- What was asked and written on a link, from its caller on: what whoever steps a session keeps of it from step to step.
use Rattle.std.specs.Prelude.{◌≡◌, ◌≤◌, ℕ, List, [], ◌∷◌, ◌++◌, Option, Some}
use Rattle.std.proofs.Common.{arith, ap, sym, subst}
use Rattle.std.specs.Io.KnownBytes.{Appends, Consumes, IsAtEnd}
use Rattle.outside.specs.Causes.{Rose}
use Rattle.outside.specs.Writing.{AppendsPart}
use Rattle.byte_text.specs.Names.{Bytes}
use Rattle.byte_text.specs.Streams.{stream_of}
use Rattle.world_model.specs.declared.events.Asked.{Asked}
use Rattle.world_model.specs.declared.events.Outcome.{Outcome}
use Rattle.world_model.specs.declared.events.Outcome.TheVariants as outcome
use Rattle.outside.specs.Links.{LinkState}
use Rattle.session_run.specs.Calls.{Call, Serves}
use Rattle.session_run.specs.Ends.{EndsAt}
use Rattle.session_run.specs.Feeds.{asked_by, EndsBroken}
use Rattle.session_run.specs.Live.{asked_of}
use Rattle.session_run.specs.Outs.{bytes_given}
use Rattle.session_run.specs.declared.ends.InEnd.TheVariants as ended
use Rattle.session_run.specs.declared.phases.Asking.{Asking}
use Rattle.session_run.specs.declared.phases.Asking.TheVariants.{Open, Breaking, Ended}
use Rattle.session_run.specs.declared.phases.TakeEnd.{TakeEnd}
use Rattle.session_run.specs.declared.phases.TakeEnd.TheVariants as taking
use Rattle.session_run.specs.Sessions.{SessionState, demand, owed}

-- what the session of a number is asked of these bytes
abbrev pub asked_for : ℕ → Bytes → List Asked
asked_for n read = asked_of n (asked_by (stream_of read))

-- calls served what is asked of the bytes, in order, up to what is still to be asked, whatever comes behind the bytes
abbrev pub ServesOn : Option ℕ → List Call → Bytes → SessionState → Type 0
ServesOn told calls read s = (more : Bytes) → Serves told calls (asked_for s.number (read ++ more)) (demand s more)

-- the same while the asking goes on; once it has ended, what is left over, and why
abbrev pub Asks : Option ℕ → List Call → List Call → Bytes → SessionState → Asking → Type 0
Asks told calls stop read s Open = (stop ≡ []) × ServesOn told calls read s
Asks told calls stop read s Breaking = (stop ≡ []) × ServesOn told calls read s × EndsBroken (asked_for s.number read)
Asks told calls stop read s (Ended end) = (left : List Asked) × Serves told calls (asked_for s.number read) left
    × EndsAt told end stop (asked_for s.number read) left

-- these calls were made of a session, from its link's caller on: of what is asked of the bytes read, in order, each again while it is answered
-- Full, up to an end
pub record AskedSoFar (told : Option ℕ) (made : List Call) (came : LinkState) (s : SessionState) : Type 0 where
  pub read : Bytes
  pub consumed : Consumes came.left s.line.left read
  pub calls : List Call
  pub stop : List Call
  pub made_are : made ≡ calls ++ stop
  pub asks : Asks told calls stop read s s.asking
  pub at_end : s.asking ≡ Ended ended.Over → IsAtEnd s.line.left
  pub cause : s.asking ≡ Ended ended.ReadFault → Rose came.faults s.line.faults
  pub later : came.faults ≤ s.line.faults

-- what is shown of what the takes gave was written or is to be written, in order; where the link failed or was cut or memory ran out, a first
-- part of it
abbrev pub Owes : Option TakeEnd → Option Bytes → SessionState → Bytes → Type 0
Owes (Some taking.WriteFault) held s given = AppendsPart held (owed s) given
Owes (Some taking.Memory) held s given = AppendsPart held (owed s) given
Owes (Some taking.Late) held s given = AppendsPart held (owed s) given
Owes t held s given = Appends held (owed s) given

-- these takes were made of a session, from its link's caller on
pub record WrittenSoFar (takes : List Outcome) (came : LinkState) (s : SessionState) : Type 0 where
  pub owes : Owes s.taking came.held s (bytes_given s.number takes)
  pub last : s.taking ≡ Some taking.Ended → (before : List Outcome) × (takes ≡ before ++ outcome.Ended ∷ [])
  pub cause : s.taking ≡ Some taking.WriteFault → Rose came.faults s.line.faults
  pub later : came.faults ≤ s.line.faults

-- what rose has risen, also later
pub rose_before : (a b c : ℕ) → Rose a b → b ≤ c → Rose a c
rose_before a b c r h = omega (arith, r, h)

-- the parts of states that are the same
pub line_of : {a b : SessionState} → a ≡ b → a.line ≡ b.line
line_of e = ap (λ (s : SessionState). s.line) e

pub out_of : {a b : SessionState} → a ≡ b → a.out ≡ b.out
out_of e = ap (λ (s : SessionState). s.out) e

pub taking_of : {a b : SessionState} → a ≡ b → a.taking ≡ b.taking
taking_of e = ap (λ (s : SessionState). s.taking) e

pub number_of : {a b : SessionState} → a ≡ b → a.number ≡ b.number
number_of e = ap (λ (s : SessionState). s.number) e

pub held_of : {a b : LinkState} → a ≡ b → a.held ≡ b.held
held_of e = ap (λ (l : LinkState). l.held) e

pub left_of : {a b : LinkState} → a ≡ b → a.left ≡ b.left
left_of e = ap (λ (l : LinkState). l.left) e

pub no_less : {a b : LinkState} → a ≡ b → b.faults ≤ a.faults
no_less e = let f = ap (λ (l : LinkState). l.faults) e in omega (arith, f)

pub asked_at : {told : Option ℕ} {made : List Call} {came : LinkState} {a b : SessionState} → b ≡ a → AskedSoFar told made came a
    → AskedSoFar told made came b
asked_at {told} {made} {came} e s = subst (λ (x : SessionState). AskedSoFar told made came x) (sym e) s

pub written_at : {takes : List Outcome} {came : LinkState} {a b : SessionState} → b ≡ a → WrittenSoFar takes came a
    → WrittenSoFar takes came b
written_at {takes} {came} e s = subst (λ (x : SessionState). WrittenSoFar takes came x) (sym e) s
