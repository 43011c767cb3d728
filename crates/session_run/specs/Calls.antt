-- The calls by which a session serves what its stream asks for.
use Rattle.std.specs.Prelude.{◌≡◌, ℕ, Bool, true, false, List, [], ◌∷◌, Option, MatchOption}
use Rattle.world_model.specs.declared.events.Asked.{Asked}
use Rattle.world_model.specs.declared.events.CallOutcome.{CallOutcome}
use Rattle.world_model.specs.declared.events.CallOutcome.TheVariants as called
use Rattle.world_model.specs.Seats.{Act}
use Rattle.world_model.specs.Outcomes.{call_act}

-- a call: at which moment, of what, and its answer
pub record Call : Type 0 where
  pub moment : ℕ
  pub asked : Asked
  pub answer : CallOutcome

abbrev pub call_of : ℕ → Call → Act
call_of n c = call_act n c.moment c.answer c.asked

-- the moment is the one that the clock tells
abbrev pub IsTimely : Option ℕ → Call → Type 0
IsTimely told c = MatchOption told (Unit {0}) (λ m. c.moment ≡ m)

-- the call is of the first of what is asked for
abbrev pub IsNext : Call → List Asked → Type 0
IsNext c asks = (more : List Asked) × (asks ≡ c.asked ∷ more)

abbrev pub goes_on : CallOutcome → Bool
goes_on called.Ok = true
goes_on called.Full = true
goes_on answer = false

-- what is asked for behind a call with this answer: after Full it is asked for again
abbrev pub behind : CallOutcome → List Asked → List Asked
behind called.Ok (a ∷ asks) = asks
behind answer asks = asks

-- calls serve what is asked for, in order, each again while it is answered Full; this is left over
abbrev pub Serves : Option ℕ → List Call → List Asked → List Asked → Type 0
Serves told [] asks left = left ≡ asks
Serves told (c ∷ calls) asks left = IsTimely told c × IsNext c asks × (goes_on c.answer ≡ true) × Serves told calls (behind c.answer asks) left

-- one call more, of the first of what is left, has this answer
abbrev pub IsStop : Option ℕ → CallOutcome → List Call → List Asked → Type 0
IsStop told answer stop left = (c : Call) × (stop ≡ c ∷ []) × (c.answer ≡ answer) × IsTimely told c × IsNext c left
