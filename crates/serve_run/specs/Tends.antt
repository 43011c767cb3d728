-- What the server asks of the hall by itself, between the sessions' steps: the Tick and the Rewrites behind it, that the log be rewritten, and
-- that the channel of a live fence be deleted whose session is gone.
use Rattle.std.specs.Prelude.{◌≡◌, ◌⊎◌, ◌<◌, ◌≤◌, ℕ, List, [], ◌∷◌, ◌++◌, replicate, codes, Option, Some, None, Result, Ok, Err, MatchOption}
use Rattle.byte_text.specs.Names.{Bytes}
use Rattle.world_model.specs.declared.events.Asked.TheVariants as asked
use Rattle.world_model.specs.declared.events.CallOutcome.{CallOutcome}
use Rattle.world_model.specs.declared.events.CallOutcome.TheVariants as called
use Rattle.world_model.specs.declared.events.Event.TheVariants as event
use Rattle.world_model.specs.declared.events.LogState.{LogState}
use Rattle.world_model.specs.declared.events.Outcome.{Outcome}
use Rattle.world_model.specs.declared.events.Outcome.TheVariants as outcome
use Rattle.world_model.specs.Outcomes.{call_act}
use Rattle.world_model.specs.Seats.{Knows, Act}
use Rattle.live_fence.specs.LiveFences.{end_request}
use Rattle.session_run.specs.Gains.{Gains}
use Rattle.serve_run.specs.declared.tends.ServeEnd.{ServeEnd}
use Rattle.serve_run.specs.declared.tends.ServeEnd.TheVariants as end
use Rattle.serve_run.specs.declared.paces.TheConstants.{REWRITE_STEPS}
use Rattle.serve_run.specs.declared.tendings.Tending.{Tending}
use Rattle.serve_run.specs.declared.terms.Terms.{Terms}
use Rattle.serve_run.specs.Pacing.{HasGrown, HasWanted}

-- the end that the answer to a Tick or Rewrite brings
abbrev pub serve_end : CallOutcome → Option ServeEnd
serve_end called.Ok = None
serve_end called.LogFault = Some end.Stopped
serve_end called.Stopped = Some end.Stopped
serve_end called.Spent = Some end.Spent
serve_end called.Full = Some end.Memory
serve_end called.Gone = Some end.Memory
serve_end called.Memory = Some end.Memory

-- the end that the answer brings to what a session of the server's own asked: want of memory brings none
abbrev pub shrink_end : CallOutcome → Option ServeEnd
shrink_end called.LogFault = Some end.Stopped
shrink_end called.Stopped = Some end.Stopped
shrink_end called.Spent = Some end.Spent
shrink_end answer = None

abbrev pub tick_act : ℕ → CallOutcome → Act
tick_act m c = (event.Tick m, outcome.Answered c)

abbrev pub rewrite_act : CallOutcome → Act
rewrite_act c = (event.Rewrite, outcome.Answered c)

-- the most Rewrites behind one Tick, a constant of the code
abbrev pub rewrite_steps : ℕ
rewrite_steps = REWRITE_STEPS

-- so many Rewrites, each answered Ok
abbrev pub rewrites : ℕ → List Act
rewrites n = replicate n (rewrite_act called.Ok)

-- some Rewrites stand behind a Tick, and not too many
abbrev pub AreFew : ℕ → Type 0
AreFew n = (0 < n) × (n ≤ rewrite_steps)

abbrev pub IsTold : Option ℕ → ℕ → Type 0
IsTold told m = MatchOption told (Unit {0}) (λ x. m ≡ x)

-- the Rewrites behind a Tick: each answered Ok, of which the last told something of the log; or those up to the first that was answered
-- otherwise, which brings the end
abbrev pub Rewritten : Knows → Knows → Result LogState ServeEnd → Type 0
Rewritten old new (Ok log) = (n : ℕ) × AreFew n × Gains old new (rewrites n)
Rewritten old new (Err e) = (n : ℕ) × (c : CallOutcome) × (n < rewrite_steps) × (serve_end c ≡ Some e)
    × Gains old new (rewrites n ++ rewrite_act c ∷ [])

-- a Tick and the Rewrites behind it, each answered Ok
abbrev pub tend_acts : ℕ → ℕ → List Act
tend_acts m n = tick_act m called.Ok ∷ rewrites n

-- the same up to one that was answered so: the Tick, or the Rewrite behind so many that were answered Ok
abbrev pub broken_acts : ℕ → Option ℕ → CallOutcome → List Act
broken_acts m None c = tick_act m c ∷ []
broken_acts m (Some n) c = tick_act m called.Ok ∷ rewrites n ++ rewrite_act c ∷ []

abbrev pub AreBelow : Option ℕ → Type 0
AreBelow None = Unit {0}
AreBelow (Some n) = n < rewrite_steps

-- these, the Tick at a moment
abbrev pub Tends : ℕ → Knows → Knows → Result LogState ServeEnd → Type 0
Tends m old new (Ok log) = (n : ℕ) × AreFew n × Gains old new (tend_acts m n)
Tends m old new (Err e) = (n : Option ℕ) × (c : CallOutcome) × AreBelow n × (serve_end c ≡ Some e) × Gains old new (broken_acts m n c)

-- the one word that asks for the log to be rewritten
abbrev pub shrink_words : List Bytes
shrink_words = codes "AOFSHRINK" ∷ []

-- a session is entered, asks for that, and is removed
abbrev pub shrink_acts : ℕ → ℕ → CallOutcome → List Act
shrink_acts n m c = (event.Enter, outcome.Entered n) ∷ call_act n m c (asked.Words shrink_words) ∷ (event.Remove n, outcome.Done) ∷ []

-- a session is entered, asks that the channel of a session that is gone be deleted, and is removed
abbrev pub unfence_acts : ℕ → ℕ → ℕ → CallOutcome → List Act
unfence_acts gone n m c = (event.Enter, outcome.Entered n) ∷ call_act n m c (asked.Words (end_request gone)) ∷ (event.Remove n, outcome.Done) ∷ []

-- The entries of a group that ends with the answer that brings the end: that of the Tick, or of one of the Rewrites behind it; or that of
-- what a session asked that was entered for it. Want of memory brings it only where it lasted since a tick before.
abbrev pub IsLastTend : Option ℕ → Tending → ServeEnd → List Act → Type 0
IsLastTend told t e last = (m : ℕ) × (n : Option ℕ) × (c : CallOutcome) × IsTold told m × AreBelow n × (serve_end c ≡ Some e)
    × (e ≡ end.Memory → HasWanted t m) × (last ≡ broken_acts m n c)

abbrev pub IsLastShrink : Option ℕ → Terms → Tending → ServeEnd → List Act → Type 0
IsLastShrink told terms t e last = (m : ℕ) × (n : ℕ) × (c : CallOutcome) × IsTold told m × HasGrown terms t × (shrink_end c ≡ Some e)
    × (last ≡ shrink_acts n m c)

abbrev pub IsLastUnfence : Option ℕ → ServeEnd → List Act → Type 0
IsLastUnfence told e last = (gone : ℕ) × (m : ℕ) × (n : ℕ) × (c : CallOutcome) × IsTold told m × (shrink_end c ≡ Some e)
    × (last ≡ unfence_acts gone n m c)

abbrev pub IsLast : Option ℕ → Terms → Tending → ServeEnd → List Act → Type 0
IsLast told terms t e last = IsLastTend told t e last ⊎ (IsLastShrink told terms t e last ⊎ IsLastUnfence told e last)

pub record TendsLast (told : Option ℕ) (terms : Terms) (t : Tending) (old new : Knows) (end : ServeEnd) : Type 0 where
  pub last : List Act
  pub gains : Gains old new last
  pub is_last : IsLast told terms t end last

-- what was asked for a live fence brought the end, whatever the terms are and the tends told
pub record UnfencesLast (told : Option ℕ) (old new : Knows) (end : ServeEnd) : Type 0 where
  pub last : List Act
  pub gains : Gains old new last
  pub is_last : IsLastUnfence told end last

-- it was asked that the log be rewritten, where it has grown; or there was no memory to ask, or no session was entered for it
abbrev pub Asks : Option ℕ → Knows → Knows → Type 0
Asks told old new = ((o : Outcome) × Gains old new ((event.Enter, o) ∷ []))
    ⊎ ((n : ℕ) × (m : ℕ) × (c : CallOutcome) × IsTold told m × Gains old new (shrink_acts n m c))

abbrev pub ShrinksOn : Option ℕ → Terms → Tending → Knows → Knows → Type 0
ShrinksOn told terms t old new = (new ≡ old) ⊎ (HasGrown terms t × Asks told old new)

abbrev pub Shrinks : Option ℕ → Terms → Tending → Knows → Knows → Option ServeEnd → Type 0
Shrinks told terms t old new None = ShrinksOn told terms t old new
Shrinks told terms t old new (Some end) = TendsLast told terms t old new end
