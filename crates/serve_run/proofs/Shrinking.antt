-- That the log be rewritten, asked by a session of the server's own.
use Rattle.std.proofs.Common.{◌≡◌, ℕ, zero, suc, List, [], ◌∷◌, refl, sym, subst, inl, inr, arith}
use Rattle.std.specs.Prelude.{Option, Some, None, length}
use Rattle.world_model.specs.declared.events.Asked.{Asked}
use Rattle.world_model.specs.declared.events.Asked.TheVariants as asks_for
use Rattle.world_model.specs.declared.events.CallOutcome.{CallOutcome}
use Rattle.world_model.specs.declared.events.CallOutcome.TheVariants as called
use Rattle.world_model.specs.declared.events.Event.TheVariants as event
use Rattle.world_model.specs.declared.events.Outcome.{Outcome}
use Rattle.world_model.specs.declared.events.Outcome.TheVariants as outcome
use Rattle.world_model.specs.Outcomes.{call_act, call_acts, IsCount}
use Rattle.world_model.specs.Seats.{Knows, Act, Adds, AddsCalls, AddsNamed}
use Rattle.session_run.specs.Gains.{Gains, made, gains_one, gains_more, gains_calls}
use Rattle.serve_run.specs.declared.tends.ServeEnd.{ServeEnd}
use Rattle.serve_run.specs.declared.tendings.Tending.{Tending}
use Rattle.serve_run.specs.declared.terms.Terms.{Terms}
use Rattle.serve_run.specs.Pacing.{HasGrown}
use Rattle.serve_run.specs.Tends.{IsTold, Shrinks, shrink_acts, shrink_end, shrink_words}

-- one request makes one call, whatever its answer
pub one_call : (n m served : ℕ) (end : CallOutcome) (a : Asked) → IsCount served end 1 → call_acts n m (a ∷ []) served end ≡ call_act n m end a ∷ []
one_call n m zero called.Ok a count = absurd (omega (arith, count))
one_call n m (suc zero) called.Ok a count = refl
one_call n m (suc (suc served)) called.Ok a count = absurd (omega (arith, count))
one_call n m zero end a count = refl
one_call n m (suc served) end a count = absurd (omega (arith, count))

pub one_gain : (acts : List Act) (a : Act) (old new : Knows) → acts ≡ a ∷ [] → AddsCalls acts old new → Gains old new (a ∷ [])
one_gain acts a old new is adds = gains_calls (a ∷ []) old new (omega arith) (subst (λ (l : List Act). AddsCalls l old new) is adds)

pub shrinks_refused : (told : Option ℕ) (terms : Terms) (t : Tending) (old new : Knows) (o : Outcome) → HasGrown terms t → Adds event.Enter o old new
    → Shrinks told terms t old new None
shrinks_refused told terms t old new o grown adds = inr (grown, inl (o, gains_one old new (event.Enter, o) (made event.Enter o old new adds)))

by_end : (told : Option ℕ) (terms : Terms) (t : Tending) (old new : Knows) (n m : ℕ) (c : CallOutcome) (o : Option ServeEnd) → IsTold told m → HasGrown terms t
    → o ≡ shrink_end c → Gains old new (shrink_acts n m c) → Shrinks told terms t old new o
by_end told terms t old new n m c None timely grown is gains = inr (grown, inr (n, m, c, timely, gains))
by_end told terms t old new n m c (Some e) timely grown is gains = record { last = shrink_acts n m c; gains = gains; is_last = inr (inl (m, n, c, timely, grown, sym is, refl)) }

pub shrinks_all : (told : Option ℕ) (terms : Terms) (t : Tending) (k0 k1 k2 k3 : Knows) (n m served : ℕ) (end : CallOutcome) (asked : List Asked) (named : List ℕ) (o : Option ServeEnd)
    → IsTold told m → HasGrown terms t → asked ≡ asks_for.Words shrink_words ∷ [] → o ≡ shrink_end end → Adds event.Enter (outcome.Entered n) k0 k1
    → IsCount served end (length asked) → AddsNamed (call_acts n m asked served end) named k1 k2 → Adds (event.Remove n) outcome.Done k2 k3
    → Shrinks told terms t k0 k3 o
shrinks_all told terms t k0 k1 k2 k3 n m served end asked named o timely grown are is entered count adds removed =
    let a : Asked = asks_for.Words shrink_words in
    let one : IsCount served end 1 = subst (λ (l : List Asked). IsCount served end (length l)) are count in
    let asks : AddsCalls (call_acts n m (a ∷ []) served end) k1 k2 = subst (λ (l : List Asked). AddsCalls (call_acts n m l served end) k1 k2) are adds.adds in
    let first : Gains k0 k1 ((event.Enter, outcome.Entered n) ∷ []) = gains_one k0 k1 (event.Enter, outcome.Entered n) (made event.Enter (outcome.Entered n) k0 k1 entered) in
    let call : Gains k1 k2 (call_act n m end a ∷ []) = one_gain (call_acts n m (a ∷ []) served end) (call_act n m end a) k1 k2 (one_call n m served end a one) asks in
    let last : Gains k2 k3 ((event.Remove n, outcome.Done) ∷ []) = gains_one k2 k3 (event.Remove n, outcome.Done) (made (event.Remove n) outcome.Done k2 k3 removed) in
    by_end told terms t k0 k3 n m end o timely grown is
    (gains_more k0 k1 k3 ((event.Enter, outcome.Entered n) ∷ []) (call_act n m end a ∷ (event.Remove n, outcome.Done) ∷ []) first
    (gains_more k1 k2 k3 (call_act n m end a ∷ []) ((event.Remove n, outcome.Done) ∷ []) call last))
