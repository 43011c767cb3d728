-- A number that the hall gives out was never given to a session of the loop.
use Rattle.std.proofs.Common.{◌≡◌, ◌⊎◌, ℕ, false, List, [], ◌∷◌, ◌++◌, refl, sym, ap, ◌∙◌, subst, inl, inr}
use Rattle.world_model.specs.Histories.{Reaches}
use Rattle.world_model.specs.Seats.{Knows, Act, Adds}
use Rattle.world_model.specs.declared.events.Entry.{Entry}
use Rattle.world_model.specs.declared.events.Event.TheVariants as event
use Rattle.world_model.specs.declared.events.Outcome.TheVariants as outcome
use Rattle.session_run.specs.Gains.{Gains, Makes, made}
use Rattle.serve_run.specs.Steps.{Step, Joined, steps_acts, IsAmong}
use Rattle.serve_run.specs.LoopStates.{NeverJoined}
use Rattle.serve_run.proofs.Drawn.{HasAct, has_more, has_last, given_once}
use Rattle.serve_run.proofs.Stepping.{acts_more}

abbrev HasMade : Act → List Act → Type 0
HasMade a [] = ⊥
HasMade a (x ∷ acts) = (x ≡ a) ⊎ HasMade a acts

made_behind : (a : Act) (front back : List Act) → HasMade a (front ++ a ∷ back)
made_behind a [] back = inl refl
made_behind a (x ∷ front) back = inr (made_behind a front back)

seen_on : (a x : Act) (old new : Knows) → Makes x old new → HasAct a old.seen → HasAct a new.seen
seen_on a x old new m i = subst (λ (l : List Entry). HasAct a l) (sym m.seen)
    (has_more a (old.seen ++ m.between) (m.entry ∷ []) (has_more a old.seen m.between i))

seen_all : (a : Act) (acts : List Act) (old new : Knows) → Gains old new acts → HasAct a old.seen → HasAct a new.seen
seen_all a [] old new g i = subst (λ (k : Knows). HasAct a k.seen) (sym g) i
seen_all a (x ∷ acts) old new g i = seen_all a acts g.0 new g.2 (seen_on a x old g.0 g.1 i)

seen_made : (a : Act) (acts : List Act) (old new : Knows) → Gains old new acts → HasMade a acts → HasAct a new.seen
seen_made a [] old new g i = absurd i
seen_made a (x ∷ acts) old new g (inl is) = seen_all a acts g.0 new g.2
    (subst (λ (l : List Entry). HasAct a l) (sym g.1.seen) (has_last a (old.seen ++ g.1.between) g.1.entry (g.1.is ∙ is)))
seen_made a (x ∷ acts) old new g (inr i) = seen_made a acts g.0 new g.2 i

-- a caller's Enter is among the entries of the steps
joined_made : (caller n : ℕ) (steps : List Step) → IsAmong (Joined caller (outcome.Entered n)) steps → HasMade (event.Enter, outcome.Entered n) (steps_acts steps)
joined_made caller n steps a = subst (λ (l : List Act). HasMade (event.Enter, outcome.Entered n) l)
    (sym (ap steps_acts a.2 ∙ acts_more a.0 (Joined caller (outcome.Entered n) ∷ a.1)))
    (made_behind (event.Enter, outcome.Entered n) (steps_acts a.0) (steps_acts a.1))

pub never_joined : (old k k' : Knows) (steps : List Step) (n : ℕ) → Gains old k (steps_acts steps) → Adds event.Enter (outcome.Entered n) k k' → NeverJoined n steps
never_joined old k k' steps n gains adds = λ caller a.
    let m : Makes (event.Enter, outcome.Entered n) k k' = made event.Enter (outcome.Entered n) k k' adds in
    let reached : Reaches k'.opening ((k.seen ++ m.between) ++ m.entry ∷ []) adds.legal.hall = subst (λ (l : List Entry). Reaches k'.opening l adds.legal.hall) m.seen adds.legal.reached in
    given_once _ adds.legal.hall k'.opening.moment k'.opening.count false (k.seen ++ m.between) m.entry n reached m.is
    (has_more (event.Enter, outcome.Entered n) k.seen m.between
    (seen_made (event.Enter, outcome.Entered n) (steps_acts steps) old k gains (joined_made caller n steps a)))
