-- How far the log of a hall is rewritten, event by event of its history.
use Rattle.std.specs.Prelude.{◌≡◌, ℕ, Bool, false, ◌&&◌, List, [], ◌∷◌, map}
use Rattle.world_model.specs.Halls.{Hall, session_of}
use Rattle.world_model.specs.Histories.{Step, is_log_fault, is_rewrite, opening_hall}
use Rattle.world_model.specs.Seats.{Act, act_of}
use Rattle.world_model.specs.declared.events.CallOutcome.TheVariants as called
use Rattle.world_model.specs.declared.events.Entry.{Entry}
use Rattle.world_model.specs.declared.events.Event.{Event}
use Rattle.world_model.specs.declared.events.Event.TheVariants.{Call, Rewrite}
use Rattle.world_model.specs.declared.events.Opening.{Opening}
use Rattle.world_model.specs.declared.events.Outcome.{Outcome}
use Rattle.world_model.specs.declared.events.Outcome.TheVariants.{Answered}
use Rattle.durable_core.specs.Logged.{generation_of}
use Rattle.durable_core.specs.Rewriting.{next_rewriting, rewriting_after}
use Rattle.durable_core.specs.Steps.{next_generation}
use Rattle.durable_core.specs.Words.{is_served_rewriting}
use Rattle.durable_core.specs.declared.cores.DurableCore.{DurableCore}
use Rattle.durable_core.specs.declared.rewritings.Rewriting.{Rewriting}

-- how far a log is rewritten, and its generation
pub record Writing : Type 0 where
  pub rewriting : Rewriting
  pub generation : ℕ

abbrev pub writing_of : {D : Type 0} → DurableCore D → Writing
writing_of c = record { rewriting = c.tail.rewriting; generation = generation_of c }

-- behind an event of a hall: a call that was answered Ok may have asked for a rewriting, and a step that was goes on with it; with a step that
-- ends it the generation rises
abbrev pub written : Hall → Event → Outcome → Writing → Writing
written h (Call n moment asked) (Answered c) w = record {
  rewriting = rewriting_after c (is_served_rewriting (session_of h n) asked) w.generation w.rewriting;
  generation = w.generation;
}
written h Rewrite (Answered called.Ok) w = record {
  rewriting = next_rewriting h.world w.rewriting;
  generation = next_generation w.rewriting h.world w.generation;
}
written h event outcome w = w

-- the log failed in a step of rewriting
abbrev pub is_failed_step : Event → Outcome → Bool
is_failed_step event outcome = is_rewrite event && is_log_fault outcome

-- From a hall on, over acts of it to another one. Behind a step in which the log failed a log may stand at any place; the hall has stopped then.
abbrev pub Writes : Hall → Writing → List Act → Hall → Writing → Type 0
Writes h w [] last end = (last ≡ h) × (end ≡ w)
Writes h w (a ∷ acts) last end =
    (next : Hall) × (mid : Writing) × Step h a.0 a.1 next × (is_failed_step a.0 a.1 ≡ false → mid ≡ written h a.0 a.1 w) × Writes next mid acts last end

-- a history, from its opening with a log so far on, leaves a log of this generation
pub record LeavesGeneration (o : Opening) (first : Writing) (entries : List Entry) (generation : ℕ) : Type 0 where
  pub hall : Hall
  pub end : Writing
  pub writes : Writes (opening_hall o.world o.logged) first (map act_of entries) hall end
  pub is : generation ≡ end.generation
