-- Steps of a machine at which the log does not fail and memory does not want.
use Rattle.std.specs.Prelude.{◌≡◌, Bool, true, false}
use Rattle.world_model.specs.Halls.{Hall}
use Rattle.world_model.specs.Histories.{Step}
use Rattle.world_model.specs.declared.events.CallOutcome.TheVariants as called
use Rattle.world_model.specs.declared.events.Event.{Event}
use Rattle.world_model.specs.declared.events.Outcome.{Outcome}
use Rattle.world_model.specs.declared.events.Outcome.TheVariants.{Answered}

-- the two outcomes that a hall does not decide
abbrev pub is_hindered : Outcome → Bool
is_hindered (Answered called.LogFault) = true
is_hindered (Answered called.Memory) = true
is_hindered o = false

pub record Makes (event : Event) (outcome : Outcome) (old new : Hall) : Type 0 where
  pub step : Step old event outcome new
  pub free : is_hindered outcome ≡ false
