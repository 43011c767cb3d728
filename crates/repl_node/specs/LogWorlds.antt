-- The worlds that a node folds on with the bytes of its log.
use Rattle.std.specs.Prelude.{◌≡◌, ◌+◌, ◌≤◌, ℕ, List, [], length, take, Option, IfSome}
use Rattle.byte_text.specs.Names.{Bytes}
use Rattle.log_sides.specs.Texts.{newest}
use Rattle.world_recovery.specs.Replayed.{StandsFor}
use Rattle.repl_node.specs.LogTexts.{AreLog}
use Rattle.repl_node.specs.Following.{first_place}
use Rattle.repl_node.specs.declared.log_worlds.LogWorld.{LogWorld}
use Rattle.repl_node.specs.declared.nodes.LogPlace.{LogPlace}

-- the bytes of a log up to a world's place are batches of whole records, and the world took these and nothing else
pub record HasTaken (log : Bytes) (world : LogWorld) : Type 0 where
  pub within : world.at ≤ length log
  pub batches : List Bytes
  pub front : AreLog (take world.at log) batches
  pub taken : StandsFor world.replay newest batches []

-- so are all
pub record HasAll (log : Bytes) (world : LogWorld) : Type 0 where
  pub took : HasTaken log world
  pub all : world.at ≡ length log

-- The published world took the log up to the published place, where that is of this log. The second one took some beginning of it.
pub record AreFolded (generation : ℕ) (log : Bytes) (published : LogPlace) (shown : LogWorld) (second : Option LogWorld) : Type 0 where
  pub shown_took : published.generation ≡ generation → HasTaken log shown
  pub shown_to : published.generation ≡ generation → published.place ≡ first_place generation + shown.at
  pub second_took : IfSome second (HasTaken log)
