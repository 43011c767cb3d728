-- What the lines of a script that were played have made.
use Rattle.std.specs.Prelude.{List}
use Rattle.world_model.specs.Halls.{Hall}
use Rattle.replay_run.specs.declared.readers.Reader.{Reader}

-- the hall, and a reader for each session that was entered
pub record Played : Type 0 where
  pub hall : Hall
  pub readers : List Reader
