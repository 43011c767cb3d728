-- What a player of a script stands for.
use Rattle.durable_core.specs.Logged.{hall_of}
use Rattle.replay_run.specs.Played.{Played}
use Rattle.replay_run.specs.declared.acts.Player.{Player}

abbrev pub played : {D : Type 0} → Player D → Played
played p = record { hall = hall_of p.core; readers = p.readers.items }
