-- A subscription to a word.
use Rattle.std.specs.Prelude.{Bool}
use Rattle.byte_text.specs.Names.{Bytes}
use Rattle.world_model.specs.Subscriptions.{Sub}

-- to the names that meet the word, or to the word as a name
abbrev pub sub : Bool → Bytes → Sub
sub pattern word = record { pattern = pattern; word = word }
