-- The word that the confirmation of a subscription begins with.
use Rattle.std.specs.Prelude.{Bool, true, false, codes}
use Rattle.byte_text.specs.Names.{Bytes}

abbrev pub called_of : Bool → Bytes
called_of true = codes "psubscribe"
called_of false = codes "subscribe"
