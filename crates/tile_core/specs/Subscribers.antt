-- Which sessions hold subscriptions.
use Rattle.std.specs.Prelude.{Bool, false, Option, Some, None}
use Rattle.world_model.specs.Halls.{Session}
use Rattle.world_model.specs.Subscriptions.{has_subs}

-- the session is there and holds some
abbrev pub has_subscriptions : Option Session → Bool
has_subscriptions None = false
has_subscriptions (Some s) = has_subs s.subs
