-- Places of channels by name.
use Rattle.std.specs.Prelude.{ℕ, ◌+◌, Bool, List, [], ◌∷◌, Option, Some, None, if◌then◌else◌}
use Rattle.world_data.specs.declared.channels.Channel.{Channel}
use Rattle.world_data.specs.Expiry.{is_channel_due}
use Rattle.world_data.specs.Worlds.{is_named}

-- the place of the channel of this channel's name, that behind all where there is none
abbrev pub place_in : List Channel → Channel → ℕ
place_in [] c = 0
place_in (d ∷ ds) c = if is_named c.name d then 0 else place_in ds c + 1

abbrev pub place_among : List Channel → Option Channel → ℕ
place_among channels None = 0
place_among channels (Some c) = place_in channels c

-- the places of the channels that pass, from one on
abbrev pub places_from : ℕ → (Channel → Bool) → List Channel → List ℕ
places_from at test [] = []
places_from at test (c ∷ cs) = if test c then at ∷ places_from (at + 1) test cs else places_from (at + 1) test cs

-- the places of those that are out, where those are that were due at a moment
abbrev pub places_out : Option ℕ → List Channel → List ℕ
places_out None channels = []
places_out (Some now) channels = places_from 0 (is_channel_due now) channels
