-- The channels that are taken out because their names meet a pattern.
use Rattle.std.specs.Prelude.{◌≡◌, ℕ, ◌+◌, ◌≤◌, List, [], ◌∷◌, ◌++◌, filter, map}
use Rattle.byte_text.specs.Names.{Bytes}
use Rattle.byte_text.specs.Globs.{glob_meets}
use Rattle.fence_model.specs.Writes.{Write, silent}
use Rattle.world_data.specs.declared.channels.Channel.{Channel}
use Rattle.world_data.specs.declared.worlds.Change.TheVariants as change
use Rattle.delivery_model.specs.Staging.{records_len}
use Rattle.channel_plans.specs.declared.channels.Dropped.{Dropped}
use Rattle.object_plans.specs.Beside.{channels_weight}

-- those of the channels whose names meet the pattern
abbrev pub met_channels : Bytes → List Channel → List Channel
met_channels pattern channels = filter (λ c. glob_meets pattern c.name) channels

abbrev pub names_of : List Channel → List Bytes
names_of channels = map (λ c. c.name) channels

-- these channels taken out, one change each
abbrev pub drops : List Channel → List Write
drops channels = map (λ c. silent (change.DelChan c.name)) channels

-- a channel was looked at, and noted where its name meets the pattern
pub record IsDropped (pattern : Bytes) (c : Channel) (old new : Dropped) : Type 0 where
  pub names : new.names ≡ old.names ++ names_of (met_channels pattern (c ∷ []))
  pub length_is : new.length ≡ old.length + records_len (drops (met_channels pattern (c ∷ [])))
  pub weight_is : new.weight + channels_weight (met_channels pattern (c ∷ [])) ≡ old.weight
  pub small : new.length + new.weight ≤ old.length + old.weight

-- these are all that meet the pattern, of channels of this weight
pub record IsDroppedOf (pattern : Bytes) (channels : List Channel) (total : ℕ) (d : Dropped) : Type 0 where
  pub names : d.names ≡ names_of (met_channels pattern channels)
  pub length_is : d.length ≡ records_len (drops (met_channels pattern channels))
  pub weight_is : d.weight + channels_weight (met_channels pattern channels) ≡ total
  pub small : d.length + d.weight ≤ total
