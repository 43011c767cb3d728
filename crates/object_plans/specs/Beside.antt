-- Commands on objects, where channels stand beside the objects.
use Rattle.std.specs.Prelude.{◌≡◌, ◌<◌, ◌≤◌, ◌+◌, ◌^◌, ℕ, Bool, true, false, not, List, [], ◌∷◌, Some, sum_by, if◌then◌else◌}
use Rattle.fence_model.specs.Writes.{Write}
use Rattle.world_data.specs.Worlds.{object_at}
use Rattle.world_data.specs.declared.channels.Channel.{Channel}
use Rattle.world_data.specs.declared.objects.Object.{Object}
use Rattle.world_data.specs.declared.worlds.World.{World}
use Rattle.world_data.specs.declared.worlds.Change.{Change}
use Rattle.world_data.specs.declared.worlds.Change.TheVariants as change
use Rattle.world_model.specs.Effects.{Effect, refuses, fits, changed_count, given_and_cleared}
use Rattle.world_model.specs.declared.object_commands.ObjectCommand.{ObjectCommand}
use Rattle.world_model.specs.declared.object_commands.ObjectCommand.TheVariants as of_object
use Rattle.world_model.specs.declared.faults.Refusal.TheVariants as refusal
use Rattle.object_plans.specs.declared.moves.ObjectChange.{ObjectChange}
use Rattle.object_plans.specs.declared.moves.ObjectChange.TheVariants.{Stay, Put, Delete, DeleteEach, DropKey, Clear}
use Rattle.object_plans.specs.Moves.{world_of}
use Rattle.object_plans.specs.Kept.{most_kept}
use Rattle.object_plans.specs.Plans.{IsPlan}
use Rattle.object_plans.specs.declared.plans.Plan.{Plan}
use Rattle.record_writer.specs.Lengths.{len_of_channel}

-- the bytes of the records of channels
abbrev pub channels_weight : List Channel → ℕ
channels_weight channels = sum_by len_of_channel channels

-- the channels after what is done to the objects: they go where all is taken out
abbrev pub channels_left : ObjectChange → List Channel → List Channel
channels_left Stay channels = channels
channels_left (Put o) channels = channels
channels_left (Delete key id) channels = channels
channels_left (DeleteEach key ids) channels = channels
channels_left (DropKey key) channels = channels
channels_left Clear channels = []

-- and so does their weight
abbrev pub weight_left : ObjectChange → ℕ → ℕ
weight_left Stay n = n
weight_left (Put o) n = n
weight_left (Delete key id) n = n
weight_left (DeleteEach key ids) n = n
weight_left (DropKey key) n = n
weight_left Clear n = 0

-- the command's put is refused where it leaves the world too heavy
abbrev pub is_weighed : ObjectCommand → Bool
is_weighed (of_object.Set key id given cleared after_ex only text shape) = true
is_weighed (of_object.Fset key id given cleared) = true
is_weighed (of_object.Expire key id s) = true
is_weighed c = false

-- an object is put
abbrev pub is_put : ObjectChange → Bool
is_put (Put o) = true
is_put action = false

-- a put that leaves a world too heavy
abbrev pub is_heavy_put : World → Change → Bool
is_heavy_put w (change.Put o) = not (fits w (change.Put o))
is_heavy_put w c = false

-- so is the one write that is done
abbrev pub is_too_heavy : World → List Write → Bool
is_too_heavy w [] = false
is_too_heavy w (d ∷ []) = is_heavy_put w d.change
is_too_heavy w (d ∷ e ∷ writes) = false

-- the effect, or the refusal where its put leaves this world too heavy
abbrev pub or_full : World → Effect → Effect
or_full w e = if is_too_heavy w e.writes then refuses refusal.DatabaseFull else e

-- the values that FSET changes can be counted
abbrev pub IsCounted : List Object → ObjectCommand → Type 0
IsCounted objects (of_object.Fset key id given cleared) = (o : Object) → object_at (world_of objects) key id ≡ Some o → changed_count o.fields
    (given_and_cleared given cleared) < 2 ^ 64
IsCounted objects c = Unit {0}

-- the plan is that of an effect in a world of these objects, and leaves one that can be kept beside these channels
abbrev pub IsPlanBeside : List Channel → List Object → Effect → Plan → Type 0
IsPlanBeside cs objects e p = IsPlan objects e p × (p.weight + channels_weight (channels_left p.action cs) ≤ most_kept)
