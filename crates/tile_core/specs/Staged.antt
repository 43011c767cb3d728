-- What is staged behind what was staged before.
use Rattle.std.specs.Prelude.{◌≡◌, List, [], ◌∷◌, ◌++◌, map}
use Rattle.byte_text.specs.Names.{Bytes}
use Rattle.fence_model.specs.Writes.{Write, announced}
use Rattle.world_data.specs.Expiry.{deadline_of}
use Rattle.world_data.specs.declared.channels.Channel.{Channel}
use Rattle.world_data.specs.declared.objects.Object.{Object}
use Rattle.world_data.specs.declared.worlds.World.{World}
use Rattle.world_data.specs.declared.worlds.Change.TheVariants as change
use Rattle.delivery_model.specs.Staging.{after_all}
use Rattle.session_table.specs.Sessions.{State}
use Rattle.session_table.specs.Fans.{HaveStaged}
use Rattle.message_fanout.specs.Stagings.{IsBeforeDel, IsStagedIn, those_left}

-- behind writes that led to the world, what these writes bring there is staged too
abbrev pub StagesBehind : World → List Write → List State → List State → Type 0
StagesBehind w more old new = (first : World) (writes : List Write) → after_all first writes ≡ w → HaveStaged first writes old
    → HaveStaged first (writes ++ more) new

-- the dels of the objects of a key that have these ids
abbrev pub dels_of : Bytes → List Bytes → List Write
dels_of key ids = map (λ id. announced (change.Del key id)) ids

-- the del of each object is staged for the channels that have not gone by its deadline, one after another
abbrev pub AreStagedEach : List Channel → List Object → List State → List State → Type 0
AreStagedEach channels [] old new = old ≡ new
AreStagedEach channels (o ∷ objects) old new = (mid : List State)
    × IsStagedIn (IsBeforeDel (those_left (deadline_of o.deadline) channels) o) (announced (change.Del o.key o.id)) old mid
    × AreStagedEach channels objects mid new
