-- The payload of what a channel raises, and which objects it speaks of.
use Rattle.std.specs.Prelude.{Bool, true, false, ◌&&◌, [], Option, Some, None, is_some, if◌then◌else◌}
use Rattle.byte_text.specs.Names.{Bytes}
use Rattle.fence_model.specs.Messages.{set_payload, del_payload, drop_payload, roam_payload}
use Rattle.world_data.specs.declared.objects.Object.{Object}
use Rattle.world_data.specs.declared.channels.Channel.{Channel}
use Rattle.world_data.specs.declared.channels.Detect.{Detect}
use Rattle.world_data.specs.declared.channels.Detect.TheVariants.{Inside, Outside, Enter, Exit, Cross, Near, Far}
use Rattle.world_data.specs.declared.channels.Raised.{Raised}
use Rattle.world_data.specs.declared.channels.Raised.TheVariants as raised

-- the object came near to another, or went away from one
abbrev pub is_roamed : Detect → Bool
is_roamed Near = true
is_roamed Far = true
is_roamed Inside = false
is_roamed Outside = false
is_roamed Enter = false
is_roamed Exit = false
is_roamed Cross = false

-- a drop speaks of no object, roaming of two, all else of one
abbrev pub has_objects : Raised → Option Object → Option Object → Bool
has_objects (raised.Set d) object other = is_some object && (if is_roamed d then is_some other else true)
has_objects raised.Del object other = is_some object
has_objects raised.Drop object other = true

-- the payload of what is raised by an object that is there, and the other one where it roams
abbrev pub set_of : Bytes → Detect → Object → Option Object → Bytes
set_of hook d o None = set_payload hook d o
set_of hook d o (Some other) = if is_roamed d then roam_payload hook o (other, d) else set_payload hook d o

abbrev pub payload_of : Channel → Raised → Option Object → Option Object → Bytes
payload_of c (raised.Set d) (Some o) other = set_of c.name d o other
payload_of c raised.Del (Some o) other = del_payload c.name o.key o.id
payload_of c raised.Drop object other = drop_payload c.name c.fence.key
payload_of c (raised.Set d) None other = []
payload_of c raised.Del None other = []
