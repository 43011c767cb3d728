-- What a change raises on one channel, by the objects before it and after it.
use Rattle.std.specs.Prelude.{◌≡◌, Bool, true, false, List, [], map, find, Option, Some, None, if◌then◌else◌}
use Rattle.std.specs.List.{AllByRecursion}
use Rattle.byte_text.specs.Names.{Bytes}
use Rattle.world_data.specs.declared.objects.Object.{Object}
use Rattle.world_data.specs.declared.channels.Channel.{Channel}
use Rattle.world_data.specs.declared.channels.Detect.{Detect}
use Rattle.world_data.specs.declared.channels.Detect.TheVariants.{Near, Far}
use Rattle.world_data.specs.declared.channels.Raised.{Raised}
use Rattle.fence_model.specs.Fences.{near_pairs, raised_by_put}
use Rattle.fence_model.specs.Messages.{Message, set_payload, roam_payload}
use Rattle.message_text.specs.Payloads.{payload_of}
use Rattle.collection.specs.Objects.{has_id}
use Rattle.roam_fence.specs.Pairs.{is_near_now}

-- the messages of these payloads
abbrev pub sent : Channel → List Bytes → List Message
sent c texts = map (λ p. (c.name, p)) texts

-- the payloads of what is raised on one object
abbrev pub payloads_of : Channel → Object → List Raised → List Bytes
payloads_of c o raised = map (λ r. payload_of c r (Some o) None) raised

-- of a put, on a channel that watches an area
abbrev pub area_payloads : Channel → Option Object → Object → List Bytes
area_payloads c old o = map (λ d. set_payload c.name d o) (raised_by_put c.fence old o)

-- of a put, on a channel that roams over these objects
abbrev pub roam_payloads : Channel → Option Object → Object → List Object → List Bytes
roam_payloads c old o objects = if c.fence.wanted.set then map (roam_payload c.name o) (near_pairs c.fence old o objects) else []

-- near now, or no more
abbrev pub detect_of : Bool → Detect
detect_of true = Near
detect_of false = Far

-- each other object is found by its id, and has come near or gone away
abbrev pub IsPair : List Object → Object × Detect → Type 0
IsPair objects p = (find (has_id p.0.id) objects ≡ Some p.0) × (detect_of (is_near_now p.1) ≡ p.1)

abbrev pub ArePairs : List Object → List (Object × Detect) → Type 0
ArePairs objects pairs = AllByRecursion (IsPair objects) pairs
