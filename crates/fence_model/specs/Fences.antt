-- Fences: which objects are in, and what a channel raises.
use Rattle.std.specs.Prelude.{ℕ, ◌*◌, Bool, true, false, not, ◌&&◌, nat_le, List, [], ◌∷◌, filter, filter_map, map, Option, Some, None, if◌then◌else◌}
use Rattle.std.specs.Prelude.{option_map}
use Rattle.byte_text.specs.Names.{Bytes, same}
use Rattle.byte_text.specs.Globs.{glob_meets}
use Rattle.planar_geom.specs.Points.{Point, centre, dist2}
use Rattle.planar_geom.specs.Shapes.{box_of}
use Rattle.planar_geom.specs.Relations.{way_meets}
use Rattle.world_data.specs.Filters.{passes, meets_glob}
use Rattle.fence_model.specs.Queries.{meets_area}
use Rattle.world_data.specs.declared.objects.Object.{Object}
use Rattle.world_data.specs.declared.channels.Channel.{Channel}
use Rattle.world_data.specs.declared.channels.Fence.{Fence}
use Rattle.world_data.specs.declared.channels.Wanted.{Wanted}
use Rattle.world_data.specs.declared.channels.Watch.{Watch}
use Rattle.world_data.specs.declared.channels.Watch.TheVariants.{Zone, Roam}
use Rattle.world_data.specs.declared.channels.Detect.{Detect}
use Rattle.world_data.specs.declared.channels.Detect.TheVariants.{Inside, Outside, Enter, Exit, Cross, Near, Far}
use Rattle.world_data.specs.declared.channels.Raised.{Raised}
use Rattle.world_data.specs.declared.channels.Raised.TheVariants as raised

-- the object meets MATCH and the tests
abbrev pub meets_fence : Fence → Object → Bool
meets_fence f o = meets_glob f.glob o.id && passes f.tests o.fields

abbrev pub in_watch : Watch → Object → Bool
in_watch (Zone kind a) o = meets_area kind a o.shape
in_watch (Roam key pattern meters nodwell) o = false

-- the object is in the fence
abbrev pub is_in_fence : Fence → Object → Bool
is_in_fence f o = meets_fence f o && in_watch f.watch o

abbrev pub place_of : Object → Point
place_of o = centre (box_of o.shape)

-- the way between the centres of the two boxes meets the area
abbrev pub crosses_watch : Watch → Object → Object → Bool
crosses_watch (Zone kind a) old new = way_meets (place_of old) (place_of new) a
crosses_watch (Roam key pattern meters nodwell) old new = false

abbrev pub was_in : Fence → Option Object → Bool
was_in f None = false
was_in f (Some old) = is_in_fence f old

abbrev pub crossed : Fence → Option Object → Object → Bool
crossed f None new = false
crossed f (Some old) new = crosses_watch f.watch old new

-- the table: the old object was in, the new one is in, it meets MATCH and the tests, its way crosses the area
abbrev pub detected : Bool → Bool → Bool → Bool → List Detect
detected false true meets way = Enter ∷ Inside ∷ []
detected true false meets way = Exit ∷ Outside ∷ []
detected true true meets way = Inside ∷ []
detected false false true true = Cross ∷ Outside ∷ []
detected false false true false = Outside ∷ []
detected false false false way = []

abbrev pub wants_detect : Wanted → Detect → Bool
wants_detect w Inside = w.inside
wants_detect w Outside = w.outside
wants_detect w Enter = w.enter
wants_detect w Exit = w.exit
wants_detect w Cross = w.cross
wants_detect w Near = true
wants_detect w Far = true

-- what a put raises on a channel that does not roam
abbrev pub raised_by_put : Fence → Option Object → Object → List Detect
raised_by_put f old new = if f.wanted.set
    then filter (wants_detect f.wanted) (detected (was_in f old) (is_in_fence f new) (meets_fence f new) (crossed f old new))
    else []

-- a del raises where the old object was in, a drop on every channel of the key
abbrev pub raised_by_del : Fence → Option Object → Bool
raised_by_del f old = f.wanted.del && was_in f old

abbrev pub raised_by_drop : Fence → Bool
raised_by_drop f = f.wanted.drop

-- what a channel that does not roam raises, for an old and a new object
abbrev pub raised_of : Channel → Option Object → Option Object → List Raised
raised_of c old (Some new) = map raised.Set (raised_by_put c.fence old new)
raised_of c old None = if raised_by_del c.fence old then raised.Del ∷ [] else []

-- roaming

abbrev pub is_near : ℕ → Object → Object → Bool
is_near meters o target = nat_le (dist2 (place_of o) (place_of target)) (meters * meters)

abbrev pub was_near : ℕ → Option Object → Object → Bool
was_near meters None target = false
was_near meters (Some old) target = is_near meters old target

-- a target's part: near before, near now
abbrev pub roamed : Bool → Bool → Bool → Option Detect
roamed nodwell false true = Some Near
roamed nodwell true true = if nodwell then None else Some Near
roamed nodwell true false = Some Far
roamed nodwell false false = None

-- the targets: of the objects of the second key those whose id meets the pattern, without the object itself
abbrev pub targets : Bytes → Object → List Object → List Object
targets pattern o objects = filter (λ t. glob_meets pattern t.id && not (same t.key o.key && same t.id o.id)) objects

abbrev pub pair_of : ℕ → Bool → Option Object → Object → Object → Option (Object × Detect)
pair_of meters nodwell old new target = option_map (λ d. (target, d)) (roamed nodwell (was_near meters old target) (is_near meters new target))

-- of the objects of the second key, by id, those that an object of the fence comes near to or goes away from when it is put
abbrev pub near_pairs : Fence → Option Object → Object → List Object → List (Object × Detect)
near_pairs f old new objects = if meets_fence f new then roams f.watch else []
  where
    roams : Watch → List (Object × Detect)
    roams (Roam key pattern meters nodwell) = filter_map (pair_of meters nodwell old new) (targets pattern new objects)
    roams (Zone kind a) = []

-- the key whose objects a roaming channel compares with
abbrev pub roams_over : Watch → Option Bytes
roams_over (Roam key pattern meters nodwell) = Some key
roams_over (Zone kind a) = None
