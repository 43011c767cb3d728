-- Queries over the objects of one key: those that match, in order, and the page of them.
use Rattle.std.specs.Prelude.{◌≡◌, ℕ, ◌+◌, ◌*◌, Bool, true, false, ◌&&◌, ◌||◌, ◌==◌, nat_lt, nat_le, List, [], length, filter, take, drop, reverse}
use Rattle.std.specs.Prelude.{map, Option, Some, None, if◌then◌else◌}
use Rattle.byte_text.specs.Names.{Bytes, before}
use Rattle.planar_geom.specs.Points.{Point, box_dist2}
use Rattle.planar_geom.specs.Shapes.{box_of}
use Rattle.planar_geom.specs.Relations.{within, intersects}
use Rattle.planar_geom.specs.declared.shapes.Area.{Area}
use Rattle.planar_geom.specs.declared.shapes.Area.TheVariants.{Rect, Disc, Figure}
use Rattle.planar_geom.specs.declared.shapes.Part.{Part}
use Rattle.ordered_lists.specs.Lists.{sorted_by}
use Rattle.world_data.specs.Filters.{passes, meets_glob}
use Rattle.world_data.specs.declared.objects.Object.{Object}
use Rattle.world_data.specs.declared.channels.Kind.{Kind}
use Rattle.world_data.specs.declared.channels.Kind.TheVariants.{Within, Intersects, Near}
use Rattle.world_data.specs.declared.queries.Rule.{Rule}
use Rattle.world_data.specs.declared.queries.Rule.TheVariants.{All, Descending, InArea, Nearest}
use Rattle.world_data.specs.declared.queries.Query.{Query}
use Rattle.world_data.specs.declared.queries.Page.{Page}
use Rattle.world_data.specs.declared.queries.Shown.{Shown}
use Rattle.world_data.specs.declared.queries.Shown.TheVariants as shown

-- the squared distance from a point to an object's box
abbrev pub distance : Point → Object → ℕ
distance p o = box_dist2 p (box_of o.shape)

-- a disc is near where the box comes as near to its centre; other areas are never near
abbrev pub near_disc : List Part → Area → Bool
near_disc shape (Disc c r) = nat_le (box_dist2 c (box_of shape)) (r * r)
near_disc shape (Rect b) = false
near_disc shape (Figure f) = false

-- a shape meets an area in the sense of the kind
abbrev pub meets_area : Kind → Area → List Part → Bool
meets_area Within a shape = within shape a
meets_area Intersects a shape = intersects shape a
meets_area Near a shape = near_disc shape a

-- the object meets the area, where the rule has one
abbrev pub meets_rule : Rule → Object → Bool
meets_rule (InArea kind a) o = meets_area kind a o.shape
meets_rule All o = true
meets_rule Descending o = true
meets_rule Nearest o = true

-- the object meets MATCH, the tests and the area
abbrev pub meets_query : Query → Object → Bool
meets_query q o = meets_glob q.glob o.id && passes q.tests o.fields && meets_rule q.rule o

-- objects that stand by id, in the order of the rule
abbrev pub in_order : Rule → List Object → List Object
in_order Descending objects = reverse objects
in_order All objects = objects
in_order (InArea kind a) objects = objects
in_order Nearest objects = objects

-- of the objects of one key, by id, those that meet the query, ascending by id, or descending
abbrev pub matches : Query → List Object → List Object
matches q objects = in_order q.rule (filter (meets_query q) objects)

-- no further than the METERS of NEARBY, where they are given
abbrev pub within_reach : Point → Option ℕ → Object → Bool
within_reach p None o = true
within_reach p (Some r) o = nat_le (distance p o) (r * r)

-- nearer, or as near with a lesser id
abbrev pub nearer : Point → Object → Object → Bool
nearer p o q = nat_lt (distance p o) (distance p q) || (distance p o == distance p q && before o.id q.id)

-- of the objects of one key those that meet the query and are within reach, the nearest first
abbrev pub near_matches : Query → Point → Option ℕ → List Object → List Object
near_matches q p reach objects = sorted_by (nearer p) (filter (within_reach p reach) (filter (meets_query q) objects))

-- the items from place `cursor` on, at most `limit`
abbrev pub page_items : {A : Type 0} → Query → List A → List A
page_items q found = take q.limit (drop q.cursor found)

-- where the next page begins, 0 where nothing is left
abbrev pub page_cursor : {A : Type 0} → Query → List A → ℕ
page_cursor q found = let next = q.cursor + length (page_items q found) in if nat_lt next (length found) then next else 0

abbrev pub is_count : Shown → Bool
is_count shown.Count = true
is_count s = false

-- the ids on a page, none where the number alone is asked for
abbrev pub page_ids : Query → List Object → List Bytes
page_ids q found = if is_count q.shown then [] else map (λ o. o.id) (page_items q found)

-- the page of what was found, or its number
pub record IsPageOf (q : Query) (found : List Object) (page : Page) : Type 0 where
  pub ids : page.ids ≡ page_ids q found
  pub cursor : page.cursor ≡ (if is_count q.shown then 0 else page_cursor q found)
  pub count : page.count ≡ (if is_count q.shown then length found else 0)
