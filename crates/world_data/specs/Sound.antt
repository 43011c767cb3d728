-- Sound areas, queries, channels, objects and worlds, which the calls of the crates above take, hand out and keep.
use Rattle.std.specs.Prelude.{◌≡◌, Bool, true, false, ◌&&◌, nat_le, Ok}
use Rattle.std.specs.List.{list_all, AllByRecursion}
use Rattle.byte_text.specs.Names.{is_name}
use Rattle.byte_text.specs.Globs.{is_well_formed, is_sound_glob}
use Rattle.planar_geom.specs.declared.shapes.Area.{Area}
use Rattle.planar_geom.specs.declared.shapes.Area.TheVariants.{Rect, Disc, Figure}
use Rattle.geo_text.specs.Texts.{shape_of}
use Rattle.world_data.specs.Limits.{max_meters}
use Rattle.world_data.specs.Worlds.{is_sorted_world}
use Rattle.world_data.specs.Filters.{are_fields}
use Rattle.world_data.specs.declared.objects.Object.{Object}
use Rattle.world_data.specs.declared.worlds.World.{World}
use Rattle.world_data.specs.declared.worlds.Change.{Change}
use Rattle.world_data.specs.declared.worlds.Change.TheVariants.{Put, Del, Drop, Flush, SetChan, DelChan}
use Rattle.world_data.specs.declared.channels.Kind.TheVariants.{Within, Intersects, Near}
use Rattle.world_data.specs.declared.channels.Watch.{Watch}
use Rattle.world_data.specs.declared.channels.Watch.TheVariants.{Zone, Roam}
use Rattle.world_data.specs.declared.channels.Channel.{Channel}
use Rattle.world_data.specs.declared.queries.Rule.{Rule}
use Rattle.world_data.specs.declared.queries.Rule.TheVariants.{All, Descending, InArea, Nearest}
use Rattle.world_data.specs.declared.queries.Query.{Query}

-- a radius is within its limit
abbrev pub is_sound_area : Area → Bool
is_sound_area (Disc c r) = nat_le r max_meters
is_sound_area (Rect b) = true
is_sound_area (Figure f) = true

abbrev pub is_disc : Area → Bool
is_disc (Disc c r) = true
is_disc (Rect b) = false
is_disc (Figure f) = false

-- near is a disc alone
abbrev pub is_sound_watch : Watch → Bool
is_sound_watch (Zone Near a) = is_sound_area a && is_disc a
is_sound_watch (Zone Within a) = is_sound_area a
is_sound_watch (Zone Intersects a) = is_sound_area a
is_sound_watch (Roam key pattern meters nodwell) = is_well_formed pattern

abbrev pub is_sound_channel : Channel → Bool
is_sound_channel c = is_sound_glob c.fence.glob && is_sound_watch c.fence.watch

-- a search is never for what is near
abbrev pub is_sound_rule : Rule → Bool
is_sound_rule (InArea Near a) = false
is_sound_rule (InArea Within a) = is_sound_area a
is_sound_rule (InArea Intersects a) = is_sound_area a
is_sound_rule All = true
is_sound_rule Descending = true
is_sound_rule Nearest = true

abbrev pub is_sound_query : Query → Bool
is_sound_query q = is_sound_glob q.glob && is_sound_rule q.rule

-- objects: names, fields, and a text that has the shape

pub record IsSoundObject (o : Object) : Type 0 where
  pub key : is_name o.key ≡ true
  pub id : is_name o.id ≡ true
  pub accepted : shape_of o.text ≡ Ok o.shape
  pub fields : are_fields o.fields ≡ true

pub record IsSoundWorld (w : World) : Type 0 where
  pub sorted : is_sorted_world w ≡ true
  pub objects : AllByRecursion IsSoundObject w.objects
  pub channels : list_all is_sound_channel w.channels ≡ true

-- what a change brings into a world is sound
abbrev pub IsSoundChange : Change → Type 0
IsSoundChange (Put o) = IsSoundObject o
IsSoundChange (SetChan c) = is_sound_channel c ≡ true
IsSoundChange (Del key id) = Unit {0}
IsSoundChange (Drop key) = Unit {0}
IsSoundChange Flush = Unit {0}
IsSoundChange (DelChan name) = Unit {0}
