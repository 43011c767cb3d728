-- The objects of one key.
use Rattle.std.specs.Prelude.{ℕ, min, Bool, ◌||◌, nat_le, List, [], ◌∷◌, flat_map, fold, Option, Some, None}
use Rattle.std.specs.List.{list_any}
use Rattle.byte_text.specs.Names.{Bytes, same, before}
use Rattle.planar_geom.specs.Points.{Bounds}
use Rattle.planar_geom.specs.Shapes.{all_vertices, box_of_points}
use Rattle.ordered_lists.specs.Lists.{ascends}
use Rattle.world_data.specs.declared.objects.Object.{Object}

-- objects, and how many more there is room for
pub record Held : Type 0 where
  pub objects : List Object
  pub spare : ℕ

abbrev pub id_before : Object → Object → Bool
id_before o p = before o.id p.id

-- the object is the one of this id
abbrev pub has_id : Bytes → Object → Bool
has_id id o = same o.id id

-- objects stand in byte order of their ids, no id twice
abbrev pub are_by_id : List Object → Bool
are_by_id objects = ascends id_before objects

-- there is room for one more, or an object of this id to take the place of
abbrev pub has_room : Held → Bytes → Bool
has_room held id = nat_le 1 held.spare || list_any (has_id id) held.objects

-- the lesser of two moments, where there are two
abbrev pub earlier : Option ℕ → Option ℕ → Option ℕ
earlier None d = d
earlier (Some a) None = Some a
earlier (Some a) (Some b) = Some (min a b)

-- the least deadline of all
abbrev pub least_due : List Object → Option ℕ
least_due objects = fold (λ found o. earlier found o.deadline) None objects

-- the least box round all objects, where there are any
abbrev pub bounds_of : List Object → Option Bounds
bounds_of [] = None
bounds_of (o ∷ objects) = Some (box_of_points (flat_map (λ p. all_vertices p.shape) (o ∷ objects)))
