-- What a query finds within reach of a point, and how much of it was given when a walk went so far.
use Rattle.std.specs.Prelude.{◌≡◌, ℕ, ◌*◌, Bool, true, not, nat_lt, nat_le, List, ◌++◌, length, filter, Option, Some, None}
use Rattle.byte_text.specs.Names.{Bytes}
use Rattle.planar_geom.specs.Points.{Point}
use Rattle.ordered_lists.specs.Lists.{sorted_by}
use Rattle.world_data.specs.declared.objects.Object.{Object}
use Rattle.world_data.specs.declared.queries.Query.{Query}
use Rattle.fence_model.specs.Queries.{distance, meets_query, within_reach, page_ids}
use Rattle.collection.specs.Nearing.{is_farther}

-- of these objects those that meet the query and are within reach, as they stand
abbrev pub near_found : Query → Point → Option ℕ → List Object → List Object
near_found q p reach objects = filter (within_reach p reach) (filter (meets_query q) objects)

-- what is this far away, squared, is no further than the reach, where there is one
abbrev pub is_reached : Option ℕ → ℕ → Bool
is_reached None squared = true
is_reached (Some r) squared = nat_le squared (r * r)

-- by the distance alone
abbrev pub nearer_box : Point → Object → Object → Bool
nearer_box p o q = nat_lt (distance p o) (distance p q)

-- the object is no farther than those that were given last
abbrev pub is_given : Point → Option ℕ → Object → Bool
is_given p given o = not (is_farther given (distance p o))

-- of what is found within reach that which was given, the nearest first
abbrev pub found_so_far : Query → Point → Option ℕ → Option ℕ → List Object → List Object
found_so_far q p reach given objects = sorted_by (nearer_box p) (filter (is_given p given) (near_found q p reach objects))

-- what was found, and behind it what the query finds of these objects
abbrev pub found_behind : Query → List Object → List Object → List Object
found_behind q seen objects = seen ++ filter (meets_query q) objects

-- where so many were found before, this is the number of all that is found then
abbrev pub IsCountBehind : Query → List Object → ℕ → ℕ → Type 0
IsCountBehind q objects found n = (seen : List Object) → found ≡ length seen → n ≡ length (found_behind q seen objects)

-- and these are the ids of a page of it, behind those that were listed before
abbrev pub AreIdsBehind : Query → List Object → ℕ → List Bytes → List Bytes → Type 0
AreIdsBehind q objects found old new =
    (seen : List Object) → found ≡ length seen → old ≡ page_ids q seen → new ≡ page_ids q (found_behind q seen objects)
