-- Roaming pairs, as a list of them shows them.
use Rattle.std.specs.Prelude.{ℕ, Bool, true, false, not, ◌&&◌, List, [], ◌∷◌, map, flat_map, Option, Some, None, option_map, if◌then◌else◌}
use Rattle.byte_text.specs.Names.{Bytes, same}
use Rattle.byte_text.specs.Globs.{glob_meets}
use Rattle.fence_model.specs.Fences.{is_near, was_near, roamed, near_pairs}
use Rattle.world_data.specs.declared.objects.Object.{Object}
use Rattle.world_data.specs.declared.channels.Fence.{Fence}
use Rattle.world_data.specs.declared.channels.Detect.{Detect}
use Rattle.world_data.specs.declared.channels.Detect.TheVariants.{Near}

abbrev pub is_near_now : Detect → Bool
is_near_now Near = true
is_near_now d = false

-- the other object's id, and whether it is near
abbrev pub shown : Object × Detect → Bytes × Bool
shown pair = (pair.0.id, is_near_now pair.1)

-- the pairs of a fence that roams, as a list shows them
abbrev pub shown_pairs : Fence → Option Object → Object → List Object → List (Bytes × Bool)
shown_pairs f old new objects = map shown (near_pairs f old new objects)

-- the same object by object

-- the id meets the pattern, and it is not the object itself
abbrev pub is_target : Bytes → Object → Object → Bool
is_target pattern o t = glob_meets pattern t.id && not (same t.key o.key && same t.id o.id)

-- whether the object is near now, where it is told of
abbrev pub told : Bytes → ℕ → Bool → Option Object → Object → Object → Option Bool
told pattern meters nodwell old new t = if is_target pattern new t then
    option_map is_near_now (roamed nodwell (was_near meters old t) (is_near meters new t)) else None

abbrev pub noted : Object → Option Bool → List (Bytes × Bool)
noted t None = []
noted t (Some near) = (t.id, near) ∷ []

abbrev pub told_of_all : Bytes → ℕ → Bool → Option Object → Object → List Object → List (Bytes × Bool)
told_of_all pattern meters nodwell old new objects = flat_map (λ t. noted t (told pattern meters nodwell old new t)) objects
