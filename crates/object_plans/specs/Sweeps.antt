-- The objects of a key that are deleted because their ids meet a pattern.
use Rattle.std.specs.Prelude.{◌≡◌, ℕ, ◌+◌, List, [], ◌∷◌, ◌++◌, filter, map, sum_by}
use Rattle.byte_text.specs.Names.{Bytes}
use Rattle.byte_text.specs.Globs.{glob_meets}
use Rattle.fence_model.specs.Writes.{dels}
use Rattle.world_data.specs.declared.objects.Object.{Object}
use Rattle.object_plans.specs.declared.deletes.Swept.{Swept}
use Rattle.record_writer.specs.Lengths.{len_of}
use Rattle.delivery_model.specs.Staging.{records_len}

-- those of the objects that meet the pattern
abbrev pub met : Bytes → List Object → List Object
met pattern objects = filter (λ o. glob_meets pattern o.id) objects

-- an object was looked at, and noted where its id meets the pattern
pub record IsSwept (pattern : Bytes) (o : Object) (old new : Swept) : Type 0 where
  pub ids : new.ids ≡ old.ids ++ map (λ p. p.id) (met pattern (o ∷ []))
  pub length_is : new.length ≡ old.length + records_len (dels (met pattern (o ∷ [])))
  pub weight_is : new.weight + sum_by len_of (met pattern (o ∷ [])) ≡ old.weight

-- these are all that meet the pattern, in a world of this weight
pub record IsSweptOf (pattern : Bytes) (objects : List Object) (total : ℕ) (s : Swept) : Type 0 where
  pub ids : s.ids ≡ map (λ o. o.id) (met pattern objects)
  pub length_is : s.length ≡ records_len (dels (met pattern objects))
  pub weight_is : s.weight + sum_by len_of (met pattern objects) ≡ total
