-- The earlier of some deadlines, in whatever groups they are taken.
use Rattle.std.proofs.Common.{◌≡◌, ℕ, min, refl, ap, arith}
use Rattle.std.specs.Prelude.{Option, Some, None}
use Rattle.collection.specs.Objects.{earlier}

pub earlier_assoc : (a b c : Option ℕ) → earlier (earlier a b) c ≡ earlier a (earlier b c)
earlier_assoc None b c = refl
earlier_assoc (Some a) None c = refl
earlier_assoc (Some a) (Some b) None = refl
earlier_assoc (Some a) (Some b) (Some c) = ap (λ (n : ℕ). Some n) (min_min a b c)
  where
    min_min : (a b c : ℕ) → min (min a b) c ≡ min a (min b c)
    min_min a b c = omega arith
