-- What contracts see of a core.
use Rattle.std.specs.Prelude.{ℕ}
use Rattle.world_model.specs.Halls.{Hall}

-- what contracts see: the hall, and how many nodes of trees were visited, up to the greatest u64
pub record CoreState : Type 0 where
  pub hall : Hall
  pub visited : ℕ
