-- What the sources, sinks and disks in memory show.
use Rattle.std.specs.Prelude.{ℕ, Bool, List, ◌==◌}
use Rattle.std.specs.List.{list_any}
use Rattle.outside.specs.Sides.{Sides}

-- what a source in memory is to give: the bytes that are left, the most that a call gives, the numbers of the
-- calls that fail, and how many calls there were and failed
pub record Given : Type 0 where
  pub left : List ℕ
  pub piece : ℕ
  pub failing : List ℕ
  pub calls : ℕ
  pub faults : ℕ

-- what a sink in memory was given: the bytes that it holds, the most that a call takes, the numbers of the calls
-- that fail, and how many calls there were and failed
pub record Taken : Type 0 where
  pub held : List ℕ
  pub piece : ℕ
  pub failing : List ℕ
  pub calls : ℕ
  pub faults : ℕ

-- what a disk in memory that remembers no call shows: both sides, and how many calls failed
pub record Plain : Type 0 where
  pub sides : Sides
  pub faults : ℕ

-- the call of this number is one of those that fail
abbrev pub fails_at : ℕ → List ℕ → Bool
fails_at n failing = list_any (λ number. number == n) failing
