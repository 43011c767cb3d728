-- Moments, in milliseconds.
use Rattle.std.specs.Prelude.{ℕ, ◌-◌, ◌^◌}

-- the latest moment
abbrev pub max_moment : ℕ
max_moment = 2 ^ 53 - 1
