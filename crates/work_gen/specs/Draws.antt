-- The generator of numbers: a linear congruence, of which the upper bits are used.
use Rattle.std.specs.Prelude.{ℕ, ◌+◌, ◌*◌, ◌/◌, ◌%◌, ◌^◌}

-- the state behind another
unfoldable pub next : ℕ → ℕ
next x = (x * 6364136223846793005 + 1442695040888963407) % 2 ^ 64

-- the number under a bound that a state gives
unfoldable pub drawn : ℕ → ℕ → ℕ
drawn bound x = (x / 2 ^ 33) % bound
