-- The table by rests of numbers that stands beside the sessions that a call changed.
use Rattle.std.specs.Prelude.{ℕ, List, ◌≡◌, ◌==◌, ◌%◌, false, slice_index}
use Rattle.std.specs.List.{list_any}
use Rattle.world_data.specs.Limits.{max_sessions}

-- a number whose rest has the entry 0 is not named
abbrev pub HaveEntries : List ℕ → List ℕ → Type 0
HaveEntries places named = (n : ℕ) → slice_index places (n % max_sessions) ≡ 0 → list_any (λ m. m == n) named ≡ false
