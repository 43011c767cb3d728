-- A log of an older version is rewritten whole.
use Rattle.std.specs.Prelude.{◌≡◌, ◌+◌, ℕ, nat_lt, if◌then◌else◌}
use Rattle.log_sides.specs.Texts.{newest}
use Rattle.durable_core.specs.Rewriting.{Shown, idle, asked, going}

-- the generation behind it: one more where the version is older
abbrev pub upgraded : ℕ → ℕ → ℕ
upgraded version generation = if nat_lt version newest then generation + 1 else generation

-- from this version and generation on, a rewriting came to others: it goes on, and they are the same; or it has ended
abbrev pub IsUnderway : ℕ → ℕ → ℕ → ℕ → Shown → Type 0
IsUnderway from first version generation idle = (version ≡ newest) × (generation ≡ first + 1)
IsUnderway from first version generation asked = (version ≡ from) × (generation ≡ first)
IsUnderway from first version generation (going left) = (version ≡ from) × (generation ≡ first)
