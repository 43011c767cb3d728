-- How a count rises, and what a failure shows. A count stops at the greatest u64: there "rose" is read as "or
-- stands there".
use Rattle.std.specs.Prelude.{◌≡◌, ℕ, ◌+◌, ◌-◌, ◌^◌, ◌≤◌, ◌<◌, min, OnErr, Result}

-- where a count stops
abbrev pub most_count : ℕ
most_count = 2 ^ 64 - 1

-- one more, where it does not stand at its end
abbrev pub next_count : ℕ → ℕ
next_count n = min (n + 1) most_count

-- the count rose, or stands at its end
abbrev pub Rose : ℕ → ℕ → Type 0
Rose before now = min (before + 1) most_count ≤ now

-- the count did not rise, and does not stand at its end
abbrev pub Stood : ℕ → ℕ → Type 0
Stood before now = (now ≡ before) × (now < most_count)

-- the count has not fallen, and where the call failed it rose
pub record HasCause {T E : Type 0} (before now : ℕ) (result : Result T E) : Type 0 where
  pub later : before ≤ now
  pub failed : OnErr result (Rose before now)
