-- What a ledger tells of the nodes that were visited.
use Rattle.std.specs.Prelude.{ℕ, ◌≡◌, ◌≤◌, ◌<◌, ◌*◌, ◌+◌, ◌-◌, ◌^◌, min, Option, Some, None, unwrap_or}

-- the count after one visit more: it stands still at the greatest u64
abbrev pub one_more : ℕ → ℕ
one_more n = min (n + 1) (2 ^ 64 - 1)

-- what a ledger tells after one visit more, where it tells anything
abbrev pub told_more : Option ℕ → Option ℕ
told_more None = None
told_more (Some n) = Some (one_more n)

-- a ledger that tells anything tells this count
abbrev pub Tells : Option ℕ → ℕ → Type 0
Tells told count = unwrap_or told count ≡ count

-- a list that grew from one length to another was read from nodes visited between these counts, each of at most 16 items, where the count did not
-- stand still
abbrev pub IsRead : ℕ → ℕ → ℕ → ℕ → Type 0
IsRead short long before after = after < 2 ^ 64 - 1 → long + 16 * before ≤ 16 * after + short
