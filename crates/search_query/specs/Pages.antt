-- How far a query has to look for a page.
use Rattle.std.specs.Prelude.{◌≡◌, ℕ, ◌+◌, ◌≤◌, Bool, false, not, ◌&&◌, nat_lt, List, length}
use Rattle.world_data.specs.declared.objects.Object.{Object}
use Rattle.world_data.specs.declared.queries.Query.{Query}
use Rattle.fence_model.specs.Queries.{is_count}

-- a page is asked for, and of so many that were found one is behind it
abbrev pub is_past : Query → ℕ → Bool
is_past q found = not (is_count q.shown) && nat_lt (q.cursor + q.limit) found

-- the number of all that match, or fewer where one of them is behind the page
pub record IsEnough (q : Query) (all : List Object) (found : ℕ) : Type 0 where
  pub within : found ≤ length all
  pub exact : is_past q found ≡ false → found ≡ length all
