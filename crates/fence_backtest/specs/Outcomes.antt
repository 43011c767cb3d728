-- What a change came to, by the place of the put whose object stood there.
use Rattle.std.specs.Prelude.{◌≡◌, ◌<◌, ℕ, ◌+◌, ◌*◌, ◌==◌, Bool, false, ◌&&◌, List, [], ◌∷◌, slice_get, slice_index, length, filter, Option, Some, None}
use Rattle.std.specs.Prelude.{if◌then◌else◌}
use Rattle.byte_text.specs.Names.{Bytes, same}
use Rattle.planar_geom.specs.Points.{Point, Bounds, in_box}
use Rattle.world_data.specs.declared.channels.Channel.{Channel}
use Rattle.world_data.specs.declared.channels.Raised.{Raised}
use Rattle.world_data.specs.declared.objects.Object.{Object}
use Rattle.world_data.specs.declared.worlds.Change.{Change}
use Rattle.world_data.specs.declared.worlds.Change.TheVariants.{Put, Del, Drop, Flush, SetChan, DelChan}
use Rattle.fence_model.specs.Fences.{place_of}
use Rattle.fence_table.specs.Pairs.{items}
use Rattle.fence_backtest.specs.Reports.{eighth, raised_by}
use Rattle.fence_backtest.specs.declared.grids.Cell.{Cell}
use Rattle.fence_backtest.specs.declared.outcomes.Outcome.{Outcome}

-- the object that a change puts
abbrev pub object_of : Option Change → Option Object
object_of None = None
object_of (Some (Put o)) = Some o
object_of (Some (Del key id)) = None
object_of (Some (Drop key)) = None
object_of (Some Flush) = None
object_of (Some (SetChan c)) = None
object_of (Some (DelChan name)) = None

-- the object of the put at a place, if a place is named
abbrev pub object_put : List Change → Option ℕ → Option Object
object_put changes None = None
object_put changes (Some at) = object_of (slice_get changes at)

-- the part of a box in which a point stands
abbrev pub cell_of : Bounds → Point → Option Cell
cell_of b p = if in_box b p then Some (record { row = eighth b.min.y b.max.y p.y; column = eighth b.min.x b.max.x p.x }) else None

-- that of a put of this key
abbrev pub cell_at : Bytes → Bounds → Change → Option Cell
cell_at key b (Put o) = if same o.key key then cell_of b (place_of o) else None
cell_at key b (Del other id) = None
cell_at key b (Drop other) = None
cell_at key b Flush = None
cell_at key b (SetChan c) = None
cell_at key b (DelChan name) = None

abbrev pub is_cell : ℕ → ℕ → Option Cell → Bool
is_cell row column None = false
is_cell row column (Some cell) = cell.row == row && cell.column == column

-- one item, or none
abbrev pub any_item : Option Raised → List Raised
any_item None = []
any_item (Some item) = item ∷ []

-- what an outcome tells
abbrev pub raised_in : Outcome → List Raised
raised_in o = items o.raised.first o.raised.second

-- the outcome of a change, where this object stood
pub record IsOutcome (c : Channel) (area : Bounds) (old : Option Object) (change : Change) (o : Outcome) : Type 0 where
  pub raised_is : raised_in o ≡ raised_by c old change
  pub cell_is : o.cell ≡ cell_at c.fence.key area change

-- how many outcomes are puts in a part
abbrev pub cells_in : List Outcome → ℕ → ℕ → ℕ
cells_in outcomes row column = length (filter (λ o. is_cell row column o.cell) outcomes)

-- the number of a part, of a list of eight rows of eight
abbrev pub count_at : List ℕ → ℕ → ℕ → ℕ
count_at counts row column = slice_index counts (row * 8 + column)

-- these numbers say how many of the outcomes are puts in each part
pub record IsTally (outcomes : List Outcome) (counts : List ℕ) : Type 0 where
  pub long : length counts ≡ 64
  pub counted : (row column : ℕ) → row < 8 → column < 8 → count_at counts row column ≡ cells_in outcomes row column
