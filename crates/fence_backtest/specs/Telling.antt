-- What is told of changes, stretch by stretch.
use Rattle.std.specs.Prelude.{◌≡◌, ◌<◌, ℕ, ◌+◌, ◌*◌, List, length, map, flat_map, slice_get, slice_index, Some}
use Rattle.std.specs.List.{AllZip, range_with_len}
use Rattle.byte_text.specs.Names.{Bytes}
use Rattle.planar_geom.specs.Points.{Bounds}
use Rattle.world_data.specs.Worlds.{empty_world}
use Rattle.world_data.specs.declared.channels.Channel.{Channel}
use Rattle.world_data.specs.declared.worlds.Change.{Change}
use Rattle.world_data.specs.declared.worlds.World.{World}
use Rattle.log_record.specs.Folding.{folded}
use Rattle.fence_backtest.specs.Cuts.{IsCut, front, part}
use Rattle.fence_backtest.specs.Outcomes.{IsOutcome, cell_at, count_at, object_put, raised_in}
use Rattle.fence_backtest.specs.Reports.{lines_of, put_count, raised_from}
use Rattle.fence_backtest.specs.Standing.{Known, nowhere, old_of, places_behind}
use Rattle.fence_backtest.specs.declared.outcomes.Outcome.{Outcome}
use Rattle.fence_backtest.specs.declared.standing.Stood.{Stood}
use Rattle.fence_backtest.specs.declared.telling.Told.{Told}

-- the outcome of the change at a place of a stretch, behind these
abbrev pub IsOutcomeAt : Channel → Bounds → List Change → List Known → Known → ℕ → Outcome → Type 0
IsOutcomeAt c area all before s at o = (change : Change) (old : Stood) → slice_get all (s.from + at) ≡ Some change → slice_get s.olds at ≡ Some old
    → IsOutcome c area (object_put all (old_of (places_behind nowhere before) change old)) change o

-- the outcomes of changes, from a world on
pub record AreOutcomes (c : Channel) (area : Bounds) (w : World) (changes : List Change) (outcomes : List Outcome) : Type 0 where
  pub raised_are : map raised_in outcomes ≡ raised_from c w changes
  pub cells_are : map (λ (o : Outcome). o.cell) outcomes ≡ map (cell_at c.fence.key area) changes

-- the lines of what changes came to, from a place on
abbrev pub outcome_lines : List Change → ℕ → List Outcome → List Bytes
outcome_lines all from outcomes = lines_of (from + 1) (part all from (length outcomes)) (map raised_in outcomes)

-- these numbers say how many of the changes are puts of a key in each part of a box
pub record AreCounts (key : Bytes) (area : Bounds) (changes : List Change) (counts : List ℕ) : Type 0 where
  pub long : length counts ≡ 64
  pub counted : (row column : ℕ) → row < 8 → column < 8 → count_at counts row column ≡ put_count key area changes row column

-- each number of these is the sum of those at its place
pub record AreAdded (some others sums : List ℕ) : Type 0 where
  pub long : length sums ≡ length some
  pub each : (i : ℕ) → i < length some → slice_index sums i ≡ slice_index some i + slice_index others i

-- the lines of what changes raise, numbered from a number on, from a world on
abbrev pub told_lines : Channel → ℕ → World → List Change → List Bytes
told_lines c number w changes = lines_of number changes (raised_from c w changes)

-- what is told of changes
pub record IsTold (c : Channel) (area : Bounds) (number : ℕ) (w : World) (changes : List Change) (t : Told) : Type 0 where
  pub text_is : t.text ≡ flat_map (λ line. line) (told_lines c number w changes)
  pub total_is : t.total ≡ length (told_lines c number w changes)
  pub counts_are : AreCounts c.fence.key area changes t.counts.items

-- what is told of the stretch of this number, of stretches of one length
abbrev pub IsToldAt : Channel → Bounds → List Change → ℕ → ℕ → Told → Type 0
IsToldAt c area all size at t = IsTold c area (at * size + 1) (folded empty_world (front all size at)) (part all (at * size) size) t

-- what is told of all of them
pub record AreTold (c : Channel) (area : Bounds) (all : List Change) (size : ℕ) (told : List Told) : Type 0 where
  pub cut : IsCut (length all) (length told) size
  pub each : AllZip (IsToldAt c area all size) (range_with_len 0 (length told)) told
