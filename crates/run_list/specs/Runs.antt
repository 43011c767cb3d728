-- A list of numbers, held as runs.
use Rattle.std.specs.Prelude.{ℕ, ◌≡◌, ◌<◌, ◌≤◌, ◌+◌, ◌-◌, ◌*◌, min, Bool, not, true, if◌then◌else◌, List, [], ◌∷◌, ◌++◌, length, take, All}
use Rattle.std.specs.Prelude.{slice_index_or, Option, Some, None}
use Rattle.std.specs.List.{list_all}

-- the numbers of a list, and how many more there is room for
pub record Sequence : Type 0 where
  pub items : List ℕ
  pub spare : ℕ

-- the numbers of all runs
abbrev pub flat : List (List ℕ) → List ℕ
flat [] = []
flat (run ∷ runs) = run ++ flat runs

-- how many numbers stand before a run
abbrev pub start : List (List ℕ) → ℕ → ℕ
start runs k = length (flat (take k runs))

-- no run is empty
abbrev pub AreFilled : List (List ℕ) → Type 0
AreFilled runs = All (λ run. 0 < length run) runs

-- all runs are empty
abbrev pub AreEmpty : List (List ℕ) → Type 0
AreEmpty runs = All (λ run. run ≡ []) runs

-- the place i of the list is the place at of the run k
pub record IsAt (runs : List (List ℕ)) (i k at : ℕ) : Type 0 where
  pub within : k < length runs
  pub inside : at < length (slice_index_or runs k [])
  pub is : start runs k + at ≡ i

-- the place i of the list, or behind it, is the place at of the run k, or behind it
pub record IsGap (runs : List (List ℕ)) (i k at : ℕ) : Type 0 where
  pub within : k < length runs
  pub inside : at ≤ length (slice_index_or runs k [])
  pub is : start runs k + at ≡ i

-- how many numbers stand before the end of each run
pub record AreEnds (runs : List (List ℕ)) (ends : List ℕ) : Type 0 where
  pub count : length ends ≡ length runs
  pub each : (k d : ℕ) → k < length runs → slice_index_or ends k d ≡ start runs (k + 1)

-- the numbers from a place up to another are what they were, but for so much less and so much more, and the others stay
pub record IsShifted (less more : ℕ) (old new : List ℕ) (from to : ℕ) : Type 0 where
  pub count : length new ≡ length old
  pub front : (k d : ℕ) → k < from → slice_index_or new k d ≡ slice_index_or old k d
  pub moved : (k d : ℕ) → from ≤ k → k < to → k < length old → slice_index_or new k d + less ≡ slice_index_or old k d + more
  pub rest : (k d : ℕ) → to ≤ k → slice_index_or new k d ≡ slice_index_or old k d

-- runs without an empty one, empty ones in store, how many numbers there are, and how many runs there are places for,
-- in use, in store and in the list of their ends: all numbers would fit in the runs but one
pub record IsList (runs spares : List (List ℕ)) (ends : List ℕ) (len places stores marks : ℕ) : Type 0 where
  pub filled : AreFilled runs
  pub empty : AreEmpty spares
  pub counted : AreEnds runs ends
  pub count : len ≡ length (flat runs)
  pub room : len + 1024 ≤ (length runs + length spares) * 1024
  pub most : length runs + length spares ≤ 4194304
  pub in_use : length runs + length spares ≤ places
  pub in_store : length runs + length spares ≤ stores
  pub in_ends : length runs + length spares ≤ marks

-- for how many numbers more there is room in so many runs but one, beside so many numbers
abbrev pub room_of : ℕ → ℕ → ℕ
room_of runs len = runs * 1024 - 1024 - len

-- a few numbers, in a list with so much room
abbrev pub few : List ℕ → ℕ → Sequence
few items capacity = record { items = items; spare = min (capacity - length items) (1024 - length items) }

-- what passes the test stands in front of all else
abbrev pub is_cut : (ℕ → Bool) → List ℕ → Bool
is_cut p [] = true
is_cut p (x ∷ xs) = if p x then is_cut p xs else list_all (λ y. not (p y)) xs

-- a few numbers, or many in their place
abbrev pub seen : List ℕ → ℕ → Option Sequence → Sequence
seen items capacity None = few items capacity
seen items capacity (Some many) = many
