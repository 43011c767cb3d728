-- What one that waits in memory shows: a script that is played, and what came of it.
use Rattle.std.specs.Prelude.{ℕ, Bool, true, false, ◌||◌, List, [], ◌∷◌, map, Option, Some, None}
use Rattle.std.specs.List.{list_any}
use Rattle.outside.specs.Waits.{WaitState}
use Rattle.outside.specs.LinkScripts.{Scripted, shown}
use Rattle.outside.specs.declared.waits.Named.{Named}
use Rattle.outside.specs.declared.waits.Named.TheVariants.{End}

-- one that waits: whom each wait to come names; whom those name that follow, and how many they are; whom the last wait named; what was
-- shut; whether an end was named; and how often it failed
pub record Waited : Type 0 where
  pub waits : List (List Named)
  pub watched : List Named
  pub named : List Named
  pub shut : List Scripted
  pub over : Bool
  pub faults : ℕ

abbrev pub waited : Waited → WaitState
waited w = record { shut = Some (map shown w.shut); over = w.over; faults = w.faults }

-- whom the next wait names
abbrev pub next_named : List (List Named) → List Named → List Named
next_named [] watched = watched
next_named (names ∷ waits) watched = names

-- whether an end is among them
abbrev pub is_end : Named → Bool
is_end End = true
is_end name = false

abbrev pub names_end : List Named → Bool
names_end names = list_any is_end names

-- whether an end was asked for once the next wait has named them
abbrev pub next_over : List (List Named) → Bool → Bool
next_over [] over = over
next_over (names ∷ waits) over = over || names_end names

-- these, or all where there are none
abbrev pub listed_or : Option (List Named) → List Named → List Named
listed_or (Some names) watched = names
listed_or None watched = watched
