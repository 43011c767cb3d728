-- Seats: what the holder of a seat has seen of a hall's history, and what its calls add to it.
use Rattle.std.specs.Prelude.{◌≡◌, ◌⊎◌, ℕ, ◌+◌, zero, suc, Bool, true, false, not, List, [], ◌∷◌, ◌++◌, length, map}
use Rattle.std.specs.List.{list_any, list_all}
use Rattle.std.specs.Prelude.{◌==◌, ◌||◌, nat_lt}
use Rattle.ordered_lists.specs.Lists.{ascends}
use Rattle.world_model.specs.Halls.{Hall, NamesChanged}
use Rattle.world_model.specs.Histories.{IsLegal, Reaches}
use Rattle.world_model.specs.declared.events.Event.{Event}
use Rattle.world_model.specs.declared.events.Outcome.{Outcome}
use Rattle.world_model.specs.declared.events.Entry.{Entry}
use Rattle.world_model.specs.declared.events.Opening.{Opening}

-- what a seat shows: the hall's opening, the entries seen, the places of its own among them, and whether it is the first
pub record Knows : Type 0 where
  pub opening : Opening
  pub seen : List Entry
  pub mine : List ℕ
  pub first : Bool

-- an event and how it ended
abbrev pub Act : Type 0
Act = Event × Outcome

abbrev pub act_of : Entry → Act
act_of e = (e.event, e.outcome)

-- so many places from one on
abbrev pub places_from : ℕ → ℕ → List ℕ
places_from at zero = []
places_from at (suc n) = at ∷ places_from (at + 1) n

-- the calls of one turn made these entries, as neighbours: others may have come before them, and none between them; all that is seen is
-- a legal history
pub record AddsCalls (acts : List Act) (old new : Knows) : Type 0 where
  pub between : List Entry
  pub entries : List Entry
  pub seen : new.seen ≡ (old.seen ++ between) ++ entries
  pub mine : new.mine ≡ old.mine ++ places_from (length (old.seen ++ between)) (length entries)
  pub are : map act_of entries ≡ acts
  pub opening : new.opening ≡ old.opening
  pub first : new.first ≡ old.first
  pub legal : IsLegal new.opening new.seen

-- a call made this entry
abbrev pub Adds : Event → Outcome → Knows → Knows → Type 0
Adds event outcome old new = AddsCalls ((event, outcome) ∷ []) old new

-- every session that the entries changed is named
abbrev pub NamesChangedBy : Opening → List Entry → List Entry → List ℕ → Type 0
NamesChangedBy o before entries named = (old new : Hall) → Reaches o before old → Reaches o (before ++ entries) new → NamesChanged named old new

-- the calls of one turn, which hand out the sessions that they changed
pub record AddsNamed (acts : List Act) (named : List ℕ) (old new : Knows) : Type 0 where
  pub adds : AddsCalls acts old new
  pub names : NamesChangedBy new.opening (old.seen ++ adds.between) adds.entries named

-- a seat that is split from another has seen as much, and has no entry of its own
pub record IsSplit (from new : Knows) : Type 0 where
  pub seen : new.seen ≡ from.seen
  pub mine : new.mine ≡ []
  pub opening : new.opening ≡ from.opening
  pub first : new.first ≡ false

-- one list begins the other
abbrev pub Begins : List Entry → List Entry → Type 0
Begins front whole = (rest : List Entry) × (whole ≡ front ++ rest)

-- places that ascend, each once
abbrev pub are_ascending : List ℕ → Bool
are_ascending places = ascends nat_lt places

-- the place is one of these
abbrev pub is_among : List ℕ → ℕ → Bool
is_among places p = list_any (λ q. q == p) places

-- no place stands in both
abbrev pub are_apart : List ℕ → List ℕ → Bool
are_apart places others = list_all (λ p. not (is_among others p)) places

-- a seat's own places are places of what it has seen
abbrev pub are_seen : Knows → Bool
are_seen k = list_all (λ p. nat_lt p (length k.seen)) k.mine

-- two seats of one hall have seen beginnings of one history, and no entry is an own one of both
pub record AreOfOne (one other : Knows) : Type 0 where
  pub opening : one.opening ≡ other.opening
  pub history : Begins one.seen other.seen ⊎ Begins other.seen one.seen
  pub own : are_ascending one.mine ≡ true
  pub others : are_ascending other.mine ≡ true
  pub apart : are_apart one.mine other.mine ≡ true

-- a seat into which another was put: it has seen the longer of the two beginnings, and the entries of both are its own
pub record IsJoined (one other new : Knows) : Type 0 where
  pub opening : new.opening ≡ one.opening
  pub seen : (new.seen ≡ one.seen) ⊎ (new.seen ≡ other.seen)
  pub begins : Begins one.seen new.seen × Begins other.seen new.seen
  pub mine : (p : ℕ) → is_among new.mine p ≡ (is_among one.mine p || is_among other.mine p)
  pub first : new.first ≡ (one.first || other.first)
