-- Where the first object that expires is found.
use Rattle.std.specs.Prelude.{◌≡◌, ℕ, Bool, true, false, not, nat_eq, nat_lt, nat_le, List, ◌∷◌, ◌++◌, length, take, slice_get, Option, Some, None, if◌then◌else◌}
use Rattle.std.specs.List.{list_all, remove}
use Rattle.world_data.specs.declared.objects.Object.{Object}
use Rattle.collection.specs.Objects.{least_due}
use Rattle.collection.specs.Deadlines.{has_deadline}
use Rattle.keyspace.specs.Entries.{Entry, objects_in}

-- there is no deadline, or a later one
abbrev pub is_later : ℕ → Option ℕ → Bool
is_later due None = true
is_later due (Some d) = nat_lt due d

-- there is no deadline, or one that is not sooner
abbrev pub is_no_sooner : ℕ → Option ℕ → Bool
is_no_sooner due None = true
is_no_sooner due (Some d) = nat_le due d

-- the objects without the first of this deadline
pub record Took (due : ℕ) (old new : List Object) (o : Object) : Type 0 where
  pub at : ℕ
  pub taken : slice_get old at ≡ Some o
  pub left : new ≡ remove old at
  pub front : list_all (λ p. not (has_deadline due p)) (take at old) ≡ true
  pub here : o.deadline ≡ Some due

-- the entry at a place is the first with the least deadline
pub record IsSoonest (entries : List Entry) (at due : ℕ) : Type 0 where
  pub front : List Entry
  pub here : Entry
  pub back : List Entry
  pub whole : entries ≡ front ++ here ∷ back
  pub place : length front ≡ at
  pub due_here : least_due here.objects ≡ Some due
  pub later : list_all (λ e. is_later due (least_due e.objects)) front ≡ true
  pub no_sooner : list_all (λ e. is_no_sooner due (least_due e.objects)) back ≡ true

-- the first entry with the least deadline, where there is a deadline
abbrev pub Soonest : List Entry → Option (ℕ × ℕ) → Type 0
Soonest entries None = least_due (objects_in entries) ≡ None
Soonest entries (Some found) = IsSoonest entries found.0 found.1

-- what is found so far, or the next place where its deadline is sooner
abbrev pub sooner : Option (ℕ × ℕ) → ℕ → Option ℕ → Option (ℕ × ℕ)
sooner found at None = found
sooner None at (Some due) = Some (at, due)
sooner (Some found) at (Some due) = if nat_lt due found.1 then Some (at, due) else Some found

-- no deadline is sooner than a known moment, and those of the entries in front of a known place are later
pub record IsKnown (entries : List Entry) (known : ℕ × ℕ) : Type 0 where
  pub front : list_all (λ e. is_later known.1 (least_due e.objects)) (take known.0 entries) ≡ true
  pub all : list_all (λ e. is_no_sooner known.1 (least_due e.objects)) entries ≡ true

-- what is known once an object with this deadline is put
abbrev pub noted : ℕ × ℕ → Option ℕ → ℕ × ℕ
noted known None = known
noted known (Some due) = if nat_lt known.1 due then known else (0, due)

-- this is the deadline
abbrev pub has_due : ℕ → Option ℕ → Bool
has_due due None = false
has_due due (Some d) = nat_eq d due
