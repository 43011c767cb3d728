-- The time of a disk, and what happens in a turn as entries that end at such times.
use Rattle.std.specs.Prelude.{ℕ, min, Bool, List, [], ◌∷◌, if◌then◌else◌}
use Rattle.outside.specs.Causes.{most_count}
use Rattle.byte_text.specs.Names.{Bytes}
use Rattle.world_model.specs.Seats.{Act}
use Rattle.world_model.specs.declared.events.Entry.{Entry}
use Rattle.log_record.specs.Journals.{is_retire}

pub record Time : Type 0 where
  pub moment : ℕ
  pub count : ℕ

-- the moment, where what a crash may leave is told, and the count of faults, as far as it is counted
abbrev pub time_of : {D : Type 0} → (D → ℕ) → (D → ℕ) → Bool → D → Time
time_of moment faults told disk = record { moment = if told then moment disk else 0; count = min (faults disk) most_count }

abbrev pub noted_at : Time → Act → Bytes → Entry
noted_at t a note = record { event = a.0; outcome = a.1; note = note; moment = t.moment; count = t.count }

-- with no note
abbrev pub entry_at : Time → Act → Entry
entry_at t a = noted_at t a []

-- The entries of a turn. The last of its acts ends with the turn and bears its note, and those before it had ended when it began.
abbrev pub entries_at : Time → Time → Bytes → List Act → List Entry
entries_at begun ended note [] = []
entries_at begun ended note (a ∷ []) = noted_at ended a note ∷ []
entries_at begun ended note (a ∷ b ∷ acts) = entry_at begun a ∷ entries_at begun ended note (b ∷ acts)

abbrev pub is_retirement : Entry → Bool
is_retirement e = is_retire e.event
