-- What is made of a machine over a disk, and what is printed of it.
use Rattle.std.specs.Prelude.{ℕ, List, [], ◌∷◌, ◌++◌, map}
use Rattle.byte_text.specs.Names.{Bytes}
use Rattle.world_data.specs.declared.worlds.World.{World}
use Rattle.world_model.specs.declared.events.Event.{Event}
use Rattle.world_model.specs.declared.events.Outcome.{Outcome}
use Rattle.world_model.specs.declared.events.Entry.{Entry}
use Rattle.log_record.specs.Safety.{Run}

-- an opening with a world and the length of its log, or an event with its outcome
pub data Deed : Type 0 where
  opens : (world : World) → (logged : ℕ) → Deed
  does : (event : Event) → (outcome : Outcome) → Deed

-- the deeds of a history's entries, and of a run
abbrev pub done_by : List Entry → List Deed
done_by entries = map (λ e. does e.event e.outcome) entries

abbrev pub deeds_of : Run → List Deed
deeds_of [] = []
deeds_of ((o, entries) ∷ run) = opens o.world o.logged ∷ done_by entries ++ deeds_of run

-- deeds one behind another, and what is printed of them
pub record Trace : Type 0 where
  pub deeds : List Deed
  pub out : Bytes

abbrev pub no_trace : Trace
no_trace = record { deeds = []; out = [] }

-- nothing is made, and this is printed
abbrev pub printing : Bytes → Trace
printing out = record { deeds = []; out = out }

-- one trace behind another
abbrev pub joined : Trace → Trace → Trace
joined t u = record { deeds = t.deeds ++ u.deeds; out = t.out ++ u.out }

-- these deeds were made, and this was printed
abbrev pub trace : List Deed → Bytes → Trace
trace deeds out = record { deeds = deeds; out = out }
