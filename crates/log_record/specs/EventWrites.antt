-- The changes that an event makes, in order.
use Rattle.std.specs.Prelude.{◌≡◌, ℕ, ◌+◌, max, List, [], ◌∷◌, ◌++◌, map, Option, Some, None, if◌then◌else◌}
use Rattle.world_data.specs.Records.{record_len}
use Rattle.world_model.specs.Commands.{reads}
use Rattle.fence_model.specs.Writes.{Write, due_writes}
use Rattle.world_model.specs.Halls.{Hall, Session, is_live, session_of, due, effect_of}
use Rattle.world_model.specs.Histories.{is_fine}
use Rattle.world_data.specs.declared.worlds.Change.{Change}
use Rattle.world_model.specs.declared.events.Asked.{Asked}
use Rattle.world_model.specs.declared.events.Asked.TheVariants.{Words, Broken}
use Rattle.world_model.specs.declared.events.Event.{Event}
use Rattle.world_model.specs.declared.events.Event.TheVariants.{Call, Tick}
use Rattle.world_model.specs.declared.events.Outcome.{Outcome}
use Rattle.log_record.specs.Folding.{folded}

abbrev pub changes_of : List Write → List Change
changes_of writes = map (λ d. d.change) writes

-- the bytes of their records
abbrev pub logged_by : List Write → ℕ
logged_by [] = 0
logged_by (d ∷ writes) = record_len d.change + logged_by writes

-- what is due at a moment is deleted
abbrev pub tick_writes : Hall → ℕ → List Write
tick_writes h moment = due_writes h.world (max h.now moment)

-- what is asked changes the world as its effect says
abbrev pub asked_writes : Hall → Session → Asked → List Write
asked_writes h s (Words words) = (effect_of h s (reads words)).writes
asked_writes h s (Broken fault) = []

abbrev pub live_writes : Hall → Option Session → Asked → List Write
live_writes h None asked = []
live_writes h (Some s) asked = if is_live s then asked_writes h s asked else []

-- what is asked for a session changes
abbrev pub call_writes : Hall → ℕ → Asked → List Write
call_writes h n asked = live_writes h (session_of h n) asked

-- the writes of an event that is done: of a call and of a tick alone
abbrev pub writes_of : Hall → Event → List Write
writes_of h (Call n moment asked) = tick_writes h moment ++ call_writes (due h moment) n asked
writes_of h (Tick moment) = tick_writes h moment
writes_of h event = []

-- the writes of an event that ended so
abbrev pub writes_by : Hall → Event → Outcome → List Write
writes_by h event outcome = if is_fine outcome then writes_of h event else []

-- from one hall to another these writes are done: the world is changed by them in order, and their records are logged
pub record Does (old new : Hall) (writes : List Write) : Type 0 where
  pub world : new.world ≡ folded old.world (changes_of writes)
  pub logged : new.logged ≡ old.logged + logged_by writes
