-- How far the words of a request were read, and what may follow.
use Rattle.std.specs.Prelude.{◌&&◌, ◌≡◌, ◌⊎◌, ◌<◌, ◌≤◌, Bool, true, false, List, [], ◌∷◌, ◌++◌, length, Option, Some, None, Result, Ok, Err, codes, ℕ}
use Rattle.std.specs.Prelude.{ℤ, take, drop, if◌then◌else◌}
use Rattle.byte_text.specs.Names.{Bytes, is_word, is_name}
use Rattle.byte_text.specs.Globs.{is_well_formed}
use Rattle.world_model.specs.Grammar.{Form, Reading, spells, runs_out, Due, a_word, a_coordinate, a_geojson, ◌>>=◌, ◌>>◌, ◌or◌, done, maybe, word}
use Rattle.world_model.specs.Grammar.{live}
use Rattle.world_model.specs.FormLaws.{Each}
use Rattle.planar_geom.specs.Points.{Bounds, bounds, pt}
use Rattle.world_model.specs.Kinds.{name, when, coordinate, coordinate_from}
use Rattle.world_model.specs.Commands.{readings, reads, as_objects, shown_of, is_fraction, geo_fault_of, wrong_count}
use Rattle.geo_text.specs.Texts.{shape_of}
use Rattle.world_model.specs.declared.commands.Command.{Command}
use Rattle.world_model.specs.declared.commands.Command.TheVariants as command
use Rattle.world_model.specs.declared.object_commands.ObjectCommand.TheVariants as of_object
use Rattle.world_data.specs.declared.queries.Shown.{Shown}
use Rattle.world_data.specs.declared.queries.Shown.TheVariants as shown
use Rattle.world_model.specs.declared.faults.WordFault.{WordFault}
use Rattle.world_model.specs.declared.faults.WordFault.TheVariants as fault
use Rattle.cmd_words.specs.declared.faults.CommandFault.{CommandFault}
use Rattle.cmd_words.specs.declared.faults.CommandFault.TheVariants.{Refused, Memory}

-- what holds of a refusal; nothing is said of want of memory
abbrev pub IfRefused : CommandFault → (WordFault → Type 0) → Type 0
IfRefused (Refused f) holds = holds f
IfRefused Memory holds = Unit {0}

-- the command, or the refusal as it is answered
abbrev pub answered : Result Command WordFault → Result Command CommandFault
answered (Ok c) = Ok c
answered (Err f) = Err (Refused f)

-- what is answered to words where memory is not wanting
abbrev pub answers : List Bytes → Result Command CommandFault
answers words = answered (reads words)

-- the words that were read, and those that are left
pub record Place : Type 0 where
  pub read : List Bytes
  pub left : List Bytes

abbrev pub all_words : Place → List Bytes
all_words p = p.read ++ p.left

-- the word was read
pub record IsBehind (w : Bytes) (old new : Place) : Type 0 where
  pub left : old.left ≡ w ∷ new.left
  pub read : new.read ≡ old.read ++ w ∷ []

-- words were read, and whatever is behind them continues a command exactly where the form spells it
pub record Follows (p : Place) (f : Form Command) : Type 0 where
  pub begun : 0 < length p.read
  pub goes : (more : List Bytes) → readings (p.read ++ more) ≡ live (f more)

-- words may have been read, and none is given back
pub record Moves (old new : Place) : Type 0 where
  pub words : all_words new ≡ all_words old
  pub fewer : length new.left ≤ length old.left

-- what was read where the form is due, whatever is to follow it; or how all the words are refused; or memory ran out
abbrev pub Parses : {A : Type 0} → ((A → Form Command) → Form Command) → Place → Place → Result A CommandFault → Type 0
Parses {A = A} form old new (Ok a) = Moves old new × ((next : A → Form Command) → Follows old (form next) → Follows new (next a))
Parses {A = A} form old new (Err why) = (why ≡ Memory) ⊎ ((next : A → Form Command) → Follows old (form next) → answers (all_words old) ≡ Err why)

-- a form, and what is to follow it
abbrev pub a_form : {A : Type 0} → Form A → (A → Form Command) → Form Command
a_form form next = form >>= next

-- a form was read where it is due
abbrev pub Reads : {A : Type 0} → Form A → Place → Place → Result A CommandFault → Type 0
Reads form = Parses (a_form form)

-- a name
abbrev pub a_name : (Bytes → Form Command) → Form Command
a_name next = name >>= next

-- a key and an id
abbrev pub key_and_id : (Bytes × Bytes → Form Command) → Form Command
key_and_id next = name >>= λ key. name >>= λ id. next (key, id)

-- what is due is a word that is neither a coordinate nor a GeoJSON text
abbrev pub IsWordDue : {A : Type 0} → Reading A → Type 0
IsWordDue (spells a rest) = ⊥
IsWordDue (runs_out a_word) = Unit {0}
IsWordDue (runs_out a_coordinate) = ⊥
IsWordDue (runs_out a_geojson) = ⊥

-- the words that were read are no command, and nothing but such words could follow them
pub record WantsWord (p : Place) : Type 0 where
  pub first : Reading Command
  pub others : List (Reading Command)
  pub there : readings p.read ≡ first ∷ others
  pub each : Each IsWordDue (first ∷ others)

-- the next word, and whatever is behind it, continues a command exactly where the form spells it
pub record IsAhead (p : Place) (f : Form Command) : Type 0 where
  pub begun : 0 < length p.read
  pub goes : (w : Bytes) (rest : List Bytes) → p.left ≡ w ∷ rest → (more : List Bytes) → readings (p.read ++ w ∷ more) ≡ live (f (w ∷ more))

-- what was read where the form is what the next word goes on with; or how all the words are refused; or memory ran out
abbrev pub ParsesAhead : {A : Type 0} → ((A → Form Command) → Form Command) → Place → Place → Result A CommandFault → Type 0
ParsesAhead {A = A} form old new (Ok a) = Moves old new × ((next : A → Form Command) → IsAhead old (form next) → Follows new (next a))
ParsesAhead {A = A} form old new (Err why) =
    (why ≡ Memory) ⊎ ((next : A → Form Command) → IsAhead old (form next) → WantsWord old → answers (all_words old) ≡ Err why)

-- another form that does not go on with the next word, and for which such words are due where none is next
pub record IsSilent (other : Form Command) (left : List Bytes) : Type 0 where
  pub next : (w : Bytes) (rest : List Bytes) → left ≡ w ∷ rest → (more : List Bytes) → other (w ∷ more) ≡ []
  pub due : Each IsWordDue (other [])

-- a form was read where it, or another that is silent, is due
abbrev pub ReadsBeside : {A : Type 0} → Form A → Place → Place → Result A CommandFault → Type 0
ReadsBeside {A = A} f old new (Ok a) =
    Moves old new × ((next : A → Form Command) (other : Form Command) → IsSilent other old.left → Follows old ((f >>= next) or other)
    → Follows new (next a))
ReadsBeside {A = A} f old new (Err why) =
    (why ≡ Memory) ⊎ ((next : A → Form Command) (other : Form Command) → IsSilent other old.left → Follows old ((f >>= next) or other)
    → answers (all_words old) ≡ Err why)

-- the command that the words spell, or how they are refused; or memory ran out
abbrev pub Answers : List Bytes → Result Command CommandFault → Type 0
Answers words (Ok c) = reads words ≡ Ok c
Answers words (Err why) = (why ≡ Memory) ⊎ (answers words ≡ Err why)

-- how a word is refused where another is due
abbrev pub due_fault : Due → Bytes → WordFault
due_fault a_word w = fault.Invalid (shown_of w)
due_fault a_coordinate w = if is_fraction w then fault.Fraction (shown_of w) else fault.Invalid (shown_of w)
due_fault a_geojson w = geo_fault_of w (shape_of w)

-- the word was read; or none was, and another is next or none
abbrev pub IsNot : Bytes → List Bytes → Type 0
IsNot called [] = Unit {0}
IsNot called (w ∷ words) = is_word w called ≡ false

abbrev pub Took : Bytes → Place → Place → Bool → Type 0
Took called old new true = (w : Bytes) × (is_word w called ≡ true) × IsBehind w old new
Took called old new false = (new ≡ old) × IsNot called old.left

-- the word is not next, or may not come
abbrev pub IsNotDue : Bool → Bytes → List Bytes → Type 0
IsNotDue may called [] = Unit {0}
IsNotDue may called (w ∷ words) = (may && is_word w called) ≡ false

-- the word was read, which may come; or none was, and it is not next or may not come
abbrev pub TookDue : Bool → Bytes → Place → Place → Bool → Type 0
TookDue may called old new true = (may ≡ true) × (w : Bytes) × (is_word w called ≡ true) × IsBehind w old new
TookDue may called old new false = (new ≡ old) × IsNotDue may called old.left

-- no word was read
abbrev pub start : List Bytes → Place
start words = record { read = []; left = words }

-- this fault, or want of memory
abbrev pub IsFault : WordFault → CommandFault → Type 0
IsFault wanted why = (why ≡ Memory) ⊎ (why ≡ Refused wanted)

-- a text of these bytes, or want of memory
abbrev pub IsText : Bytes → Result Bytes CommandFault → Type 0
IsText bytes (Ok text) = text ≡ bytes
IsText bytes (Err why) = why ≡ Memory

-- what may stand behind GET's key and id, and behind WITHFIELDS or its absence
abbrev pub get_output : Bool → Bytes × Bytes → Form Command
get_output with_fields k = maybe shown.Objects as_objects >>= λ how. done (command.Object (of_object.Get k.0 k.1 with_fields how))

abbrev pub get_options : Bytes × Bytes → Form Command
get_options k = maybe false (word (codes "WITHFIELDS") >> done true) >>= λ with_fields. get_output with_fields k

-- the word asks for this output of one object
abbrev pub IsShown : Bytes → Shown → Type 0
IsShown w shown.Objects = is_word w (codes "OBJECT") ≡ true
IsShown w shown.Points = is_word w (codes "POINT") ≡ true
IsShown w shown.Bounds = is_word w (codes "BOUNDS") ≡ true
IsShown w shown.Ids = ⊥
IsShown w shown.Count = ⊥

-- no such word is next
abbrev pub IsNotShown : List Bytes → Type 0
IsNotShown [] = Unit {0}
IsNotShown (w ∷ words) = (is_word w (codes "OBJECT") ≡ false) × (is_word w (codes "POINT") ≡ false) × (is_word w (codes "BOUNDS") ≡ false)

-- an output was read; or none was, and none is next
abbrev pub ReadsShown : Place → Place → Option Shown → Type 0
ReadsShown old new (Some how) = (w : Bytes) × IsShown w how × IsBehind w old new
ReadsShown old new None = (new ≡ old) × IsNotShown old.left

-- no word is left; or the next one is refused
abbrev pub IsEnd : (Bytes → WordFault) → Place → Result (Unit {0}) CommandFault → Type 0
IsEnd fault_of p (Ok _) = p.left ≡ []
IsEnd fault_of p (Err why) = (w : Bytes) × (rest : List Bytes) × (p.left ≡ w ∷ rest) × IsFault (fault_of w) why

-- the word is of the kind that is due, or is refused; or memory ran out
abbrev pub IsOne : {A : Type 0} → Due → (Bytes → Option A) → Bytes → Result A CommandFault → Type 0
IsOne due kind w (Ok a) = kind w ≡ Some a
IsOne due kind w (Err why) = (why ≡ Memory) ⊎ ((kind w ≡ None) × (why ≡ Refused (due_fault due w)))

-- what is due behind the first coordinate of a box
abbrev pub behind_min_lat : ℤ → Form Bounds
behind_min_lat min_lat = do
  min_lon ← coordinate
  max_lat ← coordinate_from min_lat
  max_lon ← coordinate_from min_lon
  done (bounds (pt min_lon min_lat) (pt max_lon max_lat))

-- the name that a word is
abbrev pub name_of : Bytes → Option Bytes
name_of w = when (is_name w) w

-- so many of the words were read
abbrev pub place_at : List Bytes → ℕ → Place
place_at words n = record { read = take n words; left = drop n words }

-- the next word is refused where another is due; or the words ran out
abbrev pub IsRefusal : List Bytes → List Bytes → CommandFault → Type 0
IsRefusal words [] why = IsFault (wrong_count words) why
IsRefusal words (w ∷ left) why = IsFault (fault.Invalid (shown_of w)) why

-- the pattern that a word is
abbrev pub glob_of : Bytes → Option Bytes
glob_of w = when (is_name w && is_well_formed w) w
