-- The workload: what the two sessions ask for, one request behind another.
use Rattle.std.specs.Prelude.{◌≡◌, ℕ, zero, suc, ◌+◌, ◌-◌, ◌*◌, ◌/◌, ◌==◌, nat_le, Bool, true, List, [], ◌∷◌, ◌++◌, Option, Some, None, if◌then◌else◌}
use Rattle.world_model.specs.Outcomes.{is_proper}
use Rattle.world_model.specs.declared.events.Asked.TheVariants.{Words}
use Rattle.work_gen.specs.Draws.{next, drawn}
use Rattle.work_gen.specs.Words.{texts}
use Rattle.work_gen.specs.declared.lines.Line.{Line}
use Rattle.work_gen.specs.declared.lines.Role.TheVariants.{Listener, Sender}
use Rattle.work_gen.specs.declared.words.Word.{Word}
use Rattle.work_gen.specs.declared.words.Word.TheVariants.{Psubscribe, Setchan, Set, Del, Intersects, Nearby, Within, Fence, Detect, Point, Bounds}
use Rattle.work_gen.specs.declared.words.Word.TheVariants.{Count, Limit, Ids, All, Fleet, EnterExit, Vehicle, Zone, Number}

abbrev pub heard : List Word → Line
heard words = record { role = Listener; words = texts words }

abbrev pub sent : List Word → Line
sent words = record { role = Sender; words = texts words }

-- to be told of all channels
abbrev pub subscribing : List Word
subscribing = Psubscribe ∷ All ∷ []

-- to tell of what enters a square, and of what leaves it
abbrev pub channel : ℕ → List Word
channel i =
    let low = 60000 * i in let high = 60000 * i + 50000 in
    Setchan ∷ Zone i ∷ Within ∷ Fleet ∷ Fence ∷ Detect ∷ EnterExit ∷ Bounds ∷ Number low ∷ Number low ∷ Number high ∷ Number high ∷ []

-- so many channels from one on
abbrev pub channels : ℕ → ℕ → List Line
channels i zero = []
channels i (suc k) = sent (channel i) ∷ channels (i + 1) k

-- a command, and the generator's state behind it
pub record Made : Type 0 where
  pub words : List Word
  pub behind : ℕ

-- the kinds of commands, each from the state of its first draw on; there are as many vehicles as a tenth of the commands, and one

abbrev pub put : ℕ → ℕ → Made
put n a = let b = next a in let c = next b in record {
  words = Set ∷ Fleet ∷ Vehicle (drawn (n / 10 + 1) a) ∷ Point ∷ Number (drawn 1000000 b) ∷ Number (drawn 1000000 c) ∷ [];
  behind = c;
}

abbrev pub delete : ℕ → ℕ → Made
delete n a = record { words = Del ∷ Fleet ∷ Vehicle (drawn (n / 10 + 1) a) ∷ []; behind = a }

abbrev pub count_square : ℕ → Made
count_square a = let b = next a in let y = drawn 900000 a in let x = drawn 900000 b in record {
  words = Intersects ∷ Fleet ∷ Count ∷ Bounds ∷ Number y ∷ Number x ∷ Number (y + 10000) ∷ Number (x + 10000) ∷ [];
  behind = b;
}

abbrev pub find_nearest : ℕ → Made
find_nearest a = let b = next a in record {
  words = Nearby ∷ Fleet ∷ Limit ∷ Number 10 ∷ Ids ∷ Point ∷ Number (drawn 1000000 a) ∷ Number (drawn 1000000 b) ∷ [];
  behind = b;
}

-- seven of ten commands put a vehicle, one deletes one, one counts, one finds the nearest
abbrev pub of_kind : ℕ → ℕ → ℕ → Made
of_kind n kind a = if nat_le kind 6 then put n a else (if kind == 7 then delete n a else (if kind == 8 then count_square a else find_nearest a))

-- the command from a state on: its kind is drawn first
unfoldable pub command : ℕ → ℕ → Made
command n x = let kind = next x in of_kind n (drawn 10 kind) (next kind)

-- so many commands from a state on
abbrev pub commands : ℕ → ℕ → ℕ → List Line
commands n zero x = []
commands n (suc k) x = let made = command n x in sent made.words ∷ commands n k made.behind

-- what comes before the commands: the subscription, where it is not made yet, and the channels from one on
abbrev pub opening : Bool → ℕ → List Line
opening subscribed i = (if subscribed then [] else heard subscribing ∷ []) ++ channels i (16 - i)

-- the workload of n commands from a seed
unfoldable pub lines : ℕ → ℕ → List Line
lines n seed = heard subscribing ∷ (channels 0 16 ++ commands n n seed)

-- the first of the lines, and those behind it; or there is none
abbrev pub NextIs : List Line → List Line → Option Line → Type 0
NextIs old new (Some l) = (old ≡ l ∷ new) × (is_proper (Words l.words) ≡ true)
NextIs old new None = (old ≡ []) × (new ≡ [])
