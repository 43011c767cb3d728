-- What a seat knows, and how a turn, a split and a join change it.
use Rattle.std.specs.Prelude.{◌≡◌, ◌<◌, ℕ, Bool, true, false, ◌||◌, List, [], ◌++◌, length, slice_get, Option, None, Some}
use Rattle.std.specs.List.{range_with_len}
use mathlib.Core.List.{IsPrefix}
use Rattle.atomic_table.specs.declared.shared.Seat.{Seat}
use Rattle.turn_lock.specs.declared.seat.Known.{Known}
use Rattle.turn_lock.specs.declared.seat.View.{View}
use Rattle.turn_lock.specs.declared.seat.Held.{Held}
use Rattle.turn_lock.specs.declared.seat.Stage.{Stage}
use Rattle.turn_lock.specs.declared.seat.Stage.TheVariants.{Opens, Idle, Works}
use Rattle.turn_lock.specs.declared.seat.Hand.{Hand}
use Rattle.turn_lock.specs.declared.seat.Hand.TheVariants.{Empty}
use Rattle.turn_lock.specs.declared.seat.Post.{Post}
use Rattle.turn_lock.specs.declared.seat.Post.TheVariants.{Nowhere, Claims}
use Rattle.turn_lock.specs.Places.{IsAmong, Ascends, merge, longer, shorter}

-- the places of these entries behind a history
abbrev pub places_behind : {E : Type 0} → List E → List E → List ℕ
places_behind log entries = range_with_len (length log) (length entries)

module _ {O E : Type 0} where
  -- the first seat of a lock with this opening
  abbrev pub first_known : O → Known O E
  first_known o = record { opening = Some o; seen = []; mine = []; first = true }

  -- a seat that is split off has seen as much, and no entry is its own
  abbrev pub split_known : Known O E → Known O E
  split_known k = record { opening = k.opening; seen = k.seen; mine = []; first = false }

  -- a seat into which another is joined
  abbrev pub joined_known : Known O E → Known O E → Known O E
  joined_known k l = record { opening = k.opening; seen = longer k.seen l.seen; mine = merge k.mine l.mine; first = k.first || l.first }

  -- a seat with more entries of its own, the last that it has seen
  abbrev pub told : Known O E → List E → List E → Known O E
  told k log entries = record { opening = k.opening; seen = log ++ entries; mine = k.mine ++ places_behind log entries; first = k.first }

  -- a turn: what was seen begins the history before it, which is seen now with the turn's own entries behind it
  pub record Turn (old new : Known O E) (log entries : List E) : Type 0 where
    pub begins : IsPrefix old.seen log
    pub seen : new.seen ≡ log ++ entries
    pub mine : new.mine ≡ old.mine ++ places_behind log entries
    pub opening : new.opening ≡ old.opening
    pub first : new.first ≡ old.first

  -- of the first seat: each entry that it has seen and that is kept for it is its own
  abbrev pub OwnsKept : (E → Bool) → Known O E → Type 0
  OwnsKept kept k = k.first ≡ true → (place : ℕ) (entry : E) → slice_get k.seen place ≡ Some entry → kept entry ≡ true → IsAmong place k.mine

  -- a seat's own places ascend, and it has seen what stands there
  pub record OwnPlaces (k : Known O E) : Type 0 where
    pub ascend : Ascends k.mine
    pub are_seen : (place : ℕ) → IsAmong place k.mine → place < length k.seen

  -- no place is both of these seats'
  abbrev pub AreApart : Known O E → Known O E → Type 0
  AreApart k l = (place : ℕ) → IsAmong place k.mine → IsAmong place l.mine → ⊥

module _ {O E W : Type 0} where
  -- a seat with no turn under way
  abbrev pub at_rest : Known O E → View O E W
  at_rest k = record { known = k; merged = []; stage = Idle; hand = Empty; post = Nowhere }

  -- the first seat, before the value is in the lock
  abbrev pub at_first : O → View O E W
  at_first o = record { known = first_known o; merged = []; stage = Opens; hand = Empty; post = Nowhere }

  abbrev pub at_stage : View O E W → Stage E → View O E W
  at_stage v s = record { known = v.known; merged = v.merged; stage = s; hand = v.hand; post = v.post }

  abbrev pub at_post : View O E W → Post W → View O E W
  at_post v p = record { known = v.known; merged = v.merged; stage = v.stage; hand = v.hand; post = p }

  abbrev pub with_hand : View O E W → Hand W → View O E W
  with_hand v h = record { known = v.known; merged = v.merged; stage = v.stage; hand = h; post = v.post }

  -- the work of a place is done, and its entries are in the history
  abbrev pub served : View O E W → List E → List E → View O E W
  served v log entries = record { known = v.known; merged = v.merged; stage = Works (log ++ entries); hand = Empty; post = v.post }

  -- the seat's own work is done, and its entries are in the history
  abbrev pub worked : View O E W → List E → List E → View O E W
  worked v log entries = record { known = told v.known log entries; merged = v.merged; stage = Works (log ++ entries); hand = v.hand; post = v.post }

  -- the answer was found at the place
  abbrev pub answered : View O E W → ℕ → List E → List E → View O E W
  answered v p log entries = record { known = told v.known log entries; merged = v.merged; stage = v.stage; hand = v.hand; post = Claims p }

  abbrev pub split_view : View O E W → View O E W
  split_view v = at_rest (split_known v.known)

  -- what the shorter beginning was is kept until the two are compared
  abbrev pub joined_view : View O E W → View O E W → View O E W
  joined_view v w = record {
    known = joined_known v.known w.known;
    merged = shorter v.known.seen w.known.seen;
    stage = v.stage;
    hand = v.hand;
    post =
        v.post;
  }

  -- what a join leaves of the other seat
  abbrev pub spent_view : View O E W
  spent_view = at_rest (record { opening = None; seen = []; mine = []; first = false })

  abbrev pub known_of : {T A : Type 0} → Seat (Option (Held T W A)) (View O E W) → Known O E
  known_of s = s.me.0.known

  -- the seat knows and waits for what it did
  abbrev pub Keeps : View O E W → View O E W → Type 0
  Keeps v w = (w.known ≡ v.known) × (w.merged ≡ v.merged) × (w.post ≡ v.post)
