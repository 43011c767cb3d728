-- Whose seat a seat is.
use Rattle.std.specs.Prelude.{◌≡◌, [], ◌∷◌, ℕ, Option, Some, None, List}
use Rattle.atomic_table.specs.declared.shared.Seat.{Seat}
use Rattle.turn_lock.specs.declared.lock.TurnLock.{TurnLock}
use Rattle.turn_lock.specs.declared.seat.View.{View}
use Rattle.turn_lock.specs.declared.seat.Held.{Held}
use Rattle.turn_lock.specs.declared.seat.Held.TheVariants.{Value}
use Rattle.turn_lock.specs.declared.seat.Stage.TheVariants.{Idle, Works}
use Rattle.turn_lock.specs.declared.seat.Hand.TheVariants.{Empty}
use Rattle.turn_lock.specs.declared.seat.Post.TheVariants.{Nowhere, Claims, Posts}

module _ {T O E W A : Type 0} where
  -- the opening of the value that the lock was made with
  abbrev pub opening_of : (T → O) → TurnLock T O E W A → O
  opening_of open_of lock = open_of lock.table.shared.key.value

  -- the seat is this lock's, and no turn of it is under way
  abbrev pub IsSeatOf : (T → O) → TurnLock T O E W A → Seat (Option (Held T W A)) (View O E W) → Type 0
  IsSeatOf open_of lock s =
      (s.table_id ≡ lock.table.shared.table_id) × (s.me.0.known.opening ≡ Some (opening_of open_of lock)) × (s.me.0.stage ≡ Idle)
      × (s.me.0.merged ≡ []) × (s.me.1 ≡ []) × (s.me.0.hand ≡ Empty) × (s.me.0.post ≡ Nowhere)

  -- the seat has the lock, and this value of it, which stands for the history
  abbrev pub IsAtWork : (T → O) → (T → O → List E → Type 0) → TurnLock T O E W A → Seat (Option (Held T W A)) (View O E W) → T → Type 0
  IsAtWork open_of stands lock s x =
      (s.table_id ≡ lock.table.shared.table_id) × (s.me.1 ≡ (0, None) ∷ []) × (s.me.0.hand ≡ Empty)
      × ((log : List E) × (s.me.0.stage ≡ Works log) × stands x (opening_of open_of lock) log)

  -- the seat has the lock, with the value in the slot
  abbrev pub IsLocked : (T → O) → (T → O → List E → Type 0) → TurnLock T O E W A → Seat (Option (Held T W A)) (View O E W) → Type 0
  IsLocked open_of stands lock s =
      (s.table_id ≡ lock.table.shared.table_id) × (s.me.0.hand ≡ Empty)
      × ((x : T) × (log : List E) × (s.me.0.stage ≡ Works log) × (s.me.1 ≡ (0, Some (Value x)) ∷ []) × stands x (opening_of open_of lock) log)

  -- the seat has neither the lock nor a slot
  abbrev pub IsAside : TurnLock T O E W A → Seat (Option (Held T W A)) (View O E W) → Type 0
  IsAside lock s = (s.table_id ≡ lock.table.shared.table_id) × (s.me.0.stage ≡ Idle) × (s.me.1 ≡ []) × (s.me.0.hand ≡ Empty)

  -- the seat has claimed a place, and nothing is in its slot yet
  abbrev pub ClaimsPlace : (T → O) → TurnLock T O E W A → Seat (Option (Held T W A)) (View O E W) → ℕ → Type 0
  ClaimsPlace open_of lock s p =
      (s.table_id ≡ lock.table.shared.table_id) × (s.me.0.known.opening ≡ Some (opening_of open_of lock)) × (s.me.0.stage ≡ Idle)
      × (s.me.0.merged ≡ []) × (s.me.1 ≡ (p, None) ∷ []) × (s.me.0.hand ≡ Empty) × (s.me.0.post ≡ Claims p)

  -- the seat waits for the answer to its work
  abbrev pub WaitsAt : (T → O) → TurnLock T O E W A → Seat (Option (Held T W A)) (View O E W) → ℕ → W → Type 0
  WaitsAt open_of lock s p w =
      (s.table_id ≡ lock.table.shared.table_id) × (s.me.0.known.opening ≡ Some (opening_of open_of lock)) × (s.me.0.stage ≡ Idle)
      × (s.me.0.merged ≡ []) × (s.me.1 ≡ []) × (s.me.0.hand ≡ Empty) × (s.me.0.post ≡ Posts p w)
