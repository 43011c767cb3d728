-- What each atomic step tells: of the seat before it, the number found (at a store, the one stored) and the seat after it.
use Rattle.std.specs.Prelude.{◌≡◌, ◌≢◌, ℕ, ◌≤◌, Bool, List, [], ◌∷◌, ◌++◌, length, Option, Some, None, IfSome}
use mathlib.Core.List.{IsPrefix}
use Rattle.atomic_table.specs.Table.{Me, Step, rest}
use Rattle.turn_lock.specs.declared.seat.View.{View}
use Rattle.turn_lock.specs.declared.seat.Held.{Held}
use Rattle.turn_lock.specs.declared.seat.Held.TheVariants.{Value, Asked, Answered}
use Rattle.turn_lock.specs.declared.seat.Stage.TheVariants.{Idle, Works}
use Rattle.turn_lock.specs.declared.seat.Hand.TheVariants.{Holds}
use Rattle.turn_lock.specs.declared.seat.Post.TheVariants.{Nowhere, Claims, Posts}
use Rattle.turn_lock.specs.Rule.{IsPosted}
use Rattle.turn_lock.specs.Seats.{OwnsKept, OwnPlaces, at_stage, at_post, with_hand, served, worked, answered}

module _ {T O E W A : Type 0} where
  -- the slot of the value is out with the seat for which the lock was made
  abbrev pub opened : Step (Option (Held T W A)) → Me (Option (Held T W A)) (View O E W) → ℕ → Me (Option (Held T W A)) (View O E W) → Type 0
  opened st m n m' = m' ≡ (at_stage m.0 (Works []), (0, None) ∷ m.1)

  -- the lock is taken, where it was free, and the value is out with the seat
  abbrev pub locked : (T → O → List E → Type 0) → Step (Option (Held T W A)) → Me (Option (Held T W A)) (View O E W) → ℕ
      → Me (Option (Held T W A)) (View O E W) → Type 0
  locked stands st m n m' =
      (n ≢ 1 → m' ≡ m)
      × (n ≡ 1 → (x : T) × (log : List E) × (m' ≡ (at_stage m.0 (Works log), (0, Some (Value x)) ∷ m.1))
      × IfSome m.0.known.opening (λ o. stands x o log))

  -- the history has more entries, which are the seat's own
  abbrev pub added : (E → Bool) → List E → Step (Option (Held T W A)) → Me (Option (Held T W A)) (View O E W) → ℕ
      → Me (Option (Held T W A)) (View O E W) → Type 0
  added kept es st m n m' = (log : List E) → m.0.stage ≡ Works log → (m' ≡ (worked m.0 log es, m.1)) × IsPrefix m.0.known.seen log
      × OwnsKept kept m'.0.known × OwnPlaces m'.0.known

  -- the value is home again
  abbrev pub freed : Step (Option (Held T W A)) → Me (Option (Held T W A)) (View O E W) → ℕ → Me (Option (Held T W A)) (View O E W) → Type 0
  freed st m n m' = m' ≡ (at_stage m.0 Idle, rest m.1)

  -- the place is claimed, where it was empty
  abbrev pub claimed : Step (Option (Held T W A)) → Me (Option (Held T W A)) (View O E W) → ℕ → Me (Option (Held T W A)) (View O E W) → Type 0
  claimed st m n m' = (n ≢ 0 → m' ≡ m) × (n ≡ 0 → m' ≡ (at_post m.0 (Claims st.word), (st.word, None) ∷ m.1))

  -- the work lies at the place
  abbrev pub put : Step (Option (Held T W A)) → Me (Option (Held T W A)) (View O E W) → ℕ → Me (Option (Held T W A)) (View O E W) → Type 0
  put st m n m' = (w : W) → m.1 ≡ (st.word, Some (Asked w)) ∷ [] → m' ≡ (at_post m.0 (Posts st.word w), [])

  -- nothing is new
  abbrev pub same : Step (Option (Held T W A)) → Me (Option (Held T W A)) (View O E W) → ℕ → Me (Option (Held T W A)) (View O E W) → Type 0
  same st m n m' = m' ≡ m

  -- the work that was posted is out with the seat that has the value
  abbrev pub fetched : Step (Option (Held T W A)) → Me (Option (Held T W A)) (View O E W) → ℕ → Me (Option (Held T W A)) (View O E W) → Type 0
  fetched st m n m' = ((IsPosted n → ⊥) → m' ≡ m) × (IsPosted n → (w : W) × (m' ≡ (with_hand m.0 (Holds st.word w), (st.word, Some (Asked w)) ∷ m.1)))

  -- the answer lies at the place, and the history has more entries
  abbrev pub done : List E → Step (Option (Held T W A)) → Me (Option (Held T W A)) (View O E W) → ℕ → Me (Option (Held T W A)) (View O E W) → Type 0
  done es st m n m' = (log : List E) → m.0.stage ≡ Works log → m' ≡ (served m.0 log es, rest m.1)

  -- the answer is taken, where there is one
  abbrev pub collected : (T → O → List E → Type 0) → (E → Bool) → (W → A → T → List E) → (W → T → A → T → Type 0)
      → Step (Option (Held T W A)) → Me (Option (Held T W A)) (View O E W) → ℕ → Me (Option (Held T W A)) (View O E W) → Type 0
  collected stands kept entries gives st m n m' =
      (n ≢ 6 → m' ≡ m)
      × (n ≡ 6 → (w : W) → m.0.post ≡ Posts st.word w → (a : A) × (old : T) × (new : T) × (log : List E)
      × (m' ≡ (answered m.0 st.word log (entries w a new), (st.word, Some (Answered a)) ∷ m.1))
      × IsPrefix m.0.known.seen log × gives w old a new
      × IfSome m.0.known.opening (λ o. stands old o log × stands new o (log ++ entries w a new)) × OwnsKept kept m'.0.known
      × OwnPlaces m'.0.known)

  -- the place is empty again
  abbrev pub left : Step (Option (Held T W A)) → Me (Option (Held T W A)) (View O E W) → ℕ → Me (Option (Held T W A)) (View O E W) → Type 0
  left st m n m' = m' ≡ (at_post m.0 Nowhere, rest m.1)

  -- a look that compares the two beginnings that a join has put together
  abbrev pub compared : (E → Bool) → Step (Option (Held T W A)) → Me (Option (Held T W A)) (View O E W) → ℕ
      → Me (Option (Held T W A)) (View O E W) → Type 0
  compared kept st m n m' = (m' ≡ (record { known = m.0.known; merged = []; stage = m.0.stage; hand = m.0.hand; post = m.0.post }, m.1))
      × (length m.0.merged ≤ length m.0.known.seen → IsPrefix m.0.merged m.0.known.seen) × OwnsKept kept m'.0.known × OwnPlaces m'.0.known
