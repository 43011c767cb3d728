-- The rule of the lock, which holds between any two atomic steps.
-- Word 0 is 1 while the lock is free and 0 while a seat has it, and slot 0 is the value's.
-- Each other word is that of a place, whose slot has the same number: 0 empty, 1 claimed, 2 to 5 posted, 6 done.
use Rattle.std.specs.Prelude.{◌≡◌, ℕ, ◌<◌, ◌≤◌, ◌⊎◌, Bool, true, false, List, [], ◌++◌, length, slice_index, slice_get, Option, None, Some}
use mathlib.Core.Option.{Option as Maybe, none, some}
use mathlib.Core.List.{IsPrefix}
use lib.ListN.{get_elem?}
use Rattle.atomic_table.specs.Table.{State}
use Rattle.turn_lock.specs.declared.seat.View.{View}
use Rattle.turn_lock.specs.declared.seat.Held.{Held}
use Rattle.turn_lock.specs.declared.seat.Held.TheVariants.{Value, Asked, Answered}
use Rattle.turn_lock.specs.declared.seat.Stage.TheVariants.{Opens, Works}
use Rattle.turn_lock.specs.declared.seat.Hand.TheVariants.{Holds}
use Rattle.turn_lock.specs.declared.seat.Post.TheVariants.{Claims, Posts}
use Rattle.turn_lock.specs.Places.{IsAmong, Ascends}
use Rattle.turn_lock.specs.Turned.{NeverKept}
use Rattle.turn_lock.specs.Seats.{places_behind}

-- the word of a place where a work lies
abbrev pub IsPosted : ℕ → Type 0
IsPosted n = (2 ≤ n) × (n < 6)

abbrev pub IsPlace : ℕ → ℕ → Type 0
IsPlace size p = (0 < p) × (p < size)

-- What no word says: the history, whose seat each entry is, which seat has each place, the numbers of the entries that
-- the work at a place that is done has made, which seat has the value, and which seat is the first
pub record Story (E : Type 0) : Type 0 where
  pub size : ℕ
  pub log : List E
  pub owner : ℕ → ℕ
  pub poster : ℕ → ℕ
  pub numbers : ℕ → List ℕ
  pub holder : ℕ
  pub chief : ℕ

module _ {T E W A : Type 0} (stands : T → List E → Type 0) (entries : W → A → T → List E) (gives : W → T → A → T → Type 0) where
  -- the work was done after all that was seen, with this answer, and made the entries of these numbers
  pub record Made (log seen : List E) (w : W) (a : A) (numbers : List ℕ) : Type 0 where
    pub old : T
    pub new : T
    pub before : List E
    pub sees : IsPrefix seen before
    pub begins : IsPrefix (before ++ entries w a new) log
    pub here : places_behind before (entries w a new) ≡ numbers
    pub stood : stands old before
    pub gave : gives w old a new
    pub stand : stands new (before ++ entries w a new)

module _ {T O E W A : Type 0} (kept : E → Bool) (entries : W → A → T → List E) (gives : W → T → A → T → Type 0) where
  -- the seat j fits the story
  pub record Fits (g : Story E) (word : ℕ → ℕ) (home : ℕ → Maybe (Maybe (Option (Held T W A)))) (j : ℕ) (v : View O E W) : Type 0 where
    pub seen : IsPrefix v.known.seen g.log
    pub merged : IsPrefix v.merged g.log
    pub mine : (k : ℕ) → IsAmong k v.known.mine → (k < length v.known.seen) × (g.owner k ≡ j)
    pub ascends : Ascends v.known.mine
    pub first : v.known.first ≡ true → j ≡ g.chief
    pub opens : v.stage ≡ Opens → (g.log ≡ []) × (j ≡ g.holder) × (word 0 ≡ 0) × (home 0 ≡ some (some None))
    pub works : (H : List E) → v.stage ≡ Works H → (H ≡ g.log) × (j ≡ g.holder) × (word 0 ≡ 0)
    pub hand : (p : ℕ) (w : W) → v.hand ≡ Holds p w → (j ≡ g.holder) × (word 0 ≡ 0) × IsPlace g.size p × IsPosted (word p) × (home p ≡ some none)
    pub claims : (p : ℕ) → v.post ≡ Claims p → IsPlace g.size p × (g.poster p ≡ j) × (word p ≡ 1)
    pub posts : (p : ℕ) (w : W) → v.post ≡ Posts p w → IsPlace g.size p × (g.poster p ≡ j) × (2 ≤ word p)
        × (v.known.first ≡ false → NeverKept kept entries gives w)

module _ {T O E W A : Type 0} (stands : T → List E → Type 0) (entries : W → A → T → List E) (gives : W → T → A → T → Type 0) where
  -- a place: empty with nothing in its slot; claimed by a seat; posted with its seat's work, in the slot or with the seat that has the value;
  -- or done with the answer, for entries that are its seat's
  pub record Place (g : Story E) (word : ℕ → ℕ) (home : ℕ → Maybe (Maybe (Option (Held T W A)))) (views : List (View O E W)) (p : ℕ) : Type 0 where
    pub empty : word p ≡ 0 → home p ≡ some (some None)
    pub claimed : word p ≡ 1 → (v : View O E W) × (get_elem? views (g.poster p) ≡ some v) × (v.post ≡ Claims p)
    pub posted : IsPosted (word p) → (v : View O E W) × (w : W) × (get_elem? views (g.poster p) ≡ some v) × (v.post ≡ Posts p w)
        × ((home p ≡ some (some (Some (Asked w)))) ⊎ ((u : View O E W) × (get_elem? views g.holder ≡ some u) × (u.hand ≡ Holds p w)))
    pub done : word p ≡ 6 → (v : View O E W) × (w : W) × (a : A) × (get_elem? views (g.poster p) ≡ some v) × (v.post ≡ Posts p w)
        × (home p ≡ some (some (Some (Answered a)))) × Made stands entries gives g.log v.known.seen w a (g.numbers p)
        × ((k : ℕ) → IsAmong k (g.numbers p) → g.owner k ≡ g.poster p)

module _ {O E W : Type 0} where
  -- the seat has the lock, and the value but for the time before it was put in
  abbrev pub HasLock : List E → View O E W → Type 0
  HasLock log v = (v.stage ≡ Opens) ⊎ (v.stage ≡ Works log)

  -- the seat has the entry of this number, or will find it at its place
  abbrev pub Has : Story E → (ℕ → ℕ) → View O E W → ℕ → Type 0
  Has g word v k = IsAmong k v.known.mine ⊎ ((p : ℕ) × (w : W) × (v.post ≡ Posts p w) × (word p ≡ 6) × IsAmong k (g.numbers p))

module _ {T O E W A : Type 0} (stands : T → List E → Type 0) (kept : E → Bool) (entries : W → A → T → List E) (gives : W → T → A → T → Type 0) where
  -- There is one history. While the lock is free the value is at home and stands for it, and else one seat alone works.
  -- Every seat has seen a beginning of it, and owns other entries than the others do.
  -- Each entry that is kept for the first seat is the first seat's own.
  pub record OneHistory (s : State (Option (Held T W A)) (View O E W)) : Type 0 where
    pub story : Story E
    pub wide : length s.words ≡ story.size
    pub deep : length s.homes ≡ story.size
    pub each : (j : ℕ) (v : View O E W) → get_elem? s.views j ≡ some v
        → Fits kept entries gives story (λ p. slice_index s.words p) (λ p. get_elem? s.homes p) j v
    pub place : (p : ℕ) → IsPlace story.size p → Place stands entries gives story (λ p. slice_index s.words p) (λ p. get_elem? s.homes p) s.views p
    pub value : slice_index s.words 0 ≡ 1 → (x : T) × (get_elem? s.homes 0 ≡ some (some (Some (Value x)))) × stands x story.log
    pub held : slice_index s.words 0 ≡ 0 → (v : View O E W) × (get_elem? s.views story.holder ≡ some v) × HasLock story.log v
    pub first : (k : ℕ) (e : E) → slice_get story.log k ≡ Some e → kept e ≡ true → (v : View O E W)
        × (get_elem? s.views story.chief ≡ some v) × Has story (λ p. slice_index s.words p) v k
