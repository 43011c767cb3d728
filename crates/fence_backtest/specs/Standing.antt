-- Where the objects that stand were put.
use Rattle.std.specs.Prelude.{◌≡◌, ◌<◌, ◌≤◌, ℕ, ◌+◌, ◌*◌, ◌^◌, ◌==◌, Bool, true, false, List, [], ◌∷◌, length, Option, Some, None}
use Rattle.std.specs.Cmp.Lexicographic.{pointwise}
use Rattle.std.specs.List.{AllZip, range_with_len}
use Rattle.std.specs.Map.{lookup}
use Rattle.byte_text.specs.Names.{Bytes}
use Rattle.world_data.specs.Worlds.{after, object_at}
use Rattle.world_data.specs.declared.worlds.Change.{Change}
use Rattle.world_data.specs.declared.worlds.Change.TheVariants.{Put, Del, Drop, Flush, SetChan, DelChan}
use Rattle.world_data.specs.declared.worlds.World.{World}
use Rattle.log_record.specs.Folding.{folded}
use Rattle.fence_backtest.specs.Cuts.{IsCut, part}
use Rattle.fence_backtest.specs.Outcomes.{object_put}
use Rattle.fence_backtest.specs.Reports.{stood}
use Rattle.fence_backtest.specs.declared.standing.Stood.{Stood}
use Rattle.fence_backtest.specs.declared.standing.Stood.TheVariants.{Here, Before}

-- The place of the put that brought the object of an id, if one stands. These are the places of the objects of a key that stand in a world.
abbrev pub IsPlaced : Bytes → List Change → (Bytes → Option ℕ) → World → Type 0
IsPlaced key changes places w = (id : Bytes) → object_put changes (places id) ≡ object_at w key id

-- no object stands
abbrev pub nowhere : Bytes → Option ℕ
nowhere id = None

-- the place of an object, by where it stood before
abbrev pub by_before : Option ℕ → Stood → Option ℕ
by_before before (Here place) = place
by_before before Before = before

-- where the object of an id stood, by what is named of it since, and whether all others were let go
abbrev pub stood_here : Option (Option ℕ) → Bool → Stood
stood_here (Some place) emptied = Here place
stood_here None true = Here None
stood_here None false = Before

-- the places behind what is named, by those before
abbrev pub behind : List (Bytes × Option ℕ) → Bool → (Bytes → Option ℕ) → Bytes → Option ℕ
behind named emptied places id = by_before (places id) (stood_here (lookup (pointwise ◌==◌ id) named) emptied)

-- What contracts see of a stretch of changes: from which place on it goes, what it names and whether it let go all others, and where the object
-- of each of its changes stood.
pub record Known : Type 0 where
  pub from : ℕ
  pub named : List (Bytes × Option ℕ)
  pub emptied : Bool
  pub olds : List Stood

abbrev pub behind_at : Known → Bytes → Option ℕ → Option ℕ
behind_at s id before = by_before before (stood_here (lookup (pointwise ◌==◌ id) s.named) s.emptied)

-- the places behind stretches, by those before
abbrev pub places_behind : (Bytes → Option ℕ) → List Known → Bytes → Option ℕ
places_behind places [] = places
places_behind places (s ∷ stretches) = places_behind (behind s.named s.emptied places) stretches

-- the place at the id of a put or a deletion
abbrev pub place_at : (Bytes → Option ℕ) → Change → Option ℕ
place_at places (Put o) = places o.id
place_at places (Del key id) = places id
place_at places (Drop key) = None
place_at places Flush = None
place_at places (SetChan c) = None
place_at places (DelChan name) = None

-- where the object of a change stood, by the places before its stretch
abbrev pub old_of : (Bytes → Option ℕ) → Change → Stood → Option ℕ
old_of places change old = by_before (place_at places change) old

-- a change was done: this is where the object stood that it puts or deletes, and what is named now are the places behind it
pub record StoodSo (key : Bytes) (changes : List Change) (places : Bytes → Option ℕ) (named : List (Bytes × Option ℕ)) (emptied : Bool) (w : World) (change : Change)
    (old : Stood) : Type 0 where
  pub stood_is : object_put changes (old_of places change old) ≡ stood key w change
  pub next : IsPlaced key changes (behind named emptied places) (after w change)

-- so stood the objects that these changes put or delete, from a world on
abbrev pub AreStood : Bytes → List Change → (Bytes → Option ℕ) → World → List Change → List Stood → Type 0
AreStood key all places w [] [] = Unit {0}
AreStood key all places w [] (old ∷ olds) = ⊥
AreStood key all places w (change ∷ changes) [] = ⊥
AreStood key all places w (change ∷ changes) (old ∷ olds) =
    (object_put all (old_of places change old) ≡ stood key w change) × AreStood key all places (after w change) changes olds

-- changes were done from a world on
pub record WentSo (key : Bytes) (all : List Change) (places : Bytes → Option ℕ) (w : World) (changes : List Change) (named : List (Bytes × Option ℕ)) (emptied : Bool)
    (olds : List Stood) : Type 0 where
  pub next : IsPlaced key all (behind named emptied places) (folded w changes)
  pub olds_are : AreStood key all places w changes olds

-- a stretch is what its changes do, whatever world they come upon
abbrev pub IsStretch : Bytes → List Change → Known → Type 0
IsStretch key all s = (places : Bytes → Option ℕ) (w : World) → IsPlaced key all places w
    → WentSo key all places w (part all s.from (length s.olds)) s.named s.emptied s.olds

-- the stretch of this number, of stretches of one length
pub record IsStretchAt (key : Bytes) (all : List Change) (size at : ℕ) (s : Known) : Type 0 where
  pub from_is : s.from ≡ at * size
  pub within : s.from + length s.olds ≤ length all
  pub fits : s.from + length s.olds < 2 ^ 64
  pub part_is : part all s.from (length s.olds) ≡ part all (at * size) size
  pub goes : IsStretch key all s

-- all of them
pub record AreStretches (key : Bytes) (all : List Change) (size : ℕ) (stretches : List Known) : Type 0 where
  pub cut : IsCut (length all) (length stretches) size
  pub each : AllZip (IsStretchAt key all size) (range_with_len 0 (length stretches)) stretches
