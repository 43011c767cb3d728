-- The piece of a world's items that a step of a rewriting copies.
use Rattle.std.specs.Prelude.{◌≡◌, ◌+◌, ℕ, List, [], ◌∷◌, ◌++◌, length, take, drop, Option, Some, None}
use Rattle.std.specs.List.{AllByRecursion}
use Rattle.world_data.specs.Records.{record_writer}
use Rattle.world_data.specs.declared.worlds.World.{World}
use Rattle.journal.specs.declared.pieces.Piece.{Piece}
use Rattle.log_record.specs.Batches.{records_text}
use Rattle.log_record.specs.Words.{IsRecorded}
use Rattle.durable_core.specs.Rewriting.{Item, change_of, changes_of, items_left, last_of, last_behind}
use Rattle.durable_core.specs.declared.rewritings.LastCopied.{LastCopied}
use Rattle.durable_core.specs.declared.pieces.NextPiece.{NextPiece}

-- the record of the first of some that are left was put into a piece, and it is the last item that was copied then
pub record TookFirst {A : Type 0} (item_of : A → Item) (left : List A) (old new : Piece) (last : LastCopied) : Type 0 where
  pub first : A
  pub rest : List A
  pub left_is : left ≡ first ∷ rest
  pub last_is : last ≡ last_of (item_of first)
  pub recorded : IsRecorded (change_of (item_of first))
  pub records : new.records ≡ old.records ++ record_writer (change_of (item_of first))
  pub items : new.items ≡ old.items + 1

-- or none is left
abbrev pub Took : {A : Type 0} → (A → Item) → List A → Piece → Piece → Option LastCopied → Type 0
Took item_of left old new None = (left ≡ []) × (new ≡ old)
Took item_of left old new (Some last) = TookFirst item_of left old new last

-- these items were put into a piece, and these are left
pub record HasTaken (from : LastCopied) (w : World) (taken rest : List Item) (piece : Piece) (last : LastCopied) : Type 0 where
  pub split : items_left from w ≡ taken ++ rest
  pub items : piece.items ≡ length taken
  pub records : piece.records ≡ records_text (changes_of taken)
  pub recorded : AllByRecursion IsRecorded (changes_of taken)
  pub last_is : last ≡ last_behind from taken
  pub left : items_left last w ≡ rest

-- so many were
pub record HasTakenSome (from : LastCopied) (w : World) (n : ℕ) (piece : Piece) (last : LastCopied) : Type 0 where
  pub taken : List Item
  pub rest : List Item
  pub has : HasTaken from w taken rest piece last
  pub count : length taken ≡ n

-- the first 256 items that are left behind one
abbrev pub IsNextPiece : LastCopied → World → NextPiece → Type 0
IsNextPiece from w next = HasTaken from w (take 256 (items_left from w)) (drop 256 (items_left from w)) next.piece next.last
