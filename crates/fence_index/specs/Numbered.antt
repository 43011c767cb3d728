-- Channels by number, and the boxes of each key that are theirs.
use Rattle.std.specs.Prelude.{ℕ, ◌≡◌, ◌≤◌, true, List, Option, Some, None}
use Rattle.std.specs.List.{sum_by}
use Rattle.byte_text.specs.Names.{Bytes}
use Rattle.rtree.specs.Pairs.{Pair}
use Rattle.fence_index.specs.declared.marks.Mark.{Mark}
use Rattle.fence_index.specs.declared.key_boxes.KeyBoxes.{KeyBoxes}
use Rattle.fence_index.specs.declared.ready.Ready.{Ready}
use Rattle.fence_index.specs.Boxed.{HasRoomIn, IsFresh, are_by_key, weight_in, weight_on}
use Rattle.fence_index.specs.Reasons.{Reason}

-- the boxes of each key, and the channel that can be put without taking memory
pub record Indexed : Type 0 where
  pub boxes : List KeyBoxes
  pub prepared : Option Mark

-- what the box of a channel weighs under its number, where there is a channel of it
abbrev pub weight_if : Reason → Bytes → (Pair → ℕ) → ℕ → Option Mark → ℕ
weight_if r key w n None = 0
weight_if r key w n (Some m) = weight_on r key w m n

-- the boxes are those of the channels of these numbers, each under its number: whatever is summed over both is the same
abbrev pub AreBoxed : (ℕ → Option Mark) → List ℕ → List KeyBoxes → Type 0
AreBoxed marks numbers boxes = (r : Reason) (key : Bytes) (w : Pair → ℕ)
    → weight_in r key w boxes ≡ sum_by (λ n. weight_if r key w n (marks n)) numbers

-- this channel can be put without taking memory, where there is room for so many keys more
pub record IsReadyFor (boxes : List KeyBoxes) (spare : ℕ) (m : Mark) (fresh : KeyBoxes) : Type 0 where
  pub is_fresh : IsFresh m fresh
  pub spare_is : 1 ≤ spare
  pub room : HasRoomIn m boxes

-- there is room for what is prepared
abbrev pub IsPrepared : List KeyBoxes → ℕ → Option Ready → Type 0
IsPrepared boxes spare None = Unit {0}
IsPrepared boxes spare (Some ready) = IsReadyFor boxes spare ready.mark ready.boxes

-- boxes by key, and room for what is prepared
pub record IsKept (boxes : List KeyBoxes) (spare : ℕ) (prepared : Option Ready) : Type 0 where
  pub by_key : are_by_key boxes ≡ true
  pub ready : IsPrepared boxes spare prepared
