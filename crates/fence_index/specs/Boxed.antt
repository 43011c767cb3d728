-- The boxes of the channels of each key, beside the numbers of the channels.
use Rattle.std.specs.Prelude.{ℕ, ◌≡◌, ◌≤◌, ◌+◌, Bool, true, cond, List, [], ◌++◌, if◌then◌else◌}
use Rattle.std.specs.List.{AllByRecursion, sum_by}
use Rattle.byte_text.specs.Names.{Bytes, before, same}
use Rattle.planar_geom.specs.Points.{Bounds, boxes_meet}
use Rattle.ordered_lists.specs.Lists.{ascends}
use Rattle.rtree.specs.Pairs.{Pair, ids_meeting}
use Rattle.fence_index.specs.declared.marks.Mark.{Mark}
use Rattle.fence_index.specs.declared.key_boxes.KeyBoxes.{KeyBoxes}
use Rattle.fence_index.specs.Held.{Held, Fits, weight_of}
use Rattle.fence_index.specs.Marks.{is_of_key}
use Rattle.fence_index.specs.Reasons.{Reason, Near, Wide, Always, box_for, spot}

-- the boxes under which channels are found for this reason
abbrev pub part : Reason → KeyBoxes → Held
part Near s = s.near
part Wide s = s.wide
part Always s = s.always

-- there is room for the boxes of one more channel
abbrev pub HasRoom : Mark → KeyBoxes → Type 0
HasRoom m s = (r : Reason) → Fits (box_for r m) (part r s).spare

-- no box, and room for those of this channel
pub record IsFresh (m : Mark) (s : KeyBoxes) : Type 0 where
  pub key : s.key ≡ m.key
  pub empty : (r : Reason) → (part r s).pairs ≡ []
  pub room : HasRoom m s

-- the numbers that a search finds: those that are near, and beside them, at a put, those that are named wherever it is, and else those
-- that are near and want `outside`
abbrev pub found : Bounds → Bool → KeyBoxes → List ℕ
found round put s = ids_meeting round s.near.pairs ++ (if put then ids_meeting spot s.always.pairs else ids_meeting round s.wide.pairs)

abbrev pub key_before : KeyBoxes → KeyBoxes → Bool
key_before s t = before s.key t.key

abbrev pub are_by_key : List KeyBoxes → Bool
are_by_key boxes = ascends key_before boxes

-- where there are boxes of the channel's key, there is room for those of the channel
abbrev pub HasRoomIn : Mark → List KeyBoxes → Type 0
HasRoomIn m boxes = AllByRecursion (λ s. same s.key m.key ≡ true → HasRoom m s) boxes

-- what the boxes of a key weigh, those of one reason
abbrev pub weight_in : Reason → Bytes → (Pair → ℕ) → List KeyBoxes → ℕ
weight_in r key w boxes = sum_by (λ s. cond (same s.key key) (sum_by w (part r s).pairs) 0) boxes

-- what the box of a channel weighs, where it is on the key and is named for this reason
abbrev pub weight_on : Reason → Bytes → (Pair → ℕ) → Mark → ℕ → ℕ
weight_on r key w m n = cond (is_of_key key m) (weight_of w (box_for r m) n) 0

-- the same boxes under the same numbers, whatever room there is
abbrev pub AreSame : List KeyBoxes → List KeyBoxes → Type 0
AreSame old new = (r : Reason) (key : Bytes) (w : Pair → ℕ) → weight_in r key w new ≡ weight_in r key w old

-- the boxes of one channel more, under its number
abbrev pub IsOneMore : Mark → ℕ → List KeyBoxes → List KeyBoxes → Type 0
IsOneMore m n few many = (r : Reason) (key : Bytes) (w : Pair → ℕ) → weight_in r key w many ≡ weight_in r key w few + weight_on r key w m n

-- the boxes of the channel are among these, under its number
abbrev pub IsAmong : Mark → ℕ → List KeyBoxes → Type 0
IsAmong m n boxes = (r : Reason) (w : Pair → ℕ) → weight_on r m.key w m n ≤ weight_in r m.key w boxes

-- what the number of a pair weighs where its box meets another
abbrev pub met_weight : Bounds → (ℕ → ℕ) → Pair → ℕ
met_weight b v p = cond (boxes_meet p.bounds b) (v p.id) 0

-- the reason beside nearness for which a put or a del names a channel, and the box that is asked with
abbrev pub other_reason : Bool → Reason
other_reason put = if put then Always else Wide

abbrev pub other_box : Bool → Bounds → Bounds
other_box put round = if put then spot else round

-- the numbers are those of the key's channels that the change names, each once: whatever is summed over both is the same
abbrev pub AreFound : Bytes → Bounds → Bool → List KeyBoxes → List ℕ → Type 0
AreFound key round put boxes numbers = (v : ℕ → ℕ)
    → sum_by v numbers ≡ weight_in Near key (met_weight round v) boxes + weight_in (other_reason put) key (met_weight (other_box put round) v) boxes
