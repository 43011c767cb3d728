-- Blocks of frames: all but the last are full.
use Rattle.std.specs.Prelude.{◌≡◌, ℕ, ◌+◌, ◌≤◌, List, [], ◌++◌, length, flat_map, Option, Some, None, ◌⊎◌}
use Rattle.std.specs.List.{AllByRecursion}
use Rattle.circular_buffer.specs.Buffer.{Buffer}
use Rattle.byte_text.specs.Names.{Bytes}
use Rattle.world_data.specs.Frames.{FrameList}
use Rattle.world_data.specs.Limits.{take_frames}

-- the blocks of a ring that may not be there yet
abbrev pub blocks_in : Option (Buffer FrameList) → List FrameList
blocks_in None = []
blocks_in (Some ring) = ring.items

-- the frames of blocks, and of these and a last one
abbrev pub frames_in : List FrameList → List Bytes
frames_in blocks = flat_map (λ b. b.list) blocks

abbrev pub packed : List FrameList → FrameList → List Bytes
packed blocks last = frames_in blocks ++ last.list

-- a block has as many frames as one take gives
pub record IsFull (b : FrameList) : Type 0 where
  pub frames : length b.list ≡ take_frames
  pub places : b.places ≡ take_frames

-- the last block has no more, or it is none yet
pub record IsOpen (b : FrameList) : Type 0 where
  pub few : length b.list ≤ take_frames
  pub places : (b.places ≡ take_frames) ⊎ ((b.places ≡ 0) × (b.list ≡ []))

-- full blocks, a last one, and how many frames they have together
pub record ArePacked (blocks : List FrameList) (last : FrameList) (count : ℕ) : Type 0 where
  pub full : AllByRecursion IsFull blocks
  pub open_ : IsOpen last
  pub many : count ≡ length (packed blocks last)
