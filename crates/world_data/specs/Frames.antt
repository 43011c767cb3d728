-- The frames that a take gives into a block of the caller's.
use Rattle.std.specs.Prelude.{◌≡◌, ℕ, ◌+◌, ◌-◌, List, [], ◌∷◌, length, take, drop, sum_by, flat_map}
use Rattle.byte_text.specs.Names.{Bytes}

-- frames, and how many places there are for them
pub record FrameList : Type 0 where
  pub list : List Bytes
  pub places : ℕ

-- the bytes of frames together
abbrev pub frame_bytes : List Bytes → ℕ
frame_bytes frames = sum_by length frames

-- the bytes of frames, one behind another
abbrev pub text_of : List Bytes → Bytes
text_of frames = flat_map (λ f. f) frames

-- where each frame ends in their text, which begins at a place
abbrev pub ends_of : ℕ → List Bytes → List ℕ
ends_of from [] = []
ends_of from (f ∷ frames) = (from + length f) ∷ ends_of (from + length f) frames

-- the frames between these ends, of a text that begins at a place
abbrev pub frames_between : ℕ → List ℕ → Bytes → List Bytes
frames_between from [] text = []
frames_between from (end ∷ ends) text = take (end - from) text ∷ frames_between end ends (drop (end - from) text)

-- a text and these ends are those of some frames
pub record AreEnds (ends : List ℕ) (text : Bytes) : Type 0 where
  pub text_is : text ≡ text_of (frames_between 0 ends text)
  pub ends_are : ends ≡ ends_of 0 (frames_between 0 ends text)
