-- Frames in full blocks and a last one: which block has a frame, and what is left where blocks are cut off or taken.
use Rattle.std.proofs.Common.{◌≡◌, ℕ, zero, suc, ◌+◌, ◌*◌, ◌<◌, ◌≤◌, List, [], ◌∷◌, ◌++◌, length, take, drop, refl, sym, ap, ◌∙◌, subst, append_assoc, append-nil, arith}
use Rattle.std.specs.Prelude.{Option, Some, None, slice_get, flat_map}
use Rattle.std.specs.List.{AllByRecursion}
use Rattle.std.proofs.lemmas.List.{length-append, take-append-le, take_at, drop_at, take_all, drop_all}
use Rattle.std.proofs.Math.Seq.{take-append-add}
use Rattle.byte_text.specs.Names.{Bytes}
use Rattle.world_data.specs.Frames.{FrameList}
use Rattle.world_data.specs.Limits.{take_frames}
use Rattle.subscriber_queue.specs.Packed.{IsFull, frames_in, packed}

get_left : (xs ys : List Bytes) (i : ℕ) → i < length xs → slice_get (xs ++ ys) i ≡ slice_get xs i
get_left [] ys i l = absurd (omega (arith, l))
get_left (x ∷ xs) ys zero l = refl
get_left (x ∷ xs) ys (suc i) l = get_left xs ys i (omega (arith, l))

get_right : (xs ys : List Bytes) (i : ℕ) → slice_get (xs ++ ys) (length xs + i) ≡ slice_get ys i
get_right [] ys i = let none : 0 + i ≡ i = omega arith in ap (slice_get ys) none
get_right (x ∷ xs) ys i =
    let next : suc (length xs) + i ≡ suc (length xs + i) = omega arith in
    ap (slice_get (x ∷ (xs ++ ys))) next ∙ get_right xs ys i

none_past : (bs : List FrameList) (q : ℕ) → slice_get bs q ≡ None → length bs ≤ q
none_past [] q at = omega arith
none_past (b ∷ bs) zero at = absurd (cc)
none_past (b ∷ bs) (suc q) at = let inner = none_past bs q at in omega (arith, inner)

some_within : (bs : List FrameList) (q : ℕ) (b : FrameList) → slice_get bs q ≡ Some b → q < length bs
some_within [] q b at = absurd (cc)
some_within (c ∷ bs) zero b at = omega arith
some_within (c ∷ bs) (suc q) b at = let inner = some_within bs q b at in omega (arith, inner)

pub full_at : (bs : List FrameList) (q : ℕ) (b : FrameList) → AllByRecursion IsFull bs → slice_get bs q ≡ Some b → IsFull b
full_at [] q b all at = absurd (cc)
full_at (c ∷ bs) zero b all at = let is : c ≡ b = cc in subst IsFull is all.0
full_at (c ∷ bs) (suc q) b all at = full_at bs q b all.1 at

pub full_last : (bs : List FrameList) (b : FrameList) → AllByRecursion IsFull bs → IsFull b → AllByRecursion IsFull (bs ++ b ∷ [])
full_last [] b all full = (full, tt)
full_last (c ∷ bs) b all full = (all.0, full_last bs b all.1 full)

pub full_take : (bs : List FrameList) (n : ℕ) → AllByRecursion IsFull bs → AllByRecursion IsFull (take n bs)
full_take bs zero all = tt
full_take [] (suc n) all = tt
full_take (c ∷ bs) (suc n) all = (all.0, full_take bs n all.1)

pub full_rest : (bs : List FrameList) → AllByRecursion IsFull bs → AllByRecursion IsFull (drop 1 bs)
full_rest [] all = tt
full_rest (c ∷ bs) all = all.1

pub frames_last : (bs : List FrameList) (b : FrameList) → frames_in (bs ++ b ∷ []) ≡ frames_in bs ++ b.list
frames_last [] b = append-nil b.list
frames_last (c ∷ bs) b = ap (λ (l : List Bytes). c.list ++ l) (frames_last bs b) ∙ sym (append_assoc c.list (frames_in bs) b.list)

-- a full block more, and an empty last one
pub packed_more : (bs : List FrameList) (last fresh : FrameList) → fresh.list ≡ [] → packed (bs ++ last ∷ []) fresh ≡ packed bs last
packed_more bs last fresh e =
    ap (λ (l : List Bytes). frames_in (bs ++ last ∷ []) ++ l) e ∙ append-nil (frames_in (bs ++ last ∷ [])) ∙ frames_last bs last

pub packed_long : (bs : List FrameList) → AllByRecursion IsFull bs → length (frames_in bs) ≡ take_frames * length bs
packed_long [] all = omega arith
packed_long (b ∷ bs) all =
    let inner = packed_long bs all.1 in
    let both = length-append b.list (frames_in bs) in
    let one = all.0.frames in
    omega (arith, inner, both, one)

-- which block has a frame
pub block_at : (bs : List FrameList) (rest : List Bytes) (q r : ℕ) (b : FrameList) → AllByRecursion IsFull bs → slice_get bs q ≡ Some b → r < take_frames
    → slice_get (frames_in bs ++ rest) (take_frames * q + r) ≡ slice_get b.list r
block_at [] rest q r b all at l = absurd (cc)
block_at (c ∷ bs) rest zero r b all at l =
    let is : c ≡ b = cc in
    let none : take_frames * zero + r ≡ r = omega arith in
    let one = all.0.frames in
    ap (slice_get ((c.list ++ frames_in bs) ++ rest)) none
    ∙ ap (λ (list : List Bytes). slice_get list r) (append_assoc c.list (frames_in bs) rest)
    ∙ get_left c.list (frames_in bs ++ rest) r (omega (arith, l, one))
    ∙ ap (λ (d : FrameList). slice_get d.list r) is
block_at (c ∷ bs) rest (suc q) r b all at l =
    let one = all.0.frames in
    let next : take_frames * suc q + r ≡ length c.list + (take_frames * q + r) = omega (arith, one) in
    ap (slice_get ((c.list ++ frames_in bs) ++ rest)) next
    ∙ ap (λ (list : List Bytes). slice_get list (length c.list + (take_frames * q + r))) (append_assoc c.list (frames_in bs) rest)
    ∙ get_right c.list (frames_in bs ++ rest) (take_frames * q + r)
    ∙ block_at bs rest q r b all.1 at l

-- a frame that no full block has is one of the last block
pub past_blocks : (bs : List FrameList) (rest : List Bytes) (q r : ℕ) → AllByRecursion IsFull bs → slice_get bs q ≡ None
    → take_frames * q + r < length (frames_in bs ++ rest) → length rest ≤ take_frames → (q ≡ length bs) × (r < length rest)
past_blocks bs rest q r all none within few =
    let past = none_past bs q none in
    let long = packed_long bs all in
    let both = length-append (frames_in bs) rest in
    let here : q ≡ length bs = omega (arith, past, long, both, within, few) in
    (here, omega (arith, here, long, both, within))

pub last_at : (bs : List FrameList) (rest : List Bytes) (q r : ℕ) → AllByRecursion IsFull bs → q ≡ length bs
    → slice_get (frames_in bs ++ rest) (take_frames * q + r) ≡ slice_get rest r
last_at bs rest q r all here =
    let long = packed_long bs all in
    let next : take_frames * q + r ≡ length (frames_in bs) + r = omega (arith, long, here) in
    ap (slice_get (frames_in bs ++ rest)) next ∙ get_right (frames_in bs) rest r

-- what is kept of the frames where they are cut off
pub cut_block : (bs : List FrameList) (rest : List Bytes) (q r : ℕ) (b : FrameList) → AllByRecursion IsFull bs → slice_get bs q ≡ Some b → r < take_frames
    → take (take_frames * q + r) (frames_in bs ++ rest) ≡ frames_in (take q bs) ++ take r b.list
cut_block [] rest q r b all at l = absurd (cc)
cut_block (c ∷ bs) rest zero r b all at l =
    let is : c ≡ b = cc in
    let none : take_frames * zero + r ≡ r = omega arith in
    let one = all.0.frames in
    ap (λ (n : ℕ). take n ((c.list ++ frames_in bs) ++ rest)) none
    ∙ ap (take r) (append_assoc c.list (frames_in bs) rest)
    ∙ take-append-le r c.list (frames_in bs ++ rest) (omega (arith, l, one))
    ∙ ap (λ (d : FrameList). take r d.list) is
cut_block (c ∷ bs) rest (suc q) r b all at l =
    let one = all.0.frames in
    let next : take_frames * suc q + r ≡ length c.list + (take_frames * q + r) = omega (arith, one) in
    ap (λ (n : ℕ). take n ((c.list ++ frames_in bs) ++ rest)) next
    ∙ ap (take (length c.list + (take_frames * q + r))) (append_assoc c.list (frames_in bs) rest)
    ∙ take-append-add c.list (frames_in bs ++ rest) (take_frames * q + r)
    ∙ ap (λ (list : List Bytes). c.list ++ list) (cut_block bs rest q r b all.1 at l)
    ∙ sym (append_assoc c.list (frames_in (take q bs)) (take r b.list))

pub cut_last : (bs : List FrameList) (rest : List Bytes) (q r : ℕ) → AllByRecursion IsFull bs → q ≡ length bs
    → take (take_frames * q + r) (frames_in bs ++ rest) ≡ frames_in bs ++ take r rest
cut_last bs rest q r all here =
    let long = packed_long bs all in
    let next : take_frames * q + r ≡ length (frames_in bs) + r = omega (arith, long, here) in
    ap (λ (n : ℕ). take n (frames_in bs ++ rest)) next ∙ take-append-add (frames_in bs) rest r

-- the first block
pub first_block : (bs : List FrameList) (last b : FrameList) → slice_get bs 0 ≡ Some b → packed bs last ≡ b.list ++ packed (drop 1 bs) last
first_block [] last b at = absurd (cc)
first_block (c ∷ bs) last b at =
    let is : c ≡ b = cc in
    append_assoc c.list (frames_in bs) last.list ∙ ap (λ (d : FrameList). d.list ++ (frames_in bs ++ last.list)) is

pub no_block : (bs : List FrameList) (last : FrameList) → slice_get bs 0 ≡ None → packed bs last ≡ last.list
no_block [] last at = refl
no_block (c ∷ bs) last at = absurd (cc)

pub no_full : (bs : List FrameList) → slice_get bs 0 ≡ None → bs ≡ []
no_full [] at = refl
no_full (c ∷ bs) at = absurd (cc)
