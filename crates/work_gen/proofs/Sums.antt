-- Counts that stop at their end, and what lists of frames come to.
use Rattle.std.proofs.Common.{◌≡◌, ℕ, ◌+◌, List, [], ◌∷◌, ◌++◌, sym, ap, ◌∙◌, arith}
use Rattle.std.specs.Prelude.{length, take, Some, slice_get}
use Rattle.std.proofs.lemmas.List.Sums.{sum_by-append}
use Rattle.std.proofs.lemmas.Grind.{flat_map-append}
use Rattle.std.proofs.lemmas.List.{append-nil, take_more}
use Rattle.std.proofs.lemmas.Option.{slice_get_within, get_or_from_slice_get}
use Rattle.byte_text.specs.Names.{Bytes}
use Rattle.world_data.specs.Frames.{frame_bytes}
use Rattle.work_gen.specs.Frames.{message_count, all_of, messages_in, capped}

-- what was cut off is cut off from the sum too
pub cap_left : (a b : ℕ) → capped (capped a + b) ≡ capped (a + b)
cap_left a b = omega arith

pub cap_both : (a b : ℕ) → capped (capped a + capped b) ≡ capped (a + b)
cap_both a b = omega arith

pub cap_three : (a b c : ℕ) → capped (capped (capped a + capped b) + capped c) ≡ capped (a + (b + c))
cap_three a b c = omega arith

-- nothing more is added
pub cap_none : (a : ℕ) → capped (capped a + 0) ≡ capped a
cap_none a = omega arith

pub cap_assoc : (a b c : ℕ) → capped ((a + b) + c) ≡ capped (a + (b + c))
cap_assoc a b c = omega arith

pub all_snoc : (takes : List (List Bytes)) (frames : List Bytes) → all_of (takes ++ frames ∷ []) ≡ all_of takes ++ frames
all_snoc takes frames =
    flat_map-append (λ (f : List Bytes). f) takes (frames ∷ []) ∙ ap (λ (l : List Bytes). all_of takes ++ l) (append-nil frames)

pub messages_snoc : (takes : List (List Bytes)) (frames : List Bytes) → messages_in (all_of (takes ++ frames ∷ [])) ≡ messages_in (all_of takes) + messages_in frames
messages_snoc takes frames = ap (λ (l : List Bytes). messages_in l) (all_snoc takes frames) ∙ sum_by-append message_count (all_of takes) frames

pub bytes_snoc : (takes : List (List Bytes)) (frames : List Bytes) → frame_bytes (all_of (takes ++ frames ∷ [])) ≡ frame_bytes (all_of takes) + frame_bytes frames
bytes_snoc takes frames = ap (λ (l : List Bytes). frame_bytes l) (all_snoc takes frames) ∙ sum_by-append (λ (f : Bytes). length f) (all_of takes) frames

take_next : (frames : List Bytes) (i : ℕ) (x : Bytes) → slice_get frames i ≡ Some x → take (i + 1) frames ≡ take i frames ++ x ∷ []
take_next frames i x at = take_more frames i x (slice_get_within frames i x at) ∙ ap (λ (y : Bytes). take i frames ++ y ∷ []) (get_or_from_slice_get frames i x x at)

-- one frame more
pub messages_on : (frames : List Bytes) (i : ℕ) (x : Bytes) (t one u : ℕ) → slice_get frames i ≡ Some x → one ≡ messages_in (x ∷ []) → u ≡ capped (t + one) → t ≡ capped (messages_in (take i frames)) → u ≡ capped (messages_in (take (i + 1) frames))
messages_on frames i x t one u at is sum before =
    sum ∙ ap (λ (k : ℕ). capped (k + one)) before ∙ cap_left (messages_in (take i frames)) one ∙ ap (λ (k : ℕ). capped (messages_in (take i frames) + k)) is
    ∙ ap (λ (k : ℕ). capped k) (sym (ap (λ (l : List Bytes). messages_in l) (take_next frames i x at) ∙ sum_by-append message_count (take i frames) (x ∷ [])))

pub bytes_on : (frames : List Bytes) (i : ℕ) (x : Bytes) (t one u : ℕ) → slice_get frames i ≡ Some x → one ≡ length x → u ≡ capped (t + one) → t ≡ capped (frame_bytes (take i frames)) → u ≡ capped (frame_bytes (take (i + 1) frames))
bytes_on frames i x t one u at is sum before =
    let more : frame_bytes (take (i + 1) frames) ≡ frame_bytes (take i frames) + (0 + length x) = ap (λ (l : List Bytes). frame_bytes l) (take_next frames i x at) ∙ sum_by-append (λ (f : Bytes). length f) (take i frames) (x ∷ []) in
    let none : frame_bytes (take i frames) + length x ≡ frame_bytes (take i frames) + (0 + length x) = omega arith in
    sum ∙ ap (λ (k : ℕ). capped (k + one)) before ∙ cap_left (frame_bytes (take i frames)) one
    ∙ ap (λ (k : ℕ). capped (frame_bytes (take i frames) + k)) is
    ∙ ap (λ (k : ℕ). capped k) (none ∙ sym more)
