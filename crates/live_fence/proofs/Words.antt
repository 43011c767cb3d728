-- The words of a request, one after another.
use Rattle.std.proofs.Common.{◌≡◌, ◌≤◌, ℕ, zero, suc, ◌+◌, false, refl, ap, ◌∙◌, List, [], ◌∷◌, length, drop, arith}
use Rattle.std.specs.Prelude.{Some, ◌||◌, slice_get, codes}
use Rattle.byte_text.specs.Names.{Bytes, is_word}
use Rattle.live_fence.specs.FenceWord.{has_fence}

same_some : (a b : Bytes) → Some a ≡ Some b → a ≡ b
same_some a b e = cc e

pub fence_next : (words : List Bytes) (i : ℕ) (w : Bytes) → slice_get words i ≡ Some w
    → has_fence (drop i words) ≡ (is_word w (codes "FENCE") || has_fence (drop (i + 1) words))
fence_next [] i w at = absurd (cc)
fence_next (v ∷ words) zero w at = ap (λ (x : Bytes). is_word x (codes "FENCE") || has_fence words) (same_some v w at)
fence_next (v ∷ words) (suc i) w at =
    let same : suc (i + 1) ≡ suc i + 1 = omega arith in
    fence_next words i w at ∙ ap (λ (n : ℕ). is_word w (codes "FENCE") || has_fence (drop n (v ∷ words))) same

pub fence_past : (words : List Bytes) (i : ℕ) → length words ≤ i → has_fence (drop i words) ≡ false
fence_past [] zero h = refl
fence_past [] (suc i) h = refl
fence_past (v ∷ words) zero h = absurd (omega (arith, h))
fence_past (v ∷ words) (suc i) h = fence_past words i (omega (arith, h))
