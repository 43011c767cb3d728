-- Laws of steps on one side of a disk.
use Rattle.std.specs.Prelude.{◌≡◌, ℕ, List}
use Rattle.std.proofs.Common.{refl, sym, ap, subst, ◌∙◌}
use Rattle.outside.specs.declared.sides.Side.{Side}
use Rattle.outside.specs.declared.sides.Side.TheVariants.{A, B}
use Rattle.outside.specs.Sides.{Sides, side_of, with_side, other_side, On}

-- a step on one side to bytes that it may lead to
pub on_with : (side : Side) (P : List ℕ → List ℕ → Type 0) (s : Sides) (bytes : List ℕ) → P (side_of s side) bytes
    → On side P s (with_side s side bytes)
on_with A P s bytes how = record { changed = refl; how = how }
on_with B P s bytes how = record { changed = refl; how = how }

-- where the bytes of a side may stay, both sides may
pub on_self : (side : Side) (P : List ℕ → List ℕ → Type 0) → ((xs : List ℕ) → P xs xs) → (s : Sides) → On side P s s
on_self A P same s = record { changed = refl; how = same s.a }
on_self B P same s = record { changed = refl; how = same s.b }

pub on_same : (side : Side) (P : List ℕ → List ℕ → Type 0) → ((xs : List ℕ) → P xs xs) → (s t : Sides) → t ≡ s → On side P s t
on_same side P same s t e = subst (λ (u : Sides). On side P s u) (sym e) (on_self side P same s)

-- the other side stays
pub on_keeps : (side : Side) (P : List ℕ → List ℕ → Type 0) (old new : Sides) → On side P old new
    → side_of new (other_side side) ≡ side_of old (other_side side)
on_keeps A P old new step = ap (λ (s : Sides). s.b) step.changed
on_keeps B P old new step = ap (λ (s : Sides). s.a) step.changed

-- two sides that agree one by one are the same
pub same_sides : (s t : Sides) → s.a ≡ t.a → s.b ≡ t.b → s ≡ t
same_sides s t e f = ap (λ (a : List ℕ). record { a = a; b = s.b }) e ∙ ap (λ (b : List ℕ). record { a = t.a; b = b }) f
