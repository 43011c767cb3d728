-- The first sign of a list of characters.
use Rattle.std.proofs.Common.{◌≡◌, ◌≢◌, ℕ, List, [], ◌∷◌, ne_eqb, refl, ap, ◌∙◌}
use Rattle.byte_text.specs.Globs.{plain, signs}

pub plain_sign : (c : ℕ) (cs : List ℕ) → c ≢ 92 → signs (c ∷ cs) ≡ plain c ∷ signs cs
plain_sign c [] n = rw (ne_eqb c 92 n) refl
plain_sign c (d ∷ cs) n = rw (ne_eqb c 92 n) refl

pub plain_by : (all : List ℕ) (c : ℕ) (cs : List ℕ) → all ≡ c ∷ cs → c ≢ 92 → signs all ≡ plain c ∷ signs cs
plain_by all c cs e n = ap signs e ∙ plain_sign c cs n
