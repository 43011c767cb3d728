-- Laws of tests.
use Rattle.std.proofs.Common.{◌≡◌, ℤ, ◌≤ℤ◌, int_le, Bool, true, false, ◌&&◌, refl, sym, true≢false, rules}

-- what two tests together say is what each says
pub both_of : (a b : Bool) → (a && b) ≡ true → (a ≡ true) × (b ≡ true)
both_of true b e = (refl, e)
both_of false b e = absurd (true≢false (sym e))

-- a comparison that holds
pub is_le : (a b : ℤ) → int_le a b ≡ true → a ≤ℤ b
is_le a b e = search rules
