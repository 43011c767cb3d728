-- Tests joined by `and`, as the branches of code leave them.
use Rattle.std.proofs.Common.{◌≡◌, Bool, true, false, refl, sym, ap, ◌∙◌}
use Rattle.std.specs.Prelude.{◌&&◌, ◌||◌}

-- the first test fails
pub and-first : (p q r : Bool) → p ≡ false → r ≡ false → r ≡ (p && q)
and-first p q r fails r_is = r_is ∙ rw fails refl

-- the first test passes, and the second decides
pub and-second : (p q r : Bool) → p ≡ true → r ≡ q → r ≡ (p && q)
and-second p q r passes r_is = r_is ∙ rw passes refl

-- the order of two tests does not matter
pub and-swap : (p q : Bool) → (p && q) ≡ (q && p)
and-swap true true = refl
and-swap true false = refl
and-swap false true = refl
and-swap false false = refl

pub and-true : (p : Bool) → (p && true) ≡ p
and-true true = refl
and-true false = refl

pub and-false : (p : Bool) → (p && false) ≡ false
and-false true = refl
and-false false = refl

-- of four tests the first fails; the second and the third fail; the first three pass, and the fourth decides
pub four-first : (a b c d : Bool) → a ≡ false → false ≡ (a && b && c && d)
four-first a b c d fails = rw fails refl

pub four-middle : (a b c d : Bool) → a ≡ true → (b && c) ≡ false → false ≡ (a && b && c && d)
four-middle a b c d passes fails = rw passes (ap (λ m. m && d) (sym fails))

pub four-last : (a b c d r : Bool) → a ≡ true → (b && c) ≡ true → r ≡ d → r ≡ (a && b && c && d)
four-last a b c d r passes others r_is = rw passes (r_is ∙ ap (λ m. m && d) (sym others))

-- the last two of three tests change places
pub and-third_second : (p q r : Bool) → (p && q && r) ≡ (p && r && q)
and-third_second true q r = and-swap q r
and-third_second false q r = refl

-- two tests that both pass
pub and-left : (p q : Bool) → (p && q) ≡ true → p ≡ true
and-left true q h = refl
and-left false q h = h

pub and-right : (p q : Bool) → (p && q) ≡ true → q ≡ true
and-right true q h = h
and-right false q h = cc

pub and-both : (p q : Bool) → p ≡ true → q ≡ true → (p && q) ≡ true
and-both p q h k = rw (h, k) refl

pub or-left : (p q : Bool) → p ≡ true → (p || q) ≡ true
or-left p q h = rw h refl

pub or-right : (p q : Bool) → q ≡ true → (p || q) ≡ true
or-right true q h = refl
or-right false q h = h

-- of two tests one passes
pub or-elim : {P : Type 0} (p q : Bool) → (p || q) ≡ true → (p ≡ true → P) → (q ≡ true → P) → P
or-elim true q h first second = first refl
or-elim false q h first second = second h
