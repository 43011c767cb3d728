-- Booleans, and what variants are built of.
use prog.Atomic.{either}
use Rattle.std.proofs.Common.{◌<◌, ◌≤◌, arith, eqb, eq-eqb, ne_eqb, ◌≢◌, ap, ◌≡◌, ◌⊎◌, ℕ, Bool, true, false, true≢false, List, refl, sym, inl, inr}
use Rattle.std.specs.Prelude.{Option, Some, None, ◌||◌, if◌then◌else◌, nat_lt}
use Rattle.std.proofs.lemmas.Bool.Decides.{nat_tests}
use Rattle.turn_lock.specs.declared.seat.Stage.{Stage}
use Rattle.turn_lock.specs.declared.seat.Stage.TheVariants.{Works}
use Rattle.turn_lock.specs.declared.seat.Hand.{Hand}
use Rattle.turn_lock.specs.declared.seat.Hand.TheVariants.{Holds}
use Rattle.turn_lock.specs.declared.seat.Post.{Post}
use Rattle.turn_lock.specs.declared.seat.Post.TheVariants.{Claims, Posts}

pub off : false ≡ true → ⊥
off e = true≢false (sym e)

pub not_true : (b : Bool) → (b ≡ true → ⊥) → b ≡ false
not_true true h = absurd (h refl)
not_true false h = refl

pub or_true : (a b : Bool) → (a || b) ≡ true → (a ≡ true) ⊎ (b ≡ true)
or_true true b e = inl refl
or_true false b e = inr e

pub or_left : (a b : Bool) → a ≡ true → (a || b) ≡ true
or_left true b e = refl
or_left false b e = absurd (off e)

pub or_right : (a b : Bool) → b ≡ true → (a || b) ≡ true
or_right true b e = refl
or_right false b e = e

pub some_is : {A : Type 0} {x y : A} → ◌≡◌ {A = Option A} (Some x) (Some y) → x ≡ y
some_is e = cc (e)

pub none_some : {A : Type 0} (x : A) → ◌≡◌ {A = Option A} None (Some x) → ⊥
none_some x e = cc (e)

pub works_is : {E : Type 0} {a b : List E} → ◌≡◌ {A = Stage E} (Works a) (Works b) → a ≡ b
works_is e = cc (e)

pub holds_is : {W : Type 0} {p q : ℕ} {v w : W} → ◌≡◌ {A = Hand W} (Holds p v) (Holds q w) → (p ≡ q) × (v ≡ w)
holds_is e = (cc (e), cc (e))

pub claims_is : {W : Type 0} {p q : ℕ} → ◌≡◌ {A = Post W} (Claims p) (Claims q) → p ≡ q
claims_is e = cc (e)

pub posts_is : {W : Type 0} {p q : ℕ} {v w : W} → ◌≡◌ {A = Post W} (Posts p v) (Posts q w) → (p ≡ q) × (v ≡ w)
posts_is e = (cc (e), cc (e))

-- a function of numbers, with another value at one number
abbrev pub put_at : {X : Type 0} → (ℕ → X) → ℕ → X → ℕ → X
put_at f p x q = if eqb q p then x else f q

pub put_here : {X : Type 0} (f : ℕ → X) (p : ℕ) (x : X) → put_at f p x p ≡ x
put_here f p x = ap (λ (b : Bool). if b then x else f p) (eq-eqb p p refl)

pub put_else : {X : Type 0} (f : ℕ → X) (p : ℕ) (x : X) (q : ℕ) → q ≢ p → put_at f p x q ≡ f q
put_else f p x q ne = ap (λ (b : Bool). if b then x else f q) (ne_eqb q p ne)

-- a function of numbers, with one value from a number on
abbrev pub put_from : (ℕ → ℕ) → ℕ → ℕ → ℕ → ℕ
put_from f n x q = if nat_lt q n then f q else x

pub put_before : (f : ℕ → ℕ) (n x q : ℕ) → q < n → put_from f n x q ≡ f q
put_before f n x q lt = let is : nat_lt q n ≡ true = grind (arith, nat_tests) in ap (λ (b : Bool). if b then f q else x) is

pub put_behind : (f : ℕ → ℕ) (n x q : ℕ) → n ≤ q → put_from f n x q ≡ x
put_behind f n x q le = let is : nat_lt q n ≡ false = grind (arith, nat_tests) in ap (λ (b : Bool). if b then f q else x) is

-- one number in place of another
abbrev pub instead : ℕ → ℕ → ℕ → ℕ
instead id other k = either (eqb k other) id k

pub instead_other : (id other k : ℕ) → k ≡ other → instead id other k ≡ id
instead_other id other k e = ap (λ (b : Bool). either b id k) (eq-eqb k other e)

pub instead_else : (id other k : ℕ) → k ≢ other → instead id other k ≡ k
instead_else id other k ne = ap (λ (b : Bool). either b id k) (ne_eqb k other ne)
