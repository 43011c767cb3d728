-- Laws of what a crash may leave: how a call of a disk carries on what holds of whatever a crash may leave.
use Rattle.std.proofs.Common.{◌≡◌, ◌≤◌, ℕ, inl, inr, ⊎_elim, subst, arith, Option, Some, None, refl}
use Rattle.outside.specs.Sides.{Sides, Told, IfTold}
use Rattle.outside.specs.Crashes.{EachImage, EachSince, LeavesOnly}

-- nothing happened yet
pub begins : {D : Type 0} (moment : D → ℕ) (left_since : D → ℕ → Sides → Type 0) (disk : D) (P : Sides → Type 0)
    → LeavesOnly moment left_since disk disk P
begins moment left_since disk P = record { later = omega arith; either = λ t c _ left. inl left }

-- one run of calls and then another
pub then : {D : Type 0} (moment : D → ℕ) (left_since : D → ℕ → Sides → Type 0) (old mid new : D) (P : Sides → Type 0)
    → LeavesOnly moment left_since old mid P → LeavesOnly moment left_since mid new P → LeavesOnly moment left_since old new P
then moment left_since old mid new P one two = record {
  later = omega (arith, one.later, two.later);
  either = λ t c earlier left. ⊎_elim (λ before. one.either t c earlier before) (λ p. inr p) (two.either t c (omega (arith, one.later)) left);
}

-- a fact that follows
pub weaker : {D : Type 0} (moment : D → ℕ) (left_since : D → ℕ → Sides → Type 0) (old new : D) (P Q : Sides → Type 0)
    → ((c : Sides) → P c → Q c) → LeavesOnly moment left_since old new P → LeavesOnly moment left_since old new Q
weaker moment left_since old new P Q f one =
    record { later = one.later; either = λ t c earlier left. ⊎_elim (λ before. inl before) (λ p. inr (f c p)) (one.either t c earlier left) }

-- what held of each image since a moment holds still
pub since_carries : {D : Type 0} (moment : D → ℕ) (left_since : D → ℕ → Sides → Type 0) (old new : D) (P : Sides → Type 0) (t : ℕ)
    → LeavesOnly moment left_since old new P → t ≤ moment old → EachSince left_since old t P → EachSince left_since new t P
since_carries moment left_since old new P t leaves earlier each c left = ⊎_elim (λ before. each c before) (λ p. p) (leaves.either t c earlier left)

-- and of each since the beginning, where it held of each image then (`only_now` is the disk's law)
pub since_begin : {D : Type 0} (images : D → Sides → Type 0) (moment : D → ℕ) (left_since : D → ℕ → Sides → Type 0) (old new : D) (P : Sides → Type 0)
    → ((c : Sides) → left_since old (moment old) c → images old c) → LeavesOnly moment left_since old new P → EachImage (images old) P
    → EachSince left_since new (moment old) P
since_begin images moment left_since old new P only_now leaves each =
    since_carries moment left_since old new P (moment old) leaves (omega arith) (λ c left. each c (only_now c left))

-- what a disk tells at Some, and what it tells after a call
pub if_told : (o : Option Sides) (s : Sides) (P : Sides → Type 0) → o ≡ Some s → IfTold o P → P s
if_told o s P e told = subst (λ (p : Option Sides). IfTold p P) e told

pub told_next : (o o' : Option Sides) (s : Sides) (P : Sides → Sides → Type 0) → o ≡ Some s → Told o o' P → (t : Sides) × (o' ≡ Some t) × P s t
told_next o o' s P e told = told_next_some o' s P (subst (λ (p : Option Sides). Told p o' P) e told)
  where
    told_next_some : (o' : Option Sides) (s : Sides) (P : Sides → Sides → Type 0) → Told (Some s) o' P → (t : Sides) × (o' ≡ Some t) × P s t
    told_next_some None s P told = absurd told
    told_next_some (Some t) s P told = (t, refl, told)
