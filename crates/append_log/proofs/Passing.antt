-- How a side is passed over.
use Rattle.std.specs.Prelude.{Bool, Option}
use Rattle.std.proofs.Common.{◌≡◌, ◌≤◌, ℕ, List, [], subst}
use Rattle.outside.specs.declared.sides.Side.{Side}
use Rattle.outside.specs.Sides.{Sides}
use Rattle.byte_text.specs.Names.{Bytes}
use Rattle.log_sides.specs.States.{SideIsSafe, SideLeads}
use Rattle.append_log.specs.Reading.{IsAtGate}
use Rattle.log_sides.specs.Crashing.{leads_then}

-- from an old disk, and a place, to what is read now
pub record Passes {D : Type 0} (crashes : D → Bool) (seen : D → Option Sides) (images : D → Sides → Type 0) (moment : D → ℕ) (left_since : D → ℕ → Sides → Type 0) (faults : D → ℕ) (side : Side) (len from : ℕ) (old now : D) (at : ℕ) : Type 0 where
  pub told : crashes now ≡ crashes old
  pub later : faults old ≤ faults now
  pub safe : (bytes : Bytes) → SideIsSafe (crashes old) (seen old) (images old) side (λ x. x ≡ bytes) → SideIsSafe (crashes now) (seen now) (images now) side (λ x. x ≡ bytes)
  pub same : (bytes : Bytes) → SideIsSafe (crashes old) (seen old) (images old) side (λ x. x ≡ bytes) → SideLeads crashes seen images moment left_since side (λ x. x ≡ bytes) old now
  pub gate : (v g : ℕ) (bytes : Bytes) → SideIsSafe (crashes old) (seen old) (images old) side (λ x. x ≡ bytes) → IsAtGate v g [] len from bytes → (bs : List Bytes) × IsAtGate v g bs len at bytes

-- one more call, on the side of a reader that is this one
pub safe_next : {D : Type 0} (crashes : D → Bool) (seen : D → Option Sides) (images : D → Sides → Type 0) (side other : Side) (now new : D) → other ≡ side
    → ((bytes : Bytes) → SideIsSafe (crashes now) (seen now) (images now) other (λ x. x ≡ bytes) → SideIsSafe (crashes new) (seen new) (images new) other (λ x. x ≡ bytes))
    → (bytes : Bytes) → SideIsSafe (crashes now) (seen now) (images now) side (λ x. x ≡ bytes) → SideIsSafe (crashes new) (seen new) (images new) side (λ x. x ≡ bytes)
safe_next crashes seen images side other now new e step =
    subst (λ (x : Side). (bytes : Bytes) → SideIsSafe (crashes now) (seen now) (images now) x (λ x. x ≡ bytes) → SideIsSafe (crashes new) (seen new) (images new) x (λ x. x ≡ bytes)) e step

pub same_next : {D : Type 0} (crashes : D → Bool) (seen : D → Option Sides) (images : D → Sides → Type 0) (moment : D → ℕ) (left_since : D → ℕ → Sides → Type 0) (faults : D → ℕ) (side other : Side) (len from at : ℕ) (old now new : D)
    → Passes crashes seen images moment left_since faults side len from old now at → other ≡ side
    → ((bytes : Bytes) → SideIsSafe (crashes now) (seen now) (images now) other (λ x. x ≡ bytes) → SideLeads crashes seen images moment left_since other (λ x. x ≡ bytes) now new)
    → (bytes : Bytes) → SideIsSafe (crashes old) (seen old) (images old) side (λ x. x ≡ bytes) → SideLeads crashes seen images moment left_since side (λ x. x ≡ bytes) old new
same_next {D} crashes seen images moment left_since faults side other len from at old now new passes e step bytes safe =
    leads_then crashes seen images moment left_since side (λ x. x ≡ bytes) old now new passes.told (passes.same bytes safe)
    (subst (λ (x : Side). (bytes : Bytes) → SideIsSafe (crashes now) (seen now) (images now) x (λ x. x ≡ bytes) → SideLeads crashes seen images moment left_since x (λ x. x ≡ bytes) now new) e step bytes (passes.safe bytes safe))
