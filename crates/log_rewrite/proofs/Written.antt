-- What a disk tells after a write, and after a sync.
use Rattle.std.proofs.Common.{◌≡◌, ◌∙◌, ℕ, List, length, subst, sym, ap, Option, Some, None}
use Rattle.outside.specs.declared.sides.Side.{Side}
use Rattle.outside.specs.Sides.{Sides, side_of, with_side, On, Told}
use Rattle.outside.specs.Disks.{write_over, Torn}
use Rattle.outside.specs.SideLaws.{on_with}
use Rattle.outside.specs.CrashLaws.{told_next}
use Rattle.outside.specs.WriteLaws.{torn_done}
use Rattle.byte_text.specs.Names.{Bytes}
use Rattle.log_sides.specs.States.{HasNow}
use Rattle.log_sides.specs.Crashing.{given}

-- a write that was done is one that was torn nowhere
pub told_torn : (side : Side) (at : ℕ) (piece : List ℕ) (o p : Option Sides) → Told o p (λ s t. t ≡ with_side s side (write_over at piece (side_of s side))) → Told o p (On side (Torn at (length piece)))
told_torn side at piece None None one = tt
told_torn side at piece None (Some t) one = absurd one
told_torn side at piece (Some s) None one = absurd one
told_torn side at piece (Some s) (Some t) one =
    subst (λ (v : Sides). On side (Torn at (length piece)) s v) (sym one) (on_with side (Torn at (length piece)) s (write_over at piece (side_of s side)) (torn_done at piece (side_of s side)))

-- what a side has after a write
pub now_write : (seen seen' : Option Sides) (side : Side) (at : ℕ) (piece : Bytes) (P Q : Bytes → Type 0) → HasNow seen side P → ((x : Bytes) → P x → Q (write_over at piece x))
    → Told seen seen' (λ s t. t ≡ with_side s side (write_over at piece (side_of s side))) → HasNow seen' side Q
now_write seen seen' side at piece P Q now has told =
    let s = now.contents in
    let new = write_over at piece (side_of s side) in
    let after = told_next seen seen' s (λ s t. t ≡ with_side s side (write_over at piece (side_of s side))) now.told told in
    let bytes : side_of after.0 side ≡ new = ap (λ (t : Sides). side_of t side) after.2 ∙ given s side new in
    record { contents = after.0; told = after.1; has = subst Q (sym bytes) (has (side_of s side) now.has) }
