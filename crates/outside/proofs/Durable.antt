-- What a disk tells after a write and a sync.
use Rattle.std.proofs.Common.{◌≡◌, ℕ, List, length, subst, Option, Some, None}
use Rattle.outside.specs.declared.sides.Side.{Side}
use Rattle.outside.specs.Sides.{Sides, side_of, with_side, On, Told}
use Rattle.outside.specs.Disks.{write_over, Torn}
use Rattle.outside.specs.SideLaws.{on_with}
use Rattle.outside.specs.WriteLaws.{torn_done}

-- a write that was done, and a look
pub torn_written : (side : Side) (at : ℕ) (piece : List ℕ) (o p q : Option Sides)
    → Told o p (λ s t. t ≡ with_side s side (write_over at piece (side_of s side))) → Told p q (λ s t. t ≡ s) → Told o q (On side (Torn at (length piece)))
torn_written side at piece None None None one two = tt
torn_written side at piece (Some s) (Some t) (Some u) one two =
    subst (λ (v : Sides). On side (Torn at (length piece)) s v) (let e : with_side s side (write_over at piece (side_of s side)) ≡ u = cc in e)
    (on_with side (Torn at (length piece)) s (write_over at piece (side_of s side)) (torn_done at piece (side_of s side)))
torn_written side at piece None None (Some u) one two = absurd two
torn_written side at piece None (Some t) q one two = absurd one
torn_written side at piece (Some s) None q one two = absurd one
torn_written side at piece (Some s) (Some t) None one two = absurd two
