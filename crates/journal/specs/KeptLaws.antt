-- What a journal keeps of its disk, an opening would find there.
use Rattle.std.proofs.Common.{◌≡◌, ℕ, Bool, true, List, Option, None, Some, sym, ap, subst}
use Rattle.byte_text.specs.Names.{Bytes}
use Rattle.outside.specs.declared.sides.Side.{Side}
use Rattle.outside.specs.Sides.{Sides, side_of, other_side}
use Rattle.outside.specs.Crashes.{EachImage}
use Rattle.log_sides.specs.Texts.{StandsFor}
use Rattle.log_sides.specs.States.{IsHeld}
use Rattle.log_sides.specs.Making.{IsShut}
use Rattle.log_sides.specs.Crashing.{safe_held}
use Rattle.log_rewrite.specs.declared.rewriters.Rewriter.{Rewriter}
use Rattle.journal.specs.Logs.{IsBehind, HoldsLog, HoldsOf}
use Rattle.journal.specs.Keeping.{IsBeside, IsKept}
use Rattle.journal.specs.Openings.{first_generation, opened_generation}
use Rattle.journal.specs.Standing.{holds, holds_of, of_any, shut_behind, stands_in}

-- what stands beside the side in use leaves it in use, whatever a crash leaves
pub beside_holds : (crashes : Bool) (seen : Option Sides) (images : Sides → Type 0) (side : Side) (g : ℕ) (r : Option Rewriter) (copied : List Bytes)
    → IsBeside crashes seen images side g r copied → IsHeld crashes seen images (other_side side) (IsBehind g)
beside_holds crashes seen images side g None copied beside = safe_held crashes seen images (other_side side) (IsBehind g) beside
beside_holds crashes seen images side g (Some r) copied beside =
    let held = subst (λ (s : Side). IsHeld crashes seen images s IsShut) beside.beside beside.new.shut in
    record {
      now = record {
        contents = held.now.contents;
        told = held.now.told;
        has =
            shut_behind g (side_of held.now.contents (other_side side)) held.now.has;
      };
      each = λ told c image. shut_behind g (side_of c (other_side side)) (held.each told c image);
    }

-- the disk tells its contents
pub kept_told : (crashes : Bool) (seen : Option Sides) (images : Sides
    → Type 0) (side : Side) (v g gate : ℕ) (r : Option Rewriter) (batches copied : List Bytes)
    → IsKept crashes seen images side v g gate r batches copied → (s : Sides) × (seen ≡ Some s)
kept_told crashes seen images side v g gate r batches copied kept = (kept.log.safe.contents, kept.log.safe.told)

-- which hold the committed batches
pub kept_now : (crashes : Bool) (seen : Option Sides) (images : Sides
    → Type 0) (side : Side) (v g gate : ℕ) (r : Option Rewriter) (batches copied : List Bytes)
    → IsKept crashes seen images side v g gate r batches copied → (s : Sides) → seen ≡ Some s → HoldsLog v batches s
kept_now crashes seen images side v g gate r batches copied kept s told =
    let safe = kept.log.safe in
    let held = beside_holds crashes seen images side g r copied kept.beside in
    let here = safe.told in
    let there = held.now.told in
    let used : safe.contents ≡ s = cc in
    let beside : held.now.contents ≡ s = cc in
    holds s side v g batches (subst (λ (x : Sides). StandsFor v g batches (side_of x side)) used safe.has)
    (subst (λ (x : Sides). IsBehind g (side_of x (other_side side))) beside held.now.has)

-- and so does whatever a crash may leave, in a log of this generation
pub kept_left : (crashes : Bool) (seen : Option Sides) (images : Sides
    → Type 0) (side : Side) (v g gate : ℕ) (r : Option Rewriter) (batches copied : List Bytes)
    → IsKept crashes seen images side v g gate r batches copied → crashes ≡ true → EachImage images (HoldsOf v g batches)
kept_left crashes seen images side v g gate r batches copied kept told c image =
    let safe = kept.log.safe in
    holds_of c side v g batches (subst (StandsFor v g batches) (sym (safe.settled told c image)) safe.has)
    ((beside_holds crashes seen images side g r copied kept.beside).each told c image)

pub kept_images : (crashes : Bool) (seen : Option Sides) (images : Sides
    → Type 0) (side : Side) (v g gate : ℕ) (r : Option Rewriter) (batches copied : List Bytes)
    → IsKept crashes seen images side v g gate r batches copied → crashes ≡ true → EachImage images (HoldsLog v batches)
kept_images crashes seen images side v g gate r batches copied kept told c image =
    of_any c v g batches (kept_left crashes seen images side v g gate r batches copied kept told c image)

-- of a log of the journal's generation
pub kept_generation : (crashes : Bool) (seen : Option Sides) (images : Sides
    → Type 0) (side : Side) (v g gate : ℕ) (r : Option Rewriter) (batches copied : List Bytes)
    → IsKept crashes seen images side v g gate r batches copied → (s : Sides) → seen ≡ Some s → opened_generation s ≡ g
kept_generation crashes seen images side v g gate r batches copied kept s told =
    let safe = kept.log.safe in
    let held = beside_holds crashes seen images side g r copied kept.beside in
    let here = safe.told in
    let there = held.now.told in
    let used : safe.contents ≡ s = cc in
    let beside : held.now.contents ≡ s = cc in
    ap first_generation
    (stands_in s side v g batches (subst (λ (x : Sides). StandsFor v g batches (side_of x side)) used safe.has)
    (subst (λ (x : Sides). IsBehind g (side_of x (other_side side))) beside held.now.has)).used
