-- What calls on one side of the disk leave of a journal.
use Rattle.std.proofs.Common.{◌≡◌, ◌∙◌, ◌<◌, ◌≤◌, ◌+◌, ◌^◌, ℕ, Bool, true, false, List, [], ◌∷◌, length, Option, None, Some, sym, ap, subst, arith, refl}
use Rattle.std.specs.Prelude.{Result, Ok, Err, IfOk, is_some}
use Rattle.byte_text.specs.Names.{Bytes}
use Rattle.outside.specs.declared.sides.Side.{Side}
use Rattle.outside.specs.Sides.{Sides, side_of, other_side}
use Rattle.outside.specs.Crashes.{LeavesOnly}
use Rattle.outside.specs.CrashLaws.{weaker}
use Rattle.log_sides.specs.Texts.{StandsFor, newest, written, max_side}
use Rattle.log_sides.specs.States.{HasNow, IsHeld, SideIsSafe, IsLeft, SideLeads, IsLog}
use Rattle.log_sides.specs.Making.{IsShut}
use Rattle.log_sides.specs.Crashing.{other_other, leads_other, safe_weaker}
use Rattle.log_sides.specs.Sealing.{length-sealed}
use Rattle.log_rewrite.specs.NewSides.{IsNewSide, IsPart}
use Rattle.log_rewrite.specs.declared.rewriters.Rewriter.{Rewriter}
use Rattle.journal.specs.Logs.{IsBehind}
use Rattle.journal.specs.Keeping.{IsBeside, IsKept, new_gate}
use Rattle.journal.specs.Standing.{older_behind, behind_short}

module _ {D : Type 0} (crashes : D → Bool) (seen : D → Option Sides) (images : D → Sides → Type 0) (moment : D → ℕ) (left_since : D → ℕ → Sides → Type 0) where
  -- what is held of the other side
  now_other : (side : Side) (P Q : Bytes → Type 0) (old new : D) → SideLeads crashes seen images moment left_since side P old new
      → HasNow (seen old) (other_side side) Q → HasNow (seen new) (other_side side) Q
  now_other side P Q old new leads now =
      let left = leads.contents.2 in
      let told = left.could in
      let before = now.told in
      let same : left.earlier ≡ now.contents = cc in
      record {
        contents = leads.contents.0;
        told = leads.contents.1;
        has = subst Q (sym (left.there ∙ ap (λ (s : Sides). side_of s (other_side side)) same)) now.has;
      }

  held_other : (side : Side) (P Q : Bytes → Type 0) (old new : D) → crashes new ≡ crashes old → SideLeads crashes seen images moment left_since side P old new
      → IsHeld (crashes old) (seen old) (images old) (other_side side) Q → IsHeld (crashes new) (seen new) (images new) (other_side side) Q
  held_other side P Q old new same leads held = record {
    now = now_other side P Q old new leads held.now;
    each = λ told c image. let left = leads.images_now (sym same ∙ told) c image in subst Q (sym left.there) (held.each (sym same ∙ told) left.earlier left.could);
  }

  -- what stands beside the side in use while that changes
  pub beside_stays : (side : Side) (g : ℕ) (P : Bytes → Type 0) (old new : D) (r : Option Rewriter) (copied : List Bytes) → crashes new ≡ crashes old
      → SideLeads crashes seen images moment left_since side P old new
      → IsBeside (crashes old) (seen old) (images old) side g r copied → IsBeside (crashes new) (seen new) (images new) side g r copied
  beside_stays side g P old new None copied same leads beside = leads_other crashes seen images moment left_since side P (IsBehind g) old new same leads beside
  beside_stays side g P old new (Some r) copied same leads beside = record {
    beside = beside.beside;
    next = beside.next;
    new = record {
      numbered = beside.new.numbered;
      place = beside.new.place;
      now = subst (λ (s : Side). HasNow (seen new) s (IsPart r.generation copied)) (sym beside.beside)
          (now_other side P (IsPart r.generation copied) old new leads (subst (λ (s : Side). HasNow (seen old) s (IsPart r.generation copied)) beside.beside beside.new.now));
      shut = subst (λ (s : Side). IsHeld (crashes new) (seen new) (images new) s IsShut) (sym beside.beside)
          (held_other side P IsShut old new same leads (subst (λ (s : Side). IsHeld (crashes old) (seen old) (images old) s IsShut) beside.beside beside.new.shut));
    };
  }

  -- the moments of calls on the side in use
  pub leaves_used : (side : Side) (g : ℕ) (P : Bytes → Type 0) (Q : Sides → Type 0) (old new : D) → crashes old ≡ true
      → IsHeld (crashes old) (seen old) (images old) (other_side side) (IsBehind g) → SideLeads crashes seen images moment left_since side P old new
      → ((c : Sides) → P (side_of c side) → IsBehind g (side_of c (other_side side)) → Q c) → LeavesOnly moment left_since old new Q
  leaves_used side g P Q old new told held leads f =
      weaker moment left_since old new (IsLeft (images old) side P) Q (λ c left. f c left.here (subst (IsBehind g) (sym left.there) (held.each told left.earlier left.could))) (leads.moments told)

  -- the side in use while the other one changes
  pub used_stays : (side there : Side) (P Q : Bytes → Type 0) (old new : D) → crashes new ≡ crashes old → there ≡ other_side side
      → SideLeads crashes seen images moment left_since there P old new
      → SideIsSafe (crashes old) (seen old) (images old) side Q → SideIsSafe (crashes new) (seen new) (images new) side Q
  used_stays side there P Q old new same is leads safe =
      let back : other_side there ≡ side = ap other_side is ∙ other_other side in
      subst (λ (s : Side). SideIsSafe (crashes new) (seen new) (images new) s Q) back
      (leads_other crashes seen images moment left_since there P Q old new same leads (subst (λ (s : Side). SideIsSafe (crashes old) (seen old) (images old) s Q) (sym back) safe))

  -- and the moments
  pub leaves_beside : (side there : Side) (P R : Bytes → Type 0) (Q : Sides → Type 0) (old new : D) → crashes old ≡ true → there ≡ other_side side
      → SideIsSafe (crashes old) (seen old) (images old) side R → SideLeads crashes seen images moment left_since there P old new
      → ((c : Sides) → R (side_of c side) → P (side_of c (other_side side)) → Q c) → LeavesOnly moment left_since old new Q
  leaves_beside side there P R Q old new told is safe leads f =
      let back : other_side there ≡ side = ap other_side is ∙ other_other side in
      weaker moment left_since old new (IsLeft (images old) there P) Q
      (λ c left.
      let stays : side_of c side ≡ side_of safe.contents side = ap (λ (s : Side). side_of c s) (sym back) ∙ left.there ∙ ap (λ (s : Side). side_of left.earlier s) back ∙ safe.settled told left.earlier left.could in
      f c (subst R (sym stays) safe.has) (subst (λ (s : Side). P (side_of c s)) is left.here))
      (leads.moments told)

  -- more was copied
  pub kept_copied : (side : Side) (v g gate : ℕ) (r s : Rewriter) (batches copied more : List Bytes) (old new : D) → crashes new ≡ crashes old
      → s.side ≡ r.side → s.generation ≡ r.generation
      → IsKept (crashes old) (seen old) (images old) side v g gate (Some r) batches copied
      → SideLeads crashes seen images moment left_since r.side IsShut old new
      → IsNewSide (crashes new) (seen new) (images new) r.side r.generation s.gate more
      → IsKept (crashes new) (seen new) (images new) side v g gate (Some s) batches more
  kept_copied side v g gate r s batches copied more old new same side_is generation_is kept leads grown = record {
    log = record { place = kept.log.place; safe = used_stays side r.side IsShut (StandsFor v g batches) old new same kept.beside.beside leads kept.log.safe };
    beside = record {
      beside = side_is ∙ kept.beside.beside;
      next = generation_is ∙ kept.beside.next;
      new = subst (λ (n : ℕ). IsNewSide (crashes new) (seen new) (images new) s.side n s.gate more) (sym generation_is)
          (subst (λ (t : Side). IsNewSide (crashes new) (seen new) (images new) t r.generation s.gate more) (sym side_is) grown);
    };
  }

  -- the new side was opened
  pub kept_finished : (side : Side) (v g gate last : ℕ) (r : Rewriter) (batches copied any : List Bytes) (old new : D) (P : Bytes → Type 0) → crashes new ≡ crashes old
      → IsKept (crashes old) (seen old) (images old) side v g gate (Some r) batches copied
      → SideLeads crashes seen images moment left_since r.side P old new
      → IsLog (crashes new) (seen new) (images new) r.side newest r.generation last copied
      → IsKept (crashes new) (seen new) (images new) r.side newest r.generation last None copied any
  kept_finished side v g gate last r batches copied any old new P same kept leads log =
      let back : other_side r.side ≡ side = ap other_side kept.beside.beside ∙ other_other side in
      record {
        log = log;
        beside = subst (λ (s : Side). SideIsSafe (crashes new) (seen new) (images new) s (IsBehind r.generation)) (sym back)
            (safe_weaker (crashes new) (seen new) (images new) side (StandsFor v g batches) (IsBehind r.generation)
            (λ x stands. older_behind v g r.generation batches x (omega (arith, kept.beside.next)) stands)
            (used_stays side r.side P (StandsFor v g batches) old new same kept.beside.beside leads kept.log.safe));
      }

  -- a new side was begun
  pub kept_begun : (side there : Side) (v g n gate : ℕ) (r : Rewriter) (batches : List Bytes) (old new : D) (P : Bytes → Type 0) → crashes new ≡ crashes old
      → there ≡ other_side side → n ≡ g + 1 → IsLog (crashes old) (seen old) (images old) side v g gate batches
      → SideLeads crashes seen images moment left_since there P old new
      → IsNewSide (crashes new) (seen new) (images new) there n r.gate [] → r.side ≡ there → r.generation ≡ n
      → IsKept (crashes new) (seen new) (images new) side v g gate (Some r) batches []
  kept_begun side there v g n gate r batches old new P same is next log leads begun side_is generation_is = record {
    log = record { place = log.place; safe = used_stays side there P (StandsFor v g batches) old new same is leads log.safe };
    beside = record {
      beside = side_is ∙ is;
      next = generation_is ∙ next;
      new = subst (λ (m : ℕ). IsNewSide (crashes new) (seen new) (images new) r.side m r.gate []) (sym generation_is)
          (subst (λ (t : Side). IsNewSide (crashes new) (seen new) (images new) t n r.gate []) (sym side_is) begun);
    };
  }

-- no new side is written
pub kept_idle : (crashes : Bool) (seen : Option Sides) (images : Sides → Type 0) (side : Side) (v g gate : ℕ) (r : Option Rewriter) (batches copied : List Bytes)
    → is_some r ≡ false → IsKept crashes seen images side v g gate r batches copied → IsKept crashes seen images side v g gate None batches copied
kept_idle crashes seen images side v g gate None batches copied idle kept = kept
kept_idle crashes seen images side v g gate (Some r) batches copied idle kept = absurd (let clash : true ≡ false = idle in cc)

-- the same, under other names
pub kept_same : (crashes : Bool) (seen : Option Sides) (images : Sides → Type 0) (side side' : Side) (v v' g g' gate gate' : ℕ) (r : Option Rewriter) (batches copied : List Bytes)
    → side' ≡ side → v' ≡ v → g' ≡ g → gate' ≡ gate → IsKept crashes seen images side v g gate r batches copied → IsKept crashes seen images side' v' g' gate' r batches copied
kept_same crashes seen images side side' v v' g g' gate gate' r batches copied side_is version_is generation_is gate_is kept =
    subst (λ (s : Side). IsKept crashes seen images s v' g' gate' r batches copied) (sym side_is)
    (subst (λ (m : ℕ). IsKept crashes seen images side m g' gate' r batches copied) (sym version_is)
    (subst (λ (n : ℕ). IsKept crashes seen images side v n gate' r batches copied) (sym generation_is)
    (subst (λ (n : ℕ). IsKept crashes seen images side v g n r batches copied) (sym gate_is) kept)))

-- the new side has room for a batch as it is written
pub new_gate_small : (r : Option Rewriter) → new_gate r ≤ 2 ^ 62
new_gate_small None = omega arith
new_gate_small (Some r) = omega (arith, r.placed)

pub written_fits : (records : Bytes) (n : ℕ) → n ≤ 2 ^ 62 → (0 < length records → n + length records + 10 ≤ 2 ^ 62) → n + length (written records) ≤ 2 ^ 62
written_fits [] n small fits = omega (arith, small)
written_fits (byte ∷ bytes) n small fits = let room = fits (omega arith) in omega (arith, room, length-sealed (byte ∷ bytes))

-- what stands beside the side in use, as bytes
pub record IsRead (crashes : Bool) (seen : Option Sides) (images : Sides → Type 0) (there : Side) (g : ℕ) : Type 0 where
  pub bytes : Bytes
  pub short : length bytes ≤ max_side
  pub behind : IsBehind g bytes
  pub reads : SideIsSafe crashes seen images there (λ x. x ≡ bytes)

pub read_beside : (crashes : Bool) (seen : Option Sides) (images : Sides → Type 0) (side there : Side) (g : ℕ) → there ≡ other_side side
    → SideIsSafe crashes seen images (other_side side) (IsBehind g) → IsRead crashes seen images there g
read_beside crashes seen images side there g is safe =
    let here = subst (λ (s : Side). SideIsSafe crashes seen images s (IsBehind g)) (sym is) safe in
    record {
      bytes = side_of here.contents there;
      short = behind_short g (side_of here.contents there) here.has;
      behind = here.has;
      reads = record { contents = here.contents; told = here.told; has = refl; settled = here.settled };
    }

-- two facts of what a call gave
pub if_ok_two : {T E : Type 0} (r : Result T E) (P Q S : T → Type 0) → ((x : T) → P x → Q x → S x) → IfOk r P → IfOk r Q → IfOk r S
if_ok_two (Ok x) P Q S f p q = f x p q
if_ok_two (Err e) P Q S f p q = tt

-- three
pub if_ok_three : {T E : Type 0} (r : Result T E) (P Q R S : T → Type 0) → ((x : T) → P x → Q x → R x → S x) → IfOk r P → IfOk r Q → IfOk r R → IfOk r S
if_ok_three (Ok x) P Q R S f p q s = f x p q s
if_ok_three (Err e) P Q R S f p q s = tt

-- and four
pub if_ok_four : {T E : Type 0} (r : Result T E) (O P Q R S : T → Type 0) → ((x : T) → O x → P x → Q x → R x → S x) → IfOk r O → IfOk r P → IfOk r Q → IfOk r R → IfOk r S
if_ok_four (Ok x) O P Q R S f o p q s = f x o p q s
if_ok_four (Err e) O P Q R S f o p q s = tt
