-- How the calls of a disk carry on what holds of a side.
use Rattle.std.specs.Prelude.{Result, Ok, Err, OnOk, Bool, true, Option, Some}
use Rattle.std.proofs.Common.{◌≡◌, ◌∙◌, ℕ, refl, sym, ap, subst}
use Rattle.outside.specs.declared.sides.Side.{Side}
use Rattle.outside.specs.declared.sides.Side.TheVariants.{A, B}
use Rattle.outside.specs.Sides.{Sides, side_of, with_side, On, other_side, Told, IfTold}
use Rattle.outside.specs.Disks.{write_over, Follows}
use Rattle.outside.specs.Crashes.{IsSettled, EachImage, LeavesOnly}
use Rattle.outside.specs.SideLaws.{on_keeps}
use Rattle.outside.specs.CrashLaws.{begins, then, weaker, told_next, if_told}
use Rattle.byte_text.specs.Names.{Bytes}
use Rattle.log_sides.specs.States.{HasNow, IsHeld, SideIsSafe, IsLeft, SideLeads}
use Rattle.outside.specs.Crashes.{After}

-- the bytes that a side was given
pub given : (s : Sides) (side : Side) (bytes : Bytes) → side_of (with_side s side bytes) side ≡ bytes
given s A bytes = refl
given s B bytes = refl

pub other_other : (side : Side) → other_side (other_side side) ≡ side
other_other A = refl
other_other B = refl

-- what a disk tells is the one thing that it tells
told_settled : (o : Option Sides) (s : Sides) (side : Side) → o ≡ Some s → IsSettled (λ t. o ≡ Some t) side (side_of s side)
told_settled o s side told t e = let same : t ≡ s = cc in ap (λ (u : Sides). side_of u side) same

-- a step on a side that had P
stepped : (side : Side) (step : Bytes → Bytes → Type 0) (before : Sides → Type 0) (P Q : Bytes → Type 0)
    → EachImage before (λ c. P (side_of c side)) → ((x y : Bytes) → P x → step x y → Q y)
    → (c : Sides) → After (On side step) before c → IsLeft before side Q c
stepped side step before P Q each has c after = record {
  here = has (side_of after.0 side) (side_of c side) (each after.0 after.1) after.2.how;
  earlier = after.0;
  could = after.1;
  there = on_keeps side step after.0 c after.2;
}

-- a side that is safe
pub safe_now : (crashes : Bool) (seen : Option Sides) (images : Sides → Type 0) (side : Side) (P : Bytes → Type 0)
    → SideIsSafe crashes seen images side P → HasNow seen side P
safe_now crashes seen images side P safe = record { contents = safe.contents; told = safe.told; has = safe.has }

pub safe_held : (crashes : Bool) (seen : Option Sides) (images : Sides → Type 0) (side : Side) (P : Bytes → Type 0)
    → SideIsSafe crashes seen images side P → IsHeld crashes seen images side P
safe_held crashes seen images side P safe = record {
  now = record { contents = safe.contents; told = safe.told; has = safe.has };
  each = λ yes c image. subst P (sym (safe.settled yes c image)) safe.has;
}

pub safe_weaker : (crashes : Bool) (seen : Option Sides) (images : Sides → Type 0) (side : Side) (P Q : Bytes → Type 0)
    → ((x : Bytes) → P x → Q x) → SideIsSafe crashes seen images side P → SideIsSafe crashes seen images side Q
safe_weaker crashes seen images side P Q f safe =
    record { contents = safe.contents; told = safe.told; has = f (side_of safe.contents side) safe.has; settled = safe.settled }

-- what is held at the end of calls
pub leads_held : {D : Type 0} (crashes : D → Bool) (seen : D → Option Sides) (images : D → Sides → Type 0) (moment : D → ℕ) (left_since : D → ℕ
    → Sides → Type 0) (side : Side) (P : Bytes → Type 0) (old new : D)
    → crashes new ≡ crashes old → SideLeads crashes seen images moment left_since side P old new → IsHeld (crashes new) (seen new) (images new) side P
leads_held crashes seen images moment left_since side P old new same leads = record {
  now = record { contents = leads.contents.0; told = leads.contents.1; has = leads.contents.2.here };
  each = λ yes c image. (leads.images_now (sym same ∙ yes) c image).here;
}

-- the other side stays safe
pub leads_other : {D : Type 0} (crashes : D → Bool) (seen : D → Option Sides) (images : D → Sides → Type 0) (moment : D → ℕ) (left_since : D → ℕ
    → Sides → Type 0) (side : Side) (P Q : Bytes → Type 0) (old new : D)
    → crashes new ≡ crashes old → SideLeads crashes seen images moment left_since side P old new
    → SideIsSafe (crashes old) (seen old) (images old) (other_side side) Q → SideIsSafe (crashes new) (seen new) (images new) (other_side side) Q
leads_other crashes seen images moment left_since side P Q old new same leads safe =
    let left = leads.contents.2 in
    let bytes : side_of leads.contents.0 (other_side side) ≡ side_of safe.contents (other_side side) = left.there
    ∙ told_settled (seen old) safe.contents (other_side side) safe.told left.earlier left.could in
    record {
      contents = leads.contents.0;
      told = leads.contents.1;
      has = subst Q (sym bytes) safe.has;
      settled = λ yes c image. let l = leads.images_now (sym same ∙ yes) c image in l.there ∙ safe.settled (sym same ∙ yes) l.earlier l.could
          ∙ sym bytes;
    }

left_weaker : (before : Sides → Type 0) (side : Side) (P Q : Bytes → Type 0) → ((x : Bytes) → P x → Q x) → (c : Sides) → IsLeft before side P c
    → IsLeft before side Q c
left_weaker before side P Q f c left = record { here = f (side_of c side) left.here; earlier = left.earlier; could = left.could; there = left.there }

left_then : (before mid : Sides → Type 0) (side : Side) (P Q : Bytes → Type 0) → ((d : Sides) → mid d → IsLeft before side P d) → (c : Sides)
    → IsLeft mid side Q c → IsLeft before side Q c
left_then before mid side P Q one c left =
    let first = one left.earlier left.could in
    record { here = left.here; earlier = first.earlier; could = first.could; there = left.there ∙ first.there }

-- a fact that follows
pub leads_weaker : {D : Type 0} (crashes : D → Bool) (seen : D → Option Sides) (images : D → Sides → Type 0) (moment : D → ℕ) (left_since : D → ℕ
    → Sides → Type 0) (side : Side) (P Q : Bytes → Type 0) (old new : D)
    → ((x : Bytes) → P x → Q x) → SideLeads crashes seen images moment left_since side P old new
    → SideLeads crashes seen images moment left_since side Q old new
leads_weaker crashes seen images moment left_since side P Q old new f leads = record {
  contents = (leads.contents.0, leads.contents.1, left_weaker (λ s. seen old ≡ Some s) side P Q f leads.contents.0 leads.contents.2);
  images_now = λ told c image. left_weaker (images old) side P Q f c (leads.images_now told c image);
  moments = λ told. weaker moment left_since old new (IsLeft (images old) side P) (IsLeft (images old) side Q) (left_weaker (images old) side P Q f)
      (leads.moments told);
}

-- one run of calls and then another
pub leads_then : {D : Type 0} (crashes : D → Bool) (seen : D → Option Sides) (images : D → Sides → Type 0) (moment : D → ℕ) (left_since : D → ℕ
    → Sides → Type 0) (side : Side) (P : Bytes → Type 0) (old mid new : D)
    → crashes mid ≡ crashes old → SideLeads crashes seen images moment left_since side P old mid
    → SideLeads crashes seen images moment left_since side P mid new → SideLeads crashes seen images moment left_since side P old new
leads_then crashes seen images moment left_since side P old mid new same one two = record {
  contents = (
    two.contents.0,
    two.contents.1,
    left_then (λ s. seen old ≡ Some s) (λ s. seen mid ≡ Some s) side P P
        (λ d e. subst (λ (t : Sides). IsLeft (λ s. seen old ≡ Some s) side P t)
        (let told = one.contents.1 in let is : one.contents.0 ≡ d = cc in is) one.contents.2) two.contents.0 two.contents.2,
  );
  images_now = λ told c image. left_then (images old) (images mid) side P P (one.images_now told) c (two.images_now (same ∙ told) c image);
  moments = λ told. then moment left_since old mid new (IsLeft (images old) side P) (one.moments told)
      (weaker moment left_since mid new (IsLeft (images mid) side P) (IsLeft (images old) side P)
      (left_then (images old) (images mid) side P P (one.images_now told)) (two.moments (same ∙ told)));
}

-- a step on a side, of which each outcome has Q
pub leads_step : {D : Type 0} (crashes : D → Bool) (seen : D → Option Sides) (images : D → Sides → Type 0) (moment : D → ℕ) (left_since : D → ℕ
    → Sides → Type 0) (side : Side) (P Q : Bytes → Type 0) (step : Bytes → Bytes → Type 0) (old new : D)
    → IsHeld (crashes old) (seen old) (images old) side P → ((x y : Bytes) → P x → step x y → Q y)
    → Told (seen old) (seen new) (On side step) → Follows (On side step) (images old) (images new)
    → LeavesOnly moment left_since old new (After (On side step) (images old))
    → SideLeads crashes seen images moment left_since side Q old new
leads_step crashes seen images moment left_since side P Q step old new held has told crash moments =
    let s = held.now.contents in
    let after = told_next (seen old) (seen new) s (On side step) held.now.told told in
    record {
      contents = (
        after.0,
        after.1,
        stepped side step (λ s. seen old ≡ Some s) P Q
            (λ t e. subst P (sym (told_settled (seen old) s side held.now.told t e)) held.now.has) has after.0 (s, held.now.told, after.2),
      );
      images_now = λ yes c image. stepped side step (images old) P Q (held.each yes) has c (crash c image);
      moments = λ yes. weaker moment left_since old new (After (On side step) (images old)) (IsLeft (images old) side Q)
          (stepped side step (images old) P Q (held.each yes) has) moments;
    }

-- a side that was written and synced
pub safe_write : (crashes crashes' : Bool) (seen seen' : Option Sides) (images' : Sides → Type 0) (side : Side) (at : ℕ) (piece : Bytes) (P Q : Bytes
    → Type 0)
    → HasNow seen side P → ((x : Bytes) → P x → Q (write_over at piece x)) → crashes' ≡ crashes
    → Told seen seen' (λ s t. t ≡ with_side s side (write_over at piece (side_of s side)))
    → (crashes ≡ true → IfTold seen (λ s. IsSettled images' side (write_over at piece (side_of s side))))
    → SideIsSafe crashes' seen' images' side Q
safe_write crashes crashes' seen seen' images' side at piece P Q safe has same written durable =
    let s = safe.contents in
    let new = write_over at piece (side_of s side) in
    let after = told_next seen seen' s (λ s t. t ≡ with_side s side (write_over at piece (side_of s side))) safe.told written in
    let bytes : side_of after.0 side ≡ new = ap (λ (t : Sides). side_of t side) after.2 ∙ given s side new in
    record {
      contents = after.0;
      told = after.1;
      has = subst Q (sym bytes) (has (side_of s side) safe.has);
      settled = λ crash c image. if_told seen s (λ s. IsSettled images' side (write_over at piece (side_of s side))) safe.told
          (durable (sym same ∙ crash)) c image ∙ sym bytes;
    }

-- where the write was the last call
pub safe_written : {T E : Type 0} (r : Result T E) (crashes crashes' : Bool) (seen seen' : Option Sides) (images' : Sides
    → Type 0) (side : Side) (at : ℕ) (piece : Bytes) (P Q : Bytes → Type 0)
    → HasNow seen side P → ((x : Bytes) → P x → Q (write_over at piece x)) → crashes' ≡ crashes
    → OnOk r (Told seen seen' (λ s t. t ≡ with_side s side (write_over at piece (side_of s side))))
    → (crashes ≡ true → OnOk r (IfTold seen (λ s. IsSettled images' side (write_over at piece (side_of s side)))))
    → OnOk r (SideIsSafe crashes' seen' images' side Q)
safe_written (Err x) crashes crashes' seen seen' images' side at piece P Q safe has same written durable = tt
safe_written (Ok x) crashes crashes' seen seen' images' side at piece P Q safe has same written durable =
    safe_write crashes crashes' seen seen' images' side at piece P Q safe has same written durable

-- no call was made
pub leads_self : {D : Type 0} (crashes : D → Bool) (seen : D → Option Sides) (images : D → Sides → Type 0) (moment : D → ℕ) (left_since : D → ℕ
    → Sides → Type 0) (side : Side) (P : Bytes → Type 0) (disk : D)
    → SideIsSafe (crashes disk) (seen disk) (images disk) side P → SideLeads crashes seen images moment left_since side P disk disk
leads_self crashes seen images moment left_since side P disk safe = record {
  contents = (safe.contents, safe.told, record { here = safe.has; earlier = safe.contents; could = safe.told; there = refl });
  images_now = λ told c image. record { here = subst P (sym (safe.settled told c image)) safe.has; earlier = c; could = image; there = refl };
  moments = λ told. begins moment left_since disk (IsLeft (images disk) side P);
}

pub safe_look : (crashes crashes' : Bool) (seen seen' : Option Sides) (images images' : Sides → Type 0) (side : Side) (P : Bytes → Type 0)
    → SideIsSafe crashes seen images side P → crashes' ≡ crashes → Told seen seen' (λ s t. t ≡ s) → ((c : Sides) → images' c → images c)
    → SideIsSafe crashes' seen' images' side P
safe_look crashes crashes' seen seen' images images' side P safe same told crash =
    let s = safe.contents in
    let after = told_next seen seen' s (λ s t. t ≡ s) safe.told told in
    record {
      contents = after.0;
      told = after.1;
      has = subst (λ (t : Sides). P (side_of t side)) (sym after.2) safe.has;
      settled = λ yes c image. safe.settled (sym same ∙ yes) c (crash c image) ∙ ap (λ (t : Sides). side_of t side) (sym after.2);
    }
