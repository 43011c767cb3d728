-- Laws of the calls that a disk in memory remembers.
use Rattle.std.specs.Prelude.{◌≡◌, ◌-◌, ◌≤◌, ℕ, suc, List, [], ◌∷◌, length, take, drop, max}
use Rattle.std.proofs.Common.{refl, sym, ap, subst, inl, inr, arith, length-take}
use Rattle.outside.specs.declared.sides.Side.{Side}
use Rattle.outside.specs.declared.sides.Side.TheVariants.{A, B}
use Rattle.outside.specs.declared.disk_calls.Call.{Call}
use Rattle.outside.specs.declared.disk_calls.Call.TheVariants.{Look, Write, Cut, Sync}
use Rattle.outside.specs.Sides.{Sides, side_of}
use Rattle.outside.specs.Disks.{write_over, Torn, CutOrNot}
use Rattle.outside.specs.DiskCalls.{read_after, IsImage, calls_until, LeftSince, longest_after}
use Rattle.outside.specs.SideLaws.{on_with, on_keeps}
use Rattle.outside.specs.WriteLaws.{length-write_over, torn_done, cut_done}

-- a disk as it reads is one of its images
pub read_is_image : (start : Sides) (calls : List Call) → IsImage start calls (read_after start calls)
read_is_image start [] = refl
read_is_image start (Look ∷ earlier) = read_is_image start earlier
read_is_image start (Write side at piece ∷ earlier) =
    let s = read_after start earlier in (
      s,
      read_is_image start earlier,
      on_with side (Torn at (length piece)) s (write_over at piece (side_of s side))
          (torn_done at piece (side_of s side)),
    )
read_is_image start (Cut side len ∷ earlier) =
    let s = read_after start earlier in
    (s, read_is_image start earlier, on_with side (CutOrNot len) s (take len (side_of s side)) (cut_done len (side_of s side)))
read_is_image start (Sync side ∷ earlier) = (read_is_image start earlier, refl)

torn_length_within : (at n most : ℕ) (piece old new read : List ℕ) → Torn at (length piece) old new → length old ≤ most
    → length new ≤ max most (length (write_over at piece read))
torn_length_within at n most piece old new read torn within = omega (arith, torn.no_longer, length-write_over at piece read)

cut_length_within : (n most most' : ℕ) (old new : List ℕ) → CutOrNot n old new → length old ≤ most → length new ≤ max most most'
cut_length_within n most most' old new (inl kept) within = omega (arith, ap length kept)
cut_length_within n most most' old new (inr cut) within = omega (arith, ap length cut, length-take n old)

-- no image is longer than the longest that the side read as since its last sync
pub image_within : (start : Sides) (calls : List Call) (c : Sides) (side : Side) → IsImage start calls c
    → length (side_of c side) ≤ longest_after start calls side
image_within start [] c side image = let same = ap (λ (s : Sides). length (side_of s side)) image in omega (arith, same)
image_within start (Look ∷ earlier) c A image = let before = image_within start earlier c A image in omega (arith, before)
image_within start (Look ∷ earlier) c B image = let before = image_within start earlier c B image in omega (arith, before)
image_within start (Write A at piece ∷ earlier) c A image =
    torn_length_within at 0 (longest_after start earlier A) piece image.0.a c.a (read_after start earlier).a image.2.how
    (image_within start earlier image.0 A image.1)
image_within start (Write A at piece ∷ earlier) c B image =
    let before = image_within start earlier image.0 B image.1 in
    let kept = ap length (on_keeps A (Torn at (length piece)) image.0 c image.2) in
    omega (arith, before, kept)
image_within start (Write B at piece ∷ earlier) c A image =
    let before = image_within start earlier image.0 A image.1 in
    let kept = ap length (on_keeps B (Torn at (length piece)) image.0 c image.2) in
    omega (arith, before, kept)
image_within start (Write B at piece ∷ earlier) c B image =
    torn_length_within at 0 (longest_after start earlier B) piece image.0.b c.b (read_after start earlier).b image.2.how
    (image_within start earlier image.0 B image.1)
image_within start (Cut A len ∷ earlier) c A image =
    cut_length_within len (longest_after start earlier A) (length (take len (read_after start earlier).a)) image.0.a c.a image.2.how
    (image_within start earlier image.0 A image.1)
image_within start (Cut A len ∷ earlier) c B image =
    let before = image_within start earlier image.0 B image.1 in
    let kept = ap length (on_keeps A (CutOrNot len) image.0 c image.2) in
    omega (arith, before, kept)
image_within start (Cut B len ∷ earlier) c A image =
    let before = image_within start earlier image.0 A image.1 in
    let kept = ap length (on_keeps B (CutOrNot len) image.0 c image.2) in
    omega (arith, before, kept)
image_within start (Cut B len ∷ earlier) c B image =
    cut_length_within len (longest_after start earlier B) (length (take len (read_after start earlier).b)) image.0.b c.b image.2.how
    (image_within start earlier image.0 B image.1)
image_within start (Sync A ∷ earlier) c A image = let same = ap length image.1 in omega (arith, same)
image_within start (Sync A ∷ earlier) c B image = let before = image_within start earlier c B image.0 in omega (arith, before)
image_within start (Sync B ∷ earlier) c A image = let before = image_within start earlier c A image.0 in omega (arith, before)
image_within start (Sync B ∷ earlier) c B image = let same = ap length image.1 in omega (arith, same)

-- all calls had been made now
pub calls_until-now : (calls : List Call) (moment : ℕ) → length calls ≤ moment → calls_until moment calls ≡ calls
calls_until-now calls moment now = let none : length calls - moment ≡ 0 = omega arith in ap (λ (j : ℕ). drop j calls) none

-- and one call more is not among those of an earlier moment
pub calls_until-more : (call : Call) (calls : List Call) (moment : ℕ) → moment ≤ length calls
    → calls_until moment (call ∷ calls) ≡ calls_until moment calls
calls_until-more call calls moment earlier = let one : length (call ∷ calls) - moment ≡ suc (length calls - moment) = omega arith
    in ap (λ (j : ℕ). drop j (call ∷ calls)) one

-- this moment is one of those since an earlier one
pub left_now : (start : Sides) (calls : List Call) (t : ℕ) (c : Sides) → t ≤ length calls → IsImage start calls c → LeftSince start calls t c
left_now start calls t c earlier image = record {
  moment = length calls;
  since = earlier;
  until = omega arith;
  image = subst (λ (made : List Call). IsImage start made c) (sym (calls_until-now calls (length calls) (omega arith))) image;
}

-- since this moment there is no other
pub only_left_now : (start : Sides) (calls : List Call) (c : Sides) → LeftSince start calls (length calls) c → IsImage start calls c
only_left_now start calls c left = subst (λ (made : List Call). IsImage start made c) (calls_until-now calls left.moment left.since) left.image

-- what may have been left since a moment may have been left since an earlier one
pub left_from_earlier : (start : Sides) (calls : List Call) (t u : ℕ) (c : Sides) → t ≤ u → LeftSince start calls u c → LeftSince start calls t c
left_from_earlier start calls t u c earlier left =
    record { moment = left.moment; since = omega (arith, left.since); until = left.until; image = left.image }
