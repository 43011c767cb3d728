-- A channel that is prepared, and put.
use Rattle.std.proofs.Common.{◌≡◌, ◌≤◌, ℕ, subst, List, arith}
use Rattle.std.specs.Prelude.{Option, Some, None, option_map}
use Rattle.fence_index.specs.declared.marks.Mark.{Mark}
use Rattle.fence_index.specs.declared.key_boxes.KeyBoxes.{KeyBoxes}
use Rattle.fence_index.specs.declared.ready.Ready.{Ready}
use Rattle.fence_index.specs.Boxed.{HasRoomIn}
use Rattle.fence_index.specs.Numbered.{IsPrepared, IsReadyFor}

-- the one that is prepared is the channel's
pub mark_is : (p : Option Ready) (r : Ready) (m : Mark) → p ≡ Some r → option_map (λ (x : Ready). x.mark) p ≡ Some m → r.mark ≡ m
mark_is p r m is e =
    let h : Some r.mark ≡ Some m = subst (λ (o : Option Ready). option_map (λ (x : Ready). x.mark) o ≡ Some m) is e in
    cc

pub none_there : {P : Type 0} (p : Option Ready) (m : Mark) → p ≡ None → option_map (λ (x : Ready). x.mark) p ≡ Some m → P
none_there p m is e =
    let h : option_map (λ (x : Ready). x.mark) None ≡ Some m = subst (λ (o : Option Ready). option_map (λ (x : Ready). x.mark) o ≡ Some m) is e in
    absurd (cc)

pub is_ready : (boxes : List KeyBoxes) (spare : ℕ) (p : Option Ready) (r : Ready) (m : Mark) → p ≡ Some r → r.mark ≡ m → IsPrepared boxes spare p → IsReadyFor boxes spare m r.boxes
is_ready boxes spare p r m is e h = subst (λ (k : Mark). IsReadyFor boxes spare k r.boxes) e (subst (IsPrepared boxes spare) is h)

-- room that is no less
pub still_prepared : (old new : List KeyBoxes) (before after : ℕ) (p : Option Ready) → before ≤ after → ((m : Mark) → HasRoomIn m old → HasRoomIn m new) → IsPrepared old before p → IsPrepared new after p
still_prepared old new before after None le kept h = tt
still_prepared old new before after (Some r) le kept h = record {
  is_fresh = h.is_fresh;
  spare_is = omega (arith, le, h.spare_is);
  room = kept r.mark h.room;
}

pub none_prepared : (boxes : List KeyBoxes) (spare : ℕ) (p : Option Ready) → p ≡ None → IsPrepared boxes spare p
none_prepared boxes spare None is = tt
none_prepared boxes spare (Some r) is = absurd (cc)
