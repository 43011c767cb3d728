-- How the clock and the lengths of a disk that remembers its calls go on.
use Rattle.std.specs.Prelude.{Result, Ok, Err, OnOk, OnErr, MatchResult}
use Rattle.std.proofs.Common.{◌≡◌, ◌⊎◌, ◌<◌, ◌≤◌, ℕ, true, List, [], ◌∷◌, length, refl, sym, ap, subst, inl, inr, arith}
use Rattle.std.proofs.Math.Nat.{eq-or-lt_of_le}
use Rattle.std.proofs.lemmas.Result.{on_ok_weaker, on_err_weaker}
use Rattle.outside.specs.declared.sides.Side.{Side}
use Rattle.outside.specs.declared.sides.Side.TheVariants.{A, B}
use Rattle.outside.specs.declared.disk_calls.Call.{Call}
use Rattle.outside.specs.declared.disk_calls.Call.TheVariants.{Look, Write, Cut, Sync}
use Rattle.outside.specs.Sides.{Sides, side_of, On}
use Rattle.outside.specs.Crashes.{IsSettled}
use Rattle.outside.specs.Disks.{Elapses, GoesOn, BeginsAnew, Follows, Torn}
use Rattle.outside.specs.DiskCalls.{Remembered, read_after, IsImage, LeftSince, longest_after, remembers, refuses, reads_as}
use Rattle.outside.specs.WriteLaws.{torn_self}
use Rattle.outside.specs.SideLaws.{on_self, on_same}
use Rattle.outside.specs.DiskCallLaws.{calls_until-now, calls_until-more}

-- time between two states of such a disk
abbrev pub Passes : Remembered → Remembered → Type 0
Passes old new = Elapses (λ (d : Remembered). true) (λ (d : Remembered). IsImage d.start d.calls) (λ (d : Remembered). length d.calls) (λ (d : Remembered). LeftSince d.start d.calls) old new

earlier_or_now : (start : Sides) (call : Call) (calls : List Call) (t : ℕ) (c : Sides) → (left : LeftSince start (call ∷ calls) t c) → (left.moment ≡ length (call ∷ calls)) ⊎ (left.moment < length (call ∷ calls)) → LeftSince start calls t c ⊎ IsImage start (call ∷ calls) c
earlier_or_now start call calls t c left (inl now) = inr (subst (λ (made : List Call). IsImage start made c) (calls_until-now (call ∷ calls) left.moment (omega (arith, now))) left.image)
earlier_or_now start call calls t c left (inr earlier) = inl (record {
  moment = left.moment;
  since = left.since;
  until = omega (arith, earlier);
  image = subst (λ (made : List Call). IsImage start made c) (calls_until-more call calls left.moment (omega (arith, earlier))) left.image;
})

pub passes_call : (call : Call) (d : Remembered) → Passes d (remembers call d)
passes_call call d = record {
  told = refl;
  later = omega arith;
  nothing_else = λ t c _ left. earlier_or_now d.start call d.calls t c left (eq-or-lt_of_le left.until);
  keeps = λ t c _ left. record {
    moment = left.moment;
    since = left.since;
    until = omega (arith, left.until);
    image = subst (λ (made : List Call). IsImage d.start made c) (sym (calls_until-more call d.calls left.moment left.until)) left.image;
  };
}

pub passes_refused : (d : Remembered) → Passes d (refuses d)
passes_refused d = record { told = refl; later = omega arith; nothing_else = λ t c _ left. inl left; keeps = λ t c _ left. left }

-- a call that is remembered or refused
pub passes : {T E : Type 0} (r : Result T E) (call : Call) (old new : Remembered) → OnOk r (new ≡ remembers call old) → OnErr r (new ≡ refuses old) → Passes old new
passes (Ok x) call old new ok err = subst (λ (d : Remembered). Passes old d) (sym ok) (passes_call call old)
passes (Err x) call old new ok err = subst (λ (d : Remembered). Passes old d) (sym err) (passes_refused old)

-- a side reads no longer than its longest
longest_least : (start : Sides) (calls : List Call) (side : Side) → length (side_of (read_after start calls) side) ≤ longest_after start calls side
longest_least start [] side = omega arith
longest_least start (Look ∷ earlier) side = omega arith
longest_least start (Write at n piece ∷ earlier) side = omega arith
longest_least start (Cut at n ∷ earlier) side = omega arith
longest_least start (Sync A ∷ earlier) A = omega arith
longest_least start (Sync A ∷ earlier) B = omega arith
longest_least start (Sync B ∷ earlier) A = omega arith
longest_least start (Sync B ∷ earlier) B = omega arith

-- the call is no sync
abbrev pub Lengthens : Call → Type 0
Lengthens call = (start : Sides) (calls : List Call) → GoesOn (longest_after start calls) (longest_after start (call ∷ calls)) (read_after start (call ∷ calls))

pub look_lengthens : Lengthens Look
look_lengthens start calls side = refl

pub write_lengthens : (side : Side) (at : ℕ) (piece : List ℕ) → Lengthens (Write side at piece)
write_lengthens at n piece start calls side = refl

pub cut_lengthens : (side : Side) (len : ℕ) → Lengthens (Cut side len)
cut_lengthens at n start calls side = refl

stays : (d : Remembered) → GoesOn (longest_after d.start d.calls) (longest_after d.start d.calls) (reads_as d)
stays d side = let least = longest_least d.start d.calls side in omega (arith, least)

pub lengthens : {T E : Type 0} (r : Result T E) (call : Call) → Lengthens call → (old new : Remembered) → OnOk r (new ≡ remembers call old) → OnErr r (new ≡ refuses old)
    → GoesOn (longest_after old.start old.calls) (longest_after new.start new.calls) (reads_as new)
lengthens (Ok x) call more old new ok err = subst (λ (d : Remembered). GoesOn (longest_after old.start old.calls) (longest_after d.start d.calls) (reads_as d)) (sym ok) (more old.start old.calls)
lengthens (Err x) call more old new ok err = subst (λ (d : Remembered). GoesOn (longest_after old.start old.calls) (longest_after d.start d.calls) (reads_as d)) (sym err) (stays old)

synced : (side : Side) (start : Sides) (calls : List Call) → BeginsAnew side (longest_after start calls) (longest_after start (Sync side ∷ calls)) (read_after start calls)
synced A start calls = record { here = refl; there = refl }
synced B start calls = record { here = refl; there = refl }

pub begins_anew : {T E : Type 0} (r : Result T E) (side : Side) (old new : Remembered) → OnOk r (new ≡ remembers (Sync side) old) → OnErr r (new ≡ refuses old)
    → MatchResult r (λ _. BeginsAnew side (longest_after old.start old.calls) (longest_after new.start new.calls) (reads_as new)) (λ _. GoesOn (longest_after old.start old.calls) (longest_after new.start new.calls) (reads_as new))
begins_anew (Ok x) side old new ok err = subst (λ (d : Remembered). BeginsAnew side (longest_after old.start old.calls) (longest_after d.start d.calls) (reads_as d)) (sym ok) (synced side old.start old.calls)
begins_anew (Err x) side old new ok err = subst (λ (d : Remembered). GoesOn (longest_after old.start old.calls) (longest_after d.start d.calls) (reads_as d)) (sym err) (stays old)

-- what a write may leave it leaves torn, or as it was
pub write_follows : {T E : Type 0} (r : Result T E) (side : Side) (at : ℕ) (piece : List ℕ) (old new : Remembered) → OnOk r (new ≡ remembers (Write side at piece) old) → OnErr r (new ≡ refuses old)
    → Follows (On side (Torn at (length piece))) (IsImage old.start old.calls) (IsImage new.start new.calls)
write_follows (Ok x) side at piece old new ok err = subst (λ (d : Remembered). Follows (On side (Torn at (length piece))) (IsImage old.start old.calls) (IsImage d.start d.calls)) (sym ok) (λ c image. image)
write_follows (Err x) side at piece old new ok err = subst (λ (d : Remembered). Follows (On side (Torn at (length piece))) (IsImage old.start old.calls) (IsImage d.start d.calls)) (sym err) (λ c image. (c, image, on_self side (Torn at (length piece)) (torn_self at (length piece)) c))

-- and what it read as, where it failed
pub refused_write : {T E : Type 0} (r : Result T E) (side : Side) (at n : ℕ) (old new : Remembered) → OnErr r (new ≡ refuses old) → OnErr r (On side (Torn at n) (reads_as old) (reads_as new))
refused_write r side at n old new err = on_err_weaker r (λ e. on_same side (Torn at n) (torn_self at n) (reads_as old) (reads_as new) (ap reads_as e)) err

-- after a sync its side is settled
pub settles : {T E : Type 0} (r : Result T E) (side : Side) (old new : Remembered) → OnOk r (new ≡ remembers (Sync side) old) → OnOk r (IsSettled (IsImage new.start new.calls) side (side_of (reads_as old) side))
settles r side old new ok = on_ok_weaker r (λ e. subst (λ (d : Remembered). IsSettled (IsImage d.start d.calls) side (side_of (reads_as old) side)) (sym e) (λ c image. image.1)) ok
