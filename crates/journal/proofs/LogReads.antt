-- What the reading of a log leaves of the disk.
use Rattle.std.specs.Prelude.{Result, Ok, Err, OnOk}
use Rattle.std.proofs.Common.{◌≡◌, ℕ, Bool, List, [], Option, Some, refl, sym, subst, inr}
use Rattle.byte_text.specs.Names.{Bytes}
use Rattle.outside.specs.declared.sides.Side.{Side}
use Rattle.outside.specs.Sides.{Sides, side_of, IfTold}
use Rattle.outside.specs.Crashes.{LeavesOnly}
use Rattle.outside.specs.CrashLaws.{then, weaker, if_told}
use Rattle.log_sides.specs.Texts.{newest}
use Rattle.append_log.specs.Logs.{IsFresh}
use Rattle.journal.specs.Openings.{IsAllSafe, IsUsed}
use Rattle.journal.specs.Replaying.{TookAll}
use Rattle.journal.specs.Reads.{IsRead, SideRead}
use Rattle.journal.proofs.Found.{side_safe, stands_read, holds_read}

pub on_ok : {T E : Type 0} (r : Result T E) (P Q : Type 0) → (P → Q) → OnOk r P → OnOk r Q
on_ok (Ok x) P Q f p = f p
on_ok (Err e) P Q f p = tt

pub on_all : {T E : Type 0} (r : Result T E) (P : Type 0) → P → OnOk r P
on_all (Ok x) P p = p
on_all (Err e) P p = tt

module _ {D : Type 0} (crashes : D → Bool) (seen : D → Option Sides) (images : D → Sides → Type 0) (moment : D → ℕ) (left_since : D → ℕ → Sides → Type 0) where
  -- a side in use was read to its end
  pub side_read : {R : Type 0} (took : R → ℕ → List Bytes → Bytes → Type 0) (fault : ℕ → Bytes → Option ℕ) (old : D) (side : Side) (v g len gate : ℕ) (replay : R)
      → TookAll took fault crashes seen images old side v len 16 gate replay → SideRead took fault crashes seen images old side v g len replay
  side_read took fault old side v g len gate replay all = record {
    batches = all.batches;
    taken = all.taken;
    whole = all.whole;
    holds = λ s safe used.
        let bytes = side_of s side in
        let here = side_safe (crashes old) (seen old) (images old) s side (λ x. x ≡ bytes) safe refl in
        let read = all.read g bytes here used.headed.first in
        holds_read s side v g len all.batches used (stands_read v g all.batches len gate bytes used.headed read.0 read.1);
  }

  -- so the log of a disk was
  pub log_side_read : {R : Type 0} (took : R → ℕ → List Bytes → Bytes → Type 0) (fault : ℕ → Bytes → Option ℕ) (old mid : D) (side : Side) (v g len : ℕ) (replay : R)
      → ((s : Sides) → seen old ≡ Some s → IsAllSafe (crashes mid) (seen mid) (images mid) s) → ((s : Sides) → seen old ≡ Some s → IsUsed s side v g len)
      → SideRead took fault crashes seen images mid side v g len replay → IsRead took fault (seen old) replay
  log_side_read took fault old mid side v g len replay all used read = record {
    version = v;
    batches = read.batches;
    taken = read.taken;
    whole = read.whole;
    holds = λ s told. read.holds s (all s told) (used s told);
  }

  -- the moments of a reading
  pub reading_leaves : (old mid new : D) (s : Sides) → seen old ≡ Some s → IfTold (seen old) (images old)
      → LeavesOnly moment left_since old mid (images old) → LeavesOnly moment left_since mid new (λ c. c ≡ s)
      → LeavesOnly moment left_since old new (images old)
  reading_leaves old mid new s told as_read one two =
      then moment left_since old mid new (images old) one
      (weaker moment left_since mid new (λ c. c ≡ s) (images old) (λ c same. subst (images old) (sym same) (if_told (seen old) s (images old) told as_read)) two)

-- or there is none
pub no_log_read : {R : Type 0} (took : R → ℕ → List Bytes → Bytes → Type 0) (fault : ℕ → Bytes → Option ℕ) (seen : Option Sides) (replay : R) → took replay newest [] []
    → ((s : Sides) → seen ≡ Some s → IsFresh s) → IsRead took fault seen replay
no_log_read took fault seen replay taken fresh = record {
  version = newest;
  batches = [];
  taken = taken;
  whole = tt;
  holds = λ s told. inr (fresh s told, refl, refl);
}
