-- What an opening leaves of the disk.
use Rattle.std.specs.Prelude.{Result, Ok, Err, IfOk, IfErr}
use Rattle.std.proofs.Common.{◌≡◌, ◌⊎◌, ◌∙◌, ◌≤◌, ℕ, Bool, true, List, [], Option, None, Some, refl, sym, ap, subst, inl, inr}
use Rattle.byte_text.specs.Names.{Bytes}
use Rattle.outside.specs.declared.sides.Side.{Side}
use Rattle.outside.specs.declared.sides.Side.TheVariants.{A, B}
use Rattle.outside.specs.Sides.{Sides, side_of, other_side, Told, IfTold}
use Rattle.outside.specs.Crashes.{LeavesOnly}
use Rattle.outside.specs.CrashLaws.{begins, then, weaker, since_begin, if_told, told_next}
use Rattle.log_sides.specs.Texts.{StandsFor, newest}
use Rattle.log_sides.specs.Making.{WhileMade}
use Rattle.log_sides.specs.States.{SideIsSafe, IsLeft, SideLeads, IsLog}
use Rattle.log_sides.specs.Crashing.{leads_other, safe_weaker}
use Rattle.append_log.specs.Heads.{head_of, start_of, IsHeadedIn}
use Rattle.append_log.specs.Logs.{IsFresh}
use Rattle.append_log.specs.declared.side_heads.Start.{Start}
use Rattle.append_log.specs.declared.side_heads.Start.TheVariants.{Standing}
use Rattle.append_log.specs.declared.append_logs.AppendLog.{AppendLog}
use Rattle.journal.specs.Logs.{IsBehind, HoldsLog}
use Rattle.journal.specs.Keeping.{IsKept}
use Rattle.journal.specs.Openings.{IsAllSafe, IsUsed, IsBroken, IsBrokenIn, Looked, HoldsSince, IsLeftByOpening, fault_in}
use Rattle.journal.specs.declared.openings.OpenFault.TheVariants as fault_of
use Rattle.journal.specs.declared.side_replays.Stop.{Stop}
use Rattle.journal.specs.declared.side_replays.Stop.TheVariants as stop_of
use Rattle.journal.specs.Replaying.{TookAll}
use Rattle.journal.specs.Opened.{IsReplayed, LogRead}
use Rattle.journal.proofs.Steps.{kept_same}
use Rattle.journal.specs.Starts.{beside_used, fresh_behind}
use Rattle.journal.proofs.Found.{all_safe, side_safe, same_by_side, stands_read, holds_read, holds_made}

module _ {D : Type 0} (crashes : D → Bool) (seen : D → Option Sides) (images : D → Sides → Type 0) (moment : D → ℕ) (left_since : D → ℕ → Sides → Type 0) (faults : D → ℕ) where
  -- a side in use was read to its end
  pub log_read : {R : Type 0} (took : R → ℕ → List Bytes → Bytes → Type 0) (fault : ℕ → Bytes → Option ℕ) (old new : D) (side : Side) (v g len gate : ℕ) (replay : R) (log : AppendLog)
      → TookAll took fault crashes seen images old side v len 16 gate replay → Looked crashes seen images moment left_since faults side old new
      → log.side ≡ side → log.version ≡ v → log.generation ≡ g → log.gate ≡ gate
      → LogRead took fault crashes seen images old side v g len replay (λ batches. IsKept (crashes new) (seen new) (images new) log.side log.version log.generation log.gate None batches [])
  log_read took fault old new side v g len gate replay log all looked side_is version_is generation_is gate_is = record {
    batches = all.batches;
    taken = all.taken;
    whole = all.whole;
    holds = λ s safe used.
        let bytes = side_of s side in
        let here = side_safe (crashes old) (seen old) (images old) s side (λ x. x ≡ bytes) safe refl in
        let read = all.read g bytes here used.headed.first in
        holds_read s side v g len all.batches used (stands_read v g all.batches len gate bytes used.headed read.0 read.1);
    keeps = λ s safe used.
        let bytes = side_of s side in
        let here = side_safe (crashes old) (seen old) (images old) s side (λ x. x ≡ bytes) safe refl in
        let read = all.read g bytes here used.headed.first in
        let stands = stands_read v g all.batches len gate bytes used.headed read.0 read.1 in
        kept_same (crashes new) (seen new) (images new) side log.side v log.version g log.generation gate log.gate None all.batches [] side_is version_is generation_is gate_is (record {
          log = record {
            place = read.0.place;
            safe = safe_weaker (crashes new) (seen new) (images new) side (λ x. x ≡ bytes) (StandsFor v g all.batches) (λ x same. subst (StandsFor v g all.batches) (sym same) stands) (looked.safe bytes here);
          };
          beside = leads_other crashes seen images moment left_since side (λ x. x ≡ bytes) (IsBehind g) old new looked.told (looked.same bytes here)
              (side_safe (crashes old) (seen old) (images old) s (other_side side) (IsBehind g) safe (beside_used s side v g len used.used));
        });
  }

  -- while it was read nothing changed
  pub read_leaves : (old new : D) (side : Side) (s : Sides) → IsAllSafe (crashes old) (seen old) (images old) s
      → Looked crashes seen images moment left_since faults side old new → crashes old ≡ true → LeavesOnly moment left_since old new (λ c. c ≡ s)
  read_leaves old new side s safe looked told =
      let bytes = side_of s side in
      weaker moment left_since old new (IsLeft (images old) side (λ x. x ≡ bytes)) (λ c. c ≡ s)
      (λ c left. same_by_side side c s left.here (left.there ∙ ap (λ (t : Sides). side_of t (other_side side)) (safe.settled told left.earlier left.could)))
      ((looked.same bytes (side_safe (crashes old) (seen old) (images old) s side (λ x. x ≡ bytes) safe refl)).moments told)

  -- and the disk reads as before
  pub read_same : (old new : D) (side : Side) (s : Sides) → IsAllSafe (crashes old) (seen old) (images old) s
      → Looked crashes seen images moment left_since faults side old new → seen new ≡ Some s
  read_same old new side s safe looked =
      let bytes = side_of s side in
      let after = (looked.same bytes (side_safe (crashes old) (seen old) (images old) s side (λ x. x ≡ bytes) safe refl)).contents in
      let left = after.2 in
      let told = left.could in
      let before = safe.told in
      let same : left.earlier ≡ s = cc in
      after.1 ∙ ap (λ (t : Sides). Some t) (same_by_side side after.0 s left.here (left.there ∙ ap (λ (t : Sides). side_of t (other_side side)) same))

  -- and a crash leaves what it reads as
  pub read_safe : (old new : D) (side : Side) (s : Sides) → IsAllSafe (crashes old) (seen old) (images old) s
      → Looked crashes seen images moment left_since faults side old new → IsAllSafe (crashes new) (seen new) (images new) s
  read_safe old new side s safe looked = record {
    told = read_same old new side s safe looked;
    settled = λ told c image.
        let bytes = side_of s side in
        let yes = sym looked.told ∙ told in
        let left = (looked.same bytes (side_safe (crashes old) (seen old) (images old) s side (λ x. x ≡ bytes) safe refl)).images_now yes c image in
        same_by_side side c s left.here (left.there ∙ ap (λ (t : Sides). side_of t (other_side side)) (safe.settled yes left.earlier left.could));
  }

  -- a side that is read from behind its header
  pub took_from : {R : Type 0} (took : R → ℕ → List Bytes → Bytes → Type 0) (fault : ℕ → Bytes → Option ℕ) (disk : D) (side there : Side) (v len long at gate : ℕ) (replay : R)
      → there ≡ side → long ≡ len → at ≡ 16 → TookAll took fault crashes seen images disk there v long at gate replay → TookAll took fault crashes seen images disk side v len 16 gate replay
  took_from took fault disk side there v len long at gate replay is same first all =
      subst (λ (s : Side). TookAll took fault crashes seen images disk s v len 16 gate replay) is
      (subst (λ (n : ℕ). TookAll took fault crashes seen images disk there v n 16 gate replay) same
      (subst (λ (n : ℕ). TookAll took fault crashes seen images disk there v long n gate replay) first all))

  pub looked_from : (old new : D) (side there : Side) → there ≡ side → Looked crashes seen images moment left_since faults there old new
      → Looked crashes seen images moment left_since faults side old new
  looked_from old new side there is looked = subst (λ (s : Side). Looked crashes seen images moment left_since faults s old new) is looked

  -- the first side was made
  pub kept_made : (old new : D) (gate : ℕ) (s : Sides) → crashes new ≡ crashes old → IsAllSafe (crashes old) (seen old) (images old) s → IsFresh s
      → SideLeads crashes seen images moment left_since A (WhileMade 1 s.a) old new → IsLog (crashes new) (seen new) (images new) A newest 1 gate []
      → IsKept (crashes new) (seen new) (images new) A newest 1 gate None [] []
  kept_made old new gate s same safe fresh leads log = record {
    log = log;
    beside = leads_other crashes seen images moment left_since A (WhileMade 1 s.a) (IsBehind 1) old new same leads
        (side_safe (crashes old) (seen old) (images old) s B (IsBehind 1) safe (fresh_behind s 1 fresh));
  }

  pub made_leaves : (old new : D) (s : Sides) → IsAllSafe (crashes old) (seen old) (images old) s → IsFresh s
      → SideLeads crashes seen images moment left_since A (WhileMade 1 s.a) old new → crashes old ≡ true → LeavesOnly moment left_since old new (HoldsLog newest [])
  made_leaves old new s safe fresh leads told =
      weaker moment left_since old new (IsLeft (images old) A (WhileMade 1 s.a)) (HoldsLog newest [])
      (λ c left. holds_made s c fresh (left.there ∙ ap (λ (t : Sides). t.b) (safe.settled told left.earlier left.could)) left.here) (leads.moments told)

  -- both sides were synced
  pub start_safe : (old mid : D) (s : Sides) → seen old ≡ Some s → Told (seen old) (seen mid) (λ s t. t ≡ s)
      → SideIsSafe (crashes mid) (seen mid) (images mid) A (λ x. x ≡ s.a) → SideIsSafe (crashes mid) (seen mid) (images mid) B (λ x. x ≡ s.b)
      → IsAllSafe (crashes mid) (seen mid) (images mid) s
  start_safe old mid s told same a b =
      let next = told_next (seen old) (seen mid) s (λ s t. t ≡ s) told same in
      all_safe (crashes mid) (seen mid) (images mid) s (next.1 ∙ ap (λ (t : Sides). Some t) next.2) a b

  -- from then on whatever a crash leaves holds these batches
  pub holds_since : (old mid new : D) (s : Sides) (v : ℕ) (batches : List Bytes) (P : Sides → Type 0) → moment old ≤ moment mid → LeavesOnly moment left_since mid new P
      → ((c : Sides) → P c → HoldsLog v batches c) → ((c : Sides) → images mid c → c ≡ s) → HoldsLog v batches s
      → ((c : Sides) → left_since mid (moment mid) c → images mid c)
      → HoldsSince moment left_since old new v batches
  holds_since old mid new s v batches P later leaves f settled holds only_now = record {
    since = moment mid;
    begun = later;
    past = leaves.later;
    each = since_begin images moment left_since mid new (HoldsLog v batches) only_now (weaker moment left_since mid new P (HoldsLog v batches) f leaves)
        (λ c image. subst (HoldsLog v batches) (sym (settled c image)) holds);
  }

  -- the moments of an opening
  pub opening_leaves : (old mid new : D) (s : Sides) (P : Sides → Type 0) → seen old ≡ Some s → IfTold (seen old) (images old)
      → LeavesOnly moment left_since old mid (images old) → LeavesOnly moment left_since mid new P → ((c : Sides) → P c → (c ≡ s) ⊎ (IsFresh s × HoldsLog newest [] c))
      → LeavesOnly moment left_since old new (IsLeftByOpening (images old) s)
  opening_leaves old mid new s P told as_read one two f =
      then moment left_since old mid new (IsLeftByOpening (images old) s)
      (weaker moment left_since old mid (images old) (IsLeftByOpening (images old) s) (λ c image. inl image) one)
      (weaker moment left_since mid new P (IsLeftByOpening (images old) s) (λ c p. by_case c (f c p)) two)
    where
      by_case : (c : Sides) → (c ≡ s) ⊎ (IsFresh s × HoldsLog newest [] c) → IsLeftByOpening (images old) s c
      by_case c (inl same) = inl (subst (images old) (sym same) (if_told (seen old) s (images old) told as_read))
      by_case c (inr holds) = inr holds

  -- a log was read
  pub opened_read : {R : Type 0} (took : R → ℕ → List Bytes → Bytes → Type 0) (fault : ℕ → Bytes → Option ℕ) (old mid new : D) (side : Side) (v w g len : ℕ) (replay : R) (kept : List Bytes → Type 0)
      → moment old ≤ moment mid → crashes mid ≡ crashes old
      → ((s : Sides) → seen old ≡ Some s → IsAllSafe (crashes mid) (seen mid) (images mid) s) → ((s : Sides) → seen old ≡ Some s → IsUsed s side v g len)
      → ((s : Sides) → IsAllSafe (crashes mid) (seen mid) (images mid) s → crashes mid ≡ true → LeavesOnly moment left_since mid new (λ c. c ≡ s))
      → ((c : Sides) → left_since mid (moment mid) c → images mid c)
      → LogRead took fault crashes seen images mid side v g len replay kept → w ≡ v → IsReplayed took fault crashes seen moment left_since old new replay w kept
  opened_read took fault old mid new side v w g len replay kept later same all used leaves only_now read version_is = subst (λ (m : ℕ). IsReplayed took fault crashes seen moment left_since old new replay m kept) (sym version_is) (record {
    batches = read.batches;
    taken = read.taken;
    whole = read.whole;
    holds = λ s told. read.holds s (all s told) (used s told);
    keeps = λ s told. read.keeps s (all s told) (used s told);
    since = λ s told yes.
        let holds = read.holds s (all s told) (used s told) in
        holds_since old mid new s v read.batches (λ c. c ≡ s) later (leaves s (all s told) (same ∙ yes)) (λ c is. subst (HoldsLog v read.batches) (sym is) holds) ((all s told).settled (same ∙ yes)) holds only_now;
  })

  -- or one was begun
  pub opened_fresh : {R T E : Type 0} (r : Result T E) (took : R → ℕ → List Bytes → Bytes → Type 0) (fault : ℕ → Bytes → Option ℕ) (old mid new : D) (replay : R) (version : T → ℕ) (kept : T → List Bytes → Type 0)
      → moment old ≤ moment mid → crashes mid ≡ crashes old → took replay newest [] []
      → ((s : Sides) → seen old ≡ Some s → IsAllSafe (crashes mid) (seen mid) (images mid) s) → ((s : Sides) → seen old ≡ Some s → IsFresh s)
      → ((s : Sides) → IsAllSafe (crashes mid) (seen mid) (images mid) s → IsFresh s → crashes mid ≡ true → LeavesOnly moment left_since mid new (HoldsLog newest []))
      → ((c : Sides) → left_since mid (moment mid) c → images mid c)
      → ((s : Sides) → IsAllSafe (crashes mid) (seen mid) (images mid) s → IsFresh s → IfOk r (λ x. kept x [])) → IfOk r (λ x. version x ≡ newest)
      → IfOk r (λ x. IsReplayed took fault crashes seen moment left_since old new replay (version x) (kept x))
  opened_fresh (Err e) took fault old mid new replay version kept later same taken all fresh leaves only_now keeps newest_is = tt
  opened_fresh (Ok x) took fault old mid new replay version kept later same taken all fresh leaves only_now keeps newest_is = subst (λ (m : ℕ). IsReplayed took fault crashes seen moment left_since old new replay m (kept x)) (sym newest_is) (record {
    batches = [];
    taken = taken;
    whole = tt;
    holds = λ s told. inr (fresh s told, refl, refl);
    keeps = λ s told. keeps s (all s told) (fresh s told);
    since = λ s told yes.
        holds_since old mid new s newest [] (HoldsLog newest []) later (leaves s (all s told) (fresh s told) (same ∙ yes)) (λ c holds. holds) ((all s told).settled (same ∙ yes)) (inr (fresh s told, refl, refl)) only_now;
  })

-- a side in use, as a start tells it
pub used_start : (s : Sides) (side : Side) (v g len : ℕ) (start : Start) → Standing side v g len ≡ start → (start ≡ start_of (head_of s.a) (head_of s.b)) × IsHeadedIn s start
    → IsUsed s side v g len
used_start s side v g len start is found = record { used = sym (is ∙ found.0); headed = subst (IsHeadedIn s) (sym is) found.1 }

pub if_err_each : {T E : Type 0} (r : Result T E) (P : E → Type 0) → ((x : E) → P x) → IfErr r P
if_err_each (Ok x) P f = tt
if_err_each (Err e) P f = f e

-- what a disk tells stays
pub stays_told : (before after : Option Sides) (s : Sides) → before ≡ Some s → Told before after (λ s t. t ≡ s) → after ≡ Some s
stays_told before after s told same =
    let next = told_next before after s (λ s t. t ≡ s) told same in
    next.1 ∙ ap (λ (t : Sides). Some t) next.2

-- the same disk under another name
pub leaves_same : {D : Type 0} (moment : D → ℕ) (left_since : D → ℕ → Sides → Type 0) (old new : D) (P : Sides → Type 0) → new ≡ old → LeavesOnly moment left_since old new P
leaves_same {D} moment left_since old new P same = subst (λ (d : D). LeavesOnly moment left_since old d P) (sym same) (begins moment left_since old P)

pub told_same : {D : Type 0} (seen : D → Option Sides) (old new : D) (s : Sides) → new ≡ old → seen old ≡ Some s → seen new ≡ Some s
told_same {D} seen old new s same told = ap seen same ∙ told

-- a side that is damaged
pub broken_at : (stop : Stop) (side there : Side) (place : ℕ) → fault_in side stop ≡ fault_of.Damaged there place → (stop ≡ stop_of.Broken place) × (side ≡ there)
broken_at (stop_of.Broken at) side there place is =
    let sides : side ≡ there = cc is in
    let places : at ≡ place = cc is in
    (ap stop_of.Broken places, sides)
broken_at stop_of.Disk side there place is = absurd (cc is)
broken_at stop_of.Memory side there place is = absurd (cc is)

pub broken_in : (fault : ℕ → Bytes → Option ℕ) (s : Sides) (side there : Side) (v g len place : ℕ) → IsUsed s side v g len → side ≡ there → IsBroken fault v g (side_of s side) place
    → IsBrokenIn fault s there place
broken_in fault s side there v g len place used is broken =
    subst (λ (x : Side). IsBrokenIn fault s x place) is (record { version = v; generation = g; len = len; used = used.used; broken = broken })
