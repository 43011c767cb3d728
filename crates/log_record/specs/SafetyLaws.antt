-- How a disk stays safe.
use Rattle.std.proofs.Common.{◌≡◌, ◌≤◌, ◌<◌, ◌⊎◌, ◌||◌, ℕ, suc, Bool, true, false, List, [], ◌∷◌, ◌++◌, length, take, refl, sym, ap, subst, ◌∙◌, arith}
use Rattle.std.proofs.Common.{inl, inr, ⊎_elim, length-append}
use Rattle.std.proofs.lemmas.List.{take_all, take-append-le}
use Rattle.std.proofs.Math.Nat.{eq-or-lt_of_le}
use Rattle.outside.specs.Sides.{Sides}
use Rattle.outside.specs.Crashes.{EachImage, LeavesOnly}
use Rattle.world_model.specs.Histories.{gave, rewrote, acknowledges, acked_count}
use Rattle.world_data.specs.declared.worlds.World.{World}
use Rattle.world_model.specs.declared.events.Entry.{Entry}
use Rattle.log_record.specs.Recovery.{Recovers, Holds}
use Rattle.log_record.specs.Safety.{moment_after, Passes, RecoversPassed, IsSafe, Safe}
use Rattle.log_record.specs.RecoveryLaws.{one_world}
use Rattle.log_record.specs.Laws.{FewerStaySafe, FramesStaySafe}
use Rattle.log_record.specs.Acknowledged.{acked_within, acked_take, acked_fewer, acked_more, moment_last}

-- fewer entries need be held, and more worlds are passed
pub passed_still : (Worlds More : ℕ → World → Type 0) (least less most mostly : ℕ) (image : Sides) → less ≤ least → most ≤ mostly
    → ((m : ℕ) (w : World) → m ≤ most → Worlds m w → More m w) → RecoversPassed Worlds least most image → RecoversPassed More less mostly image
passed_still Worlds More least less most mostly image lower higher more found = record {
  count = found.count;
  at_least = omega (arith, lower, found.at_least);
  at_most = omega (arith, higher, found.at_most);
  world = found.world;
  passed = more found.count found.world found.at_most found.passed;
  recovers = found.recovers;
}

-- the world that an image of now is recovered as was passed, with all that is acknowledged
pub committed_passed : {D : Type 0} (images : D → Sides → Type 0) (moment : D → ℕ) (left_since : D → ℕ → Sides → Type 0) (disk : D) (start : ℕ)
    (entries : List Entry) (Worlds : ℕ → World → Type 0) (w : World)
    → ((t : ℕ) (c : Sides) → t ≤ moment disk → images disk c → left_since disk t c)
    → IsSafe acknowledges left_since disk start entries Worlds → moment_after start entries ≤ moment disk → Holds (images disk) w
    → (m : ℕ) × (acked_count acknowledges entries ≤ m) × (m ≤ length entries) × Worlds m w
committed_passed images moment left_since disk start entries Worlds w counts_now safe past holds =
    let all = take_all (length entries) entries (omega arith) in
    let c = holds.some.0 in
    let found = subst (λ (l : List Entry). (c : Sides) → left_since disk (moment_after start l) c
    → RecoversPassed Worlds (acked_count acknowledges l) (length entries) c) all (safe (length entries) (omega arith)) c
    (counts_now (moment_after start entries) c past holds.some.1) in (
      found.count,
      found.at_least,
      found.at_most,
      subst (λ (v : World). Worlds found.count v) (one_world c found.world w found.recovers (holds.each c holds.some.1)) found.passed,
    )

-- a disk that is safe by a mark is safe by each that marks fewer entries
pub safe_by_fewer : {D : Type 0} (left_since : D → ℕ → Sides → Type 0) (less more : Entry → Bool) (disk : D) (start : ℕ) (entries : List Entry)
    (Worlds : ℕ → World → Type 0) → ((e : Entry) → less e ≡ true → more e ≡ true) → IsSafe more left_since disk start entries Worlds
    → IsSafe less left_since disk start entries Worlds
safe_by_fewer left_since less more disk start entries Worlds fewer safe n few c left =
    passed_still Worlds Worlds (acked_count more (take n entries)) (acked_count less (take n entries)) (length entries) (length entries) c
    (acked_fewer less more fewer (take n entries)) (omega arith) (λ m w le passes. passes) (safe n few c left)

gave_acknowledges : (e : Entry) → gave e ≡ true → acknowledges e ≡ true
gave_acknowledges e gives = ap (λ (b : Bool). b || rewrote e) gives

pub fewer_stay_safe : {D : Type 0} (left_since : D → ℕ → Sides → Type 0) → FewerStaySafe left_since
fewer_stay_safe left_since less more disk o entries = safe_by_fewer left_since less more disk o.moment entries (Passes o entries)

pub frames_stay_safe : {D : Type 0} (left_since : D → ℕ → Sides → Type 0) → FramesStaySafe left_since
unfolding Safe
frames_stay_safe left_since disk o entries = fewer_stay_safe left_since gave acknowledges disk o entries gave_acknowledges

-- one entry more
pub safe_with_one_more : {D : Type 0} (images : D → Sides → Type 0) (moment : D → ℕ) (left_since : D → ℕ → Sides → Type 0) (old new : D) (start : ℕ)
    (entries : List Entry) (e : Entry) (Worlds More : ℕ → World → Type 0)
    → ((t : ℕ) (c : Sides) → t ≤ moment new → images new c → left_since new t c)
    → ((c : Sides) → left_since new (moment new) c → images new c)
    → ((m : ℕ) (w : World) → m ≤ length entries → Worlds m w → More m w)
    → ((n : ℕ) → moment_after start (take n entries) ≤ moment old)
    → IsSafe acknowledges left_since old start entries Worlds
    → LeavesOnly moment left_since old new (RecoversPassed Worlds (acked_count acknowledges entries) (length entries))
    → e.moment ≡ moment new
    → (acknowledges e ≡ true → EachImage (images new) (λ c. (w : World) × More (suc (length entries)) w × Recovers c w))
    → IsSafe acknowledges left_since new start (entries ++ e ∷ []) More
safe_with_one_more {D} images moment left_since old new start entries e Worlds More counts_now only_now more past safe leaves at_end shown n within =
    by_place (eq-or-lt_of_le within)
  where
    long : length (entries ++ e ∷ []) ≡ suc (length entries)
    long = omega (arith, length-append entries (e ∷ []))

    -- since the end of the first m of the old entries
    earlier : (m : ℕ) → m ≤ length entries → (c : Sides) → left_since new (moment_after start (take m entries)) c
        → RecoversPassed More (acked_count acknowledges (take m entries)) (length (entries ++ e ∷ [])) c
    earlier m few c left = ⊎_elim
        (λ before. passed_still Worlds More (acked_count acknowledges (take m entries)) (acked_count acknowledges (take m entries)) (length entries)
        (length (entries ++ e ∷ [])) c (omega arith) (omega (arith, long)) more (safe m few c before))
        (λ inside. passed_still Worlds More (acked_count acknowledges entries) (acked_count acknowledges (take m entries)) (length entries)
        (length (entries ++ e ∷ [])) c (acked_take acknowledges m entries) (omega (arith, long)) more inside)
        (leaves.either (moment_after start (take m entries)) c (past m) left)

    all : take (length entries) entries ≡ entries
    all = take_all (length entries) entries (omega arith)

    since_last : (c : Sides) → left_since new (moment_after start entries) c
        → RecoversPassed More (acked_count acknowledges entries) (length (entries ++ e ∷ [])) c
    since_last c left = subst (λ (l : List Entry). left_since new (moment_after start l) c
        → RecoversPassed More (acked_count acknowledges l) (length (entries ++ e ∷ [])) c) all (earlier (length entries) (omega arith) c) left

    -- at the end of the new entry
    now : (c : Sides) → images new c → (g : Bool) → acknowledges e ≡ g
        → RecoversPassed More (acked_count acknowledges (entries ++ e ∷ [])) (length (entries ++ e ∷ [])) c
    now c image true marks = let found = shown marks c image in record {
      count = suc (length entries);
      at_least = omega (arith, acked_within acknowledges (entries ++ e ∷ []), long);
      at_most = omega (arith, long);
      world = found.0;
      passed = found.1;
      recovers = found.2;
    }
    now c image false none = subst (λ (k : ℕ). RecoversPassed More k (length (entries ++ e ∷ [])) c) (sym (acked_more acknowledges entries e none))
        (since_last c (counts_now (moment_after start entries) c
        (omega (arith, leaves.later, subst (λ (l : List Entry). moment_after start l ≤ moment old) all (past (length entries)))) image))

    by_place : (n ≡ length (entries ++ e ∷ [])) ⊎ (n < length (entries ++ e ∷ [])) → (c : Sides)
        → left_since new (moment_after start (take n (entries ++ e ∷ []))) c
        → RecoversPassed More (acked_count acknowledges (take n (entries ++ e ∷ []))) (length (entries ++ e ∷ [])) c
    by_place (inl last) c left =
        let whole : take n (entries ++ e ∷ []) ≡ entries ++ e ∷ [] = take_all n (entries ++ e ∷ []) (omega (arith, last)) in
        let since : left_since new (moment new) c = subst (λ (t : ℕ). left_since new t c)
        (ap (moment_after start) whole ∙ moment_last start entries e ∙ at_end) left in
        subst (λ (l : List Entry). RecoversPassed More (acked_count acknowledges l) (length (entries ++ e ∷ [])) c) (sym whole)
        (now c (only_now c since) (acknowledges e) refl)
    by_place (inr fewer) c left =
        let same : take n (entries ++ e ∷ []) ≡ take n entries = take-append-le n entries (e ∷ []) (omega (arith, fewer, long)) in
        subst (λ (l : List Entry). left_since new (moment_after start l) c
        → RecoversPassed More (acked_count acknowledges l) (length (entries ++ e ∷ [])) c) (sym same) (earlier n (omega (arith, fewer, long)) c) left
