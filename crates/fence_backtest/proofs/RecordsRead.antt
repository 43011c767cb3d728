-- The records of a batch, read one behind another.
use Rattle.std.proofs.Common.{◌≡◌, ◌∙◌, ℕ, zero, suc, ◌+◌, ◌-◌, ◌≤◌, ◌<◌, List, [], ◌∷◌, ◌++◌, length, take, drop, flat_map, Option, Some, None, Result, Ok, Err, option_map, refl, sym, ap, subst, arith, append_assoc, append-nil, length-append}
use Rattle.std.proofs.lemmas.List.{length-drop, drop-drop, take_all}
use Rattle.std.proofs.lemmas.Grind.{flat_map-append}
use Rattle.byte_text.specs.Names.{Bytes}
use Rattle.byte_text.specs.Requests.{IsRequest, request_text}
use Rattle.byte_text.specs.Streams.{Front, found, begun, broken, request}
use Rattle.byte_text.specs.StreamFound.{request_found}
use Rattle.byte_text.specs.StreamTexts.{text_long}
use Rattle.byte_text.specs.declared.faults.RespFault.{RespFault}
use Rattle.resp_frames.specs.RequestReader.{Held, IsFed, IsNotFed}
use Rattle.resp_frames.specs.declared.faults.FeedFault.TheVariants.{Broken, Dead}
use Rattle.world_data.specs.declared.worlds.Change.{Change}
use Rattle.log_record.specs.Versions.{change_of_version}
use Rattle.log_record.specs.Batches.{record_front, with_record, records_behind, first_records, records_in}
use Rattle.world_recovery.specs.Recorded.{changes_in, changes_of, fault_of, record_fault}
use Rattle.fence_backtest.specs.Replayed.{Holds, Replayed, with_all}

-- what is behind a record is shorter

shorter : (bytes behind : Bytes) (words : List Bytes) → request bytes ≡ found words behind → length behind < length bytes
shorter bytes behind words is =
    let read = request_found bytes words behind is in
    omega (arith, text_long words, ap (λ (l : Bytes). length l) read.1, length-append (request_text words) behind)

some_is : {A : Type 0} (a b : A) → Some a ≡ Some b → a ≡ b
some_is a b e = cc e

behind_is : (rest behind : Bytes) (o : Option Change) (c : Change) → option_map {U = Change × Bytes} (λ d. (d, rest)) o ≡ Some (c, behind) → rest ≡ behind
behind_is rest behind None c e = absurd (cc e)
behind_is rest behind (Some d) c e = ap (λ (p : Change × Bytes). p.1) (some_is (d, rest) (c, behind) e)

front_shorter : (v : ℕ) (bytes behind : Bytes) (c : Change) (x : Front (List Bytes)) → request bytes ≡ x → record_front v x ≡ Some (c, behind) → length behind < length bytes
front_shorter v bytes behind c (found words rest) is e =
    subst (λ (l : Bytes). length l < length bytes) (behind_is rest behind (change_of_version v words) c e) (shorter bytes rest words is)
front_shorter v bytes behind c begun is e = absurd (cc e)
front_shorter v bytes behind c (broken fault) is e = absurd (cc e)

-- so as many steps as there are bytes are enough

abbrev Alike : ℕ → ℕ → ℕ → Type 0
Alike v n m = (at : ℕ) (bytes : Bytes) → length bytes ≤ n → length bytes ≤ m → first_records v n at bytes ≡ first_records v m at bytes

fuel_behind : (v n m at : ℕ) (bytes : Bytes) (front : Option (Change × Bytes)) → Alike v n m → record_front v (request bytes) ≡ front → length bytes ≤ suc n → length bytes ≤ suc m
    → records_behind at bytes front (first_records v n) ≡ records_behind at bytes front (first_records v m)
fuel_behind v n m at bytes None alike is few less = refl
fuel_behind v n m at bytes (Some front) alike is few less =
    let short = front_shorter v bytes front.1 front.0 (request bytes) refl is in
    ap (with_record front.0) (alike (at + (length bytes - length front.1)) front.1 (omega (arith, few, short)) (omega (arith, less, short)))

same_fuel : (v n m : ℕ) → Alike v n m
same_fuel v zero zero at [] few less = refl
same_fuel v zero (suc m) at [] few less = refl
same_fuel v (suc n) zero at [] few less = refl
same_fuel v (suc n) (suc m) at [] few less = refl
same_fuel v zero m at (b ∷ bytes) few less = absurd (omega (arith, few))
same_fuel v (suc n) zero at (b ∷ bytes) few less = absurd (omega (arith, less))
same_fuel v (suc n) (suc m) at (b ∷ bytes) few less =
    fuel_behind v n m at (b ∷ bytes) (record_front v (request (b ∷ bytes))) (same_fuel v n m) refl few less

-- a record, and what is behind it
pub records_step : (v at n : ℕ) (bytes : Bytes) (c : Change) → 0 < length bytes → n ≤ length bytes → record_front v (request bytes) ≡ Some (c, drop n bytes)
    → records_in v at bytes ≡ with_record c (records_in v (at + n) (drop n bytes))
unfolding records_in
records_step v at n [] c some within is = absurd (omega (arith, some))
records_step v at n (b ∷ tail) c some within is =
    let bytes = b ∷ tail in
    let behind = drop n bytes in
    let long = length-drop n bytes in
    let short = front_shorter v bytes behind c (request bytes) refl is in
    let size : at + (length bytes - length behind) ≡ at + n = omega (arith, long, within) in
    ap (λ (x : Option (Change × Bytes)). records_behind at bytes x (first_records v (length tail))) is
    ∙ ap (with_record c) (same_fuel v (length tail) (length behind) (at + (length bytes - length behind)) behind (omega (arith, short)) (omega arith)
    ∙ ap (λ (k : ℕ). first_records v (length behind) k behind) size)

-- and none
pub records_end : (v at : ℕ) (bytes : Bytes) → 0 < length bytes → record_front v (request bytes) ≡ None → records_in v at bytes ≡ Err at
unfolding records_in
records_end v at [] some none = absurd (omega (arith, some))
records_end v at (b ∷ tail) some none = ap (λ (x : Option (Change × Bytes)). records_behind at (b ∷ tail) x (first_records v (length tail))) none

pub nothing_left : (v at : ℕ) → records_in v at [] ≡ Ok []
unfolding records_in
nothing_left v at = refl

-- what a reader that holds nothing answers to bytes

pub fed_found : (held new : Held) (bytes : Bytes) (n : ℕ) (words : List Bytes) → held ≡ Some [] → IsFed held new bytes n (Some words)
    → (request bytes ≡ found words (drop n bytes)) × (0 < n) × (n ≤ length bytes) × IsRequest words
fed_found held new bytes n words nothing fed =
    let here = subst (λ (h : Held). IsFed h new bytes n (Some words)) nothing fed in
    let less = shorter bytes (drop n bytes) words here.0 in
    (here.0, omega (arith, less, length-drop n bytes), here.1, here.3)

pub fed_begun : (held new : Held) (bytes : Bytes) (n : ℕ) → held ≡ Some [] → IsFed held new bytes n None → request bytes ≡ begun
fed_begun held new bytes n nothing fed = (subst (λ (h : Held). IsFed h new bytes n None) nothing fed).0

pub not_fed_broken : (held new : Held) (bytes : Bytes) (fault : RespFault) → held ≡ Some [] → IsNotFed held new bytes (Broken fault) → request bytes ≡ broken fault
not_fed_broken held new bytes fault nothing not = (subst (λ (h : Held). IsNotFed h new bytes (Broken fault)) nothing not).0

pub not_dead : (held new : Held) (bytes : Bytes) → held ≡ Some [] → IsNotFed held new bytes Dead → ⊥
not_dead held new bytes nothing not = subst (λ (h : Held). IsNotFed h new bytes Dead) nothing not

-- changes in front of others

pub all_of_none : (r : Result (List Change) ℕ) → with_all [] r ≡ r
all_of_none (Ok changes) = refl
all_of_none (Err at) = refl

pub all_more : (read : List Change) (c : Change) (r : Result (List Change) ℕ) → with_all read (with_record c r) ≡ with_all (read ++ c ∷ []) r
all_more read c (Ok changes) = ap (λ (l : List Change). Ok l) (sym (append_assoc read (c ∷ []) changes))
all_more read c (Err at) = refl

no_bytes : (bytes : Bytes) → length bytes ≡ 0 → bytes ≡ []
no_bytes [] none = refl
no_bytes (b ∷ bytes) none = absurd (omega (arith, none))

-- one more record
pub read_more : (v : ℕ) (batch : Bytes) (at n : ℕ) (read : List Change) (c : Change) → at < length batch → n ≤ length (drop at batch)
    → records_in v 0 batch ≡ with_all read (records_in v at (drop at batch)) → record_front v (request (drop at batch)) ≡ Some (c, drop n (drop at batch))
    → records_in v 0 batch ≡ with_all (read ++ c ∷ []) (records_in v (at + n) (drop (at + n) batch))
read_more v batch at n read c some within so_far is =
    let rest = drop at batch in
    so_far
    ∙ ap (with_all read) (records_step v at n rest c (omega (arith, some, length-drop at batch)) within is)
    ∙ all_more read c (records_in v (at + n) (drop n rest))
    ∙ ap (λ (l : Bytes). with_all (read ++ c ∷ []) (records_in v (at + n) l)) (drop-drop n at batch)

-- all of them
pub read_all : (v : ℕ) (batch : Bytes) (at : ℕ) (read : List Change) → length batch ≤ at → records_in v 0 batch ≡ with_all read (records_in v at (drop at batch)) → records_in v 0 batch ≡ Ok read
read_all v batch at read all so_far =
    let none : drop at batch ≡ [] = no_bytes (drop at batch) (omega (arith, all, length-drop at batch)) in
    so_far ∙ ap (λ (l : Bytes). with_all read (records_in v at l)) none ∙ ap (with_all read) (nothing_left v at) ∙ ap (λ (l : List Change). Ok l) (append-nil read)

pub read_none : (v : ℕ) (batch : Bytes) (at : ℕ) (read : List Change) → at < length batch → records_in v 0 batch ≡ with_all read (records_in v at (drop at batch))
    → record_front v (request (drop at batch)) ≡ None → records_in v 0 batch ≡ Err at
read_none v batch at read some so_far none = so_far ∙ ap (with_all read) (records_end v at (drop at batch) (omega (arith, some, length-drop at batch)) none)

-- a batch more
pub holds_more : (r : Replayed) (v : ℕ) (batches : List Bytes) (part : Bytes) (read : List Change) (s : Replayed) → Holds r v batches part → records_in v 0 r.part ≡ Ok read
    → s.version ≡ r.version → s.changes ≡ r.changes ++ read → s.part ≡ [] → Holds s v (batches ++ part ∷ []) []
holds_more r v batches part read s holds is same more none = record {
  version_is = same ∙ holds.version_is;
  changes_are =
      let here : changes_in v part ≡ read = ap (changes_in v) (sym holds.part_is) ∙ ap changes_of is in
      let one : flat_map (changes_in v) (part ∷ []) ≡ read = append-nil (changes_in v part) ∙ here in
      more ∙ ap (λ (l : List Change). l ++ read) holds.changes_are ∙ ap (λ (l : List Change). flat_map (changes_in v) batches ++ l) (sym one)
      ∙ sym (flat_map-append (changes_in v) batches (part ∷ []));
  part_is = none;
}

pub holds_whole : (r : Replayed) (v : ℕ) (batches : List Bytes) (part : Bytes) (read : List Change) → Holds r v batches part → records_in v 0 r.part ≡ Ok read → record_fault v part ≡ None
holds_whole r v batches part read holds is = ap (record_fault v) (sym holds.part_is) ∙ ap fault_of is

pub holds_broken : (r : Replayed) (v : ℕ) (batches : List Bytes) (part : Bytes) (at : ℕ) → Holds r v batches part → (at ≤ length r.part) × (records_in v 0 r.part ≡ Err at)
    → (at ≤ length part) × (record_fault v part ≡ Some at)
holds_broken r v batches part at holds is =
    (subst (λ (l : Bytes). at ≤ length l) holds.part_is is.0, ap (record_fault v) (sym holds.part_is) ∙ ap fault_of is.1)

-- what is behind a place of a batch
pub rest_of : (batch : Bytes) (at : ℕ) → take (length batch - at) (drop at batch) ≡ drop at batch
rest_of batch at = take_all (length batch - at) (drop at batch) (omega (arith, length-drop at batch))
