-- The batch at the front of bytes.
use Rattle.std.specs.Int.{w64, from_be_bytes}
use Rattle.std.proofs.Common.{◌≡◌, ◌≤◌, ◌<◌, ◌^◌, ◌∙◌, ◌+◌, ◌-◌, ℕ, zero, suc, List, [], ◌∷◌, ◌++◌, length, take, drop, get_or, Some, None, refl, sym, ap, subst, arith, length-append, append_assoc}
use Rattle.std.proofs.lemmas.List.{take-append-drop, drop-drop, take_all, length-drop, length-take-le}
use Rattle.std.proofs.lemmas.Nat.{be_bytes_8}
use Rattle.byte_text.specs.Names.{Bytes}
use Rattle.log_sides.specs.Texts.{batches_text, framed, newest, number_bytes, open_gate, with_batch}
use Rattle.log_sides.specs.Torn.{length-framed, batches_text-append}
use Rattle.journal.specs.Openings.{AreWhole}
use Rattle.world_recovery.specs.Recorded.{record_fault}
use Rattle.repl_node.specs.LogTexts.{AreLog, BeginsWith, IsFirstLen}
use Rattle.repl_node.proofs.Texts.{left_of, length_read, same_batch}

-- there are too few bytes for a length, or the gate is closed

pub too_few : (text batch rest : Bytes) → length text < 9 → BeginsWith text batch rest → ⊥
too_few text batch rest few first = omega (arith, few, ap length first, length-append (framed batch) rest, length-framed batch)

pub opened : (text batch rest : Bytes) → BeginsWith text batch rest → get_or text 0 0 ≡ 1
opened text batch rest first = ap (λ (l : Bytes). get_or l 0 0) first

-- the bytes of the length
eight_bytes : (text : Bytes) → 9 ≤ length text
    → (get_or text 1 0 ∷ get_or text 2 0 ∷ get_or text 3 0 ∷ get_or text 4 0 ∷ get_or text 5 0 ∷ get_or text 6 0 ∷ get_or text 7 0 ∷ get_or text 8 0 ∷ []) ≡ take 8 (drop 1 text)
eight_bytes (a ∷ b ∷ c ∷ d ∷ e ∷ f ∷ g ∷ h ∷ i ∷ rest) long = refl
eight_bytes text long = absurd (omega (arith, long))

pub number_read : (text : Bytes) (n : ℕ) → 9 ≤ length text
    → n ≡ from_be_bytes w64 (get_or text 1 0 ∷ get_or text 2 0 ∷ get_or text 3 0 ∷ get_or text 4 0 ∷ get_or text 5 0 ∷ get_or text 6 0 ∷ get_or text 7 0 ∷ get_or text 8 0 ∷ [])
    → n ≡ from_be_bytes w64 (take 8 (drop 1 text))
number_read text n long is = is ∙ ap (λ (l : Bytes). from_be_bytes w64 l) (eight_bytes text long)

-- the length is more than the bytes that are left
pub too_long : (text batch rest : Bytes) (n : ℕ) → length text < 2 ^ 64 → n ≡ from_be_bytes w64 (take 8 (drop 1 text)) → length text - 9 < n → BeginsWith text batch rest → ⊥
too_long text batch rest n short number more first =
    let long = ap length first in
    let behind : drop 1 text ≡ framed batch ++ rest = ap (λ (l : Bytes). drop 1 l) first in
    let size : length batch < 2 ^ 64 = omega (arith, short, long, length-append (framed batch) rest, length-framed batch) in
    let is : n ≡ length batch = number ∙ ap (λ (l : Bytes). from_be_bytes w64 (take 8 l)) behind ∙ length_read batch rest size in
    omega (arith, is, more, long, length-append (framed batch) rest, length-framed batch)

first_split : (text : Bytes) → 9 ≤ length text → get_or text 0 0 ≡ 1 → text ≡ 1 ∷ drop 1 text
first_split [] long one = absurd (omega (arith, long))
first_split (h ∷ text) long one = ap (λ (j : ℕ). j ∷ text) one

small_front : (n : ℕ) (l : Bytes) (i : ℕ) → ((j : ℕ) → get_or l j 0 < 256) → get_or (take n l) i 0 < 256
small_front zero l i small = omega arith
small_front (suc n) [] i small = omega arith
small_front (suc n) (x ∷ l) zero small = small zero
small_front (suc n) (x ∷ l) (suc i) small = small_front n l i (λ j. small (suc j))

small_behind : (l : Bytes) (i : ℕ) → ((j : ℕ) → get_or l j 0 < 256) → get_or (drop 1 l) i 0 < 256
small_behind [] i small = omega arith
small_behind (x ∷ l) i small = small (suc i)

-- the batch stands there whole
pub first_there : (text : Bytes) (n : ℕ) → 9 ≤ length text → get_or text 0 0 ≡ 1 → ((i : ℕ) → get_or text i 0 < 256) → n ≡ from_be_bytes w64 (take 8 (drop 1 text)) → n ≤ length text - 9
    → IsFirstLen text n
unfolding number_bytes
first_there text n long one small number within =
    let head = take 8 (drop 1 text) in
    let rest = drop 9 text in
    let batch = take n rest in
    let eight : length head ≡ 8 = length-take-le 8 (drop 1 text) (omega (arith, long, length-drop 1 text)) in
    let bytes : number_bytes n ≡ head = be_bytes_8 head n eight (λ i. small_front 8 (drop 1 text) i (λ j. small_behind text j small)) number in
    let size : length batch ≡ n = length-take-le n rest (omega (arith, within, long, length-drop 9 text)) in
    record {
      within = omega (arith, within, long);
      first = first_split text long one
          ∙ ap (λ (l : Bytes). 1 ∷ l) (sym (take-append-drop 8 (drop 1 text)) ∙ ap (λ (l : Bytes). l ++ drop 8 (drop 1 text)) (sym bytes)
          ∙ ap (λ (l : Bytes). number_bytes n ++ l) (drop-drop 8 1 text ∙ sym (take-append-drop n rest) ∙ ap (λ (l : Bytes). batch ++ l) (drop-drop n 9 text))
          ∙ sym (append_assoc (number_bytes n) batch (drop (9 + n) text)) ∙ ap (λ (k : ℕ). (number_bytes k ++ batch) ++ drop (9 + n) text) (sym size));
    }

-- and it is the only one
pub first_once : (text batch other rest behind : Bytes) → length text < 2 ^ 64 → BeginsWith text batch rest → BeginsWith text other behind → batch ≡ other
first_once text batch other rest behind short one two =
    let same : framed batch ++ rest ≡ framed other ++ behind = ap (λ (l : Bytes). drop 1 l) (sym one ∙ two) in
    (same_batch batch other rest behind (omega (arith, short, ap length one)) same).batch

-- so bytes that are no records there are no batch of whole records
pub no_records : (text piece batch rest : Bytes) (len at : ℕ) → length text < 2 ^ 64 → IsFirstLen text len → piece ≡ take len (drop 9 text) → record_fault newest piece ≡ Some at
    → record_fault newest batch ≡ None → BeginsWith text batch rest → ⊥
no_records text piece batch rest len at short is same fault whole first =
    let once = first_once text (take len (drop 9 text)) batch (drop (9 + len) text) rest short is.first first in
    let here : record_fault newest batch ≡ Some at = ap (record_fault newest) (sym once ∙ sym same) ∙ fault in
    absurd (let clash : None ≡ Some at = sym whole ∙ here in cc clash)

-- one batch more
pub one_more : (text : Bytes) (done : List Bytes) (batch : Bytes) (at n : ℕ) → text ≡ batches_text done ++ drop at text → BeginsWith (drop at text) batch (drop n (drop at text))
    → text ≡ batches_text (with_batch done batch) ++ drop (at + n) text
one_more text done batch at n is first =
    is ∙ ap (λ (l : Bytes). batches_text done ++ l) (first ∙ ap (λ (l : Bytes). open_gate ∷ (framed batch ++ l)) (drop-drop n at text))
    ∙ sym (append_assoc (batches_text done) (open_gate ∷ framed batch) (drop (at + n) text))
    ∙ ap (λ (l : Bytes). l ++ drop (at + n) text) (sym (batches_text-append done batch))

pub whole_more : (done : List Bytes) (batch : Bytes) → AreWhole (record_fault newest) done → record_fault newest batch ≡ None → AreWhole (record_fault newest) (with_batch done batch)
whole_more [] batch whole one = (one, tt)
whole_more (b ∷ done) batch whole one = (whole.0, whole_more done batch whole.1 one)

-- where no batch of whole records stands behind others, the bytes are no log

whole_behind : (done left : List Bytes) → AreWhole (record_fault newest) (done ++ left) → AreWhole (record_fault newest) left
whole_behind [] left whole = whole
whole_behind (b ∷ done) left whole = whole_behind done left whole.1

by_left : (rest : Bytes) (left : List Bytes) → 0 < length rest → AreWhole (record_fault newest) left → rest ≡ batches_text left
    → ((batch behind : Bytes) → record_fault newest batch ≡ None → BeginsWith rest batch behind → ⊥) → ⊥
by_left rest [] some whole is none = omega (arith, some, ap length is)
by_left rest (b ∷ left) some whole is none = none b (batches_text left) whole.0 is

pub no_log : (text : Bytes) (done : List Bytes) (at : ℕ) → length text < 2 ^ 64 → at < length text → text ≡ batches_text done ++ drop at text
    → ((batch behind : Bytes) → record_fault newest batch ≡ None → BeginsWith (drop at text) batch behind → ⊥) → (batches : List Bytes) → AreLog text batches → ⊥
no_log text done at short some is none batches log =
    let left = left_of batches done (drop at text) (omega (arith, short, ap length log.text_is)) (sym log.text_is ∙ is) in
    by_left (drop at text) left.left (omega (arith, some, length-drop at text)) (whole_behind done left.left (subst (AreWhole (record_fault newest)) left.batches_are log.whole)) left.rest_is none

-- what stands behind a place, as code takes it
pub from_place : (text : Bytes) (at : ℕ) → take (length text - at) (drop at text) ≡ drop at text
from_place text at = take_all (length text - at) (drop at text) (omega (arith, length-drop at text))
