-- What is read as a log that stands has the text of one.
use Rattle.std.proofs.Common.{arith, ◌≡◌, ◌⊎◌, inl, inr, ℕ, zero, suc, ◌+◌, ◌^◌, ◌<◌, ◌≤◌, Bool, true, false, not, ◌&&◌, ◌||◌, List, [], ◌∷◌, ◌++◌}
use Rattle.std.proofs.Common.{length, take, drop, Option, Some, None, option_map, Result, Ok, Err, codes, refl, sym, ap, subst, ◌∙◌, nat_le, nat_lt}
use Rattle.std.proofs.Common.{if◌then◌else◌, ◌==◌, eqb-true, leb-true, ltb-true, ltb-false, eq-eqb, ⊎_elim, length-take, length-drop}
use Rattle.std.proofs.Common.{take-append-drop, get_or}
use Rattle.std.proofs.lemmas.List.{drop-drop}
use Rattle.std.proofs.Math.Nat.{eq-or-lt_of_le}
use Rattle.std.proofs.lemmas.Bool.Decides.{nat_tests}
use Rattle.byte_text.specs.Names.{Bytes, same}
use Rattle.byte_text.specs.ByteOrder.{same_equal}
use Rattle.world_data.specs.Worlds.{empty_world}
use Rattle.outside.specs.declared.sides.Side.{Side}
use Rattle.outside.specs.declared.sides.Side.TheVariants.{A, B}
use Rattle.outside.specs.Sides.{Sides, side_of, other_side}
use Rattle.log_record.specs.Folding.{folded}
use Rattle.log_record.specs.Batches.{AreBytes, number_bytes, number_of, open_gate, Batches, batches_in}
use Rattle.log_sides.specs.Texts.{IsHeading, newest}
use Rattle.log_record.specs.Readings.{header, header_len, side_over, max_side, has_open_gate, is_open, version_of, generation_of, header_fault}
use Rattle.log_record.specs.Readings.{is_unknown, is_misnumbered, Standing, fresh}
use Rattle.log_record.specs.Readings.{stands, damaged, too_long, wrong_header, equal_generations, first_cause, cause_of, side_in_use, reading_of}
use Rattle.log_record.specs.Readings.{reading_in_use, unless_damaged, reading, IsOlder}
use Rattle.log_record.specs.Standing.{IsFound}
use Rattle.log_record.specs.RecordsRead.{first, second}
use Rattle.log_record.specs.BatchesFound.{all_take, all_drop, all_get, number_found, batches_found}

-- the causes, one by one

none_first : (x : Option (Side × ℕ)) (xs : List (Option (Side × ℕ))) → first_cause (x ∷ xs) ≡ None → (x ≡ None) × (first_cause xs ≡ None)
none_first None xs e = (refl, e)
none_first (Some c) xs e = absurd (cc e)

record Fine (s : Sides) : Type 0 where
  a : too_long s A ≡ None
  b : too_long s B ≡ None
  a_header : wrong_header s A ≡ None
  b_header : wrong_header s B ≡ None
  apart : equal_generations s ≡ None

fine_of : (s : Sides) → cause_of s ≡ None → Fine s
fine_of s none =
    let one = none_first (too_long s A) _ none in
    let two = none_first (too_long s B) _ one.1 in
    let three = none_first (wrong_header s A) _ two.1 in
    let four = none_first (wrong_header s B) _ three.1 in
    let five = none_first (equal_generations s) _ four.1 in
    record { a = one.0; b = two.0; a_header = three.0; b_header = four.0; apart = five.0 }

some_not_none : {T : Type 0} (x : T) (t : Bool) → (if t then Some x else None) ≡ None → t ≡ false
some_not_none x true e = absurd (cc e)
some_not_none x false e = refl

short : (s : Sides) (side : Side) → too_long s side ≡ None → length (side_of s side) ≤ max_side
short s side none = ltb-false max_side (length (side_of s side)) (some_not_none (side, max_side) (nat_lt max_side (length (side_of s side))) none)

abbrev placed : Side → ℕ → Side × ℕ
placed side place = (side, place)

header_by : (side : Side) (f : Option ℕ) (t : Bool) → t ≡ true → (if t then option_map (placed side) f else None) ≡ None → f ≡ None
header_by side None t opened e = refl
header_by side (Some k) true opened e = absurd (cc e)
header_by side (Some k) false opened e = absurd (cc opened)

header_right : (s : Sides) (side : Side) → wrong_header s side ≡ None → is_open (side_of s side) ≡ true → header_fault (side_of s side) ≡ None
header_right s side none opened = header_by side (header_fault (side_of s side)) (is_open (side_of s side)) opened none

-- which side is in use
used_by : (a b l : Bool) (side : Side) → (if a && (not b || l) then Some A else if b then Some B else None) ≡ Some side
    → ((side ≡ A) × (a ≡ true) × (b ≡ true → l ≡ true)) ⊎ ((side ≡ B) × (b ≡ true) × (a ≡ true → l ≡ false))
used_by true true true side e = inl (cc e, refl, λ f. refl)
used_by true true false side e = inr (cc e, refl, λ f. refl)
used_by true false l side e = inl (cc e, refl, λ f. absurd (cc f))
used_by false true l side e = inr (cc e, refl, λ f. absurd (cc f))
used_by false false l side e = absurd (cc e)

-- the header of an open side
bit : (n : ℕ) (bytes : Bytes) (k : ℕ) (text : Bytes) → take n (drop k bytes) ≡ text → drop k bytes ≡ text ++ drop (k + n) bytes
bit n bytes k text is = sym (take-append-drop n (drop k bytes)) ∙ ap (λ (l : Bytes). l ++ drop n (drop k bytes)) is
    ∙ ap (λ (l : Bytes). text ++ l) (drop-drop n k bytes)

record Header (bytes : Bytes) : Type 0 where
  text : drop 1 bytes ≡ header (version_of bytes) (generation_of bytes) ++ drop 16 bytes
  headed : IsHeading (version_of bytes) (generation_of bytes)

abbrev fault : Bool → Bool → Bool → Bool → Option ℕ
fault m v z g = if not m then Some 1 else if v then Some 4 else if not z then Some 5 else if g then Some 8 else None

header_parts : (m v z g : Bool) → fault m v z g ≡ None → (m ≡ true) × (v ≡ false) × (z ≡ true) × (g ≡ false)
header_parts true false true false e = (refl, refl, refl, refl)
header_parts true false true true e = absurd (cc e)
header_parts true false false g e = absurd (cc e)
header_parts true true z g e = absurd (cc e)
header_parts false v z g e = absurd (cc e)

one_at : (n : ℕ) (bytes : Bytes) → n < length bytes → take 1 (drop n bytes) ≡ get_or bytes n 0 ∷ []
one_at zero [] within = absurd (omega (arith, within))
one_at zero (b ∷ bytes) within = refl
one_at (suc n) [] within = absurd (omega (arith, within))
one_at (suc n) (b ∷ bytes) within = one_at n bytes (omega (arith, within))

known : (v : ℕ) → is_unknown v ≡ false → (1 ≤ v) × (v ≤ newest)
known v e = grind (arith, nat_tests)

numbered : (v g : ℕ) → is_misnumbered v g ≡ false → g < 2 ^ 64 → (1 ≤ g) × (v < newest → g + 1 < 2 ^ 64)
numbered v g e fits = (grind (arith, nat_tests), λ older. grind (arith, nat_tests))

-- what the header says may be said
headed_of : (version generation : ℕ) → is_unknown version ≡ false → is_misnumbered version generation ≡ false → generation < 2 ^ 64
    → IsHeading version generation
headed_of version generation is may fits =
    let versioned = known version is in
    let counted = numbered version generation may fits in
    record { known = versioned.0; latest = versioned.1; least = counted.0; most = fits; followed = counted.1 }

number_small : (bytes : Bytes) → AreBytes bytes → number_of bytes < 2 ^ 64
number_small bytes are = omega (
  arith,
  all_get bytes are 0,
  all_get bytes are 1,
  all_get bytes are 2,
  all_get bytes are 3,
  all_get bytes are 4,
  all_get bytes are 5,
  all_get bytes are 6,
  all_get bytes are 7,
)

header_of : (bytes : Bytes) → header_fault bytes ≡ None → 17 ≤ length bytes → AreBytes bytes → Header bytes
header_of bytes none long are =
    let v = version_of bytes in
    let g = generation_of bytes in
    let parts = header_parts (same (take 3 (drop 1 bytes)) (codes "TFL")) (is_unknown v) (same (take 3 (drop 5 bytes)) (0 ∷ 0 ∷ 0 ∷ []))
    (is_misnumbered v g) none in
    let fits : g < 2 ^ 64 = number_small (take 8 (drop 8 bytes)) (all_take 8 (drop 8 bytes) (all_drop 8 bytes are)) in
    let number : number_bytes g
    ≡ take 8 (drop 8 bytes) = number_found (take 8 (drop 8 bytes)) (omega (arith, length-take 8 (drop 8 bytes), length-drop 8 bytes, long))
    (all_take 8 (drop 8 bytes) (all_drop 8 bytes are)) in
    record {
      text = bit 3 bytes 1 (codes "TFL") (same_equal (take 3 (drop 1 bytes)) (codes "TFL") parts.0)
          ∙ ap (λ (l : Bytes). codes "TFL" ++ l) (bit 1 bytes 4 (v ∷ []) (one_at 4 bytes (omega (arith, long)))
          ∙ ap (λ (l : Bytes). v ∷ l) (bit 3 bytes 5 (0 ∷ 0 ∷ 0 ∷ []) (same_equal (take 3 (drop 5 bytes)) (0 ∷ 0 ∷ 0 ∷ []) parts.2)
          ∙ ap (λ (l : Bytes). 0 ∷ 0 ∷ 0 ∷ l) (bit 8 bytes 8 (number_bytes g) (sym number))));
      headed = headed_of v g parts.1 parts.3 fits;
    }

-- the whole side
first_gate : (bytes : Bytes) → has_open_gate bytes ≡ true → bytes ≡ open_gate ∷ drop 1 bytes
first_gate [] e = absurd (cc e)
first_gate (b ∷ bytes) e = ap (λ (k : ℕ). k ∷ bytes) (eqb-true b open_gate e)

-- what is told of the side in use
record Told (s : Sides) (side : Side) (st : Standing) : Type 0 where
  opened : is_open (side_of s side) ≡ true
  fault : header_fault (side_of s side) ≡ None
  older : IsOlder (generation_of (side_of s side)) (side_of s (other_side side))
  here : length (side_of s side) ≤ max_side
  there : length (side_of s (other_side side)) ≤ max_side

abbrev standing : Side → ℕ → ℕ → Batches → Standing
standing side version generation b = record {
  side = side;
  version = version;
  generation = generation;
  gate = b.gate;
  world = folded empty_world b.changes;
}

stands_is : (x y : Standing) → stands x ≡ stands y → x ≡ y
stands_is x y e = cc e

found_of : (s : Sides) (side : Side) (st : Standing) (b : Batches) → Told s side st → AreBytes (side_of s side)
    → batches_in (version_of (side_of s side)) header_len (drop header_len (side_of s side)) ≡ Ok b
    → stands (standing side (version_of (side_of s side)) (generation_of (side_of s side)) b) ≡ stands st
    → IsFound s st
found_of s side st b told are read is =
    let bytes = side_of s side in
    let v = version_of bytes in
    let g = generation_of bytes in
    let same_standing = stands_is (standing side v g b) st is in
    let long : 17 ≤ length bytes = leb-true 17 (length bytes) (first (nat_le 17 (length bytes)) (has_open_gate bytes) told.opened) in
    let head = header_of bytes told.fault long are in
    let found = batches_found v header_len (drop 16 bytes) b (all_drop 16 bytes are) (omega (arith, length-drop 16 bytes, told.here)) read in
    let text : bytes ≡ side_over v g found.batches found.gate found.stale =
    first_gate bytes (second (nat_le 17 (length bytes)) (has_open_gate bytes) told.opened)
    ∙ ap (λ (l : Bytes). open_gate ∷ l) (head.text ∙ ap (λ (l : Bytes). header v g ++ l) found.text) in
    record {
      log = record { side = side; version = v; generation = g; batches = found.batches };
      is = record { headed = head.headed; recorded = found.recorded };
      by = record {
        gate = found.gate;
        stale = found.stale;
        text = text;
        closed = found.closed;
        older = told.older;
        here = told.here;
        there = told.there;
      };
      side = ap (λ (x : Standing). x.side) same_standing;
      version = ap (λ (x : Standing). x.version) same_standing;
      generation = ap (λ (x : Standing). x.generation) same_standing;
      gate = sym found.place ∙ ap (λ (x : Standing). x.gate) same_standing;
      world = ap (folded empty_world) (sym found.changes) ∙ ap (λ (x : Standing). x.world) same_standing;
    }

told_a : (s : Sides) (st : Standing) → Fine s → is_open s.a ≡ true → (is_open s.b ≡ true → nat_lt (generation_of s.b) (generation_of s.a) ≡ true)
    → Told s A st
told_a s st fine opened newer = record {
  opened = opened;
  fault = header_right s A fine.a_header opened;
  older = λ beside. (header_right s B fine.b_header beside, ltb-true (generation_of s.b) (generation_of s.a) (newer beside));
  here = short s A fine.a;
  there = short s B fine.b;
}

differ : (a b : Bool) (m n : ℕ) → a ≡ true → b ≡ true → (a && b && m == n) ≡ false → m ≤ n → m < n
differ a b m n opened beside apart le = ⊎_elim
    (λ same. absurd (cc (apart, opened, beside, eq-eqb m n same)))
    (λ less. less) (eq-or-lt_of_le le)

told_b : (s : Sides) (st : Standing) → Fine s → is_open s.b ≡ true → (is_open s.a ≡ true → nat_lt (generation_of s.b) (generation_of s.a) ≡ false)
    → Told s B st
told_b s st fine opened newer = record {
  opened = opened;
  fault = header_right s B fine.b_header opened;
  older = λ beside. (
    header_right s A fine.a_header beside,
    differ (is_open s.a) (is_open s.b) (generation_of s.a) (generation_of s.b) beside opened
        (some_not_none (placed B 8) (is_open s.a && is_open s.b && generation_of s.a == generation_of s.b) fine.apart)
        (ltb-false (generation_of s.b) (generation_of s.a) (newer beside)),
  );
  here = short s B fine.b;
  there = short s A fine.a;
}

told_of : (s : Sides) (side : Side) (st : Standing) → Fine s → side_in_use s ≡ Some side → Told s side st
told_of s side st fine used = ⊎_elim
    (λ a. subst (λ (x : Side). Told s x st) (sym a.0) (told_a s st fine a.1 a.2))
    (λ b. subst (λ (x : Side). Told s x st) (sym b.0) (told_b s st fine b.1 b.2))
    (used_by (is_open s.a) (is_open s.b) (nat_lt (generation_of s.b) (generation_of s.a)) side used)

damaged_not : (side : Side) (place : ℕ) (st : Standing) → damaged side place ≡ stands st → ⊥
damaged_not side place st e = cc e

by_batches : (s : Sides) (side : Side) (st : Standing) (r : Result Batches ℕ) → Told s side st → AreBytes (side_of s side)
    → batches_in (version_of (side_of s side)) header_len (drop header_len (side_of s side)) ≡ r
    → reading_of side (version_of (side_of s side)) (generation_of (side_of s side)) r ≡ stands st → IsFound s st
by_batches s side st (Ok b) told are read e = found_of s side st b told are read e
by_batches s side st (Err place) told are read e = absurd (damaged_not side place st e)

fresh_not : (st : Standing) → fresh ≡ stands st → ⊥
fresh_not st e = cc e

by_side : (s : Sides) (st : Standing) (o : Option Side) → AreBytes s.a → AreBytes s.b → Fine s → side_in_use s ≡ o
    → reading_in_use s o ≡ stands st → IsFound s st
by_side s st None a b fine used e = absurd (fresh_not st e)
by_side s st (Some A) a b fine used e = by_batches s A st (batches_in (version_of s.a) header_len (drop header_len s.a)) (told_of s A st fine used) a refl e
by_side s st (Some B) a b fine used e = by_batches s B st (batches_in (version_of s.b) header_len (drop header_len s.b)) (told_of s B st fine used) b refl e

by_cause : (s : Sides) (st : Standing) (c : Option (Side × ℕ)) → AreBytes s.a → AreBytes s.b → cause_of s ≡ c
    → unless_damaged c (reading_in_use s (side_in_use s)) ≡ stands st → IsFound s st
by_cause s st None a b none e = by_side s st (side_in_use s) a b (fine_of s none) refl e
by_cause s st (Some c) a b cause e = absurd (damaged_not c.0 c.1 st e)

-- a log that is read as standing has the text of batches
pub sides_found : (s : Sides) (st : Standing) → AreBytes s.a → AreBytes s.b → reading s ≡ stands st → IsFound s st
unfolding reading
sides_found s st a b e = by_cause s st (cause_of s) a b refl e
