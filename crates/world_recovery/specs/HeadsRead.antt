-- What the first bytes of a side say, in the words of the log's definitions.
use Rattle.std.specs.Prelude.{nat_lt, nat_le, if◌then◌else◌, codes, slice_index}
use Rattle.std.proofs.Common.{◌≡◌, ◌∙◌, ◌<◌, ◌==◌, ◌&&◌, ◌||◌, ℕ, Bool, true, false, not, [], ◌∷◌, length, take, Option, None, Some, refl, sym, ap}
use Rattle.std.proofs.Common.{arith}
use Rattle.std.proofs.lemmas.Bool.Decides.{nat_tests}
use Rattle.byte_text.specs.Names.{Bytes, same}
use Rattle.append_log.specs.Heads.{head_of, generation_in}
use Rattle.append_log.specs.declared.side_heads.Head.{Head}
use Rattle.append_log.specs.declared.side_heads.Head.TheVariants.{TooLong, Shut, Wrong, Open}
use Rattle.log_record.specs.Readings.{max_side, is_open, version_of, generation_of, header_fault, IsOlder}
use Rattle.log_sides.specs.Texts.{open_gate, is_unknown, is_misnumbered}
use Rattle.journal.specs.Logs.{leaves_in_use, IsBehind}

-- a side that is not too long
abbrev IsShort : Bytes → Type 0
IsShort bytes = nat_lt max_side (length bytes) ≡ false

-- what a head says of its side
abbrev pub Says : Bytes → Head → Type 0
Says bytes TooLong = nat_lt max_side (length bytes) ≡ true
Says bytes (Shut n) = IsShort bytes × (is_open bytes ≡ false) × (n ≡ length bytes)
Says bytes (Wrong place) = IsShort bytes × (is_open bytes ≡ true) × (header_fault bytes ≡ Some place)
Says bytes (Open version generation n) =
    IsShort bytes × (is_open bytes ≡ true) × (header_fault bytes ≡ None) × (generation_of bytes ≡ generation) × (version_of bytes ≡ version)

abbrev fault_by : Bool → Bool → Bool → Bool → Option ℕ
fault_by letters unknown zeros misnumbered = if not letters then Some 1 else if unknown then Some 4 else if not zeros then Some 5 else if misnumbered
    then Some 8 else None

says_if : (bytes : Bytes) (long short gate letters unknown zeros misnumbered : Bool) (v g : ℕ) → nat_lt max_side (length bytes) ≡ long
    → is_open bytes ≡ (not short && gate)
    → (short ≡ false → (header_fault bytes ≡ fault_by letters unknown zeros misnumbered) × (generation_of bytes ≡ g) × (version_of bytes ≡ v))
    → Says bytes (if long then TooLong else if short
    || not gate then Shut (length bytes) else if not letters then Wrong 1 else if unknown then Wrong 4 else if not zeros then Wrong 5 else
    if misnumbered then Wrong 8 else Open v g (length bytes))
says_if bytes true short gate letters unknown zeros misnumbered v g e o f = e
says_if bytes false true gate letters unknown zeros misnumbered v g e o f = (e, o, refl)
says_if bytes false false false letters unknown zeros misnumbered v g e o f = (e, o, refl)
says_if bytes false false true false unknown zeros misnumbered v g e o f = (e, o, (f refl).0)
says_if bytes false false true true true zeros misnumbered v g e o f = (e, o, (f refl).0)
says_if bytes false false true true false false misnumbered v g e o f = (e, o, (f refl).0)
says_if bytes false false true true false true true v g e o f = (e, o, (f refl).0)
says_if bytes false false true true false true false v g e o f = (e, o, (f refl).0, (f refl).1, (f refl).2)

and_true : (b : Bool) → (b && true) ≡ b
and_true true = refl
and_true false = refl

one_more : (n : ℕ) → nat_le 17 n ≡ not (nat_lt n 17)
one_more n = grind (arith, nat_tests)

opens : (bytes : Bytes) → is_open bytes ≡ (not (nat_lt (length bytes) 17) && (slice_index (take 16 bytes) 0 == open_gate))
opens [] = refl
opens (gate ∷ bytes) = ap (λ (b : Bool). b && (gate == open_gate)) (one_more (length (gate ∷ bytes)))

and_assoc : (p q r : Bool) → ((p && q) && r) ≡ (p && (q && r))
and_assoc true q r = refl
and_assoc false q r = refl

-- three bytes are compared one by one
three : (a b c x y z : ℕ) → same (a ∷ b ∷ c ∷ []) (x ∷ y ∷ z ∷ []) ≡ (a == x && b == y && c == z)
three a b c x y z = ap (λ (t : Bool). (a == x) && ((b == y) && t)) (and_true (c == z)) ∙ sym (and_assoc (a == x) (b == y) (c == z))

-- the header of a side that is long enough
abbrev Reads : Bytes → Type 0
Reads bytes = let first = take 16 bytes in
    (header_fault bytes ≡ fault_by (slice_index first 1 == 84 && slice_index first 2 == 70
    && slice_index first 3 == 76) (is_unknown (slice_index first 4)) (slice_index first 5 == 0 && slice_index first 6 == 0
    && slice_index first 7 == 0) (is_misnumbered (slice_index first 4) (generation_in first)))
    × (generation_of bytes ≡ generation_in first) × (version_of bytes ≡ slice_index first 4)

header_reads : (bytes : Bytes) → nat_lt (length bytes) 17 ≡ false → Reads bytes
header_reads [] e = absurd (cc e)
header_reads (b0 ∷ []) e = absurd (cc e)
header_reads (b0 ∷ b1 ∷ []) e = absurd (cc e)
header_reads (b0 ∷ b1 ∷ b2 ∷ []) e = absurd (cc e)
header_reads (b0 ∷ b1 ∷ b2 ∷ b3 ∷ []) e = absurd (cc e)
header_reads (b0 ∷ b1 ∷ b2 ∷ b3 ∷ b4 ∷ []) e = absurd (cc e)
header_reads (b0 ∷ b1 ∷ b2 ∷ b3 ∷ b4 ∷ b5 ∷ []) e = absurd (cc e)
header_reads (b0 ∷ b1 ∷ b2 ∷ b3 ∷ b4 ∷ b5 ∷ b6 ∷ []) e = absurd (cc e)
header_reads (b0 ∷ b1 ∷ b2 ∷ b3 ∷ b4 ∷ b5 ∷ b6 ∷ b7 ∷ []) e = absurd (cc e)
header_reads (b0 ∷ b1 ∷ b2 ∷ b3 ∷ b4 ∷ b5 ∷ b6 ∷ b7 ∷ b8 ∷ []) e = absurd (cc e)
header_reads (b0 ∷ b1 ∷ b2 ∷ b3 ∷ b4 ∷ b5 ∷ b6 ∷ b7 ∷ b8 ∷ b9 ∷ []) e = absurd (cc e)
header_reads (b0 ∷ b1 ∷ b2 ∷ b3 ∷ b4 ∷ b5 ∷ b6 ∷ b7 ∷ b8 ∷ b9 ∷ b10 ∷ []) e = absurd (cc e)
header_reads (b0 ∷ b1 ∷ b2 ∷ b3 ∷ b4 ∷ b5 ∷ b6 ∷ b7 ∷ b8 ∷ b9 ∷ b10 ∷ b11 ∷ []) e = absurd (cc e)
header_reads (b0 ∷ b1 ∷ b2 ∷ b3 ∷ b4 ∷ b5 ∷ b6 ∷ b7 ∷ b8 ∷ b9 ∷ b10 ∷ b11 ∷ b12 ∷ []) e = absurd (cc e)
header_reads (b0 ∷ b1 ∷ b2 ∷ b3 ∷ b4 ∷ b5 ∷ b6 ∷ b7 ∷ b8 ∷ b9 ∷ b10 ∷ b11 ∷ b12 ∷ b13 ∷ []) e = absurd (cc e)
header_reads (b0 ∷ b1 ∷ b2 ∷ b3 ∷ b4 ∷ b5 ∷ b6 ∷ b7 ∷ b8 ∷ b9 ∷ b10 ∷ b11 ∷ b12 ∷ b13 ∷ b14 ∷ []) e = absurd (cc e)
header_reads (b0 ∷ b1 ∷ b2 ∷ b3 ∷ b4 ∷ b5 ∷ b6 ∷ b7 ∷ b8 ∷ b9 ∷ b10 ∷ b11 ∷ b12 ∷ b13 ∷ b14 ∷ b15 ∷ rest) e = (fault, refl, refl)
  where
    letters : same (b1 ∷ b2 ∷ b3 ∷ []) (codes "TFL") ≡ (b1 == 84 && b2 == 70 && b3 == 76)
    letters = three b1 b2 b3 84 70 76

    generation : ℕ
    generation = generation_of (b0 ∷ b1 ∷ b2 ∷ b3 ∷ b4 ∷ b5 ∷ b6 ∷ b7 ∷ b8 ∷ b9 ∷ b10 ∷ b11 ∷ b12 ∷ b13 ∷ b14 ∷ b15 ∷ rest)

    fault : header_fault (b0 ∷ b1 ∷ b2 ∷ b3 ∷ b4 ∷ b5 ∷ b6 ∷ b7 ∷ b8 ∷ b9 ∷ b10 ∷ b11 ∷ b12 ∷ b13 ∷ b14 ∷ b15 ∷ rest)
        ≡ fault_by (b1 == 84 && b2 == 70 && b3 == 76) (is_unknown b4) (b5 == 0 && b6 == 0 && b7 == 0) (is_misnumbered b4 generation)
    fault =
        ap (λ (l : Bool). fault_by l (is_unknown b4) (same (b5 ∷ b6 ∷ b7 ∷ []) (0 ∷ 0 ∷ 0 ∷ [])) (is_misnumbered b4 generation)) letters
        ∙ ap (λ (z : Bool). fault_by (b1 == 84 && b2 == 70 && b3 == 76) (is_unknown b4) z (is_misnumbered b4 generation)) (three b5 b6 b7 0 0 0)

pub head_says : (bytes : Bytes) → Says bytes (head_of bytes)
head_says bytes =
    let first = take 16 bytes in
    says_if bytes (nat_lt max_side (length bytes)) (nat_lt (length bytes) 17) (slice_index first 0 == open_gate) (slice_index first 1 == 84
    && slice_index first 2 == 70 && slice_index first 3 == 76) (is_unknown (slice_index first 4))
    (slice_index first 5 == 0 && slice_index first 6 == 0
    && slice_index first 7 == 0) (is_misnumbered (slice_index first 4) (generation_in first)) (slice_index first 4) (generation_in first) refl
    (opens bytes) (header_reads bytes)

-- a side that leaves another one in use is not open, or older
lt_of : (a b : ℕ) → nat_lt a b ≡ true → a < b
lt_of a b e = grind (arith, nat_tests)

by_head : (g : ℕ) (bytes : Bytes) (h : Head) → Says bytes h → leaves_in_use g h ≡ true → IsOlder g bytes
by_head g bytes TooLong says leaves opened = absurd (let clash : false ≡ true = leaves in cc)
by_head g bytes (Shut n) says leaves opened = absurd (let clash : true ≡ false = sym opened ∙ says.1 in cc)
by_head g bytes (Wrong place) says leaves opened = absurd (let clash : false ≡ true = leaves in cc)
by_head g bytes (Open v h n) says leaves opened = (says.2, (let less = lt_of h g leaves in omega (arith, less, says.3)))

pub behind_older : (g : ℕ) (bytes : Bytes) → IsBehind g bytes → IsOlder g bytes
behind_older g bytes behind = by_head g bytes (head_of bytes) (head_says bytes) behind
