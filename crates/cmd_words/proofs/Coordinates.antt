-- Words that are coordinates, and words with a fraction.
use Rattle.std.proofs.Common.{◌≡◌, ◌<◌, ◌+◌, ℕ, ℤ, inl, inr, ◌≤ℤ◌, ◌<ℤ◌, pos, negsuc, Bool, true, false, refl, ap, [], ◌∷◌, length, drop, get_or, arith, rules}
use Rattle.std.specs.Prelude.{Option, Some, None, Ok, Err, ◌&&◌, int_le, option_and_then, if◌then◌else◌}
use Rattle.std.proofs.lemmas.Bool.{and_from, false_from_ne_true}
use Rattle.std.proofs.lemmas.List.{drop_all}
use Rattle.byte_text.specs.Names.{Bytes}
use Rattle.byte_text.specs.Numbers.{whole, read_whole, number_or_fault}
use Rattle.byte_text.specs.declared.texts.TextFault.{TextFault}
use Rattle.planar_geom.specs.Points.{pt, bounds, bounds_of}
use Rattle.ordered_lists.specs.Reading.{both_of}
use Rattle.world_data.specs.Limits.{max_coord}
use Rattle.world_model.specs.Commands.{without_minus, are_digits}
use Rattle.world_model.specs.Grammar.{Due}
use Rattle.cmd_words.specs.Progress.{IsFault, IsOne, due_fault}
use Rattle.cmd_words.specs.Sets.{coordinate_of}
use Rattle.cmd_words.specs.declared.faults.CommandFault.{CommandFault}

abbrev least : ℤ
least = negsuc 9223372036854775807

abbrev most : ℤ
most = pos 9223372036854775807

pub is_le : (a b : ℤ) → int_le a b ≡ true → a ≤ℤ b
is_le a b e = search rules

le_is : (a b : ℤ) → a ≤ℤ b → int_le a b ≡ true
le_is a b e = search rules

not_le : (a b : ℤ) → a <ℤ b → int_le b a ≡ false
not_le a b e = search rules

le_trans : (a b c : ℤ) → a ≤ℤ b → b ≤ℤ c → a ≤ℤ c
le_trans a b c p q = search rules

when_in : (b : Bool) (x z : ℤ) → number_or_fault (if b then Some x else None) ≡ Ok z → x ≡ z
when_in true x z e = cc
when_in false x z e = absurd cc

when_out : (b : Bool) (x : ℤ) (f : TextFault) → number_or_fault (if b then Some x else None) ≡ Err f → b ≡ false
when_out true x f e = absurd cc
when_out false x f e = refl

whole_is : (o : Option ℤ) (z : ℤ) → number_or_fault (option_and_then (λ x. if int_le least x && int_le x most then Some x else None) o) ≡ Ok z → o ≡ Some z
whole_is None z e = absurd cc
whole_is (Some x) z e = ap Some (when_in (int_le least x && int_le x most) x z e)

pub coordinate_below : (low z : ℤ) (w : Bytes) → read_whole w ≡ Ok z → z <ℤ low → coordinate_of low w ≡ None
coordinate_below low z w e less = let o : whole w ≡ Some z = whole_is (whole w) z e in let no = not_le z low less in rw (o, no) refl

pub coordinate_above : (low z : ℤ) (w : Bytes) → read_whole w ≡ Ok z → pos max_coord <ℤ z → coordinate_of low w ≡ None
coordinate_above low z w e more =
    let o : whole w ≡ Some z = whole_is (whole w) z e in
    let no : int_le z (pos max_coord) ≡ false = not_le (pos max_coord) z more in
    rw (o, no) (dropped (int_le low z) z)
  where
    dropped : (b : Bool) (z : ℤ) → (if b && false then Some z else None) ≡ None
    dropped true z = refl
    dropped false z = refl

outside : (low x : ℤ) → least ≤ℤ low → (int_le least x && int_le x most) ≡ false → (int_le low x && int_le x (pos max_coord)) ≡ false
outside low x l out = false_from_ne_true (int_le low x && int_le x (pos max_coord)) (λ e.
    let h = both_of (int_le low x) (int_le x (pos max_coord)) e in
    let above : int_le least x ≡ true = le_is least x (le_trans least low x l (is_le low x h.0)) in
    let below : int_le x most ≡ true = le_is x most (le_trans x (pos max_coord) most (is_le x (pos max_coord) h.1) (search rules)) in
    let whole_in = and_from (int_le least x) (int_le x most) above below in
    absurd (cc (whole_in, out)))

none_within : (o : Option ℤ) (low : ℤ) (f : TextFault) → least ≤ℤ low → number_or_fault (option_and_then (λ x. if int_le least x && int_le x most then Some x else None) o) ≡ Err f
    → option_and_then (λ x. if int_le low x && int_le x (pos max_coord) then Some x else None) o ≡ None
none_within None low f l e = refl
none_within (Some x) low f l e = let out = outside low x l (when_out (int_le least x && int_le x most) x f e) in rw out refl

pub no_number : (low : ℤ) (w : Bytes) (f : TextFault) → least ≤ℤ low → read_whole w ≡ Err f → coordinate_of low w ≡ None
no_number low w f l e = none_within (whole w) low f l e

-- boxes

pub box_made : (a b c d : ℤ) → a ≤ℤ c → b ≤ℤ d → bounds_of (pt a b) (pt c d) ≡ Some (bounds (pt a b) (pt c d))
box_made a b c d p q = let x = le_is a c p in let y = le_is b d q in rw (x, y) refl

-- fractions

pub minus_taken : (w : Bytes) (d : ℕ) → 0 < length w → get_or w 0 d ≡ 45 → drop 1 w ≡ without_minus w
minus_taken [] d some e = absurd (omega arith)
minus_taken (b ∷ w) d some e = rw e refl

pub no_point : (b : Bool) (n : Bytes) → (b && are_digits (drop (length n + 1) n)) ≡ false
no_point true n = rw (drop_all (length n + 1) n (omega arith)) refl
no_point false n = refl

-- a word that is refused
pub not_one : {A : Type 0} (due : Due) (kind : Bytes → Option A) (w : Bytes) (why : CommandFault) → kind w ≡ None → IsFault (due_fault due w) why → IsOne due kind w (Err why)
not_one due kind w why n (inl m) = inl m
not_one due kind w why n (inr f) = inr (n, f)
