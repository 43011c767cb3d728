-- One word is read, and the parts of a field.
use Rattle.std.proofs.Common.{◌≡◌, ℤ, pos, negsuc, ◌≤◌, List, [], ◌∷◌, true, false, not, refl, sym, ap, subst, ◌∙◌, arith}
use Rattle.std.specs.Prelude.{Option, Some, None, is_some, Result, Ok, Err, int_le, neg_ℤ, ◌-◌, ◌^◌}
use Rattle.std.specs.Fmt.{signed_decimal}
use Rattle.std.proofs.lemmas.Bool.{and_from, le-leb}
use Rattle.std.proofs.lemmas.Bool.Decides.{nat_tests}
use Rattle.byte_text.specs.Names.{Bytes, is_name, name_fault, IsNameOf}
use Rattle.byte_text.specs.Numbers.{number_or_fault}
use Rattle.byte_text.specs.declared.texts.TextFault.{TextFault}
use Rattle.byte_text.specs.declared.texts.NameFault.{NameFault}
use Rattle.byte_text.specs.declared.texts.NameFault.TheVariants.{Refused}
use Rattle.byte_text.specs.declared.texts.NameFault.TheVariants as name
use mir.Syntax.{w64}
use mir.Val.{SFits as FitsSigned}
use Rattle.world_data.specs.declared.values.Value.{Value}
use Rattle.world_data.specs.declared.values.Value.TheVariants.{Whole, Word}
use Rattle.world_data.specs.Filters.{Field, is_absent, is_number, number_or_text, value_text}
use Rattle.world_data.specs.Records.{is_kept_value, is_kept_field}
use Rattle.log_record.specs.RecordsRead.{first, second}
use Rattle.log_record.specs.RecordsBack.{field_back}
use Rattle.log_record.specs.ValuesBack.{number_back, value_back}
use Rattle.record_reader.specs.declared.faults.ReadFault.{ReadFault}
use Rattle.record_reader.specs.declared.faults.ReadFault.TheVariants.{NotRecord, Memory}
use Rattle.record_reader.specs.Reading.{Reads, one_word, name_words, IsName, value_words, IsValue, pair_words, IsPair}
use Rattle.record_reader.proofs.LeftWords.{heads_same, rests_same, nothing_is}

module _ {A : Type 0} (text : A → Bytes) (IsFit : A → Type 0) where
  pub one_found : (w : Bytes) (old new : List Bytes) (r : Result A ReadFault) → old ≡ w ∷ new
      → Reads (λ a. one_word (text a)) IsFit (one_word w) [] r → Reads (λ a. one_word (text a)) IsFit old new r
  one_found w old new (Ok a) e read = (e ∙ ap (λ v. v ∷ new) (heads_same w (text a) [] [] read.0), read.1)
  one_found w old new (Err NotRecord) e none = λ a behind fit f. none a [] fit (ap one_word (heads_same w (text a) new behind (sym e ∙ f)))
  one_found w old new (Err Memory) e read = tt

  pub one_lacks : (old new : List Bytes) → old ≡ [] → Reads (λ a. one_word (text a)) IsFit old new (Err NotRecord)
  one_lacks old new e = λ a behind fit f. nothing_is (text a) behind (sym e ∙ f)

-- the value that a word writes

low_of : (z : ℤ) → FitsSigned w64 z → int_le (neg_ℤ (pos (2 ^ 63))) z ≡ true
low_of (pos n) fits = refl
low_of (negsuc n) fits = let limit = fits.sfits in let small : n ≤ 9223372036854775807 = grind arith in le-leb n 9223372036854775807 small

high_of : (z : ℤ) → FitsSigned w64 z → int_le z (pos (2 ^ 63 - 1)) ≡ true
high_of (pos n) fits = let limit = fits.sfits in let small : n ≤ 9223372036854775807 = grind arith in le-leb n 9223372036854775807 small
high_of (negsuc n) fits = refl

pub number_found : (w : Bytes) (z : ℤ) → FitsSigned w64 z → w ≡ signed_decimal z → Reads value_words IsValue (one_word w) [] (Ok (Whole z))
number_found w z fits is =
    let kept : is_kept_value (Whole z) ≡ true = and_from (int_le (neg_ℤ (pos (2 ^ 63))) z) (int_le z (pos (2 ^ 63 - 1))) (low_of z fits) (high_of z fits) in
    (ap one_word is, (kept, ap (number_or_text (signed_decimal z)) (number_back z kept)))

pub not_read : (o : Option ℤ) (f : TextFault) → Err f ≡ number_or_fault o → is_some o ≡ false
not_read None f e = refl
not_read (Some z) f e = absurd (cc e)

module _ (w : Bytes) (other : is_number w ≡ false) where
  pub text_found : (t : Bytes) → Reads name_words IsName (one_word w) [] (Ok t) → Reads value_words IsValue (one_word w) [] (Ok (Word t))
  text_found t read = let is : w ≡ t = heads_same w t [] [] read.0 in
      (read.0, (read.1, value_back (Word t) read.1 (subst (λ v. is_number v ≡ false) is other)))

  pub text_refused : (why : ReadFault) → Reads name_words IsName (one_word w) [] (Err why) → Reads value_words IsValue (one_word w) [] (Err why)
  text_refused NotRecord none = by
    where
      by : (v : Value) (behind : List Bytes) → IsValue v → one_word w ≡ value_text v ∷ behind → ⊥
      by (Whole z) behind kept e =
          let both : false ≡ true = sym other ∙ ap is_number (heads_same w (signed_decimal z) [] behind e) ∙ ap is_some (number_back z kept.0) in
          cc both
      by (Word t) behind kept e = none t behind kept.0 e
  text_refused Memory none = tt

-- the parts of a field that is kept

pub name_kept : (f : Field) → is_kept_field f ≡ true → IsName f.0
name_kept f kept = first (is_name f.0) (is_kept_value f.1) kept

pub value_kept : (f : Field) → is_kept_field f ≡ true → is_kept_value f.1 ≡ true
value_kept f kept = second (is_name f.0) (is_kept_value f.1) kept

pub pair_of : (f : Field) → is_kept_field f ≡ true → not (is_absent f) ≡ true → IsPair f
pair_of f kept some = (name_kept f kept, (value_kept f kept, field_back f kept some))

pub kept_of : (f : Field) → IsPair f → is_kept_field f ≡ true
kept_of f pair = and_from (is_name f.0) (is_kept_value f.1) pair.0 pair.1.0

-- a field is read

module _ (old : List Bytes) (new : List Bytes) where
  pub name_refused : (mid : List Bytes) (why : ReadFault) → Reads name_words IsName old mid (Err why) → Reads pair_words IsPair old new (Err why)
  name_refused mid NotRecord none = λ f behind pair e. none f.0 (value_text f.1 ∷ behind) pair.0 e
  name_refused mid Memory none = tt

  pub value_refused : (name : Bytes) (mid : List Bytes) (why : ReadFault) → Reads name_words IsName old mid (Ok name)
      → Reads value_words IsValue mid new (Err why) → Reads pair_words IsPair old new (Err why)
  value_refused name mid NotRecord read none = λ f behind pair e.
      none f.1 behind pair.1 (rests_same name f.0 mid (value_text f.1 ∷ behind) (sym read.0 ∙ e))
  value_refused name mid Memory read none = tt

  pub field_found : (name : Bytes) (value : Value) (mid : List Bytes) → Reads name_words IsName old mid (Ok name)
      → Reads value_words IsValue mid new (Ok value) → Reads pair_words IsPair old new (Ok (name, value))
  field_found name value mid read valued = (read.0 ∙ ap (λ l. name ∷ l) valued.0, (read.1, valued.1))

-- the name that a word is

no_fault : (w : Bytes) → IsName w → name_fault w ≡ None
no_fault w is = grind (arith, nat_tests)

is_named : (w : Bytes) → name_fault w ≡ None → IsName w
is_named w none = grind (arith, nat_tests)

pub named_of : (w name : Bytes) (o : Option TextFault) → name_fault w ≡ o → IsNameOf o w (Ok name) → Reads name_words IsName (one_word w) [] (Ok name)
named_of w name None e same = (ap one_word (sym same), subst IsName (sym same) (is_named w e))
named_of w name (Some f) e same = absurd (cc same)

pub unnamed_of : (w : Bytes) (why : NameFault) (f : TextFault) (o : Option TextFault) → name_fault w ≡ o → why ≡ Refused f → IsNameOf o w (Err why)
    → Reads name_words IsName (one_word w) [] (Err NotRecord)
unnamed_of w why f None e is same = let both_ways : Refused f ≡ name.Memory = sym is ∙ same in absurd (cc both_ways)
unnamed_of w why f (Some g) e is same = λ n behind named v.
    let none : Some g ≡ None = sym e ∙ ap name_fault (heads_same w n [] behind v) ∙ no_fault n named in
    cc none
