-- Fields are read one by one.
use Rattle.std.proofs.Common.{◌≡◌, ◌<◌, true, false, not, List, [], ◌∷◌, ◌++◌, length, refl, sym, ap, subst, ◌∙◌, append_assoc, arith}
use Rattle.std.specs.Prelude.{Bool, Ok, Err, codes, flat_map}
use Rattle.std.specs.List.{list_all, AllByRecursion}
use Rattle.std.proofs.lemmas.Grind.{flat_map-append}
use Rattle.std.proofs.lemmas.Bool.{and_from}
use Rattle.byte_text.specs.Names.{Bytes}
use Rattle.ordered_lists.specs.Reading.{both_of, all-append, all-right}
use Rattle.ordered_lists.specs.Lists.{ascends}
use Rattle.world_data.specs.Filters.{Field, field_before, is_absent, are_fields, value_in, value_text}
use Rattle.world_data.specs.declared.values.Value.{Value}
use Rattle.world_data.specs.LastField.{are_left}
use Rattle.world_data.specs.Records.{field_words, is_kept_field}
use Rattle.record_reader.specs.declared.faults.ReadFault.{ReadFault}
use Rattle.record_reader.specs.declared.faults.ReadFault.TheVariants.{NotRecord, Memory}
use Rattle.record_reader.specs.Reading.{BeginsNot, Reads, IsValue, pair_words, IsPair, AreKept, ReadsFields}
use Rattle.record_reader.proofs.LeftWords.{heads_same, rests_same}
use Rattle.record_reader.proofs.Parts.{pair_of, kept_of}

abbrev pub texts : List Field → List Bytes
texts fields = flat_map field_words fields

-- what was read so far, and the words that are left
pub record Goes (old : List Bytes) (fields : List Field) (left : List Bytes) : Type 0 where
  pub said : old ≡ texts fields ++ left
  pub kept : AreKept fields

pub none_yet : (old : List Bytes) → Goes old [] old
none_yet old = record { said = refl; kept = record { ordered = refl; kept = refl } }

-- fields that are kept, each with a value that a field may have
abbrev ArePairs : List Field → Type 0
ArePairs fields = AllByRecursion IsPair fields

abbrev is_some_field : Field → Bool
is_some_field f = not (is_absent f)

pairs_of : (fields : List Field) → list_all is_kept_field fields ≡ true → list_all is_some_field fields ≡ true → ArePairs fields
pairs_of [] kept some = tt
pairs_of (f ∷ fields) kept some =
    let k = both_of (is_kept_field f) (list_all is_kept_field fields) kept in
    let s = both_of (is_some_field f) (list_all is_some_field fields) some in
    (pair_of f k.0 s.0, pairs_of fields k.1 s.1)

valued : (fields : List Field) → are_fields fields ≡ true → list_all is_some_field fields ≡ true
valued fields are = (both_of (ascends field_before fields) (list_all is_some_field fields) are).1

pairs : (fields : List Field) → AreKept fields → ArePairs fields
pairs fields are = pairs_of fields are.kept (valued fields are.ordered)

value_same : (a b : Value) → IsValue a → IsValue b → value_text a ≡ value_text b → a ≡ b
value_same a b ka kb e = sym ka.1 ∙ ap value_in e ∙ kb.1

-- the words of two fields are the same only where the fields are
field_same : (f g : Field) (x y : List Bytes) → IsPair f → IsPair g → pair_words f ++ x ≡ pair_words g ++ y → (f ≡ g) × (x ≡ y)
field_same f g x y pf pg e =
    let name = heads_same f.0 g.0 (value_text f.1 ∷ x) (value_text g.1 ∷ y) e in
    let rest = rests_same f.0 g.0 (value_text f.1 ∷ x) (value_text g.1 ∷ y) e in
    let value = value_same f.1 g.1 pf.1 pg.1 (heads_same (value_text f.1) (value_text g.1) x y rest) in
    (ap (λ n. (n, f.1)) name ∙ ap (λ v. (g.0, v)) value, rests_same (value_text f.1) (value_text g.1) x y rest)

-- fields at the front of the same words, of which some are followed by no field: the others are their beginning
split : (fs gs : List Field) (x y : List Bytes) → ArePairs fs → ArePairs gs → BeginsNot (codes "FIELD") y
    → texts fs ++ x ≡ texts gs ++ y → (hs : List Field) × (gs ≡ fs ++ hs) × (x ≡ texts hs ++ y)
split [] gs x y kf kg ends e = (gs, refl, e)
split (f ∷ fs) [] x y kf kg ends e = absurd (ends.other (pair_words f ++ (texts fs ++ x)) (sym e))
split (f ∷ fs) (g ∷ gs) x y kf kg ends e =
    let rest = rests_same (codes "FIELD") (codes "FIELD") (pair_words f ++ (texts fs ++ x)) (pair_words g ++ (texts gs ++ y)) e in
    let one = field_same f g (texts fs ++ x) (texts gs ++ y) kf.0 kg.0 rest in
    let more = split fs gs x y kf.1 kg.1 ends one.1 in
    (more.0, ap (λ l. g ∷ l) more.1 ∙ ap (λ h. h ∷ (fs ++ more.0)) (sym one.0), more.2)

kept_snoc : (fs : List Field) (f : Field) → list_all is_kept_field fs ≡ true → IsPair f → list_all is_kept_field (fs ++ f ∷ []) ≡ true
kept_snoc fs f all pair = all-append is_kept_field fs (f ∷ []) all (and_from (is_kept_field f) true (kept_of f pair) refl)

module _ (old : List Bytes) (fields : List Field) (left : List Bytes) (goes : Goes old fields left) where
  -- the fields of another reading of the same words, behind those that were read
  others : (gs : List Field) (behind : List Bytes) → AreKept gs → BeginsNot (codes "FIELD") behind → old ≡ texts gs ++ behind
      → (hs : List Field) × (gs ≡ fields ++ hs) × (left ≡ texts hs ++ behind)
  others gs behind kept ends e = split fields gs left behind (pairs fields goes.kept) (pairs gs kept) ends (sym goes.said ∙ e)

  pub all_read : BeginsNot (codes "FIELD") left → (new : List Bytes) → new ≡ left → ReadsFields old new (Ok fields)
  all_read ends new same = (goes.said ∙ ap (λ l. texts fields ++ l) (sym same), goes.kept, subst (BeginsNot (codes "FIELD")) (sym same) ends)

  module _ (behind : List Bytes) (begins : left ≡ codes "FIELD" ∷ behind) where
    -- some field is next in every other reading
    next : (A : Type 0) (gs : List Field) (rest : List Bytes) → AreKept gs → BeginsNot (codes "FIELD") rest → old ≡ texts gs ++ rest
        → ((h : Field) (hs : List Field) → IsPair h → are_fields (fields ++ h ∷ hs) ≡ true → behind ≡ pair_words h ++ (texts hs ++ rest) → A) → A
    next A gs rest kept ends e goal = by o.0 o.1 o.2
      where
        o : (hs : List Field) × (gs ≡ fields ++ hs) × (left ≡ texts hs ++ rest)
        o = others gs rest kept ends e

        by : (hs : List Field) → gs ≡ fields ++ hs → left ≡ texts hs ++ rest → A
        by [] is l = absurd (ends.other behind (sym l ∙ begins))
        by (h ∷ hs) is l =
            let are : are_fields (fields ++ h ∷ hs) ≡ true = subst (λ x. are_fields x ≡ true) is kept.ordered in
            let all = all-right is_kept_field fields (h ∷ hs) (subst (λ x. list_all is_kept_field x ≡ true) is kept.kept) in
            let some = all-right is_some_field fields (h ∷ hs) (valued (fields ++ h ∷ hs) are) in
            goal h hs (pairs_of (h ∷ hs) all some).0 are
            (rests_same (codes "FIELD") (codes "FIELD") behind (pair_words h ++ (texts hs ++ rest)) (sym begins ∙ l))

    pub field_refused : (mid new : List Bytes) (why : ReadFault) → Reads pair_words IsPair behind mid (Err why) → ReadsFields old new (Err why)
    field_refused mid new NotRecord none = λ gs rest kept ends e. next ⊥ gs rest kept ends e (λ h hs pair are l. none h (texts hs ++ rest) pair l)
    field_refused mid new Memory none = tt

    module _ (f : Field) (new : List Bytes) (read : Reads pair_words IsPair behind new (Ok f)) where
      pub order_refused : (last : List Bytes) (why : ReadFault) → (why ≡ NotRecord → are_fields (fields ++ f ∷ []) ≡ false) → ReadsFields old last (Err why)
      order_refused last NotRecord fails = λ gs rest kept ends e. next ⊥ gs rest kept ends e (λ h hs pair are l.
          let same = (field_same f h new (texts hs ++ rest) read.1 pair (sym read.0 ∙ l)).0 in
          let begun : are_fields (fields ++ h ∷ []) ≡ true = are_left (fields ++ h ∷ []) hs (subst (λ x. are_fields x ≡ true) (sym (append_assoc fields (h ∷ []) hs)) are) in
          let both : true ≡ false = sym begun ∙ ap (λ g. are_fields (fields ++ g ∷ [])) (sym same) ∙ fails refl in
          cc both)
      order_refused last Memory fails = tt

      pub goes_on : (more : List Field) → more ≡ fields ++ f ∷ [] → are_fields more ≡ true → Goes old more new
      goes_on more is are = record {
        said = goes.said ∙ ap (λ l. texts fields ++ l) (begins ∙ ap (λ l. codes "FIELD" ∷ l) read.0)
            ∙ sym (append_assoc (texts fields) (field_words f) new)
            ∙ ap (λ l. l ++ new) (sym (flat_map-append field_words fields (f ∷ [])) ∙ ap texts (sym is));
        kept = record { ordered = are; kept = subst (λ x. list_all is_kept_field x ≡ true) (sym is) (kept_snoc fields f goes.kept.kept read.1) };
      }

-- the fields of two readings, each followed by no field, have the same words behind them
pub fields_same : (fs gs : List Field) (x y : List Bytes) → AreKept fs → AreKept gs → BeginsNot (codes "FIELD") x → BeginsNot (codes "FIELD") y
    → texts fs ++ x ≡ texts gs ++ y → x ≡ y
fields_same fs gs x y kf kg ends_x ends_y e = let o = split fs gs x y (pairs fs kf) (pairs gs kg) ends_y e in by o.0 o.2
  where
    by : (hs : List Field) → x ≡ texts hs ++ y → x ≡ y
    by [] l = l
    by (h ∷ hs) l = absurd (ends_x.other (pair_words h ++ (texts hs ++ y)) l)

-- a field that is read leaves fewer words
pub shorter : (left behind new : List Bytes) (f : Field) → left ≡ codes "FIELD" ∷ behind → Reads pair_words IsPair behind new (Ok f) → length new < length left
shorter left behind new f begins read =
    let more : length left ≡ length (codes "FIELD" ∷ behind) = ap length begins in
    let two : length behind ≡ length (pair_words f ++ new) = ap length read.0 in
    omega (arith, more, two)
