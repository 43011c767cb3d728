-- Where each field is given a value, what is given is all that is left.
use Rattle.std.proofs.Common.{◌≡◌, ℕ, ◌+◌, ◌<◌, Bool, true, false, not, refl, sym, ap, ◌∙◌, subst, List, [], ◌∷◌, length, drop}
use Rattle.std.specs.Prelude.{Option, Some, IfSome, filter, if◌then◌else◌, slice_get}
use Rattle.std.specs.List.{list_all}
use Rattle.std.proofs.lemmas.List.{append-nil}
use Rattle.byte_text.specs.Names.{Bytes, before, same}
use Rattle.byte_text.specs.ByteOrder.{same_equal}
use Rattle.byte_text.specs.ListLaws.{drop_next, item_at}
use Rattle.ordered_lists.specs.Lists.{ascends, put_in}
use Rattle.ordered_lists.specs.NameOrder.{name_ties}
use Rattle.ordered_lists.specs.Reading.{both_of, filter-all}
use Rattle.world_data.specs.Filters.{Field, field_before, is_absent, last_values, with_values, are_fields}
use Rattle.world_data.specs.FieldLaws.{field_asym}
use Rattle.world_model.specs.Effects.{given_and_cleared}
use Rattle.object_plans.specs.Covered.{behind, left_by}

-- the fields behind the first, where that is called so, or all
gone : (name : Bytes) (f : Field) (fs : List Field) → same f.0 name ≡ true → behind name (f ∷ fs) ≡ fs
gone name f fs e = rw e refl

kept : (name : Bytes) (f : Field) (fs : List Field) → same f.0 name ≡ false → behind name (f ∷ fs) ≡ f ∷ fs
kept name f fs e = rw e refl

-- a field that is passed in its turn stands behind what is given first
ahead : (g f : Field) (fs given : List Field) → list_all (field_before g) given ≡ true → left_by given (f ∷ fs) ≡ [] → field_before g f ≡ true
ahead g f fs [] all none = absurd (cc)
ahead g f fs (h ∷ given) all none = by (same f.0 h.0) refl (ahead g f fs given parts.1)
  where
    parts : (field_before g h ≡ true) × (list_all (field_before g) given ≡ true)
    parts = both_of (field_before g h) (list_all (field_before g) given) all

    by : (b : Bool) → same f.0 h.0 ≡ b → (left_by given (f ∷ fs) ≡ [] → field_before g f ≡ true) → field_before g f ≡ true
    by true e ih = subst (λ (n : Bytes). before g.0 n ≡ true) (sym (same_equal f.0 h.0 e)) parts.0
    by false e ih = ih (ap (left_by given) (sym (kept h.0 f fs e)) ∙ none)

-- a value goes in front of the fields behind it
goes_first : (g : Field) (fs given : List Field) → list_all (field_before g) given ≡ true → left_by given (behind g.0 fs) ≡ []
    → put_in field_before g fs ≡ g ∷ behind g.0 fs
goes_first g [] given all none = refl
goes_first g (f ∷ fs) given all none = by (same f.0 g.0) refl
  where
    by : (b : Bool) → same f.0 g.0 ≡ b → put_in field_before g (f ∷ fs) ≡ g ∷ behind g.0 (f ∷ fs)
    by true e = let ties = name_ties (λ (x : Field). x.0) g.0 f e in rw (e, ties.0, ties.1) refl
    by false e =
        let lt = ahead g f fs given all (ap (left_by given) (sym (kept g.0 f fs e)) ∙ none) in
        rw (e, lt) refl

-- and stays there while values behind it are given
stays_first : (g : Field) (fs given : List Field) → list_all (field_before g) given ≡ true → last_values (g ∷ fs) given ≡ g ∷ last_values fs given
stays_first g fs [] all = refl
stays_first g fs (h ∷ given) all =
    let parts = both_of (field_before g h) (list_all (field_before g) given) all in
    let step : put_in field_before h (g ∷ fs) ≡ g ∷ put_in field_before h fs = rw (field_asym g h parts.0, parts.0) refl in
    ap (λ (found : List Field). last_values found given) step ∙ stays_first g (put_in field_before h fs) given parts.1

all_given : (fs given : List Field) → ascends field_before given ≡ true → left_by given fs ≡ [] → last_values fs given ≡ given
all_given fs [] asc none = none
all_given fs (g ∷ given) asc none =
    let parts = both_of (list_all (field_before g) given) (ascends field_before given) asc in
    ap (λ (found : List Field). last_values found given) (goes_first g fs given parts.0 none)
    ∙ stays_first g (behind g.0 fs) given parts.0
    ∙ ap (λ (rest : List Field). g ∷ rest) (all_given (behind g.0 fs) given parts.1 none)

pub given_all : (fs given : List Field) → are_fields given ≡ true → left_by given fs ≡ [] → with_values fs given ≡ given
given_all fs given are none =
    let parts = both_of (ascends field_before given) (list_all (λ f. not (is_absent f)) given) are in
    ap (filter (λ (f : Field). not (is_absent f))) (all_given fs given parts.0 none) ∙ filter-all (λ (f : Field). not (is_absent f)) given parts.1

-- one step of the walk over the fields

module _ (fs : List Field) (at : ℕ) (called name : Bytes) (lt : at < length fs) (called_is : IfSome (slice_get fs at) (λ f. called ≡ f.0)) where
  here : (f : Field) × (slice_get fs at ≡ Some f)
  here = item_at fs at lt

  is : called ≡ here.0.0
  is = subst (λ (o : Option Field). IfSome o (λ f. called ≡ f.0)) here.1 called_is

  rest : drop at fs ≡ here.0 ∷ drop (at + 1) fs
  rest = drop_next fs at here.0 here.1

  pub passed : same called name ≡ true → drop (at + 1) fs ≡ behind name (drop at fs)
  passed e = sym (ap (behind name) rest ∙ gone name here.0 (drop (at + 1) fs) (subst (λ (n : Bytes). same n name ≡ true) is e))

  pub stayed : same called name ≡ false → drop at fs ≡ behind name (drop at fs)
  stayed e = rest ∙ sym (ap (behind name) rest ∙ kept name here.0 (drop (at + 1) fs) (subst (λ (n : Bytes). same n name ≡ false) is e))

-- the walk over what is given

pub passed_by : (given fs gone : List Field) (i : ℕ) (name : Bytes) → i < length given → IfSome (slice_get given i) (λ g. name ≡ g.0) → gone ≡ behind name fs
    → left_by (drop (i + 1) given) gone ≡ left_by (drop i given) fs
passed_by given fs gone i name lt named step =
    let s = item_at given i lt in
    let is : name ≡ s.0.0 = subst (λ (o : Option Field). IfSome o (λ g. name ≡ g.0)) s.1 named in
    let rest : drop i given ≡ s.0 ∷ drop (i + 1) given = drop_next given i s.0 s.1 in
    ap (left_by (drop (i + 1) given)) (step ∙ ap (λ (n : Bytes). behind n fs) is) ∙ ap (λ (gs : List Field). left_by gs fs) (sym rest)

nothing : {A : Type 0} (xs : List A) → drop (length xs) xs ≡ []
nothing [] = refl
nothing (x ∷ xs) = nothing xs

pub none_left : (given fs : List Field) (at : ℕ) → at ≡ length fs → left_by (drop (length given) given) (drop at fs) ≡ left_by given fs → left_by given fs ≡ []
none_left given fs at is walked =
    sym walked ∙ ap (λ (gs : List Field). left_by gs (drop at fs)) (nothing given) ∙ ap (λ (n : ℕ). drop n fs) is ∙ nothing fs

-- and no name is cleared
pub none_cleared : (fs given : List Field) (names : List Bytes) → length names ≡ 0 → with_values fs given ≡ given → with_values fs (given_and_cleared given names) ≡ given
none_cleared fs given [] none all = ap (with_values fs) (append-nil given) ∙ all
none_cleared fs given (n ∷ names) none all = absurd (cc)
