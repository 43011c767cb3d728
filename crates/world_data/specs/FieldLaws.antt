-- Fields stay in order, without doubles and with values that a field may have, also where values are given one by one.
use Rattle.std.proofs.Common.{◌≡◌, ℕ, true, false, not, refl, sym, ap, ◌∙◌, List, [], ◌∷◌, ◌++◌, arith}
use Rattle.std.specs.Prelude.{filter}
use Rattle.std.specs.List.{list_all, slice_set, insert, remove}
use Rattle.byte_text.specs.Names.{Bytes, before}
use Rattle.ordered_lists.specs.Ascending.{ascends-put_in, ascends-filter, put_in-set, put_in-insert}
use Rattle.ordered_lists.specs.Picked.{put_in-kept}
use Rattle.ordered_lists.specs.NameOrder.{name_trans, name_tie, name_asym}
use Rattle.ordered_lists.specs.Reading.{both_of, filter-all, filter-passes, filter-set, filter-insert, all-set, all-insert}
use Rattle.ordered_lists.specs.Lists.{ascends, put_in, IsHeld, IsFree}
use Rattle.world_data.specs.declared.values.Value.{Value}
use Rattle.world_data.specs.Filters.{Field, field_before, is_absent, last_values, with_values, are_fields}

pub field_trans : (f g h : Field) → field_before f g ≡ true → field_before g h ≡ true → field_before f h ≡ true
field_trans = name_trans (λ (f : Field). f.0)

pub field_tie : (f g h : Field) → field_before f g ≡ false → field_before g f ≡ false → field_before g h ≡ true → field_before f h ≡ true
field_tie = name_tie (λ (f : Field). f.0)

pub field_asym : (f g : Field) → field_before f g ≡ true → field_before g f ≡ false
field_asym = name_asym (λ (f : Field). f.0)

pub last_values-ascends : (found given : List Field) → ascends field_before found ≡ true → ascends field_before (last_values found given) ≡ true
last_values-ascends found [] asc = asc
last_values-ascends found (f ∷ fs) asc =
    last_values-ascends (put_in field_before f found) fs (ascends-put_in field_before field_trans field_tie f found asc)

-- giving values leaves fields
pub with_values-are_fields : (fields given : List Field) → are_fields fields ≡ true → are_fields (with_values fields given) ≡ true
with_values-are_fields fields given are =
    let asc : ascends field_before fields ≡ true
    → ascends field_before (with_values fields given) ≡ true =
    λ a. ascends-filter field_before (λ f. not (is_absent f)) (last_values fields given) (last_values-ascends fields given a) in
    let all = filter-passes (λ f. not (is_absent f)) (last_values fields given) in
    grind arith

values_snoc : (found given : List Field) (f : Field) → last_values found (given ++ f ∷ []) ≡ put_in field_before f (last_values found given)
values_snoc found [] f = refl
values_snoc found (g ∷ given) f = values_snoc (put_in field_before g found) given f

-- one value more
pub one_given : (fields given : List Field) (f : Field) → are_fields fields ≡ true
    → with_values (with_values fields given) (f ∷ []) ≡ with_values fields (given ++ f ∷ [])
one_given fields given f are =
    let asc = (both_of (ascends field_before fields) (list_all (λ f. not (is_absent f)) fields) are).0 in
    put_in-kept field_before field_asym field_trans field_tie (λ f. not (is_absent f)) f (last_values fields given)
    (last_values-ascends fields given asc)
    ∙ ap (filter (λ f. not (is_absent f))) (sym (values_snoc fields given f))

module _ (fields : List Field) (n : Bytes) (v : Value) (at : ℕ) (are : are_fields fields ≡ true) where
  nonzero : list_all (λ f. not (is_absent f)) fields ≡ true
  nonzero = let asc = are in grind arith

  put_held : IsHeld (λ f. before f.0 n) (λ f. before n f.0) fields at → put_in field_before (n, v) fields ≡ slice_set fields at (n, v)
  put_held h = put_in-set field_before field_asym (n, v) fields at h.front h.within h.tie

  put_free : IsFree (λ f. before f.0 n) (λ f. before n f.0) fields at → put_in field_before (n, v) fields ≡ insert fields at (n, v)
  put_free h = put_in-insert field_before field_asym (n, v) fields at h.front h.behind

  pub set_writes : IsHeld (λ f. before f.0 n) (λ f. before n f.0) fields at → is_absent (n, v) ≡ false
      → slice_set fields at (n, v) ≡ with_values fields ((n, v) ∷ [])
  set_writes h fails =
      let all = all-set (λ (f : Field). not (is_absent f)) fields at (n, v) nonzero (ap not fails) in
      rw (put_held h) (sym (filter-all (λ (f : Field). not (is_absent f)) (slice_set fields at (n, v)) all))

  pub set_inserts : IsFree (λ f. before f.0 n) (λ f. before n f.0) fields at → is_absent (n, v) ≡ false
      → insert fields at (n, v) ≡ with_values fields ((n, v) ∷ [])
  set_inserts h fails =
      let all = all-insert (λ (f : Field). not (is_absent f)) fields at (n, v) nonzero (ap not fails) in
      rw (put_free h) (sym (filter-all (λ (f : Field). not (is_absent f)) (insert fields at (n, v)) all))

  pub set_removes : IsHeld (λ f. before f.0 n) (λ f. before n f.0) fields at → is_absent (n, v) ≡ true
      → remove fields at ≡ with_values fields ((n, v) ∷ [])
  set_removes h holds = rw (put_held h) (sym (filter-set (λ (f : Field). not (is_absent f)) fields at (n, v) nonzero (ap not holds) h.within))

  pub set_keeps : IsFree (λ f. before f.0 n) (λ f. before n f.0) fields at → is_absent (n, v) ≡ true → fields ≡ with_values fields ((n, v) ∷ [])
  set_keeps h holds = rw (put_free h) (sym (filter-insert (λ (f : Field). not (is_absent f)) fields at (n, v) nonzero (ap not holds)))
