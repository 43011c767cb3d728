-- A field goes behind all others where it may be last.
use Rattle.std.proofs.Common.{◌≡◌, ◌<◌, ◌-◌, Bool, true, false, not, List, [], ◌∷◌, ◌++◌, length, refl, sym, ap, subst, ◌∙◌, arith}
use Rattle.std.specs.Prelude.{Some, IfSome, ◌&&◌, filter, slice_get}
use Rattle.std.specs.List.{list_all}
use Rattle.std.proofs.lemmas.Bool.{and_from, and_right}
use Rattle.std.proofs.lemmas.List.Folds.{list_all-append}
use Rattle.byte_text.specs.Names.{Bytes, before}
use Rattle.ordered_lists.specs.Ascending.{ascends-left, put_in-last}
use Rattle.ordered_lists.specs.Lists.{ascends}
use Rattle.ordered_lists.specs.Reading.{both_of, filter-all, all-left, all-middle}
use Rattle.world_data.specs.Filters.{Field, field_before, is_absent, with_values, are_fields}
use Rattle.world_data.specs.FieldLaws.{field_trans, field_asym}

abbrev nonzero : Field → Bool
nonzero f = not (is_absent f)

-- the fields at the beginning of fields
pub are_left : (fs gs : List Field) → are_fields (fs ++ gs) ≡ true → are_fields fs ≡ true
are_left fs gs are =
    let parts = both_of (ascends field_before (fs ++ gs)) (list_all nonzero (fs ++ gs)) are in
    and_from (ascends field_before fs) (list_all nonzero fs) (ascends-left field_before fs gs parts.0) (all-left nonzero fs gs parts.1)

-- what `set` makes of a field that may be last
pub set_last : (fs : List Field) (f : Field) → are_fields (fs ++ f ∷ []) ≡ true → with_values fs (f ∷ []) ≡ fs ++ f ∷ []
set_last fs f are =
    let parts = both_of (ascends field_before (fs ++ f ∷ [])) (list_all nonzero (fs ++ f ∷ [])) are in
    ap (λ l. filter nonzero l) (put_in-last field_before field_asym f fs parts.0) ∙ filter-all nonzero (fs ++ f ∷ []) parts.1

with_true : (a b : Bool) → b ≡ true → (a && b) ≡ a
with_true true b e = e
with_true false b e = refl

and_true : (a : Bool) → (a && true) ≡ a
and_true true = refl
and_true false = refl

all_snoc : (q : Field → Bool) (fs : List Field) (f : Field) → list_all q (fs ++ f ∷ []) ≡ (list_all q fs && q f)
all_snoc q fs f = list_all-append q fs (f ∷ []) ∙ ap (λ b. list_all q fs && b) (and_true (q f))

pub zero_last : (fs : List Field) (f : Field) → is_absent f ≡ true → are_fields (fs ++ f ∷ []) ≡ false
zero_last fs f e = and_right (ascends field_before (fs ++ f ∷ [])) (list_all nonzero (fs ++ f ∷ []))
    (all_snoc nonzero fs f ∙ and_right (list_all nonzero fs) (nonzero f) (ap not e))

-- the last of a field and those behind it
abbrev last_of : Field → List Field → Field
last_of g [] = g
last_of g (h ∷ fs) = last_of h fs

ascends_last : (g : Field) (fs : List Field) (f : Field) → ascends field_before (g ∷ fs) ≡ true
    → ascends field_before ((g ∷ fs) ++ f ∷ []) ≡ field_before (last_of g fs) f
ascends_last g [] f asc = and_true (field_before g f && true) ∙ and_true (field_before g f)
ascends_last g (h ∷ fs) f asc = by (field_before (last_of h fs) f) (ascends_last h fs f parts.1)
  where
    parts : (list_all (field_before g) (h ∷ fs) ≡ true) × (ascends field_before (h ∷ fs) ≡ true)
    parts = both_of (list_all (field_before g) (h ∷ fs)) (ascends field_before (h ∷ fs)) asc

    above : ascends field_before ((h ∷ fs) ++ f ∷ []) ≡ true → field_before g f ≡ true
    above e =
        let under : field_before g h ≡ true = (both_of (field_before g h) (list_all (field_before g) fs) parts.0).0 in
        let over = (both_of (list_all (field_before h) (fs ++ f ∷ [])) (ascends field_before (fs ++ f ∷ [])) e).0 in
        field_trans g h f under (all-middle (field_before h) fs f [] over)

    by : (b : Bool) → ascends field_before ((h ∷ fs) ++ f ∷ []) ≡ b → ascends field_before ((g ∷ h ∷ fs) ++ f ∷ []) ≡ b
    by true e =
        let all : list_all (field_before g) ((h ∷ fs) ++ f ∷ []) ≡ true =
        all_snoc (field_before g) (h ∷ fs) f ∙ and_from (list_all (field_before g) (h ∷ fs)) (field_before g f) parts.0 (above e) in
        and_from (list_all (field_before g) ((h ∷ fs) ++ f ∷ [])) (ascends field_before ((h ∷ fs) ++ f ∷ [])) all e
    by false e = and_right (list_all (field_before g) ((h ∷ fs) ++ f ∷ [])) (ascends field_before ((h ∷ fs) ++ f ∷ [])) e

last_there : (g : Field) (fs : List Field) → slice_get (g ∷ fs) (length fs) ≡ Some (last_of g fs)
last_there g [] = refl
last_there g (h ∷ fs) = last_there h fs

-- a field that is not zero may be last exactly where the last of the others, if any, stands before it

nonzero_last : (fs : List Field) (f : Field) → are_fields fs ≡ true → is_absent f ≡ false → list_all nonzero (fs ++ f ∷ []) ≡ true
nonzero_last fs f are other = all_snoc nonzero fs f
    ∙ and_from (list_all nonzero fs) (nonzero f) (both_of (ascends field_before fs) (list_all nonzero fs) are).1 (ap not other)

pub only_one : (fs : List Field) (f : Field) → is_absent f ≡ false → length fs ≡ 0 → are_fields (fs ++ f ∷ []) ≡ true
only_one [] f other none = nonzero_last [] f refl other
only_one (g ∷ fs) f other none = absurd (omega (arith, none))

pub behind_last : (fs : List Field) (last : Bytes) (f : Field) → are_fields fs ≡ true → is_absent f ≡ false → 0 < length fs
    → IfSome (slice_get fs (length fs - 1)) (λ g. last ≡ g.0) → before last f.0 ≡ are_fields (fs ++ f ∷ [])
behind_last [] last f are other some named = absurd (omega (arith, some))
behind_last (h ∷ fs) last f are other some named =
    let at : length (h ∷ fs) - 1 ≡ length fs = omega arith in
    let there : slice_get (h ∷ fs) (length (h ∷ fs) - 1) ≡ Some (last_of h fs) = ap (slice_get (h ∷ fs)) at ∙ last_there h fs in
    let is : last ≡ (last_of h fs).0 = subst (λ o. IfSome o (λ g. last ≡ g.0)) there named in
    let asc = (both_of (ascends field_before (h ∷ fs)) (list_all nonzero (h ∷ fs)) are).0 in
    ap (λ n. before n f.0) is ∙ sym (ascends_last h fs f asc)
    ∙ sym (with_true (ascends field_before ((h ∷ fs) ++ f ∷ [])) (list_all nonzero ((h ∷ fs) ++ f ∷ [])) (nonzero_last (h ∷ fs) f are other))
