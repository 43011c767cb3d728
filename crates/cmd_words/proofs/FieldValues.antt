-- Of each name the last value counts: the fields that are left, and the names that are written 0.
use Rattle.std.proofs.Common.{◌≡◌, ℕ, zero, suc, ◌<◌, ◌+◌, Bool, true, false, not, refl, sym, ◌∙◌, ap, List, [], ◌∷◌, ◌++◌, take, length, arith}
use Rattle.std.specs.Prelude.{pos, filter, map, Some, slice_get, IfSome}
use Rattle.std.proofs.lemmas.List.{take_more, map-append}
use Rattle.std.proofs.lemmas.Option.{get_or_from_slice_get}
use Rattle.byte_text.specs.Names.{Bytes}
use Rattle.ordered_lists.specs.Lists.{put_in}
use Rattle.world_data.specs.Filters.{Field, field_before, is_absent, is_no_value, last_values, with_values}
use Rattle.world_data.specs.FieldLaws.{one_given}
use Rattle.world_data.specs.declared.values.Value.{Value}
use Rattle.world_data.specs.declared.values.Value.TheVariants.{Whole}
use Rattle.world_model.specs.Commands.{cleared_of}
use Rattle.cmd_words.specs.Sets.{mark_of}

abbrev is_kept : Field → Bool
is_kept f = not (is_absent f)

-- one more field
value_more : (given : List Field) (f : Field) → with_values (with_values [] given) (f ∷ []) ≡ with_values [] (given ++ f ∷ [])
value_more given f = one_given [] given f refl

-- marks

abbrev pub marked : Field → Field
marked f = (f.0, mark_of f.1)

put_case : (f y : Field) (ys : List Field) (b c : Bool) → field_before f y ≡ b → field_before y f ≡ c → put_in field_before (marked f) (map marked ys) ≡ map marked (put_in field_before f ys)
    → put_in field_before (marked f) (map marked (y ∷ ys)) ≡ map marked (put_in field_before f (y ∷ ys))
put_case f y ys true c p q ih = rw p refl
put_case f y ys false true p q ih = rw (p, q) (ap (λ (l : List Field). marked y ∷ l) ih)
put_case f y ys false false p q ih = rw (p, q) refl

put_marked : (f : Field) (ys : List Field) → put_in field_before (marked f) (map marked ys) ≡ map marked (put_in field_before f ys)
put_marked f [] = refl
put_marked f (y ∷ ys) = put_case f y ys (field_before f y) (field_before y f) refl refl (put_marked f ys)

values_marked : (found given : List Field) → last_values (map marked found) (map marked given) ≡ map marked (last_values found given)
values_marked found [] = refl
values_marked found (f ∷ given) = ap (λ (l : List Field). last_values l (map marked given)) (put_marked f found) ∙ values_marked (put_in field_before f found) given

kept_case : (x : Field) (xs : List Field) (b : Bool) → is_absent x ≡ b → filter is_kept (map marked xs) ≡ map marked (filter is_absent xs) → filter is_kept (map marked (x ∷ xs)) ≡ map marked (filter is_absent (x ∷ xs))
kept_case x xs true e ih =
    let one : mark_of x.1 ≡ Whole (pos 1) = rw e refl in
    rw e (ap (λ (l : List Field). (x.0, Whole (pos 1)) ∷ l) ih ∙ ap (λ (v : Value). (x.0, v) ∷ map marked (filter is_absent xs)) (sym one))
kept_case x xs false e ih = rw e ih

kept_marked : (xs : List Field) → filter is_kept (map marked xs) ≡ map marked (filter is_absent xs)
kept_marked [] = refl
kept_marked (x ∷ xs) = kept_case x xs (is_absent x) refl (kept_marked xs)

names_marked : (xs : List Field) → map (λ f. f.0) (map marked xs) ≡ map (λ f. f.0) xs
names_marked [] = refl
names_marked (x ∷ xs) = ap (λ (l : List Bytes). x.0 ∷ l) (names_marked xs)

-- the names with a mark are those that are written 0
pub names_cleared : (given : List Field) → map (λ f. f.0) (with_values [] (map marked given)) ≡ cleared_of given
names_cleared given = ap (λ (l : List Field). map (λ f. f.0) (filter is_kept l)) (values_marked [] given) ∙ ap (map (λ f. f.0)) (kept_marked (last_values [] given)) ∙ names_marked (filter is_absent (last_values [] given))

-- one more of the fields that are given

pub field_more : (given : List Field) (f : Field) (fields new : List Field) → fields ≡ with_values [] given → new ≡ with_values fields (f ∷ []) → new ≡ with_values [] (given ++ f ∷ [])
field_more given f fields new s e = e ∙ ap (λ (l : List Field). with_values l (f ∷ [])) s ∙ value_more given f

pub mark_more : (given : List Field) (f : Field) (zeros new : List Field) → zeros ≡ with_values [] (map marked given) → new ≡ with_values zeros (marked f ∷ []) → new ≡ with_values [] (map marked (given ++ f ∷ []))
mark_more given f zeros new s e = field_more (map marked given) (marked f) zeros new s e ∙ ap (with_values []) (sym (map-append marked given (f ∷ [])))

-- a name that is not written 0 gets no mark, and there is none to take out
pub no_mark : (zeros : List Field) (name : Bytes) (v : Value) → length zeros ≡ 0 → is_no_value v ≡ false → zeros ≡ with_values zeros ((name, mark_of v) ∷ [])
no_mark [] name v none e = rw e refl
no_mark (z ∷ zeros) name v none e = absurd (omega (arith, none))

some_at : (fields : List Field) (at : ℕ) → at < length fields → (f : Field) × (slice_get fields at ≡ Some f)
some_at [] at within = absurd (omega arith)
some_at (f ∷ fields) zero within = (f, refl)
some_at (f ∷ fields) (suc at) within = some_at fields at (omega arith)

pub name_more : (fields : List Field) (at : ℕ) (n : Bytes) (names new : List Bytes) → at < length fields → IfSome (slice_get fields at) (λ f. n ≡ f.0) → names ≡ map (λ f. f.0) (take at fields) → new ≡ names ++ n ∷ []
    → new ≡ map (λ f. f.0) (take (at + 1) fields)
name_more fields at n names new within h s e =
    let found = some_at fields at within in
    let is : n ≡ found.0.0 = rw found.1 at h in
    let taken : take (at + 1) fields ≡ take at fields ++ found.0 ∷ [] = take_more fields at found.0 within ∙ ap (λ (x : Field). take at fields ++ x ∷ []) (get_or_from_slice_get fields at found.0 found.0 found.1) in
    e ∙ ap (λ (l : List Bytes). l ++ n ∷ []) s ∙ ap (λ (m : Bytes). map (λ f. f.0) (take at fields) ++ m ∷ []) is ∙ sym (ap (map (λ f. f.0)) taken ∙ map-append (λ (f : Field). f.0) (take at fields) (found.0 ∷ []))
