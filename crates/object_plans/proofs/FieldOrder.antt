-- Giving values to fields one by one.
use Rattle.std.proofs.Common.{◌≡◌, ℕ, zero, suc, ◌+◌, ◌<◌, true, not, sym, ap, ◌∙◌, subst, List, [], ◌∷◌, ◌++◌, length, take, arith}
use Rattle.std.specs.Prelude.{Option, Some, IfSome, map, slice_get}
use Rattle.std.specs.List.{list_all}
use Rattle.byte_text.specs.ListLaws.{item_at}
use Rattle.byte_text.specs.Names.{Bytes}
use Rattle.ordered_lists.specs.Reading.{filter-all}
use Rattle.world_data.specs.declared.values.Value.{Value}
use Rattle.world_data.specs.Filters.{Field, is_absent, zero_value, are_fields, with_values}
use Rattle.world_data.specs.FieldLaws.{one_given}
use Rattle.record_writer.specs.ObjectSums.{take_more}

pub none_given : (fields : List Field) → are_fields fields ≡ true → fields ≡ with_values fields []
none_given fields are = let all : list_all (λ f. not (is_absent f)) fields ≡ true = grind arith in sym (filter-all (λ (f : Field). not (is_absent f)) fields all)

-- the value at a place is given
pub given_at : (fields given : List Field) (i : ℕ) (name : Bytes) (value : Value) → are_fields fields ≡ true → i < length given → IfSome (slice_get given i) (λ f. name ≡ f.0) → IfSome (slice_get given i) (λ f. value ≡ f.1)
    → with_values (with_values fields (take i given)) ((name, value) ∷ []) ≡ with_values fields (take (i + 1) given)
given_at fields given i name value are lt named valued =
    let s = item_at given i lt in
    let name_is : name ≡ s.0.0 = subst (λ (o : Option Field). IfSome o (λ f. name ≡ f.0)) s.1 named in
    let value_is : value ≡ s.0.1 = subst (λ (o : Option Field). IfSome o (λ f. value ≡ f.1)) s.1 valued in
    let one : suc i ≡ i + 1 = omega arith in
    ap (λ (m : Bytes). with_values (with_values fields (take i given)) ((m, value) ∷ [])) name_is ∙ ap (λ (v : Value). with_values (with_values fields (take i given)) ((s.0.0, v) ∷ [])) value_is
    ∙ one_given fields (take i given) s.0 are ∙ ap (with_values fields) (take_more given i s.0 s.1) ∙ ap (λ (n : ℕ). with_values fields (take n given)) one

pub zero_more : (given : List Field) (names : List Bytes) (i : ℕ) (name : Bytes) → slice_get names i ≡ Some name
    → (given ++ map (λ n. (n, zero_value)) (take i names)) ++ (name, zero_value) ∷ [] ≡ given ++ map (λ n. (n, zero_value)) (take (suc i) names)
zero_more [] [] i name at = absurd (cc)
zero_more [] (n ∷ names) zero name at = let is : n ≡ name = cc in ap (λ (m : Bytes). (m, zero_value) ∷ []) (sym is)
zero_more [] (n ∷ names) (suc i) name at = ap (λ (fs : List Field). (n, zero_value) ∷ fs) (zero_more [] names i name at)
zero_more (g ∷ given) names i name at = ap (λ (fs : List Field). g ∷ fs) (zero_more given names i name at)

-- the name at a place is cleared
pub cleared_at : (fields given : List Field) (names : List Bytes) (i : ℕ) (name : Bytes) → are_fields fields ≡ true → slice_get names i ≡ Some name
    → with_values (with_values fields (given ++ map (λ n. (n, zero_value)) (take i names))) ((name, zero_value) ∷ []) ≡ with_values fields (given ++ map (λ n. (n, zero_value)) (take (i + 1) names))
cleared_at fields given names i name are at =
    let one : suc i ≡ i + 1 = omega arith in
    one_given fields (given ++ map (λ n. (n, zero_value)) (take i names)) (name, zero_value) are ∙ ap (with_values fields) (zero_more given names i name at)
    ∙ ap (λ (m : ℕ). with_values fields (given ++ map (λ n. (n, zero_value)) (take m names))) one
