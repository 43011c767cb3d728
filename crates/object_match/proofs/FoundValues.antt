-- The value of a field, sought from left to right.
use Rattle.std.proofs.Common.{◌≡◌, ℕ, ◌+◌, ◌<◌, true, false, List, ◌∷◌, length, drop, refl, ap, subst, sym, ◌∙◌}
use Rattle.std.specs.Prelude.{Option, IfSome, slice_get}
use Rattle.byte_text.specs.Names.{Bytes, same}
use Rattle.world_data.specs.Filters.{Field, value_of}
use Rattle.world_data.specs.declared.values.Value.{Value}
use Rattle.byte_text.specs.ListLaws.{drop_next, item_at}

first_value : (f : Field) (fs : List Field) (name : Bytes) → same f.0 name ≡ true → value_of (f ∷ fs) name ≡ f.1
first_value f fs name h = rw h refl

later_value : (f : Field) (fs : List Field) (name : Bytes) → same f.0 name ≡ false → value_of (f ∷ fs) name ≡ value_of fs name
later_value f fs name h = rw h refl

module _ (fields : List Field) (i : ℕ) (n name : Bytes) (within : i < length fields) (is : IfSome (slice_get fields i) (λ f. n ≡ f.0)) where
  called : n ≡ (item_at fields i within).0.0
  called = subst (λ (o : Option Field). IfSome o (λ f. n ≡ f.0)) (item_at fields i within).1 is

  pub found : (v w : Value) → IfSome (slice_get fields i) (λ f. v ≡ f.1) → same n name ≡ true → value_of (drop i fields) name ≡ w → v ≡ w
  found v w has h e =
      let f = (item_at fields i within).0 in
      let at = (item_at fields i within).1 in
      let value : v ≡ f.1 = subst (λ (o : Option Field). IfSome o (λ f. v ≡ f.1)) at has in
      let holds : same f.0 name ≡ true = subst (λ (k : Bytes). same k name ≡ true) called h in
      value ∙ sym (first_value f (drop (i + 1) fields) name holds) ∙ sym (ap (λ (l : List Field). value_of l name) (drop_next fields i f at)) ∙ e

  pub passed : (w : Value) → same n name ≡ false → value_of (drop i fields) name ≡ w → value_of (drop (i + 1) fields) name ≡ w
  passed w h e =
      let f = (item_at fields i within).0 in
      let at = (item_at fields i within).1 in
      let fails : same f.0 name ≡ false = subst (λ (k : Bytes). same k name ≡ false) called h in
      sym (later_value f (drop (i + 1) fields) name fails) ∙ sym (ap (λ (l : List Field). value_of l name) (drop_next fields i f at)) ∙ e
