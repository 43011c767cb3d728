-- What FSET and FGET do.
use Rattle.std.proofs.Common.{◌≡◌, ◌≢◌, ℕ, suc, ◌+◌, ◌<◌, ◌≤◌, Bool, true, false, not, refl, ap, ◌∙◌, subst, List, [], ◌∷◌, ◌++◌, length, take, arith}
use Rattle.std.specs.Prelude.{Option, Some, None, IfSome, nat_lt, ◌==◌, slice_get, if◌then◌else◌}
use Rattle.std.specs.List.{list_any}
use Rattle.std.proofs.lemmas.Bool.Decides.{nat_tests}
use Rattle.std.proofs.lemmas.List.Sums.{sum_by_push}
use Rattle.byte_text.specs.Names.{Bytes}
use Rattle.byte_text.specs.Replies.{number}
use Rattle.byte_text.specs.ListLaws.{item_at}
use Rattle.world_data.specs.Limits.{max_fields}
use Rattle.world_data.specs.Worlds.{object_at, has_key}
use Rattle.world_data.specs.declared.values.Value.{Value}
use Rattle.world_data.specs.Filters.{Field, with_values, value_of, same_value, zero_value}
use Rattle.world_model.specs.Replies.{value_reply}
use Rattle.world_model.specs.Effects.{effect, says, refuses, missing, within_reply, given_and_cleared, changed_count}
use Rattle.world_data.specs.declared.objects.Object.{Object}
use Rattle.world_data.specs.declared.worlds.World.{World}
use Rattle.world_model.specs.declared.faults.Refusal.TheVariants as refusal
use Rattle.world_model.specs.declared.commands.Command.TheVariants as command
use Rattle.world_model.specs.declared.object_commands.ObjectCommand.TheVariants as of_object
use Rattle.object_plans.specs.Plans.{put_or_full}
use Rattle.object_plans.specs.Answering.{missing_fits}
use Rattle.object_plans.proofs.FieldOrder.{zero_more}
use Rattle.record_writer.specs.ObjectSums.{take_more}

-- an object that is not there

pub lacks_id : (w : World) (key : Bytes) → list_any (has_key key) w.objects ≡ true → missing w key ≡ within_reply (refuses refusal.IdNotFound)
lacks_id w key e = rw e refl

pub lacks_key : (w : World) (key : Bytes) → list_any (has_key key) w.objects ≡ false → missing w key ≡ within_reply (refuses refusal.KeyNotFound)
lacks_key w key e = rw e refl

module _ (w : World) (now : ℕ) (key id : Bytes) where
  pub fset_none : (given : List Field) (cleared : List Bytes) → object_at w key id ≡ None → effect w now [] (command.Object (of_object.Fset key id given cleared)) ≡ missing w key
  unfolding effect
  fset_none given cleared e = rw e (missing_fits w key)

  pub fget_none : (field : Bytes) → object_at w key id ≡ None → effect w now [] (command.Object (of_object.Fget key id field)) ≡ missing w key
  unfolding effect
  fget_none field e = rw e (missing_fits w key)

  module _ (o : Object) (here : object_at w key id ≡ Some o) where
    pub fget_some : (field : Bytes) → effect w now [] (command.Object (of_object.Fget key id field)) ≡ within_reply (says (value_reply (value_of o.fields field)))
    unfolding effect
    fget_some field = rw here refl

    module _ (given : List Field) (cleared : List Bytes) where
      abbrev all : List Field
      all = given_and_cleared given cleared

      pub fset_same : changed_count o.fields all ≡ 0 → effect w now [] (command.Object (of_object.Fset key id given cleared)) ≡ within_reply (says (number 0))
      unfolding effect
      fset_same e = let t : (changed_count o.fields all == 0) ≡ true = grind (arith, nat_tests) in rw (here, t) refl

      module _ (n : ℕ) (count_is : n ≡ changed_count o.fields all) (some : n ≢ 0) where
        changed : (changed_count o.fields all == 0) ≡ false
        changed = grind (arith, nat_tests)

        pub fset_many : max_fields < length (with_values o.fields all) → effect w now [] (command.Object (of_object.Fset key id given cleared)) ≡ within_reply (refuses refusal.TooManyFields)
        unfolding effect
        fset_many more = let t : nat_lt max_fields (length (with_values o.fields all)) ≡ true = grind (arith, nat_tests) in rw (here, changed, t) refl

        pub fset_put : length (with_values o.fields all) ≤ max_fields → effect w now [] (command.Object (of_object.Fset key id given cleared)) ≡ put_or_full w (record o { fields = with_values o.fields all }) (number n) false
        unfolding effect
        fset_put less = let t : nat_lt max_fields (length (with_values o.fields all)) ≡ false = grind (arith, nat_tests) in rw (here, changed, t, count_is) refl

-- how many values are other ones, counted one by one

module _ (old : List Field) where
  abbrev is_changed : Field → Bool
  is_changed f = not (same_value (value_of old f.0) f.1)

  one_changed : (given : List Field) (f : Field) (count d : ℕ) → count ≡ changed_count old given → d ≡ (if is_changed f then 1 else 0) → count + d ≡ changed_count old (given ++ f ∷ [])
  one_changed given f count d a b = let sum = sum_by_push (λ (g : Field). if is_changed g then 1 else 0) given f in omega (arith, sum, a, b)

  pub next_given : (given : List Field) (i : ℕ) (name : Bytes) (value : Value) (count d : ℕ) → i < length given → IfSome (slice_get given i) (λ f. name ≡ f.0) → IfSome (slice_get given i) (λ f. value ≡ f.1)
      → count ≡ changed_count old (take i given) → d ≡ (if not (same_value (value_of old name) value) then 1 else 0) → count + d ≡ changed_count old (take (i + 1) given)
  next_given given i name value count d lt named valued before now =
      let s = item_at given i lt in
      let name_is : name ≡ s.0.0 = subst (λ (o : Option Field). IfSome o (λ f. name ≡ f.0)) s.1 named in
      let value_is : value ≡ s.0.1 = subst (λ (o : Option Field). IfSome o (λ f. value ≡ f.1)) s.1 valued in
      let this : d ≡ (if is_changed s.0 then 1 else 0) = now ∙ ap (λ (m : Bytes). if not (same_value (value_of old m) value) then 1 else 0) name_is ∙ ap (λ (v : Value). if not (same_value (value_of old s.0.0) v) then 1 else 0) value_is in
      let one : suc i ≡ i + 1 = omega arith in
      one_changed (take i given) s.0 count d before this ∙ ap (changed_count old) (take_more given i s.0 s.1) ∙ ap (λ (n : ℕ). changed_count old (take n given)) one

  pub next_cleared : (names : List Bytes) (i : ℕ) (name : Bytes) (count d : ℕ) → slice_get names i ≡ Some name → count ≡ changed_count old (given_and_cleared [] (take i names)) → d ≡ (if not (same_value (value_of old name) (zero_value)) then 1 else 0)
      → count + d ≡ changed_count old (given_and_cleared [] (take (i + 1) names))
  next_cleared names i name count d at before now =
      let one : suc i ≡ i + 1 = omega arith in
      one_changed (given_and_cleared [] (take i names)) (name, zero_value) count d before now ∙ ap (changed_count old) (zero_more [] names i name at) ∙ ap (λ (n : ℕ). changed_count old (given_and_cleared [] (take n names))) one

pub one_at_most : (b : Bool) → (if b then 1 else 0) ≤ 1
one_at_most true = omega arith
one_at_most false = omega arith
