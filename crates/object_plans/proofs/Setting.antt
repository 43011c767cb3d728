-- What a SET does, by the object that stands there, and what a put does, by the weight behind it.
use Rattle.std.proofs.Common.{◌≡◌, ℕ, ◌≤◌, ◌<◌, Bool, true, false, not, refl, sym, ap, ◌∙◌, List, [], ◌∷◌, length, Bor, arith}
use Rattle.std.specs.Prelude.{Option, Some, None, IfSome, IfNone, is_some, is_none, option_map, find, nat_le, nat_lt, ◌&&◌}
use Rattle.std.proofs.lemmas.Bool.{and_right}
use Rattle.std.proofs.lemmas.Bool.Decides.{nat_tests}
use Rattle.byte_text.specs.Names.{Bytes}
use Rattle.byte_text.specs.Replies.{fine, frame_text}
use Rattle.byte_text.specs.declared.replies.Piece.{Piece}
use Rattle.world_data.specs.Limits.{max_weight, max_objects, max_fields, max_reply}
use Rattle.ordered_lists.specs.Lists.{put_in}
use Rattle.world_data.specs.Worlds.{object_before, is_at}
use Rattle.world_data.specs.Records.{weight}
use Rattle.world_data.specs.Filters.{Field, with_values}
use Rattle.world_model.specs.Replies.{null}
use Rattle.world_model.specs.Effects.{Effect, effect, says, changes, refuses, within_reply, put_effect, is_kept_back, fields_of, given_and_cleared, deadline_after}
use Rattle.world_data.specs.declared.objects.Object.{Object}
use Rattle.world_data.specs.declared.worlds.World.{World}
use Rattle.world_data.specs.declared.worlds.Change.TheVariants as change
use Rattle.world_model.specs.declared.commands.Command.TheVariants as command
use Rattle.world_model.specs.declared.object_commands.ObjectCommand.TheVariants as of_object
use Rattle.world_model.specs.declared.faults.Refusal.TheVariants as refusal
use Rattle.world_model.specs.declared.object_commands.Only.{Only}
use Rattle.object_plans.specs.Moves.{world_of}
use Rattle.record_writer.specs.Lengths.{len_of}
use Rattle.object_plans.specs.Plans.{put_or_full}
use Rattle.object_plans.specs.Answering.{within_changes}
use Rattle.object_plans.specs.Weights.{weight_sum, put_sum}

-- by its tests

module _ (w : World) (only : Only) (old : Option Object) (o : Object) where
  put_null : is_kept_back only old ≡ true → put_effect w only old o ≡ says null
  put_null e = rw e refl

  module _ (free : is_kept_back only old ≡ false) where
    put_many : nat_lt max_fields (length o.fields) ≡ true → put_effect w only old o ≡ refuses refusal.TooManyFields
    put_many e = rw (free, e) refl

    module _ (few : nat_lt max_fields (length o.fields) ≡ false) where
      put_full : (is_none old && nat_le max_objects (length w.objects)) ≡ true → put_effect w only old o ≡ refuses refusal.TooManyObjects
      put_full e = rw (free, few, e) refl

      put_rest : (is_none old && nat_le max_objects (length w.objects)) ≡ false → within_reply (put_effect w only old o) ≡ put_or_full w o fine true
      put_rest e = rw (free, few, e) refl

-- what is found, by the answer of the look-up
pub stands : {f : Option Object} (r : Option (Bor Object)) → IfNone r (f ≡ None) → IfSome r (λ o. f ≡ Some o.now) → f ≡ option_map (λ o. o.now) r
stands None none some = none
stands (Some o) none some = some

pub is_there : (r : Option (Bor Object)) → is_some r ≡ is_some (option_map (λ (o : Bor Object). o.now) r)
is_there None = refl
is_there (Some o) = refl

pub new_is : (r : Option (Bor Object)) (b : Bool) → is_some r ≡ not b → is_none r ≡ b
new_is None true e = refl
new_is None false e = absurd (cc)
new_is (Some o) true e = absurd (cc)
new_is (Some o) false e = refl

is_new : (r : Option (Bor Object)) → is_none (option_map (λ (o : Bor Object). o.now) r) ≡ is_none r
is_new None = refl
is_new (Some o) = refl

-- SET: what is put has the fields that are given over those that the object had
module _ (xs : List Object) (x : Object) (given : List Field) (cleared : List Bytes) (seconds : Option ℕ) (only : Only) (now : ℕ) (r : Option (Bor Object)) (none : IfNone r (find (is_at x.key x.id) xs ≡ None)) (some : IfSome r (λ o. find (is_at x.key x.id) xs ≡ Some o.now)) where
  abbrev pub setting : Effect
  setting = effect (world_of xs) now [] (command.Object (of_object.Set x.key x.id given cleared seconds only x.text x.shape))

  abbrev old : Option Object
  old = option_map (λ (o : Bor Object). o.now) r

  -- what is put
  abbrev whole : List Field → Option ℕ → Object
  whole fields deadline = record { key = x.key; id = x.id; text = x.text; shape = x.shape; fields = fields; deadline = deadline }

  setting_is : setting ≡ within_reply (put_effect (world_of xs) only old (whole (with_values (fields_of old) (given_and_cleared given cleared)) (deadline_after now seconds)))
  unfolding effect
  setting_is = ap (λ (f : Option Object). within_reply (put_effect (world_of xs) only f (whole (with_values (fields_of f) (given_and_cleared given cleared)) (deadline_after now seconds)))) (stands r none some)

  pub kept_back : is_kept_back only old ≡ true → setting ≡ within_reply (says null)
  kept_back e = setting_is ∙ ap within_reply (put_null (world_of xs) only old _ e)

  module _ (free : is_kept_back only old ≡ false) (fields : List Field) (deadline : Option ℕ) (fields_are : fields ≡ with_values (fields_of old) (given_and_cleared given cleared)) (deadline_is : deadline ≡ deadline_after now seconds) where
    all_is : setting ≡ within_reply (put_effect (world_of xs) only old (whole fields deadline))
    all_is = setting_is ∙ ap (λ (fs : List Field). within_reply (put_effect (world_of xs) only old (whole fs (deadline_after now seconds)))) (sym fields_are)
        ∙ ap (λ (d : Option ℕ). within_reply (put_effect (world_of xs) only old (whole fields d))) (sym deadline_is)

    pub many : max_fields < length fields → setting ≡ within_reply (refuses refusal.TooManyFields)
    many more = let t : nat_lt max_fields (length fields) ≡ true = grind (arith, nat_tests) in all_is ∙ ap within_reply (put_many (world_of xs) only old (whole fields deadline) free t)

    module _ (less : length fields ≤ max_fields) where
      few : nat_lt max_fields (length fields) ≡ false
      few = grind (arith, nat_tests)

      pub full : is_none r ≡ true → max_objects ≤ length xs → setting ≡ within_reply (refuses refusal.TooManyObjects)
      full n le =
          let t : nat_le max_objects (length xs) ≡ true = grind (arith, nat_tests) in
          let u : (is_none old && nat_le max_objects (length xs)) ≡ true = rw (is_new r ∙ n, t) refl in
          all_is ∙ ap within_reply (put_full (world_of xs) only old (whole fields deadline) free few u)

      put_it : (is_none old && nat_le max_objects (length xs)) ≡ false → setting ≡ put_or_full (world_of xs) (whole fields deadline) fine true
      put_it u = all_is ∙ put_rest (world_of xs) only old (whole fields deadline) free few u

      pub put_over : is_none r ≡ false → setting ≡ put_or_full (world_of xs) (whole fields deadline) fine true
      put_over n = put_it (rw (is_new r ∙ n) refl)

      pub put_more : length xs < max_objects → setting ≡ put_or_full (world_of xs) (whole fields deadline) fine true
      put_more lt =
          let t : nat_le max_objects (length xs) ≡ false = grind (arith, nat_tests) in
          put_it (rw t (and_right (is_none old) false refl))

-- a put, by the weight behind it
module _ (xs : List Object) (x : Object) (reply : List Piece) (is_loud : Bool) where
  pub heavy : max_weight < weight (world_of (put_in object_before x xs)) → put_or_full (world_of xs) x reply is_loud ≡ within_reply (refuses refusal.DatabaseFull)
  heavy more = let t : nat_le (weight (world_of (put_in object_before x xs))) max_weight ≡ false = grind (arith, nat_tests) in rw t refl

  pub done : weight (world_of (put_in object_before x xs)) ≤ max_weight → length (frame_text reply) ≤ max_reply → put_or_full (world_of xs) x reply is_loud ≡ changes reply (record { change = change.Put x; announced = is_loud } ∷ [])
  done less short =
      let t : nat_le (weight (world_of (put_in object_before x xs))) max_weight ≡ true = grind (arith, nat_tests) in
      rw t (within_changes reply (record { change = change.Put x; announced = is_loud } ∷ []) short)

-- the record is part of the weight behind the put
pub put_weighs : (xs : List Object) (x : Object) → len_of x ≤ weight (world_of (put_in object_before x xs))
put_weighs xs x = omega (arith, put_sum len_of x xs, weight_sum (put_in object_before x xs))
