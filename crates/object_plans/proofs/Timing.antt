-- What EXPIRE, PERSIST and TTL do.
use Rattle.std.proofs.Common.{◌≡◌, ℕ, ◌+◌, ◌*◌, false, refl, sym, ◌∙◌, lit<, [], ◌∷◌}
use Rattle.std.specs.Prelude.{Option, Some, None}
use Rattle.std.proofs.lemmas.Option.{same_Some}
use Rattle.byte_text.specs.Names.{Bytes}
use Rattle.byte_text.specs.Replies.{number}
use Rattle.world_data.specs.Worlds.{object_at}
use Rattle.fence_model.specs.Writes.{silent}
use Rattle.world_model.specs.Effects.{effect, changes, says, within_reply}
use Rattle.world_model.specs.Replies.{integer_reply, seconds_left, no_object}
use Rattle.world_data.specs.declared.worlds.Change.TheVariants as change
use Rattle.world_data.specs.declared.objects.Object.{Object}
use Rattle.world_data.specs.declared.worlds.World.{World}
use Rattle.world_model.specs.declared.commands.Command.TheVariants as command
use Rattle.world_model.specs.declared.object_commands.ObjectCommand.TheVariants as of_object
use Rattle.object_plans.specs.Plans.{put_or_full, without_deadline}
use Rattle.object_plans.specs.Answering.{count_fits, within_changes}

module _ (w : World) (now : ℕ) (key id : Bytes) where
  pub expired_none : (s : ℕ) → object_at w key id ≡ None → effect w now [] (command.Object (of_object.Expire key id s)) ≡ within_reply (says (number 0))
  unfolding effect
  expired_none s e = rw e refl

  pub ttl_none : object_at w key id ≡ None → effect w now [] (command.Object (of_object.Ttl key id)) ≡ within_reply (says (integer_reply no_object))
  unfolding effect
  ttl_none e = rw e refl

  module _ (o : Object) (here : object_at w key id ≡ Some o) where
    pub expired_some : (s : ℕ) → effect w now [] (command.Object (of_object.Expire key id s)) ≡ put_or_full w (record o { deadline = Some (now + 1000 * s) }) (number 1) false
    unfolding effect
    expired_some s = rw here refl

    pub ttl_some : effect w now [] (command.Object (of_object.Ttl key id)) ≡ within_reply (says (integer_reply (seconds_left now o.deadline)))
    unfolding effect
    ttl_some = rw here refl

    pub persisted_some : (m : ℕ) → o.deadline ≡ Some m → effect w now [] (command.Object (of_object.Persist key id)) ≡ changes (number 1) (silent (change.Put (record o { deadline = None })) ∷ [])
    unfolding effect
    persisted_some m is = rw (here, is) (within_changes (number 1) (silent (change.Put (record o { deadline = None })) ∷ []) (count_fits 1 (lit< tt)))

    pub persisted_same : o.deadline ≡ None → effect w now [] (command.Object (of_object.Persist key id)) ≡ within_reply (says (number 0))
    unfolding effect
    persisted_same is = rw (here, is) refl

  pub persisted_none : object_at w key id ≡ None → effect w now [] (command.Object (of_object.Persist key id)) ≡ within_reply (says (number 0))
  unfolding effect
  persisted_none e = rw e refl

-- an object without its deadline

no_some : {A B : Type 0} (x : A) → None ≡ Some x → B
no_some x e = absurd (cc)

pub bare_is : (o x : Object) → without_deadline o ≡ Some x → (m : ℕ) × (o.deadline ≡ Some m) × (record o { deadline = None } ≡ x)
bare_is o x e = by o.deadline refl
  where
    by : (d : Option ℕ) → o.deadline ≡ d → (m : ℕ) × (o.deadline ≡ Some m) × (record o { deadline = None } ≡ x)
    by None is = let t : without_deadline o ≡ None = rw is refl in no_some x (sym t ∙ e)
    by (Some m) is = let t : without_deadline o ≡ Some (record o { deadline = None }) = rw is refl in (m, is, same_Some (record o { deadline = None }) x (sym t ∙ e))

pub bare_already : (o : Object) → without_deadline o ≡ None → o.deadline ≡ None
bare_already o e = by o.deadline refl
  where
    by : (d : Option ℕ) → o.deadline ≡ d → o.deadline ≡ None
    by None is = is
    by (Some m) is = let t : without_deadline o ≡ Some (record o { deadline = None }) = rw is refl in no_some (record o { deadline = None }) (sym e ∙ t)
