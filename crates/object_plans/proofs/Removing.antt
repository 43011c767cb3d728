-- What DEL, PDEL, DROP and FLUSHDB do.
use Rattle.std.proofs.Common.{◌≡◌, ℕ, ◌<◌, Bool, true, false, refl, ap, ◌∙◌, List, [], ◌∷◌, length, arith}
use Rattle.std.specs.Prelude.{Some, None, filter, nat_lt, ◌||◌, if◌then◌else◌}
use Rattle.std.specs.List.{list_any}
use Rattle.std.proofs.lemmas.Bool.Decides.{nat_tests}
use Rattle.byte_text.specs.Names.{Bytes}
use Rattle.byte_text.specs.Replies.{fine, number}
use Rattle.world_data.specs.Worlds.{object_at, objects_of, has_key}
use Rattle.fence_model.specs.Writes.{announced, silent, dels}
use Rattle.world_model.specs.Effects.{effect, says, changes, within_reply}
use Rattle.world_data.specs.declared.objects.Object.{Object}
use Rattle.world_data.specs.declared.worlds.World.{World}
use Rattle.world_data.specs.declared.worlds.Change.TheVariants as change
use Rattle.world_model.specs.declared.commands.Command.TheVariants as command
use Rattle.world_model.specs.declared.object_commands.ObjectCommand.TheVariants as of_object
use Rattle.object_plans.specs.Sweeps.{met}

module _ (w : World) (now : ℕ) where
  pub del_some : (key id : Bytes) (o : Object) → object_at w key id ≡ Some o → effect w now [] (command.Object (of_object.Del key id)) ≡ within_reply (changes (number 1) (announced (change.Del o.key o.id) ∷ []))
  unfolding effect
  del_some key id o e = rw e refl

  pub del_none : (key id : Bytes) → object_at w key id ≡ None → effect w now [] (command.Object (of_object.Del key id)) ≡ within_reply (says (number 0))
  unfolding effect
  del_none key id e = rw e refl

  pub swept : (key glob : Bytes) → effect w now [] (command.Object (of_object.Pdel key glob)) ≡ within_reply (changes (number (length (met glob (objects_of w key)))) (dels (met glob (objects_of w key))))
  unfolding effect
  swept key glob = refl

  pub swept_none : (key glob : Bytes) → objects_of w key ≡ [] → effect w now [] (command.Object (of_object.Pdel key glob)) ≡ within_reply (says (number 0))
  swept_none key glob e = swept key glob ∙ ap (λ (os : List Object). within_reply (changes (number (length (met glob os))) (dels (met glob os)))) e

  pub drop_some : (key : Bytes) → list_any (has_key key) w.objects ≡ true → effect w now [] (command.Object (of_object.Drop key)) ≡ within_reply (changes (number 1) (announced (change.Drop key) ∷ []))
  unfolding effect
  drop_some key e = rw e refl

  pub drop_none : (key : Bytes) → list_any (has_key key) w.objects ≡ false → effect w now [] (command.Object (of_object.Drop key)) ≡ within_reply (says (number 0))
  unfolding effect
  drop_none key e = rw e refl

  pub flushed : effect w now [] (command.Object of_object.Flush) ≡ changes fine (silent change.Flush ∷ [])
  unfolding effect
  flushed = refl

-- some object has the key where those of the key are any
pub any_key : (key : Bytes) (xs : List Object) (n : ℕ) → n ≡ length (filter (has_key key) xs) → nat_lt 0 n ≡ list_any (has_key key) xs
any_key key [] n e = grind (arith, nat_tests)
any_key key (x ∷ xs) n e = by (has_key key x) (any_key key xs n) e
  where
    by : (t : Bool) → (n ≡ length (filter (has_key key) xs) → nat_lt 0 n ≡ list_any (has_key key) xs) → n ≡ length (if t then x ∷ filter (has_key key) xs else filter (has_key key) xs) → nat_lt 0 n ≡ (t || list_any (has_key key) xs)
    by true ih e = let some : 0 < n = omega (arith, e) in grind (arith, nat_tests)
    by false ih e = ih e
