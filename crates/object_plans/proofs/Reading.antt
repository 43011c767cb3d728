-- What GET, BOUNDS and STATS do.
use Rattle.std.proofs.Common.{◌≡◌, ℕ, zero, suc, ◌+◌, Bool, refl, sym, ap, ◌∙◌, List, [], ◌∷◌, ◌++◌, arith}
use Rattle.std.specs.List.{AllByRecursion}
use Rattle.std.specs.Prelude.{Some, None, map, take, slice_get}
use Rattle.byte_text.specs.Names.{Bytes}
use Rattle.byte_text.specs.Replies.{array, fine, IsFrame}
use Rattle.byte_text.specs.declared.replies.Piece.{Piece}
use Rattle.world_data.specs.Worlds.{object_at, objects_of}
use Rattle.world_model.specs.Replies.{null, bounds_of_key, stats_of_key}
use Rattle.world_model.specs.Effects.{effect, says, within_reply}
use Rattle.world_data.specs.declared.objects.Object.{Object}
use Rattle.world_data.specs.declared.worlds.World.{World}
use Rattle.world_model.specs.declared.commands.Command.TheVariants as command
use Rattle.world_model.specs.declared.object_commands.ObjectCommand.TheVariants as of_object
use Rattle.world_data.specs.declared.queries.Shown.{Shown}
use Rattle.reply_text.specs.Gets.{get_pieces}

module _ (w : World) (now : ℕ) where
  pub got : (key id : Bytes) (o : Object) (with_fields : Bool) (how : Shown) → object_at w key id ≡ Some o → effect w now [] (command.Object (of_object.Get key id with_fields how)) ≡ within_reply (says (get_pieces with_fields how o))
  unfolding effect
  got key id o with_fields how e = rw e refl

  pub got_none : (key id : Bytes) (with_fields : Bool) (how : Shown) → object_at w key id ≡ None → effect w now [] (command.Object (of_object.Get key id with_fields how)) ≡ within_reply (says null)
  unfolding effect
  got_none key id with_fields how e = rw e refl

  pub bounded : (key : Bytes) → effect w now [] (command.Object (of_object.Bounds key)) ≡ within_reply (says (bounds_of_key (objects_of w key)))
  unfolding effect
  bounded key = refl

  pub counted : (keys : List Bytes) → effect w now [] (command.Object (of_object.Stats keys)) ≡ within_reply (says (array (map (λ key. stats_of_key (objects_of w key)) keys)))
  unfolding effect
  counted keys = refl

  pub shrunk : effect w now [] (command.Object of_object.Shrink) ≡ within_reply (says fine)
  unfolding effect
  shrunk = refl

-- one key more
next_of : {B : Type 0} (f : Bytes → B) (keys : List Bytes) (i : ℕ) (k : Bytes) → slice_get keys i ≡ Some k → map f (take i keys) ++ f k ∷ [] ≡ map f (take (suc i) keys)
next_of f [] i k at = absurd (cc)
next_of f (x ∷ keys) zero k at = let is : x ≡ k = cc in ap (λ (z : Bytes). f z ∷ []) (sym is)
next_of {B = B} f (x ∷ keys) (suc i) k at = ap (λ (zs : List B). f x ∷ zs) (next_of f keys i k at)

pub next_key : {B : Type 0} (f : Bytes → B) (keys : List Bytes) (i : ℕ) (k : Bytes) → slice_get keys i ≡ Some k → map f (take i keys) ++ f k ∷ [] ≡ map f (take (i + 1) keys)
next_key f keys i k at = let one : suc i ≡ i + 1 = omega arith in next_of f keys i k at ∙ ap (λ (n : ℕ). map f (take n keys)) one

pub more_frames : (rs : List (List Piece)) (r : List Piece) → AllByRecursion IsFrame rs → IsFrame r → AllByRecursion IsFrame (rs ++ r ∷ [])
more_frames [] r all is = (is, tt)
more_frames (x ∷ rs) r all is = (all.0, more_frames rs r all.1 is)
