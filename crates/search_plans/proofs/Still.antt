-- Searches change nothing, and do not look at channels.
use Rattle.std.proofs.Common.{◌≡◌, ℕ, Bool, true, false, refl, List, []}
use Rattle.std.specs.Prelude.{Option, Some, None, nat_le, length, if◌then◌else◌}
use Rattle.std.specs.List.{list_all}
use Rattle.byte_text.specs.Names.{Bytes}
use Rattle.byte_text.specs.Replies.{frame_text}
use Rattle.planar_geom.specs.declared.shapes.Area.{Area}
use Rattle.world_data.specs.Limits.{max_reply}
use Rattle.world_data.specs.Worlds.{object_at}
use Rattle.world_data.specs.declared.channels.Channel.{Channel}
use Rattle.world_data.specs.declared.objects.Object.{Object}
use Rattle.world_data.specs.declared.worlds.World.{World}
use Rattle.world_model.specs.Effects.{Effect, command_effect, effect, refuses, resolved, with_object, within_reply}
use Rattle.world_model.specs.declared.commands.Command.TheVariants as family
use Rattle.world_model.specs.declared.faults.Refusal.TheVariants as refusal
use Rattle.world_model.specs.declared.search_commands.AreaWords.{AreaWords}
use Rattle.world_model.specs.declared.search_commands.AreaWords.TheVariants.{Given, Of}
use Rattle.world_model.specs.declared.search_commands.SearchCommand.{SearchCommand}
use Rattle.world_model.specs.declared.search_commands.SearchCommand.TheVariants as of_search
use Rattle.object_plans.specs.Moves.{world_of, world_with}

abbrev Still : Effect → Type 0
Still e = e.writes ≡ []

either_still : (b : Bool) (e f : Effect) → Still e → Still f → Still (if b then e else f)
either_still true e f p q = p
either_still false e f p q = q

within_still : (e : Effect) → Still e → Still (within_reply e)
within_still e p =
    either_still (list_all (λ r. nat_le (length (frame_text r)) max_reply) e.replies) e (refuses refusal.ReplyTooLong) p refl

module _ (w : World) where
  object_still : (key id : Bytes) (g : Object → Effect) → ((o : Object) → Still (g o)) → Still (with_object w key id g)
  object_still key id g q = by (object_at w key id) refl
    where
      by : (f : Option Object) → object_at w key id ≡ f → Still (with_object w key id g)
      by None e = rw e refl
      by (Some o) e = rw e (q o)

  resolved_still : (from : AreaWords) (g : Area → List Bytes → Effect) → ((a : Area) (words : List Bytes) → Still (g a words)) → Still (resolved w from g)
  resolved_still (Given a) g q = q a []
  resolved_still (Of key id) g q = object_still key id _ (λ o. q _ _)

  pub search_still : (now : ℕ) (c : SearchCommand) → (effect w now [] (family.Search c)).writes ≡ []
  unfolding effect
  search_still now (of_search.Scan key q) = within_still (command_effect w now [] (family.Search (of_search.Scan key q))) refl
  search_still now (of_search.Area key q from) =
      within_still (command_effect w now [] (family.Search (of_search.Area key q from))) (resolved_still from _ (λ a words. refl))
  search_still now (of_search.Nearby key q at reach) =
      within_still (command_effect w now [] (family.Search (of_search.Nearby key q at reach))) refl

-- whatever channels there are
pub search_alike : (cs : List Channel) (os : List Object) (now : ℕ) (c : SearchCommand)
    → effect (world_of os) now [] (family.Search c) ≡ effect (world_with cs os) now [] (family.Search c)
unfolding effect
search_alike cs os now (of_search.Scan key q) = refl
search_alike cs os now (of_search.Area key q (Given a)) = refl
search_alike cs os now (of_search.Area key q (Of of_key id)) = refl
search_alike cs os now (of_search.Nearby key q at reach) = refl
