-- The messages of a put or a del are those of the channels that it may concern.
use Rattle.std.proofs.Common.{◌≡◌, sym, subst, List, [], ◌∷◌}
use Rattle.std.specs.Prelude.{Option, Some, None, filter, flat_map}
use Rattle.std.specs.List.{AllByRecursion}
use Rattle.planar_geom.specs.Nearness.{IsWholeShape}
use Rattle.world_data.specs.Worlds.{object_at}
use Rattle.world_data.specs.declared.channels.Channel.{Channel}
use Rattle.world_data.specs.declared.objects.Object.{Object}
use Rattle.world_data.specs.declared.worlds.World.{World}
use Rattle.world_data.specs.declared.worlds.Change.TheVariants.{Put, Del}
use Rattle.fence_model.specs.Messages.{announced_messages}
use Rattle.fence_index.specs.Marks.{mark_of}
use Rattle.fence_index.specs.Candidates.{box_if, is_concerned}
use Rattle.fence_index.specs.Silence.{IfWhole, UnconcernedAreSilent}
use Rattle.channel_hub.specs.Hubs.{AreWhole, del_may_concern, put_may_concern}
use Rattle.channel_hub.specs.MessageLaws.{IsSilentUnless, messages_on, of_candidates}

each : {P Q : Channel → Type 0} → ((c : Channel) → P c → Q c) → (cs : List Channel) → AllByRecursion P cs → AllByRecursion Q cs
each f [] all = all
each f (c ∷ cs) all = (f c all.0, each f cs all.1)

pub put_messages : UnconcernedAreSilent → (w : World) (cs : List Channel) (old : Option Object) (new : Object) → AreWhole cs → IfWhole old → IsWholeShape new.shape → w.channels ≡ cs
    → object_at w new.key new.id ≡ old → announced_messages w (Put new) ≡ flat_map (messages_on w (Put new)) (filter (put_may_concern old new) w.channels)
put_messages silent w cs old new whole old_whole new_whole is stands =
    of_candidates w (Put new) (λ c. is_concerned (box_if old) (box_if (Some new)) (mark_of c))
    (subst (λ (l : List Channel). AllByRecursion (IsSilentUnless w (Put new) (λ c. is_concerned (box_if old) (box_if (Some new)) (mark_of c))) l) (sym is)
    (each (λ c one off. silent.put c w new one (rw stands old_whole) new_whole (rw stands off)) cs whole))

pub del_messages : UnconcernedAreSilent → (w : World) (cs : List Channel) (old : Object) → AreWhole cs → IsWholeShape old.shape → w.channels ≡ cs
    → object_at w old.key old.id ≡ Some old → announced_messages w (Del old.key old.id) ≡ flat_map (messages_on w (Del old.key old.id)) (filter (del_may_concern old) w.channels)
del_messages silent w cs old whole old_whole is stands =
    of_candidates w (Del old.key old.id) (λ c. is_concerned (box_if (Some old)) None (mark_of c))
    (subst (λ (l : List Channel). AllByRecursion (IsSilentUnless w (Del old.key old.id) (λ c. is_concerned (box_if (Some old)) None (mark_of c))) l) (sym is)
    (each (λ c one off. silent.del c w old.key old.id one (rw stands old_whole) (rw stands off)) cs whole))
