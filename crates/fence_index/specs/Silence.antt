-- Channels that a change does not concern raise nothing: of all whole channels and objects.
use Rattle.std.specs.Prelude.{◌≡◌, false, [], Option, Some, None, IfSome}
use Rattle.byte_text.specs.Names.{Bytes}
use Rattle.planar_geom.specs.Relations.{IsArea}
use Rattle.planar_geom.specs.Nearness.{IsWholeShape}
use Rattle.world_data.specs.Worlds.{object_at}
use Rattle.world_data.specs.declared.channels.Channel.{Channel}
use Rattle.world_data.specs.declared.channels.Watch.{Watch}
use Rattle.world_data.specs.declared.channels.Watch.TheVariants.{Zone, Roam}
use Rattle.world_data.specs.declared.objects.Object.{Object}
use Rattle.world_data.specs.declared.worlds.World.{World}
use Rattle.world_data.specs.declared.worlds.Change.TheVariants.{Put, Del}
use Rattle.fence_model.specs.Messages.{payloads}
use Rattle.fence_index.specs.Marks.{mark_of}
use Rattle.fence_index.specs.Candidates.{box_if, is_concerned}

abbrev pub IsWholeWatch : Watch → Type 0
IsWholeWatch (Zone kind a) = IsArea a
IsWholeWatch (Roam key pattern meters nodwell) = Unit {0}

-- where there is an object, its shape is whole
abbrev pub IfWhole : Option Object → Type 0
IfWhole o = IfSome o (λ o. IsWholeShape o.shape)

pub record UnconcernedAreSilent : Type 0 where
  pub put : (c : Channel) (w : World) (new : Object) → IsWholeWatch c.fence.watch → IfWhole (object_at w new.key new.id) → IsWholeShape new.shape
      → is_concerned (box_if (object_at w new.key new.id)) (box_if (Some new)) (mark_of c) ≡ false → payloads w (Put new) c ≡ []
  pub del : (c : Channel) (w : World) (key id : Bytes) → IsWholeWatch c.fence.watch → IfWhole (object_at w key id)
      → is_concerned (box_if (object_at w key id)) None (mark_of c) ≡ false → payloads w (Del key id) c ≡ []
