-- What is recovered is one world.
use Rattle.std.proofs.Common.{◌≡◌, Some, sym, ◌∙◌, ℕ, None, ap}
use Rattle.world_data.specs.declared.worlds.World.{World}
use Rattle.outside.specs.declared.sides.Side.{Side}
use Rattle.outside.specs.Sides.{Sides}
use Rattle.log_record.specs.Readings.{Damaged}
use Rattle.log_record.specs.Recovery.{Recovers, world_read}

some_is_one : (v w : World) → Some v ≡ Some w → v ≡ w
some_is_one v w e = cc e

pub one_world : (image : Sides) (v w : World) → Recovers image v → Recovers image w → v ≡ w
unfolding Recovers
one_world image v w one other = some_is_one v w (sym one ∙ other)

clash : (w : World) → Some w ≡ None → ⊥
clash w e = cc e

pub recovered_is_whole : (image : Sides) (w : World) (side : Side) (place : ℕ) → Recovers image w → Damaged image side place → ⊥
unfolding Recovers
recovered_is_whole image w side place recovers damage = clash w (sym recovers ∙ ap world_read damage)
