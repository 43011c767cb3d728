use Rattle.std.proofs.Common.{[], refl, subst, sym}
use Rattle.world_data.specs.Worlds.{empty_world}
use Rattle.log_sides.specs.Texts.{newest}
use Rattle.world_data.specs.declared.worlds.World.{World}
use Rattle.resp_frames.specs.RequestReader.{Held}
use Rattle.world_recovery.specs.Replayed.{Begins, Stands}
use Rattle.world_recovery.proofs.Steps.{stands_first}
use Rattle.world_recovery.proofs.Feeding.{begins_first}
use Rattle.world_recovery.proofs.world_replays.WorldReplay.new.Goals as goal

pub invariant_of-result : goal.invariant_of-result
invariant_of-result c = subst Begins (sym c.new.ensures) begins_first

pub returns : goal.returns
returns c = (
  refl,
  subst (λ (w : World). Stands newest w c.new.result 0 0 [] []) (sym c.new-2.ensures)
      (subst (λ (h : Held). Stands newest empty_world h 0 0 [] []) (sym c.new.ensures) (stands_first newest)),
)
