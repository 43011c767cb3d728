use Rattle.keyspace.specs.Entries.{objects_in}
use Rattle.std.proofs.Common.{sym, subst}
use Rattle.channel_plans.specs.declared.planned.Planned.{Planned}
use Rattle.object_plans.specs.Moves.{world_with}
use Rattle.tile_core.specs.Ready.{planned_writes}
use Rattle.tile_core.specs.Staged.{StagesBehind}
use Rattle.tile_core.proofs.Behind.{behind_channels}
use Rattle.tile_core.proofs.staging.stage_planned.Goals as goal

pub returns-in-Channels-clause-staged : goal.returns-in-Channels-clause-staged
returns-in-Channels-clause-staged g c =
    let w = world_with c.args.hub.now.channels (objects_in c.args.objects.now) in
    let ss = c.args.sessions.now.items in
    subst (λ (p : Planned). StagesBehind w (planned_writes p) ss ss) (sym c.in-Channels.is) (behind_channels c.turn_laws.ensures.silent w c.in-Channels._plan.action ss)
