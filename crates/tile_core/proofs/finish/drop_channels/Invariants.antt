use Rattle.std.specs.Prelude.{◌≡◌, drop}
use Rattle.channel_plans.specs.Planned.{without_names}
use Rattle.tile_core.proofs.finish.drop_channels.Given as goal

-- what is left to take out makes the whole
abbrev pub invariant-loop-i : goal.invariant-loop-i
invariant-loop-i l = without_names (drop l.i l.names) l.hub.channels ≡ without_names l.names l.initial.hub.channels
