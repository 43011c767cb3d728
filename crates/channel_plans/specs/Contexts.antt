-- What the plan of a request may rely on.
use Rattle.std.specs.Prelude.{◌≡◌, ◌+◌, ◌≤◌}
use Rattle.world_data.specs.Limits.{max_moment}
use Rattle.world_data.specs.declared.worlds.World.{World}
use Rattle.world_model.specs.Effects.{Effect}
use Rattle.keyspace.specs.Entries.{objects_in}
use Rattle.session_table.specs.Sessions.{AreSoundSubs}
use Rattle.object_plans.specs.Kept.{AreKept, most_kept}
use Rattle.object_plans.specs.Moves.{world_with}
use Rattle.object_plans.specs.Beside.{channels_weight}
use Rattle.channel_plans.specs.Planned.{IsPlanned}
use Rattle.channel_plans.specs.declared.contexts.Context.{Context}
use Rattle.channel_plans.specs.declared.planned.Planned.{Planned}

-- both weights are at hand and not too much together, the session's subscriptions are sound, and the moment is within its limit
pub record IsContext (c : Context) : Type 0 where
  pub kept : AreKept (objects_in c.objects.now) c.total
  pub channels : c.channels ≡ channels_weight c.hub.now.channels
  pub light : c.total + c.channels ≤ most_kept
  pub sound : AreSoundSubs c.subs.now
  pub moment : c.now ≤ max_moment

-- the world as it is kept
abbrev pub kept_world : Context → World
kept_world c = world_with c.hub.now.channels (objects_in c.objects.now)

-- what is planned has this effect on the world and on the subscriptions of the session that asks
abbrev pub IsPlannedIn : Context → Effect → Planned → Type 0
IsPlannedIn c e p = IsPlanned (kept_world c) c.total c.subs.now e p
