use Rattle.std.proofs.Common.{◌≡◌, take, map, flat_map}
use Rattle.world_data.specs.declared.worlds.World.{World}
use Rattle.world_data.specs.declared.worlds.Change.TheVariants.{Drop}
use Rattle.channel_hub.specs.MessageLaws.{messages_on}
use Rattle.session_table.specs.Sessions.{session_of}
use Rattle.session_table.specs.Fans.{AreBrought}
use Rattle.message_fanout.proofs.writes.stage_drop_at.Given as goal

-- what the first channels raise was staged
abbrev pub invariant-loop-i : goal.invariant-loop-i
invariant-loop-i l = record {
  same : map session_of l.sessions.items ≡ map session_of l.initial.sessions.items;
  staged : (w : World) → AreBrought (flat_map (λ c. messages_on w (Drop c.fence.key) c) (take l.i l.fn.watching)) l.initial.sessions.items l.sessions.items;
}
