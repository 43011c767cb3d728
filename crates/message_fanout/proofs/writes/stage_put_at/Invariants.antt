use Rattle.std.proofs.Common.{◌≡◌, false, take, map, flat_map}
use Rattle.std.specs.Prelude.{option_map}
use Rattle.world_data.specs.Worlds.{object_at}
use Rattle.world_data.specs.declared.worlds.World.{World}
use Rattle.world_data.specs.declared.worlds.Change.TheVariants.{Put}
use Rattle.channel_hub.specs.MessageLaws.{messages_on}
use Rattle.keyspace.specs.Entries.{objects_in}
use Rattle.session_table.specs.Sessions.{session_of}
use Rattle.session_table.specs.Fans.{AreBrought}
use Rattle.message_fanout.proofs.writes.stage_put_at.Given as goal

-- what the first channels raise was staged
abbrev pub invariant-loop-i : goal.invariant-loop-i
invariant-loop-i g l = record {
  same : map session_of l.sessions.items ≡ map session_of l.initial.sessions.items;
  staged : (w : World) → w.objects ≡ objects_in l.fn.objects → object_at w l.fn.new.key l.fn.new.id ≡ option_map (λ o. o.now) l.fn.old
      → AreBrought (flat_map (messages_on w (Put l.fn.new)) (take l.i l.fn.candidates)) l.initial.sessions.items l.sessions.items;
  quiet : l.is_told ≡ false → l.sessions ≡ l.initial.sessions;
}
