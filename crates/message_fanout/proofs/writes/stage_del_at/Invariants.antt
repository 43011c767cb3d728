use Rattle.std.proofs.Common.{◌≡◌, take, map, flat_map}
use Rattle.std.specs.Prelude.{Some}
use Rattle.world_data.specs.Worlds.{object_at}
use Rattle.world_data.specs.declared.worlds.World.{World}
use Rattle.world_data.specs.declared.worlds.Change.TheVariants.{Del}
use Rattle.session_table.specs.Sessions.{session_of}
use Rattle.session_table.specs.Fans.{AreBrought}
use Rattle.message_fanout.specs.Stagings.{messages_by}
use Rattle.message_fanout.proofs.writes.stage_del_at.Given as goal

-- what the first channels raise was staged
abbrev pub invariant-loop-i : goal.invariant-loop-i
invariant-loop-i l = record {
  same : map session_of l.sessions.items ≡ map session_of l.initial.sessions.items;
  staged : (w : World) → object_at w l.fn.old.key l.fn.old.id ≡ Some l.fn.old
      → AreBrought (flat_map (messages_by l.fn.gone_before w (Del l.fn.old.key l.fn.old.id)) (take l.i l.fn.concerned)) l.initial.sessions.items l.sessions.items;
}
