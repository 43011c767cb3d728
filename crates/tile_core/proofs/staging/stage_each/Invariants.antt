use Rattle.std.specs.Prelude.{◌≡◌, map, take}
use Rattle.keyspace.specs.Entries.{objects_in}
use Rattle.session_table.specs.Sessions.{session_of}
use Rattle.object_plans.specs.Moves.{world_with}
use Rattle.tile_core.specs.Staged.{StagesBehind, dels_of}
use Rattle.tile_core.proofs.staging.stage_each.Given as goal

-- what the dels of the first ids bring is staged
abbrev pub invariant-loop-i : goal.invariant-loop-i
invariant-loop-i g l =
    (map session_of l.sessions.items ≡ map session_of l.initial.sessions.items)
    × StagesBehind (world_with l.hub.channels (objects_in l.objects)) (dels_of l.key (take l.i l.ids)) l.initial.sessions.items l.sessions.items
