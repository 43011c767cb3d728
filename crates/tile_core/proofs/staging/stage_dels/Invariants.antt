use Rattle.std.proofs.Common.{◌≡◌, take, map}
use Rattle.session_table.specs.Sessions.{session_of}
use Rattle.tile_core.specs.Staged.{AreStagedEach}
use Rattle.tile_core.proofs.staging.stage_dels.Given as goal

-- what the dels of the first objects bring is staged
abbrev pub invariant-loop-i : goal.invariant-loop-i
invariant-loop-i g l = (map session_of l.sessions.items ≡ map session_of l.initial.sessions.items)
    × AreStagedEach l.hub.channels (take l.i l.held) l.initial.sessions.items l.sessions.items
