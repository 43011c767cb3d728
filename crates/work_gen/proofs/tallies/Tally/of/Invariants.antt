use Rattle.std.proofs.Common.{◌≡◌, take}
use Rattle.world_data.specs.Frames.{frame_bytes}
use Rattle.work_gen.specs.Frames.{messages_in, capped}
use Rattle.work_gen.proofs.tallies.Tally.of.Given as goal

abbrev pub invariant-loop-i : goal.invariant-loop-i
invariant-loop-i l = record {
  heard : l.tally.messages ≡ capped (messages_in (take l.i l.frames.list));
  given : l.tally.bytes ≡ capped (frame_bytes (take l.i l.frames.list));
}
