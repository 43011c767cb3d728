use Rattle.std.proofs.Common.{◌≡◌, ◌<◌, ◌+◌, ◌^◌, length, vec_len}
use Rattle.keyspace.specs.Entries.{objects_in}
use Rattle.tile_core.specs.Dues.{with_back, HaveRoom}
use Rattle.tile_core.proofs.dues.put_back.Given as goal

abbrev pub decreases-loop-last : goal.decreases-loop-last
decreases-loop-last l = vec_len l.held

-- what is left to put back makes the whole
abbrev pub invariant-loop-last : goal.invariant-loop-last
invariant-loop-last l = record {
  whole : with_back (objects_in l.objects) l.held.items ≡ with_back (objects_in l.initial.objects) l.initial.held.items;
  room : HaveRoom l.objects l.held.items;
  few : length (objects_in l.objects) + length l.held.items < 2 ^ 32;
}
