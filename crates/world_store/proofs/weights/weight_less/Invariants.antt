use Rattle.std.proofs.Common.{◌≡◌, ◌+◌, take}
use Rattle.std.specs.Prelude.{sum_by}
use Rattle.record_writer.specs.Lengths.{len_of}
use Rattle.world_store.proofs.weights.weight_less.Given as goal

abbrev pub invariant-loop-i : goal.invariant-loop-i
invariant-loop-i l = l.rest + sum_by len_of (take l.i l.objects.objects) ≡ l.fn.weight
