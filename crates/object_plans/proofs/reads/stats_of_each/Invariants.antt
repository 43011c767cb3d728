use Rattle.std.proofs.Common.{◌≡◌, take}
use Rattle.std.specs.Prelude.{map}
use Rattle.std.specs.List.{AllByRecursion}
use Rattle.byte_text.specs.Replies.{IsFrame}
use Rattle.world_data.specs.Worlds.{objects_of}
use Rattle.world_model.specs.Replies.{stats_of_key}
use Rattle.object_plans.specs.Moves.{world_in}
use Rattle.object_plans.proofs.reads.stats_of_each.Given as goal

abbrev pub invariant-loop-i : goal.invariant-loop-i
invariant-loop-i l = record {
  made : l.replies ≡ map (λ key. stats_of_key (objects_of (world_in l.objects) key)) (take l.i l.keys);
  frames : AllByRecursion IsFrame l.replies;
}
