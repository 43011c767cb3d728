use Rattle.std.proofs.Common.{ℕ, refl}
use Rattle.byte_text.specs.Replies.{fine}
use Rattle.keyspace.specs.Entries.{objects_in}
use Rattle.object_plans.specs.Moves.{world_in}
use Rattle.object_plans.specs.Answering.{answers_ever}
use Rattle.object_plans.proofs.Reading.{shrunk}
use Rattle.object_plans.proofs.commands.plan_shrink.Goals as goal

pub returns : goal.returns
returns c =
    answers_ever (objects_in c.args._objects.now) c.args.total c.requires _ fine _ refl (c.say_frame.ensures fine c.in_ok-fine_frame.ensures) _ (λ (now : ℕ). shrunk (world_in c.args._objects.now) now)
