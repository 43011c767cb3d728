use Rattle.std.proofs.Common.{ℕ}
use Rattle.world_data.specs.Worlds.{objects_of}
use Rattle.world_model.specs.Replies.{bounds_of_key}
use Rattle.keyspace.specs.Entries.{objects_in}
use Rattle.object_plans.specs.Moves.{world_in}
use Rattle.object_plans.specs.Answering.{answers_ever}
use Rattle.object_plans.proofs.Reading.{bounded}
use Rattle.object_plans.proofs.reads.plan_bounds.Goals as goal

pub returns : goal.returns
returns c =
    let w = world_in c.args.objects.now in
    answers_ever (objects_in c.args.objects.now) c.args.total c.requires _ (bounds_of_key (objects_of w c.args.key.now)) _ c.in_ok-reply.ensures.value c.say.ensures _ (λ (now : ℕ). bounded w now c.args.key.now)
