use Rattle.std.proofs.Common.{ℕ, ap, ◌∙◌, map}
use Rattle.byte_text.specs.Replies.{array}
use Rattle.world_data.specs.Worlds.{objects_of}
use Rattle.world_model.specs.Replies.{stats_of_key}
use Rattle.keyspace.specs.Entries.{objects_in}
use Rattle.object_plans.specs.Moves.{world_in}
use Rattle.object_plans.specs.Answering.{answers_ever}
use Rattle.object_plans.proofs.Reading.{counted}
use Rattle.object_plans.proofs.reads.plan_stats.Goals as goal

pub returns : goal.returns
returns c =
    let w = world_in c.args.objects.now in
    answers_ever (objects_in c.args.objects.now) c.args.total c.requires _ (array (map (λ key. stats_of_key (objects_of w key)) c.args.keys.now)) _ (c.in_ok-reply.ensures.value ∙ ap array c.in_ok-stats_of_each.ensures.value) c.say.ensures _
    (λ (now : ℕ). counted w now c.args.keys.now)
