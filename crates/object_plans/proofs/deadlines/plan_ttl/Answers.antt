use Rattle.std.proofs.Common.{◌≡◌, ap, ◌∙◌, to_z-of_z, w64, rules}
use mir.Val.{SFits}
use Rattle.world_model.specs.Replies.{integer_reply, seconds_left, no_object}
use Rattle.keyspace.specs.Entries.{objects_in}
use Rattle.object_plans.specs.Moves.{world_in}
use Rattle.object_plans.specs.Answering.{answers}
use Rattle.object_plans.proofs.Timing.{ttl_some, ttl_none}
use Rattle.object_plans.proofs.deadlines.plan_ttl.Goals as goal

pub returns-in_ok-number_reply-in-Some : goal.returns-in_ok-number_reply-in-Some
returns-in_ok-number_reply-in-Some c =
    let o = c.in-Some.object.now in
    let fits : SFits w64 c.seconds_left-left.result = search rules in
    let left : c.in_ok-number_reply-in-Some.field-0 ≡ integer_reply c.seconds_left-left.result = rw (to_z-of_z fits) at c.in_ok-number_reply-in-Some.ensures.value in
    answers (objects_in c.args.objects.now) c.args.total c.requires _ (integer_reply (seconds_left c.args.now o.deadline)) _ (left ∙ ap integer_reply c.seconds_left-left.ensures) c.say-in-Some.ensures _
    (ttl_some (world_in c.args.objects.now) c.args.now c.args.key.now c.args.id.now o c.in-Some.ensures.some)

pub returns-in_ok-number_reply-in-None : goal.returns-in_ok-number_reply-in-None
returns-in_ok-number_reply-in-None c =
    answers (objects_in c.args.objects.now) c.args.total c.requires _ (integer_reply no_object) _ c.in_ok-number_reply-in-None.ensures.value c.say-in-None-2.ensures _
    (ttl_none (world_in c.args.objects.now) c.args.now c.args.key.now c.args.id.now c.in-None.ensures.none)
