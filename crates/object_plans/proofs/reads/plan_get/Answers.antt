use Rattle.std.proofs.Common.{ℕ, refl}
use Rattle.world_model.specs.Replies.{null}
use Rattle.keyspace.specs.Entries.{objects_in}
use Rattle.object_plans.specs.Moves.{world_in}
use Rattle.object_plans.specs.Answering.{answers_ever}
use Rattle.reply_text.specs.Gets.{get_pieces}
use Rattle.object_plans.proofs.Reading.{got, got_none}
use Rattle.object_plans.proofs.reads.plan_get.Goals as goal

pub returns-in_ok-frame-in-Some : goal.returns-in_ok-frame-in-Some
returns-in_ok-frame-in-Some c =
    let o = c.in-Some.object.now in
    answers_ever (objects_in c.args.objects.now) c.args.total c.requires.kept _ (get_pieces c.args.with_fields c.args.shown o) _ refl (c.say_frame.ensures (get_pieces c.args.with_fields c.args.shown o) c.in_ok-frame-in-Some.ensures) _
    (λ (now : ℕ). got (world_in c.args.objects.now) now c.args.key.now c.args.id.now o c.args.with_fields c.args.shown c.in-Some.ensures.some)

pub returns-in_ok-null_frame-in-None : goal.returns-in_ok-null_frame-in-None
returns-in_ok-null_frame-in-None c =
    answers_ever (objects_in c.args.objects.now) c.args.total c.requires.kept _ null _ refl (c.say_frame-in-None.ensures null c.in_ok-null_frame-in-None.ensures) _
    (λ (now : ℕ). got_none (world_in c.args.objects.now) now c.args.key.now c.args.id.now c.args.with_fields c.args.shown c.in-None.ensures.none)
