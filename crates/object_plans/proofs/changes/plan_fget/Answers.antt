use Rattle.std.proofs.Common.{ℕ, refl, sym, subst}
use Rattle.std.proofs.lemmas.Result.{IfOk-weaker}
use Rattle.world_model.specs.Effects.{Effect}
use Rattle.world_data.specs.Filters.{value_of}
use Rattle.world_model.specs.Replies.{value_reply}
use Rattle.keyspace.specs.Entries.{objects_in}
use Rattle.object_plans.specs.Moves.{world_in}
use Rattle.object_plans.specs.Plans.{IsPlan}
use Rattle.object_plans.specs.Answering.{answers_ever}
use Rattle.object_plans.proofs.Changing.{fget_some, fget_none}
use Rattle.object_plans.proofs.changes.plan_fget.Goals as goal

pub returns-in_default : goal.returns-in_default
returns-in_default c =
    IfOk-weaker c.plan_missing.result _ _ (λ p s. λ (now : ℕ). subst (λ (e : Effect). IsPlan (objects_in c.args.objects.now) e p) (sym (fget_none (world_in c.args.objects.now) now c.args.key.now c.args.id.now c.args.field.now c.in_default.ensures.none)) s) c.plan_missing.ensures

pub returns : goal.returns
returns c =
    let o = c.in-Some.object.now in
    let reply = value_reply (value_of o.fields c.args.field.now) in
    answers_ever (objects_in c.args.objects.now) c.args.total c.requires reply reply _ refl (c.say_frame.ensures reply c.in_ok-frame.ensures) _
    (λ (now : ℕ). fget_some (world_in c.args.objects.now) now c.args.key.now c.args.id.now o c.in-Some.ensures.some c.args.field.now)
