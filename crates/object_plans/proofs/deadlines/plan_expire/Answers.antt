use Rattle.std.proofs.Common.{◌≤◌, ◌+◌, ◌*◌, length, lit<, subst, ap, ◌∙◌, sym, refl, false, ℕ}
use Rattle.std.specs.Prelude.{Option, Some}
use Rattle.std.proofs.lemmas.Result.{IfOk-weaker}
use Rattle.byte_text.specs.Names.{Bytes}
use Rattle.byte_text.specs.Replies.{number}
use Rattle.world_data.specs.Limits.{max_reply}
use Rattle.world_data.specs.Worlds.{is_at}
use Rattle.world_model.specs.Effects.{Effect}
use Rattle.world_data.specs.declared.objects.Object.{Object}
use Rattle.keyspace.specs.Entries.{objects_in}
use Rattle.object_plans.specs.Moves.{IsAccepted, world_in}
use Rattle.record_writer.specs.Lengths.{HasFewFields}
use Rattle.object_plans.specs.Plans.{IsPlan, put_or_full}
use Rattle.object_plans.specs.Weights.{found_place}
use Rattle.object_plans.specs.Answering.{answers, count_fits}
use Rattle.object_plans.proofs.Timing.{expired_some, expired_none}
use Rattle.object_plans.specs.Standing.{found_holds}
use Rattle.object_plans.proofs.deadlines.plan_expire.Goals as goal

pub returns-in_default : goal.returns-in_default
returns-in_default c =
    answers (objects_in c.args.objects.now) c.args.total c.requires.kept _ (number 0) _ refl c.say_count.ensures _
    (expired_none (world_in c.args.objects.now) c.args.now c.args.key.now c.args.id.now c.args.seconds c.in_default.ensures.none)

pub plan_put-requires-clause-few : goal.plan_put-requires-clause-few
plan_put-requires-clause-few c =
    let o = c.in-Some.old.now in
    let few = found_holds (is_at c.args.key.now c.args.id.now) o HasFewFields (objects_in c.args.objects.now) c.in-Some.ensures.some c.requires.kept.few in
    subst HasFewFields (sym c.in_ok-object.ensures) few

pub plan_put-requires-clause-accepted : goal.plan_put-requires-clause-accepted
plan_put-requires-clause-accepted c =
    let o = c.in-Some.old.now in
    let accepted = found_holds (is_at c.args.key.now c.args.id.now) o IsAccepted (objects_in c.args.objects.now) c.in-Some.ensures.some c.requires.kept.accepted in
    subst IsAccepted (sym c.in_ok-object.ensures) accepted

pub plan_put-requires-clause-short : goal.plan_put-requires-clause-short
plan_put-requires-clause-short c = subst (λ (f : Bytes). length f ≤ max_reply) (sym c.in_ok-count_frame.ensures) (count_fits 1 (lit< tt))

pub plan_put-requires-clause-some : goal.plan_put-requires-clause-some
plan_put-requires-clause-some c =
    let o = c.in-Some.old.now in
    let x = c.in_ok-object.object in
    found_place c.args.key.now c.args.id.now (objects_in c.args.objects.now) o x (ap (λ (z : Object). z.key) (sym c.in_ok-object.ensures)) (ap (λ (z : Object). z.id) (sym c.in_ok-object.ensures)) c.in-Some.ensures.some

pub returns : goal.returns
returns c =
    let w = world_in c.args.objects.now in
    let o = c.in-Some.old.now in
    let at = c.args.now + 1000 * c.args.seconds in
    let put = expired_some w c.args.now c.args.key.now c.args.id.now o c.in-Some.ensures.some c.args.seconds
    ∙ ap (λ (z : Object). put_or_full w (record z { deadline = Some at }) (number 1) false) (sym c.in_ok-object.ensures)
    ∙ ap (λ (d : Option ℕ). put_or_full w (record c.in_ok-object.object { deadline = d }) (number 1) false) (sym c.deadline_after-object.ensures) in
    IfOk-weaker c.plan_put.result _ _ (λ q s. subst (λ (e : Effect). IsPlan (objects_in c.args.objects.now) e q) (sym put) s) (c.plan_put.ensures (number 1) c.in_ok-count_frame.ensures)
