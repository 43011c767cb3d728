use Rattle.std.proofs.Common.{◌≤◌, ℕ, [], ◌∷◌, length, lit<, subst, ap, ◌∙◌, sym, refl}
use Rattle.byte_text.specs.Names.{Bytes}
use Rattle.byte_text.specs.Replies.{number}
use Rattle.world_data.specs.Limits.{max_reply}
use Rattle.world_data.specs.Worlds.{is_at}
use Rattle.world_data.specs.declared.worlds.Change.TheVariants as change
use Rattle.fence_model.specs.Writes.{silent}
use Rattle.world_model.specs.Effects.{Effect, changes}
use Rattle.world_data.specs.declared.objects.Object.{Object}
use Rattle.keyspace.specs.Entries.{objects_in}
use Rattle.object_plans.specs.Moves.{IsAccepted, world_in}
use Rattle.record_writer.specs.Lengths.{HasFewFields, len_of}
use Rattle.record_writer.specs.LengthLaws.{bare_short}
use Rattle.object_plans.specs.Plans.{IsPlan}
use Rattle.object_plans.specs.Weights.{found_place}
use Rattle.object_plans.specs.Answering.{answers_ever, count_fits}
use Rattle.object_plans.proofs.Timing.{persisted_some, persisted_same, persisted_none, bare_is, bare_already}
use Rattle.object_plans.specs.Standing.{found_holds}
use Rattle.object_plans.proofs.deadlines.plan_persist.Goals as goal

pub returns-in_default : goal.returns-in_default
returns-in_default c =
    answers_ever (objects_in c.args.objects.now) c.args.total c.requires _ (number 0) _ refl c.say_count.ensures _
    (λ (now : ℕ). persisted_none (world_in c.args.objects.now) now c.args.key.now c.args.id.now c.in_default.ensures.none)

pub plan_lighter-requires-clause-few : goal.plan_lighter-requires-clause-few
plan_lighter-requires-clause-few c =
    let o = c.in-Some.old.now in
    let x = c.in-Some-2.object in
    let b = bare_is o x (sym c.in_ok-object.ensures ∙ c.in-Some-2.is) in
    let few = found_holds (is_at c.args.key.now c.args.id.now) o HasFewFields (objects_in c.args.objects.now) c.in-Some.ensures.some c.requires.few in
    subst HasFewFields b.2 few

pub plan_lighter-requires-clause-accepted : goal.plan_lighter-requires-clause-accepted
plan_lighter-requires-clause-accepted c =
    let o = c.in-Some.old.now in
    let x = c.in-Some-2.object in
    let b = bare_is o x (sym c.in_ok-object.ensures ∙ c.in-Some-2.is) in
    let accepted = found_holds (is_at c.args.key.now c.args.id.now) o IsAccepted (objects_in c.args.objects.now) c.in-Some.ensures.some c.requires.accepted in
    subst IsAccepted b.2 accepted

pub plan_lighter-requires-clause-short : goal.plan_lighter-requires-clause-short
plan_lighter-requires-clause-short c = subst (λ (f : Bytes). length f ≤ max_reply) (sym c.in_ok-frame-in-Some-2.ensures) (count_fits 1 (lit< tt))

pub plan_lighter-requires-clause-some : goal.plan_lighter-requires-clause-some
plan_lighter-requires-clause-some c =
    let o = c.in-Some.old.now in
    let x = c.in-Some-2.object in
    let b = bare_is o x (sym c.in_ok-object.ensures ∙ c.in-Some-2.is) in
    found_place c.args.key.now c.args.id.now (objects_in c.args.objects.now) o x (ap (λ (z : Object). z.key) b.2) (ap (λ (z : Object). z.id) b.2) c.in-Some.ensures.some

pub plan_lighter-requires-clause-lighter : goal.plan_lighter-requires-clause-lighter
plan_lighter-requires-clause-lighter c =
    let o = c.in-Some.old.now in
    let b = bare_is o c.in-Some-2.object (sym c.in_ok-object.ensures ∙ c.in-Some-2.is) in
    let few = found_holds (is_at c.args.key.now c.args.id.now) o HasFewFields (objects_in c.args.objects.now) c.in-Some.ensures.some c.requires.few in
    subst (λ (z : Object). len_of z ≤ len_of o) b.2 (bare_short o b.0 b.1 few)

pub returns-in_ok-frame-in-Some-2 : goal.returns-in_ok-frame-in-Some-2
returns-in_ok-frame-in-Some-2 c = λ (now : ℕ).
    let o = c.in-Some.old.now in
    let b = bare_is o c.in-Some-2.object (sym c.in_ok-object.ensures ∙ c.in-Some-2.is) in
    let is = persisted_some (world_in c.args.objects.now) now c.args.key.now c.args.id.now o c.in-Some.ensures.some b.0 b.1 in
    subst (λ (e : Effect). IsPlan (objects_in c.args.objects.now) e c.plan_lighter.result)
    (sym (is ∙ ap (λ (z : Object). changes (number 1) (silent (change.Put z) ∷ [])) b.2)) (c.plan_lighter.ensures (number 1) c.in_ok-frame-in-Some-2.ensures)

pub returns-in-None : goal.returns-in-None
returns-in-None c =
    let o = c.in-Some.old.now in
    let none = bare_already o (sym c.in_ok-object.ensures ∙ c.in-None.is) in
    answers_ever (objects_in c.args.objects.now) c.args.total c.requires _ (number 0) _ refl c.say_count-in-None.ensures _
    (λ (now : ℕ). persisted_same (world_in c.args.objects.now) now c.args.key.now c.args.id.now o c.in-Some.ensures.some none)
