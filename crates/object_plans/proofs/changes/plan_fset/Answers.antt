use Rattle.std.proofs.Common.{◌≡◌, ◌≤◌, ◌<◌, ℕ, false, length, subst, ap, ◌∙◌, sym, refl, List, rules, arith}
use Rattle.std.proofs.lemmas.Result.{IfOk-weaker}
use Rattle.byte_text.specs.Names.{Bytes}
use Rattle.byte_text.specs.Replies.{number}
use Rattle.world_data.specs.Limits.{max_reply, max_fields}
use Rattle.world_data.specs.Filters.{Field, with_values}
use Rattle.world_data.specs.Worlds.{is_at}
use Rattle.world_model.specs.Effects.{Effect, given_and_cleared}
use Rattle.world_data.specs.declared.objects.Object.{Object}
use Rattle.world_model.specs.Refusals.{refusal_reply}
use Rattle.world_model.specs.declared.faults.Refusal.TheVariants as refusal
use Rattle.keyspace.specs.Entries.{objects_in}
use Rattle.object_plans.specs.Moves.{IsAccepted, world_in}
use Rattle.object_plans.specs.Plans.{IsPlan, put_or_full}
use Rattle.object_plans.specs.Answering.{answers_ever, count_fits}
use Rattle.object_plans.specs.Standing.{found_holds}
use Rattle.object_plans.specs.Weights.{found_place}
use Rattle.object_plans.proofs.Changing.{fset_none, fset_same, fset_many, fset_put}
use Rattle.object_plans.proofs.changes.plan_fset.Goals as goal

pub returns-in_default : goal.returns-in_default
returns-in_default c =
    IfOk-weaker c.plan_missing.result _ _ (λ p s. λ (now : ℕ). subst (λ (e : Effect). IsPlan (objects_in c.args.objects.now) e p) (sym (fset_none (world_in c.args.objects.now) now c.args.key.now c.args.id.now c.args.given.now c.args.cleared.now c.in_default.ensures.none)) s) c.plan_missing.ensures

pub returns-then-count-eq0 : goal.returns-then-count-eq0
returns-then-count-eq0 c =
    let o = c.in-Some.old.now in
    answers_ever (objects_in c.args.objects.now) c.args.total c.requires _ (number 0) _ refl c.say_count.ensures _
    (λ (now : ℕ). fset_same (world_in c.args.objects.now) now c.args.key.now c.args.id.now o c.in-Some.ensures.some c.args.given.now c.args.cleared.now (sym c.in_ok-count.ensures ∙ c.if-count-eq0.true))

pub returns-then-len-gt-MAX_FIELDS : goal.returns-then-len-gt-MAX_FIELDS
returns-then-len-gt-MAX_FIELDS c =
    let o = c.in-Some.old.now in
    let all = given_and_cleared c.args.given.now c.args.cleared.now in
    let fields_are : c.in_ok-object-2.field-0 ≡ with_values o.fields all = c.in_ok-object-2.ensures ∙ ap (λ (fs : List Field). with_values fs all) c.in_ok-copy.ensures in
    let long : max_fields < length c.in_ok-object-2.field-0 = omega (arith, c.if-len-gt-MAX_FIELDS.true, c.len.ensures.count) in
    let more : max_fields < length (with_values o.fields all) = subst (λ (fs : List Field). max_fields < length fs) fields_are long in
    answers_ever (objects_in c.args.objects.now) c.args.total c.requires _ (refusal_reply refusal.TooManyFields) _ refl c.say_refusal.ensures _
    (λ (now : ℕ). fset_many (world_in c.args.objects.now) now c.args.key.now c.args.id.now o c.in-Some.ensures.some c.args.given.now c.args.cleared.now c.in_ok-count.count c.in_ok-count.ensures c.if-count-eq0.false more)

pub plan_put-requires-clause-accepted : goal.plan_put-requires-clause-accepted
plan_put-requires-clause-accepted c =
    let o = c.in-Some.old.now in
    let accepted = found_holds (is_at c.args.key.now c.args.id.now) o IsAccepted (objects_in c.args.objects.now) c.in-Some.ensures.some c.requires.accepted in
    subst IsAccepted (sym c.in_ok-object.ensures) accepted

pub plan_put-requires-clause-short : goal.plan_put-requires-clause-short
plan_put-requires-clause-short c = subst (λ (f : Bytes). length f ≤ max_reply) (sym c.in_ok-count_frame.ensures) (count_fits c.in_ok-count.count (search rules))

pub plan_put-requires-clause-some : goal.plan_put-requires-clause-some
plan_put-requires-clause-some c =
    let o = c.in-Some.old.now in
    let x = c.in_ok-object.object in
    found_place c.args.key.now c.args.id.now (objects_in c.args.objects.now) o x (ap (λ (z : Object). z.key) (sym c.in_ok-object.ensures)) (ap (λ (z : Object). z.id) (sym c.in_ok-object.ensures)) c.in-Some.ensures.some

pub returns : goal.returns
returns c =
    let w = world_in c.args.objects.now in
    let o = c.in-Some.old.now in
    let n = c.in_ok-count.count in
    let all = given_and_cleared c.args.given.now c.args.cleared.now in
    let fields_are : c.in_ok-object-2.field-0 ≡ with_values o.fields all = c.in_ok-object-2.ensures ∙ ap (λ (fs : List Field). with_values fs all) c.in_ok-copy.ensures in
    let short : length c.in_ok-object-2.field-0 ≤ max_fields = omega (arith, c.if-len-gt-MAX_FIELDS.false, c.len.ensures.count) in
    let less : length (with_values o.fields all) ≤ max_fields = subst (λ (fs : List Field). length fs ≤ max_fields) fields_are short in
    let same = ap (λ (z : Object). put_or_full w (record z { fields = with_values o.fields all }) (number n) false) (sym c.in_ok-object.ensures)
    ∙ ap (λ (fs : List Field). put_or_full w (record c.in_ok-object.object { fields = fs }) (number n) false) (sym fields_are) in
    IfOk-weaker c.plan_put.result _ _ (λ q s. λ (now : ℕ). subst (λ (e : Effect). IsPlan (objects_in c.args.objects.now) e q)
    (sym (fset_put w now c.args.key.now c.args.id.now o c.in-Some.ensures.some c.args.given.now c.args.cleared.now n c.in_ok-count.ensures c.if-count-eq0.false less ∙ same)) s) (c.plan_put.ensures (number n) c.in_ok-count_frame.ensures)
