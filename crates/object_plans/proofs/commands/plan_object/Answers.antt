use Rattle.std.proofs.Common.{◌≡◌, Bool, true, false, subst, sym, refl, List, [], arith}
use Rattle.std.proofs.lemmas.Result.{IfOk-weaker}
use Rattle.world_data.specs.declared.channels.Channel.{Channel}
use Rattle.world_model.specs.Effects.{Effect, effect}
use Rattle.world_model.specs.declared.commands.Command.TheVariants as family
use Rattle.keyspace.specs.Entries.{objects_in}
use Rattle.object_plans.specs.Beside.{IsPlanBeside}
use Rattle.object_plans.specs.Moves.{world_of}
use Rattle.object_plans.proofs.BesideLaws.{beside, calm_plan}
use Rattle.object_plans.proofs.commands.plan_object.Goals as goal

pub beside_channels-requires-clause-plan_light : goal.beside_channels-requires-clause-plan_light
beside_channels-requires-clause-plan_light c = c.in_ok-plan.ensures.light

pub returns-then-not-is_weighed : goal.returns-then-not-is_weighed
returns-then-not-is_weighed c = λ (cs : List Channel) weighed.
    let os = objects_in c.args.context.objects.now in
    let e = effect (world_of os) c.args.context.now [] (family.Object c.args.command) in
    let passed = c.if-not-is_weighed.true in
    let none : c.is_weighed-is_weighed.result ≡ false = grind arith in
    calm_plan cs os e c.in_ok-plan.plan c.in_ok-plan.ensures c.args.context.total c.requires.kept (omega (arith, c.requires.light, weighed))
    c.args.context.now c.args.command (subst (λ (b : Bool). b ≡ false) c.is_weighed-is_weighed.ensures none) refl

pub returns : goal.returns
returns c =
    let os = objects_in c.args.context.objects.now in
    let e = effect (world_of os) c.args.context.now [] (family.Object c.args.command) in
    let counts = c.if-not-is_counted.false in
    let counted : c.is_counted.result ≡ true = grind arith in
    let passed = c.if-not-is_weighed.false in
    let weighs : c.is_weighed-is_weighed.result ≡ true = grind arith in
    IfOk-weaker c.beside_channels.result _ _ (λ p s. λ (cs : List Channel) weighed.
    subst (λ (f : Effect). IsPlanBeside cs os f p)
    (sym (beside cs os c.args.context.now c.args.command (subst (λ (b : Bool). b ≡ true) c.is_weighed-is_weighed.ensures weighs) (c.is_counted.ensures counted)))
    (s cs weighed)) (c.beside_channels.ensures e c.in_ok-plan.ensures)
