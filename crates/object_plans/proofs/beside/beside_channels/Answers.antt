use Rattle.std.proofs.Common.{◌≡◌, Bool, true, false, subst, arith}
use Rattle.std.proofs.lemmas.Result.{IfOk-weaker}
use Rattle.keyspace.specs.Entries.{objects_in}
use Rattle.object_plans.proofs.BesideLaws.{heavy_plan, light_plan, still_plan}
use Rattle.object_plans.proofs.beside.beside_channels.Goals as goal

pub returns-then-not-is_put : goal.returns-then-not-is_put
returns-then-not-is_put c = λ e is cs weighed.
    let passed = c.if-not-is_put.true in
    let none : c.is_put.result ≡ false = grind arith in
    still_plan cs (objects_in c.args._objects.now) e c.args.plan is c.args.total c.requires.kept (omega (arith, c.requires.light, weighed)) (subst (λ (b : Bool). b ≡ false) c.is_put.ensures none)

pub returns-then-weight-gt-MAX_WEIGHT : goal.returns-then-weight-gt-MAX_WEIGHT
returns-then-weight-gt-MAX_WEIGHT c = λ e is.
    let os = objects_in c.args._objects.now in
    let passed = c.if-not-is_put.false in
    let put : c.is_put.result ≡ true = grind arith in
    IfOk-weaker c.say_refusal.result _ _ (λ p s. λ cs weighed. heavy_plan cs os e c.args.plan is c.args.total c.requires.kept (omega (arith, c.requires.light, weighed))
    (subst (λ (b : Bool). b ≡ true) c.is_put.ensures put) (omega (arith, c.if-weight-gt-MAX_WEIGHT.true, weighed)) p s) c.say_refusal.ensures

pub returns : goal.returns
returns c = λ e is cs weighed.
    let passed = c.if-not-is_put.false in
    let put : c.is_put.result ≡ true = grind arith in
    light_plan cs (objects_in c.args._objects.now) e c.args.plan is c.args.total c.requires.kept (omega (arith, c.requires.light, weighed)) (subst (λ (b : Bool). b ≡ true) c.is_put.ensures put) (omega (arith, c.if-weight-gt-MAX_WEIGHT.false, weighed))
