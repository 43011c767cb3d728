use Rattle.std.proofs.Common.{length, ap, sym, ◌∙◌, List}
use Rattle.world_data.specs.declared.objects.Object.{Object}
use Rattle.keyspace.specs.Entries.{objects_in}
use Rattle.object_plans.proofs.Removing.{any_key}
use Rattle.object_plans.proofs.changes.has_key.Goals as goal

pub returns-in-Some : goal.returns-in-Some
returns-in-Some c = any_key c.args.key.now (objects_in c.args.objects.now) c.len.result (c.len.ensures.count ∙ ap (λ (xs : List Object). length xs) c.in-Some.ensures.some)

pub returns-in-None : goal.returns-in-None
returns-in-None c = any_key c.args.key.now (objects_in c.args.objects.now) 0 (ap (λ (xs : List Object). length xs) (sym c.in-None.ensures.none))
