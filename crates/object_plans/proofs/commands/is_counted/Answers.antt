use Rattle.std.proofs.Common.{subst, sym}
use Rattle.keyspace.specs.Entries.{objects_in}
use Rattle.world_model.specs.declared.object_commands.ObjectCommand.{ObjectCommand}
use Rattle.object_plans.specs.Beside.{IsCounted}
use Rattle.object_plans.proofs.BesideLaws.{few_counted}
use Rattle.object_plans.proofs.commands.is_counted.Goals as goal

pub returns-in-Fset : goal.returns-in-Fset
returns-in-Fset c = λ e. subst (λ (k : ObjectCommand). IsCounted (objects_in c.args._objects.now) k) (sym c.in-Fset.is) (few_counted (objects_in c.args._objects.now) _ _ c.in-Fset.fields c.in-Fset.cleared (c.are_few.ensures e))
