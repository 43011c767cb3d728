use Rattle.std.proofs.Common.{sym, subst, List}
use Rattle.world_data.specs.declared.objects.Object.{Object}
use Rattle.keyspace.specs.Entries.{objects_in}
use Rattle.tile_core.specs.Dues.{IsTaken}
use Rattle.tile_core.proofs.Taken.{none_due, taken_none}
use Rattle.tile_core.proofs.dues.expire.Goals as goal

pub returns-then-now-due_from-clause-expired : goal.returns-then-now-due_from-clause-expired
returns-then-now-due_from-clause-expired g c =
    let old = objects_in c.args.objects.now in
    record {
      taken = subst (λ (held : List Object). IsTaken old c.args.now c.args.total old held 0 c.args.total) (sym c.new.ensures.items) (taken_none old c.args.now c.args.total c.requires.kept);
      none = none_due c.args.due_from c.args.now old c.requires.due_from c.if-now-due_from.true;
      due_from = c.requires.due_from;
    }
