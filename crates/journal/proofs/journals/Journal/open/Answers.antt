use Rattle.std.proofs.Common.{inl}
use Rattle.outside.specs.CrashLaws.{begins}
use Rattle.journal.proofs.journals.Journal.open.Goals as goal

pub returns-in_default-clause-leaves : goal.returns-in_default-clause-leaves
returns-in_default-clause-leaves g c s told crashes = begins g.D.Disk.moment g.D.Disk.left_since c.args.disk _

pub returns-in_default-clause-same : goal.returns-in_default-clause-same
returns-in_default-clause-same g c s told = inl told
