use Rattle.world_recovery.proofs.Recorded.{few_of}
use Rattle.world_recovery.proofs.world_replays.take_record.Goals as goal

pub fold-requires : goal.fold-requires
fold-requires c = few_of c.args.version c.args.words.now c.in-Ok.change c.requires c.in-Ok.ensures.ok

pub returns-in-Ok-fold-clause-folded : goal.returns-in-Ok-fold-clause-folded
returns-in-Ok-fold-clause-folded c = (c.in-Ok.change, c.in-Ok.ensures.ok, c.in-Ok-fold.ensures.ok)
