use Rattle.session_run.proofs.Feeding.{dry_read}
use Rattle.session_run.proofs.filling.feed.Goals as goal

pub returns-clause-dry : goal.returns-clause-dry
returns-clause-dry c = dry_read c.args.reader.now c.feed.new.self c.args.bytes.now c.feed.result c.requires.dry c.feed.ensures.fed c.feed.ensures.fault
