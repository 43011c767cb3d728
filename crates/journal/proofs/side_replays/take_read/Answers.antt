use Rattle.std.proofs.Common.{◌≡◌, arith}
use Rattle.journal.proofs.side_replays.take_read.Goals as goal

pub returns-in-Err-NoRecord-clause-broken : goal.returns-in-Err-NoRecord-clause-broken
returns-in-Err-NoRecord-clause-broken g c v batches part taken fits place is rest =
    let refused = c.in-Err-NoRecord.ensures.refused v batches part taken c.in-Err-NoRecord.at c.in-Err-NoRecord.field-0-is in
    let same : c.saturating_add.result ≡ place = cc in
    record { at = c.in-Err-NoRecord.at; none = refused.1 rest; here = omega (arith, same, c.saturating_add.ensures, refused.0, fits) }
