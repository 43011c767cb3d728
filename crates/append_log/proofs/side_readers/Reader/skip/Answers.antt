use Rattle.std.proofs.Common.{arith, drop, take, refl, ◌++◌}
use Rattle.append_log.proofs.Scanning.{advances, batch_read}
use Rattle.append_log.proofs.side_readers.Reader.skip.Goals as goal

pub returns-clause-at : goal.returns-clause-at
returns-clause-at c version generation batches part bytes reading =
    let s = c.args.self.now in
    let piece = take s.left (drop s.at bytes) in
    batch_read version generation batches (part ++ piece) s.len c.saturating_add-self.result bytes
    (advances version generation batches part piece s.len s.left s.at s.left 0 c.saturating_add-self.result bytes reading (omega arith) refl (omega arith) (omega (arith, c.saturating_add-self.ensures, reading.within, s.short)))
