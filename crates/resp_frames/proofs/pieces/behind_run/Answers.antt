use Rattle.std.proofs.Common.{rules, ap, ◌++◌, ◌∙◌}
use Rattle.resp_frames.specs.RequestPlaces.{from}
use Rattle.resp_frames.proofs.StepLaws.{run_reads}
use Rattle.resp_frames.proofs.pieces.behind_run.Goals as goal

pub returns-in-Word-clause-reads : goal.returns-in-Word-clause-reads
returns-in-Word-clause-reads c = λ run more e.
    ap (λ p. from p (run ++ more)) c.in-Word.is ∙ run_reads c.in-Word.ahead c.in-Word.len c.in-Word.left c.min-run.result run more (search rules) e
