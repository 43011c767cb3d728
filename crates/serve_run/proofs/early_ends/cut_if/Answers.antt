use Rattle.std.proofs.Common.{◌≡◌, rules}
use Rattle.std.specs.Prelude.{None}
use Rattle.serve_run.proofs.Stepping.{steps_none, steps_cut}
use Rattle.serve_run.proofs.early_ends.cut_if.Goals as goal

pub returns-then-is_none : goal.returns-then-is_none
returns-then-is_none g c = λ told k.
    let none : c.args.session.now.taking ≡ None = search rules in
    steps_cut told k c.args.session.now c.cut.new.self none c.cut.ensures

pub returns-else-is_due : goal.returns-else-is_due
returns-else-is_due g c = λ told k. steps_none told (Unit {0}) k c.args.session.now
