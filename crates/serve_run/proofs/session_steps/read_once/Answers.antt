use Rattle.std.proofs.Common.{refl}
use Rattle.serve_run.proofs.Stepping.{steps_none, steps_read}
use Rattle.serve_run.proofs.session_steps.read_once.Goals as goal

pub returns-then-not-marks-clause-steps : goal.returns-then-not-marks-clause-steps
returns-then-not-marks-clause-steps g c = λ told k. steps_none told ⊥ k c.args.session.now

pub returns-in-Ok-Bytes-clause-steps : goal.returns-in-Ok-Bytes-clause-steps
returns-in-Ok-Bytes-clause-steps g c = λ told k.
    steps_read told k c.args.session.now c.on_readable-got.new.self c.on_readable-got.result c.on_readable-got.new.block (c.if-not-wants_to_read.ensures.0 refl)
    c.on_readable-got.ensures.read c.on_readable-got.ensures.readies c.on_readable-got.ensures.demand

pub returns-in_default-clause-steps : goal.returns-in_default-clause-steps
returns-in_default-clause-steps g c = λ told k.
    steps_read told k c.args.session.now c.on_readable-got.new.self c.on_readable-got.result c.on_readable-got.new.block (c.if-not-wants_to_read.ensures.0 refl)
    c.on_readable-got.ensures.read c.on_readable-got.ensures.readies c.on_readable-got.ensures.demand
