use Rattle.serve_run.proofs.Stepping.{steps_none, steps_written}
use Rattle.serve_run.proofs.session_steps.write_once.Goals as goal

pub returns-then-not-marks : goal.returns-then-not-marks
returns-then-not-marks g c = record { steps = λ told k. steps_none told ⊥ k c.args.session.now }

pub returns : goal.returns
returns g c = record {
  steps = λ told k.
      steps_written told k c.args.session.now c.on_writable-sent.new.self c.on_writable-sent.result c.on_writable-sent.ensures.written
      c.on_writable-sent.ensures.writes c.on_writable-sent.ensures.owed;
}
