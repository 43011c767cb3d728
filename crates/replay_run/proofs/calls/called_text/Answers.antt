use Rattle.std.proofs.Common.{ap, inl}
use Rattle.std.specs.Prelude.{is_some}
use Rattle.world_model.specs.Histories.{answer}
use Rattle.world_model.specs.declared.events.CallOutcome.{CallOutcome}
use Rattle.replay_run.specs.Outputs.{called_line}
use Rattle.replay_run.proofs.Calling.{wants_memory}
use Rattle.replay_run.proofs.calls.called_text.Goals as goal

pub returns-in-Ok-clause-failed : goal.returns-in-Ok-clause-failed
returns-in-Ok-clause-failed c = wants_memory c.text_of.result (answer c.args.called) (ap (λ (z : CallOutcome). is_some (called_line z)) c.in-Ok.is) c.text_of.ensures.memory

pub returns-in-Full-clause-failed : goal.returns-in-Full-clause-failed
returns-in-Full-clause-failed c = wants_memory c.text_of-in-Full.result (answer c.args.called) (ap (λ (z : CallOutcome). is_some (called_line z)) c.in-Full.is) c.text_of-in-Full.ensures.memory

pub returns-in-Gone-clause-failed : goal.returns-in-Gone-clause-failed
returns-in-Gone-clause-failed c = wants_memory c.text_of-in-Gone.result (answer c.args.called) (ap (λ (z : CallOutcome). is_some (called_line z)) c.in-Gone.is) c.text_of-in-Gone.ensures.memory

pub returns-in-Memory-clause-failed : goal.returns-in-Memory-clause-failed
returns-in-Memory-clause-failed c = inl (ap answer c.in-Memory.is)
