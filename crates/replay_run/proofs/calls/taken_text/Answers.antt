use Rattle.std.proofs.Common.{ap}
use Rattle.std.specs.Prelude.{is_some}
use Rattle.world_model.specs.Outcomes.{take_outcome}
use Rattle.world_model.specs.declared.events.Taken.{Taken}
use Rattle.replay_run.specs.Outputs.{printed}
use Rattle.replay_run.proofs.Calling.{wants_memory}
use Rattle.replay_run.proofs.calls.taken_text.Goals as goal

pub returns-in-Some-clause-failed : goal.returns-in-Some-clause-failed
returns-in-Some-clause-failed c =
    let frames = c.args.frames.now.list in
    wants_memory c.frame_lines.result (take_outcome c.args.taken frames) (ap (λ (z : Taken). is_some (printed (take_outcome z frames))) c.in-Some.is) c.frame_lines.ensures.memory

pub returns-in-Empty-clause-failed : goal.returns-in-Empty-clause-failed
returns-in-Empty-clause-failed c =
    let frames = c.args.frames.now.list in
    wants_memory c.text_of.result (take_outcome c.args.taken frames) (ap (λ (z : Taken). is_some (printed (take_outcome z frames))) c.in-Empty.is) c.text_of.ensures.memory

pub returns-in-Ended-clause-failed : goal.returns-in-Ended-clause-failed
returns-in-Ended-clause-failed c =
    let frames = c.args.frames.now.list in
    wants_memory c.text_of-in-Ended.result (take_outcome c.args.taken frames) (ap (λ (z : Taken). is_some (printed (take_outcome z frames))) c.in-Ended.is) c.text_of-in-Ended.ensures.memory
