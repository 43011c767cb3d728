use Rattle.byte_text.specs.Replies.{number}
use Rattle.object_plans.proofs.answers.say_count.Goals as goal

pub returns : goal.returns
returns c = c.say_frame.ensures (number c.args.count) c.in_ok-count_frame.ensures
