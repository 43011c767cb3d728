use Rattle.replay_run.proofs.Cutting.{cut_anywhere}
use Rattle.replay_run.proofs.laws.feeds_are_one_stream.Goals as goal

pub returns : goal.returns
returns c = cut_anywhere c.streams_read_once.ensures.cut
