use Rattle.live_fence.proofs.Replies.{own_cut, others_whole}
use Rattle.live_fence.proofs.laws.shown_laws.Goals as goal

pub returns-clause-own : goal.returns-clause-own
returns-clause-own c = own_cut

pub returns-clause-others : goal.returns-clause-others
returns-clause-others c = others_whole c.frame_texts_differ.ensures
