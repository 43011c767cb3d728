use Rattle.std.proofs.lemmas.Slice.Eq.{strip_prefix_is}
use Rattle.std.proofs.lemmas.Bool.Decides.{Decides-eqb}
use Rattle.live_fence.proofs.Fronts.{behind_of_strip}
use Rattle.live_fence.proofs.parts.behind.Goals as goal

pub returns : goal.returns
returns c = behind_of_strip c.args.front.now c.args.bytes.now c.strip_prefix.result
    (strip_prefix_is Decides-eqb c.args.bytes.now c.args.front.now c.strip_prefix.result c.strip_prefix.ensures.cases)
