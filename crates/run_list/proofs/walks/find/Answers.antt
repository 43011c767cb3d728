use Rattle.run_list.proofs.RunEnds.{found-at}
use Rattle.run_list.proofs.walks.find.Goals as goal

pub returns : goal.returns
returns c = found-at c.args.runs.now c.args.ends.now c.args.i c.runs_up_to-run.result c.before-2.result c.requires.ends c.requires.within c.runs_up_to-run.ensures.within c.runs_up_to-run.ensures.front c.runs_up_to-run.ensures.behind c.before-2.ensures.none c.before-2.ensures.some
