use Rattle.run_list.proofs.Cuts.{cut-front-at, cut-behind}
use Rattle.run_list.proofs.searches.place_among.Goals as goal

pub returns-clause-front : goal.returns-clause-front
returns-clause-front g c = cut-front-at (g.B.Before.before c.args.test.now) c.args.numbers.now c.numbers_before.result c.requires c.numbers_before.ensures.within c.numbers_before.ensures.front

pub returns-clause-behind : goal.returns-clause-behind
returns-clause-behind g c = cut-behind (g.B.Before.before c.args.test.now) c.args.numbers.now c.numbers_before.result c.requires c.numbers_before.ensures.behind
