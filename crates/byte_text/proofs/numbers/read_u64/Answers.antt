use Rattle.std.proofs.Common.{rules}
use Rattle.byte_text.proofs.NumbersRead.{read_natural_is}
use Rattle.byte_text.proofs.numbers.read_u64.Goals as goal

pub returns-in-Some-clause-exact : goal.returns-in-Some-clause-exact
returns-in-Some-clause-exact c = λ n small e. cc (c.in-Some.ensures.only n small e)

pub returns-in-Some-clause-reads : goal.returns-in-Some-clause-reads
returns-in-Some-clause-reads c = read_natural_is _ _ (search rules, search rules) (returns-in-Some-clause-exact c)
