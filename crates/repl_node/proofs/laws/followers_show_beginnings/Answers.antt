use Rattle.repl_node.proofs.Following.{beginnings, never_back, never_shorter, records_taken}
use Rattle.repl_node.proofs.laws.followers_show_beginnings.Goals as goal

pub returns-clause-beginning : goal.returns-clause-beginning
returns-clause-beginning c = beginnings

pub returns-clause-later : goal.returns-clause-later
returns-clause-later c = never_back

pub returns-clause-longer : goal.returns-clause-longer
returns-clause-longer c = never_shorter

pub returns-clause-records : goal.returns-clause-records
returns-clause-records c = records_taken
