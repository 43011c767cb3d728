use Rattle.shared_hall.proofs.Following.{histories_shown, parts_answered, parts_taken}
use Rattle.shared_hall.proofs.laws.followers_show_histories.Goals as goal

pub returns-clause-answered : goal.returns-clause-answered
returns-clause-answered c = parts_answered c.stream_laws.ensures.ask c.stream_laws.ensures.part

pub returns-clause-shown : goal.returns-clause-shown
returns-clause-shown c = histories_shown c.stream_laws.ensures.ask c.stream_laws.ensures.part c.followers_show_beginnings.ensures.beginning

pub returns-clause-taken : goal.returns-clause-taken
returns-clause-taken c = parts_taken c.stream_laws.ensures.ask c.stream_laws.ensures.part c.followers_show_beginnings.ensures.records
