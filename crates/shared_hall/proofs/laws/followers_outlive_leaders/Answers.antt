use Rattle.shared_hall.proofs.Outliving.{lives_shown, lives_taken}
use Rattle.shared_hall.proofs.laws.followers_outlive_leaders.Goals as goal

pub returns-clause-shown : goal.returns-clause-shown
returns-clause-shown c = lives_shown c.stream_laws.ensures.ask c.stream_laws.ensures.part c.followers_show_beginnings.ensures.beginning

pub returns-clause-taken : goal.returns-clause-taken
returns-clause-taken c = lives_taken c.stream_laws.ensures.ask c.stream_laws.ensures.part c.followers_show_beginnings.ensures.records
