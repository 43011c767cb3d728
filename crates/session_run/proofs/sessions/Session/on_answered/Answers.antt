use Rattle.std.proofs.Common.{sym, ◌∙◌}
use Rattle.std.proofs.lemmas.List.{nil_from_length}
use Rattle.session_run.specs.declared.phases.Asking.TheVariants.{Ended}
use Rattle.session_run.proofs.Filled.{some_answered, all_answered}
use Rattle.session_run.proofs.sessions.Session.on_answered.Goals as goal

pub returns-in-Some-clause-demand : goal.returns-in-Some-clause-demand
returns-in-Some-clause-demand g c =
    rw (← c.self.view_is) (some_answered c.self.inside.number c.self.inside.reader c.self.inside.rest c.args.asked c.left_of.result c.args.answers.served (Ended c.in-Some.end) c.left_of.ensures.left)

pub returns-else-len-eq0-clause-demand : goal.returns-else-len-eq0-clause-demand
returns-else-len-eq0-clause-demand g c =
    rw (← c.self.view_is) (some_answered c.self.inside.number c.self.inside.reader c.self.inside.rest c.args.asked c.left_of.result c.args.answers.served c.self.inside.asking c.left_of.ensures.left)

pub returns-then-len-eq0-clause-demand : goal.returns-then-len-eq0-clause-demand
returns-then-len-eq0-clause-demand g c =
    let a = c.ask_on-self-inside in
    rw (← c.self.view_is) (all_answered c.self.inside.number c.self.inside.reader a.new.reader c.self.inside.rest a.new.rest c.args.asked c.left_of.result a.new.asked c.args.answers.served c.self.inside.asking a.result
    c.left_of.ensures.left (nil_from_length c.left_of.result (sym c.len.ensures ∙ c.if-len-eq0.true)) a.ensures.open a.ensures.same)
