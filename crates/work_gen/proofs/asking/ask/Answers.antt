use Rattle.std.proofs.Common.{ℕ, subst}
use Rattle.work_gen.specs.Rounds.{CallsBy}
use Rattle.work_gen.proofs.Asked.{goes_round}
use Rattle.work_gen.proofs.asking.ask.Goals as goal

pub returns-clause-ok : goal.returns-clause-ok
returns-clause-ok g c =
    let call = subst (λ (n : ℕ). CallsBy n c.args.line.words (g.M.Machine.hall c.args.machine.now) (g.M.Machine.hall c.call_one.new.machine)) c.asker-session.ensures c.in_ok-call_one.ensures.ok in
    goes_round c.args.pair.now c.args.line (g.M.Machine.hall c.args.machine.now) (g.M.Machine.hall c.call_one.new.machine) (g.M.Machine.hall c.drain-heard.new.machine) (g.M.Machine.hall c.drain-told.new.machine)
    c.args.tally c.drain-heard.result c.drain-told.result c.plus-first.result c.unheard-bytes.result c.plus.result call c.drain-heard.ensures.drained c.drain-told.ensures.drained
    c.plus-first.ensures.messages c.plus-first.ensures.bytes c.unheard-bytes.ensures c.plus.ensures.messages c.plus.ensures.bytes
