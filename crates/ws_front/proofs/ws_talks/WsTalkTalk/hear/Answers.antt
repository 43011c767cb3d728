use Rattle.std.proofs.Common.{subst}
use Rattle.ws_front.specs.Talks.{TalkState, Hears, silent}
use Rattle.ws_front.proofs.ws_talks.WsTalkTalk.hear.Goals as goal

pub returns-in-Err-clause-heard : goal.returns-in-Err-clause-heard
returns-in-Err-clause-heard g c =
    let into = c.args.into.now in
    let new = silent c.miss.new.self.is_closed c.miss.new.self.faults in
    subst (λ (t : TalkState). Hears t new into into c.miss.result) c.next.ensures (c.miss.ensures into)
