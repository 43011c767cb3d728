use Rattle.std.proofs.Common.{subst}
use Rattle.ws_front.specs.Talks.{TalkState, Says, silent}
use Rattle.ws_front.proofs.ws_talks.WsTalkTalk.say.Goals as goal

pub returns-in-Err-clause-said : goal.returns-in-Err-clause-said
returns-in-Err-clause-said g c =
    let bytes = c.args.bytes.now in
    let new = silent c.hold.new.self.is_closed c.hold.new.self.faults in
    subst (λ (t : TalkState). Says t new bytes c.hold.result) c.send.ensures (c.hold.ensures bytes)
