use Rattle.channel_hub.specs.Dues.{left_of}
use Rattle.channel_hub.proofs.Silence.{del_messages}
use Rattle.channel_hub.proofs.Whole.{whole_of}
use Rattle.channel_hub.proofs.hubs.Hub.candidates_of_del.Goals as goal

pub returns-clause-messages : goal.returns-clause-messages
returns-clause-messages g c = λ w is stands.
    let all = c.self.inside.all.channels in
    del_messages c.unconcerned_are_silent.ensures w (left_of c.self.inside.out all) c.args.old.now (whole_of c.self.inside.out all c.len-count.ensures.whole) c.whole_box.ensures.whole (rw (← c.self.view_is) at is) stands
