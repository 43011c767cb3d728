use Rattle.std.specs.Prelude.{option_map}
use Rattle.channel_hub.specs.Dues.{left_of}
use Rattle.channel_hub.proofs.Silence.{put_messages}
use Rattle.channel_hub.proofs.Whole.{whole_of}
use Rattle.channel_hub.proofs.hubs.Hub.candidates_of_put.Goals as goal

pub returns-clause-messages : goal.returns-clause-messages
returns-clause-messages g c = λ w is stands.
    let all = c.self.inside.all.channels in
    put_messages c.unconcerned_are_silent.ensures w (left_of c.self.inside.out all) (option_map (λ o. o.now) c.args.old) c.args.new.now (whole_of c.self.inside.out all c.len-count.ensures.whole) c.whole_box.ensures.whole
    c.shape_is_whole.ensures (rw (← c.self.view_is) at is) stands
