use Rattle.std.proofs.Common.{sym, ◌∙◌}
use Rattle.tile_core.proofs.Counting.{are_out, none_out, parts_weigh}
use Rattle.tile_core.proofs.channel_dues.expire_channels.Goals as goal

pub returns-then-now-due_from-clause-out : goal.returns-then-now-due_from-clause-out
returns-then-now-due_from-clause-out g c =
    none_out c.args.hub.now c.let_go.new.self c.args.now c.args.total c.args.due_from c.requires.weighed c.if-now-due_from.true c.requires.due_from
    c.let_go.ensures.channels c.let_go.ensures.settled.none c.let_go.ensures.settled.all

pub count_out-requires-clause-weighed : goal.count_out-requires-clause-weighed
count_out-requires-clause-weighed g c =
    parts_weigh c.args.now c.args.hub.now.channels c.take_due.new.self.channels c.take_due.new.self.taken c.take_due.ensures.channels c.take_due.ensures.taken ∙ sym c.requires.weighed

pub returns-in-Ok-clause-out : goal.returns-in-Ok-clause-out
returns-in-Ok-clause-out g c =
    are_out c.args.hub.now c.take_due.new.self c.args.now c.args.total c.in-Ok.gone c.requires.weighed c.take_due.ensures.channels c.take_due.ensures.taken c.take_due.ensures.every
    c.in-Ok.ensures.counted c.in-Ok.ensures.due_from
