use Rattle.std.proofs.Common.{◌∙◌, sym}
use Rattle.channel_hub.proofs.Left.{get_left, get_none, get_out}
use Rattle.channel_hub.proofs.hubs.Hub.get.Goals as goal

pub returns-then-is_out-clause-none : goal.returns-then-is_out-clause-none
returns-then-is_out-clause-none c =
    rw (← c.self.view_is) (get_out c.args.name.now c.self.inside.out c.self.inside.all.channels c.in-Some.channel.now c.len-count.ensures.by_name (rw c.in-Some.is at c.get.ensures.some) (sym c.is_out.ensures ∙ c.if-is_out.true))

pub returns-else-is_out-clause-some : goal.returns-else-is_out-clause-some
returns-else-is_out-clause-some c =
    rw (← c.self.view_is) (get_left c.args.name.now c.self.inside.out c.self.inside.all.channels c.in-Some.channel.now (rw c.in-Some.is at c.get.ensures.some) (sym c.is_out.ensures ∙ c.if-is_out.false))

pub returns-in-None-clause-none : goal.returns-in-None-clause-none
returns-in-None-clause-none c = rw (← c.self.view_is) (get_none c.args.name.now c.self.inside.out c.self.inside.all.channels (rw c.in-None.is at c.get.ensures.none))
