use Rattle.std.proofs.Common.{◌≡◌, not, ap, length, arith}
use Rattle.std.specs.Prelude.{None}
use Rattle.ordered_lists.specs.Reading.{filter-most}
use Rattle.world_data.specs.Worlds.{is_named}
use Rattle.channel_hub.proofs.Places.{none_out}
use Rattle.channel_hub.proofs.hubs.Hub.take_out.Goals as goal

pub invariant_of-self : goal.invariant_of-self
invariant_of-self c =
    let none : c.self.inside.out ≡ None = rw (← c.self.view_is) at c.let_go.ensures.settled.moment in
    let fewer = filter-most (λ d. not (is_named c.args.name.now d)) c.self.inside.all.channels in
    let same = ap length c.take_out.ensures.channels in
    record {
      listed = none_out c.self.inside.out c.self.inside.gone.items c.self.inside.all.channels c.take_out.new.self.channels none c.self.invariant.listed;
      fits = omega (arith, fewer, same, c.self.invariant.fits);
      more = λ some. let more = c.self.invariant.more (rw (← c.take_out.ensures.prepared) some) in omega (arith, fewer, same, more);
    }
