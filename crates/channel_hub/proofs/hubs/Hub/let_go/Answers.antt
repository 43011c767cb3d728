use Rattle.std.proofs.Common.{◌∙◌, sym, ap, length, arith}
use Rattle.std.specs.Prelude.{Some}
use Rattle.channel_hub.specs.DuePlaces.{places_out}
use Rattle.channel_hub.proofs.Left.{left_fewer}
use Rattle.channel_hub.proofs.Places.{cut_all}
use Rattle.channel_hub.proofs.hubs.Hub.let_go.Goals as goal

pub invariant_of-self : goal.invariant_of-self
invariant_of-self c =
    let fewer = left_fewer (Some c.in-Some.now) c.self.inside.all.channels in
    let same = ap length c.let_due_go.ensures.channels in
    let none = c.remove_between.ensures.items ∙ cut_all c.self.inside.gone.items c.len.result c.len.ensures.count in
    let empty = ap length none in
    record {
      listed = none ∙ sym (ap (λ o. places_out o c.let_due_go.new.all.channels) c.take.ensures.after);
      fits = omega (arith, fewer, same, empty, c.self.invariant.fits, c.remove_between.ensures.spare, c.len.ensures.count);
      more = λ some.
          let more = c.self.invariant.more (rw (← c.let_due_go.ensures.prepared) some) in
          omega (arith, fewer, same, empty, more, c.remove_between.ensures.spare, c.len.ensures.count);
    }
