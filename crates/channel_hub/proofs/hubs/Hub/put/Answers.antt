use Rattle.std.proofs.Common.{◌≡◌, ◌∙◌, true, refl, ap, length, arith}
use Rattle.std.specs.Prelude.{None, Some, is_some}
use Rattle.fence_index.specs.Marks.{mark_of}
use Rattle.channel_hub.proofs.Left.{put_more}
use Rattle.channel_hub.proofs.Places.{none_out}
use Rattle.channel_hub.proofs.Whole.{none_prepared}
use Rattle.channel_hub.proofs.hubs.Hub.put.Goals as goal

pub invariant_of-self : goal.invariant_of-self
invariant_of-self c =
    let none : c.self.inside.out ≡ None = rw (← c.self.view_is) at c.let_go.ensures.settled.moment in
    let ready : c.self.inside.all.prepared ≡ Some (mark_of c.args.channel) = (rw (← c.self.view_is) at c.let_go.ensures.prepared) ∙ c.requires in
    let some : is_some c.self.inside.all.prepared ≡ true = rw ready refl in
    let more = put_more c.args.channel c.self.inside.all.channels in
    let same = ap length c.put.ensures.channels in
    record {
      listed = none_out c.self.inside.out c.self.inside.gone.items c.self.inside.all.channels c.put.new.self.channels none c.self.invariant.listed;
      fits = omega (arith, more, same, c.self.invariant.more some);
      more = λ any. none_prepared c.put.new.self.prepared c.put.ensures.prepared any;
    }
