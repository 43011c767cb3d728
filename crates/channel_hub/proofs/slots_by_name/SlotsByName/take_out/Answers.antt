use Rattle.std.proofs.Common.{Vec, Global, ℕ}
use Rattle.std.specs.Prelude.{None}
use Rattle.channel_hub.proofs.Keys.{written}
use Rattle.channel_hub.proofs.slots_by_name.SlotsByName.take_out.Goals as goal

pub returns-clause-slots : goal.returns-clause-slots
returns-clause-slots c =
    rw (← c.self.view_is) (written (λ (k : Vec ℕ Global). k.items) c.self.inside.slots c.swap_remove.new.self c.args.name.now None (rw c.bytes.ensures.same at c.swap_remove.ensures.updates))
