use Rattle.std.proofs.Common.{◌∙◌, ap}
use Rattle.std.specs.Prelude.{not, filter}
use Rattle.slab.specs.Slab.{get}
use Rattle.channel_hub.specs.DueOrder.{has_come_in}
use Rattle.channel_hub.specs.Hubs.{channels_in}
use Rattle.channel_hub.proofs.DueSlots.{dues_expiring, dues_left}
use Rattle.channel_hub.proofs.due_slots.out_count.Goals as goal

pub returns-in-Some-clause-left : goal.returns-in-Some-clause-left
returns-in-Some-clause-left c = λ order o is.
    let f = get c.args.slots.now in
    let now = c.in-Some.now in
    rw c.in-Some.is (ap (channels_in f) (c.due_count.ensures.behind ∙ ap (filter (λ s. not (has_come_in now (f s)))) is) ∙ dues_left f order (channels_in f order) o.stored now)

pub returns-in-None-clause-left : goal.returns-in-None-clause-left
returns-in-None-clause-left c = λ order o is.
    let f = get c.args.slots.now in
    rw c.in-None.is (ap (channels_in f) is ∙ dues_expiring f order (channels_in f order) o.stored)
