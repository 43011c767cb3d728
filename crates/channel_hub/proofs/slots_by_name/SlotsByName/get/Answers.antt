use Rattle.std.proofs.Common.{sym, ◌∙◌, Vec, Global, ℕ}
use Rattle.channel_hub.proofs.Keys.{looked_up}
use Rattle.channel_hub.proofs.slots_by_name.SlotsByName.get.Goals as goal

pub returns : goal.returns
returns c =
    let es = c.self.inside.slots.entries in
    let read = looked_up (λ (k : Vec ℕ Global). k.items) es c.args.name.now in
    let value = rw c.bytes.ensures.same at c.get.ensures.value in
    rw (← c.self.view_is) (c.copied.ensures ∙ value ∙ sym read)
