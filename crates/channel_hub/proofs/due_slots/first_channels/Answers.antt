use Rattle.std.proofs.Common.{◌++◌, ◌∙◌, List, [], ap, sym, get_or, arith}
use Rattle.std.specs.Prelude.{Option}
use Rattle.std.specs.List.{cons_option}
use Rattle.world_data.specs.declared.channels.Channel.{Channel}
use Rattle.slab.specs.Slab.{get}
use Rattle.channel_hub.proofs.Slots.{there_more}
use Rattle.channel_hub.proofs.due_slots.first_channels.Goals as goal

pub loop-i-preserved : goal.loop-i-preserved
loop-i-preserved c =
    let f = get c.args.slots.now in
    let dues = c.args.dues.now.items in
    let i = c.loop-i.i in
    c.in_ok-push.ensures
    ∙ ap (λ (o : Option Channel). c.loop-i.channels ++ cons_option o []) (c.get.ensures ∙ ap f c.at.ensures)
    ∙ ap (λ (l : List Channel). l ++ cons_option (f (get_or dues i 0)) []) c.loop-i.invariant
    ∙ sym (there_more f dues i 0 (omega (arith, c.requires, c.loop-i-test.true)))
