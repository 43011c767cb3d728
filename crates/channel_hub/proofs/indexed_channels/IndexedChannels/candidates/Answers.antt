use Rattle.std.proofs.Common.{◌∙◌, ◌++◌, IsPermutation, List, ap, subst, arith}
use Rattle.std.specs.Prelude.{filter_map}
use Rattle.world_data.specs.declared.channels.Channel.{Channel}
use Rattle.slab.specs.Slab.{get}
use Rattle.channel_hub.specs.Hubs.{channels_in, mark_in}
use Rattle.channel_hub.proofs.Concerned.{concerned_are, no_more}
use Rattle.channel_hub.proofs.indexed_channels.IndexedChannels.candidates.Goals as goal

pub returns-clause-channels : goal.returns-clause-channels
returns-clause-channels g c =
    let f = get c.self.inside.slots in
    let order = c.self.inside.order.items in
    let xs = channels_in f order in
    let ns = c.in_ok-numbers.numbers in
    let sums = c.in_ok-numbers.ensures.numbers (mark_in f) order c.self.invariant.boxed in
    let made = c.in_ok-push_slots.ensures ∙ ap (λ (l : List Channel). l ++ filter_map f ns) c.new-candidates.ensures in
    let moved = subst (λ (l : List Channel). IsPermutation l c.sort.new.self) made c.sort.ensures.channels in
    rw (← c.self.view_is) (concerned_are f order xs c.self.invariant.ordered.stored c.self.invariant.ordered.by_name c.args.key.now c.args.old c.args.new ns sums c.sort.new.self moved c.sort.ensures.order)

pub returns-clause-read : goal.returns-clause-read
returns-clause-read g c = λ lt.
    let f = get c.self.inside.slots in
    let ns = c.in_ok-numbers.numbers in
    let made = c.in_ok-push_slots.ensures ∙ ap (λ (l : List Channel). l ++ filter_map f ns) c.new-candidates.ensures in
    let moved = subst (λ (l : List Channel). IsPermutation l c.sort.new.self) made c.sort.ensures.channels in
    let fewer = no_more f ns c.sort.new.self moved in
    omega (arith, c.in_ok-numbers.ensures.read lt, fewer)
