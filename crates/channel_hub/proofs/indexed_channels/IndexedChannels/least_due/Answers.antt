use Rattle.std.proofs.Common.{◌≡◌, ◌<◌, ◌∙◌, true, length, subst, sym, ap, ℕ, List, arith}
use Rattle.std.specs.List.{list_all}
use Rattle.slab.specs.Slab.{get}
use Rattle.channel_hub.specs.DueOrder.{has_deadline}
use Rattle.channel_hub.specs.Dues.{left_of}
use Rattle.channel_hub.specs.Hubs.{channels_in}
use Rattle.channel_hub.proofs.DueSlots.{all_expire, first_is, none_behind, none_there}
use Rattle.channel_hub.proofs.Expiring.{first_deadline, least_first}
use Rattle.channel_hub.proofs.Order.{at_place}
use Rattle.channel_hub.proofs.indexed_channels.IndexedChannels.least_due.Goals as goal

pub out_count-first-requires : goal.out_count-first-requires
out_count-first-requires c = (c.self.inside.order.items, c.self.invariant.expire)

pub returns-then-first-len : goal.returns-then-first-len
returns-then-first-len c =
    let f = get c.self.inside.slots in
    let order = c.self.inside.order.items in
    let dues = c.self.inside.dues.items in
    let at = c.out_count-first.result in
    let left = c.out_count-first.ensures.left order c.self.invariant.ordered c.self.invariant.expire in
    let end : at ≡ length dues = omega (arith, c.len.ensures.count, c.if-first-len.true) in
    rw (← c.self.view_is) (sym (least_first (left_of c.args.out (channels_in f order)) ∙ ap first_deadline (sym left) ∙ none_behind f dues at end))

pub unreachable-requires : goal.unreachable-requires
unreachable-requires c =
    let f = get c.self.inside.slots in
    let dues = c.self.inside.dues.items in
    let at = c.out_count-first.result in
    let some : at < length dues = omega (arith, c.len.ensures.count, c.if-first-len.false, c.out_count-first.ensures.within) in
    let is = at_place dues at 0 c.at.result some c.at.ensures in
    let all = subst (λ (l : List ℕ). list_all (λ s. has_deadline (f s)) l ≡ true) (sym c.self.invariant.expire) (all_expire f c.self.inside.order.items) in
    let none = rw c.in-None.is at c.get.ensures in
    none_there f dues at c.at.result is all (sym none)

pub returns : goal.returns
returns c =
    let f = get c.self.inside.slots in
    let order = c.self.inside.order.items in
    let dues = c.self.inside.dues.items in
    let at = c.out_count-first.result in
    let left = c.out_count-first.ensures.left order c.self.invariant.ordered c.self.invariant.expire in
    let some : at < length dues = omega (arith, c.len.ensures.count, c.if-first-len.false, c.out_count-first.ensures.within) in
    let is = at_place dues at 0 c.at.result some c.at.ensures in
    let here = rw c.in-Some.is at c.get.ensures in
    rw (← c.self.view_is) (sym (least_first (left_of c.args.out (channels_in f order)) ∙ ap first_deadline (sym left) ∙ first_is f dues at c.at.result c.in-Some.channel.now is (sym here)))
