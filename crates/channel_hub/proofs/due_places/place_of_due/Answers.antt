use Rattle.std.proofs.Common.{◌≡◌, ◌∙◌, true, sym, ap, subst, ℕ, List}
use Rattle.std.specs.List.{list_all}
use Rattle.slab.specs.Slab.{get}
use Rattle.channel_hub.specs.DueOrder.{has_deadline}
use Rattle.channel_hub.specs.DuePlaces.{place_among}
use Rattle.channel_hub.specs.Hubs.{channels_in}
use Rattle.channel_hub.proofs.DuePlaces.{due_found, found_there, is_found}
use Rattle.channel_hub.proofs.DueSlots.{all_expire, has_one}
use Rattle.channel_hub.proofs.Order.{at_place}
use Rattle.channel_hub.proofs.Places.{place_is}
use Rattle.channel_hub.proofs.due_places.place_of_due.Goals as goal

pub index-channel-requires : goal.index-channel-requires
index-channel-requires c =
    let f = get c.args.slots.now in
    let dues = c.args.dues.now.items in
    let is = at_place dues c.args.at 0 c.at.result c.requires.within c.at.ensures in
    has_one f dues c.args.at c.at.result is (subst (λ (l : List ℕ). list_all (λ s. has_deadline (f s)) l ≡ true) (sym c.requires.listed) (all_expire f c.args.order.now.items))

pub returns : goal.returns
returns c =
    let f = get c.args.slots.now in
    let order = c.args.order.now.items in
    let xs = channels_in f order in
    let dues = c.args.dues.now.items in
    let o = c.requires.ordered in
    let is = at_place dues c.args.at 0 c.at.result c.requires.within c.at.ensures in
    let channel = c.index-channel.result.now in
    let found = due_found f order dues o c.requires.listed c.args.at c.at.result channel is c.index-channel.ensures in
    let there = found_there xs channel c.place_of.result found (c.place_of.ensures.held (is_found xs channel found)) in
    sym (ap (λ s. place_among xs (f s)) (sym c.at.ensures) ∙ ap (place_among xs) c.index-channel.ensures ∙ place_is xs c.place_of.result channel o.by_name there)
