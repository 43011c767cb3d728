use Rattle.std.proofs.Common.{◌≡◌, true, sym, subst, ℕ, List}
use Rattle.run_list.specs.Runs.{is_cut}
use Rattle.slab.specs.Slab.{get}
use Rattle.channel_hub.specs.DueOrder.{has_come_in}
use Rattle.channel_hub.proofs.DueSlots.{come_cut}
use Rattle.channel_hub.proofs.Inserting.{front_is, rest_is}
use Rattle.channel_hub.proofs.due_slots.due_count.Goals as goal

pub place_of-requires : goal.place_of-requires
place_of-requires c =
    let f = get c.args.slots.now in
    subst (λ (l : List ℕ). is_cut (λ s. has_come_in c.args.now (f s)) l ≡ true) (sym c.requires.1) (come_cut f c.requires.0 c.args.now)

pub returns-clause-front : goal.returns-clause-front
returns-clause-front c =
    let f = get c.args.slots.now in
    front_is (λ s. has_come_in c.args.now (f s)) c.args.dues.now.items c.place_of.result c.place_of.ensures.front c.place_of.ensures.behind

pub returns-clause-behind : goal.returns-clause-behind
returns-clause-behind c =
    let f = get c.args.slots.now in
    rest_is (λ s. has_come_in c.args.now (f s)) c.args.dues.now.items c.place_of.result c.place_of.ensures.front c.place_of.ensures.behind
