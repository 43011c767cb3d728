use Rattle.std.proofs.Common.{◌≡◌, ◌-◌, ◌∙◌, true, not, sym, ap, subst, ℕ, List, length, map, take, drop, get_or, arith}
use Rattle.std.specs.Prelude.{nat_lt}
use Rattle.ordered_lists.specs.Lists.{ascends, insert_by, sorted_by}
use Rattle.slab.specs.Slab.{get}
use Rattle.channel_hub.specs.DuePlaces.{place_among}
use Rattle.channel_hub.specs.Hubs.{channels_in}
use Rattle.channel_hub.proofs.Inserting.{length_insert}
use Rattle.channel_hub.proofs.Places.{drop_back, drop_taken, numbers_stand, taken_at}
use Rattle.channel_hub.proofs.due_places.list_places.Goals as goal

pub loop-at-init : goal.loop-at-init
loop-at-init c =
    let h = λ (s : ℕ). place_among (channels_in (get c.args.slots.now) c.args.order.now.items) (get c.args.slots.now s) in
    record {
      places = c.requires.none ∙ sym (ap (λ (l : List ℕ). sorted_by nat_lt (map h l)) (drop_taken c.args.count c.args.dues.now.items));
      within = omega arith;
      room = omega (arith, c.requires.room);
      spare = let none = ap length c.requires.none in omega (arith, none);
    }

pub place_of_due-requires-clause-within : goal.place_of_due-requires-clause-within
place_of_due-requires-clause-within c = omega (arith, c.loop-at.invariant.within, c.requires.within, c.loop-at-test.true)

pub put_place-requires-clause-order : goal.put_place-requires-clause-order
put_place-requires-clause-order c =
    let h = λ (s : ℕ). place_among (channels_in (get c.args.slots.now) c.args.order.now.items) (get c.args.slots.now s) in
    subst (λ (l : List ℕ). ascends (λ a b. not (nat_lt b a)) l ≡ true) (sym c.loop-at.invariant.places) (numbers_stand (map h (drop c.loop-at.at (take c.args.count c.args.dues.now.items))))

pub put_place-requires-clause-room : goal.put_place-requires-clause-room
put_place-requires-clause-room c = omega (arith, c.loop-at.invariant.room, c.loop-at.invariant.within, c.loop-at-test.true)

pub loop-at-preserved : goal.loop-at-preserved
loop-at-preserved c =
    let h = λ (s : ℕ). place_among (channels_in (get c.args.slots.now) c.args.order.now.items) (get c.args.slots.now s) in
    let dues = c.args.dues.now.items in
    let first = take c.args.count dues in
    let n = c.loop-at.at in
    let slot = get_or dues (n - 1) 0 in
    let is = taken_at dues c.args.count (n - 1) 0 (omega (arith, c.loop-at.invariant.within, c.loop-at-test.true)) (omega (arith, c.loop-at.invariant.within, c.requires.within, c.loop-at-test.true)) in
    let next = drop_back first n slot c.loop-at-test.true is in
    let longer = ap length c.put_place.ensures.items ∙ length_insert nat_lt c.place_of_due.result c.loop-at.places.items in
    record {
      places = c.put_place.ensures.items ∙ ap (λ (v : ℕ). insert_by nat_lt v c.loop-at.places.items) c.place_of_due.ensures ∙ ap (insert_by nat_lt (h slot)) c.loop-at.invariant.places
          ∙ sym (ap (λ (l : List ℕ). sorted_by nat_lt (map h l)) next);
      within = omega (arith, c.loop-at.invariant.within);
      room = omega (arith, c.loop-at.invariant.room, c.loop-at.invariant.within, c.loop-at-test.true, c.put_place.ensures.room);
      spare = omega (arith, longer, c.put_place.ensures.room, c.loop-at.invariant.spare);
    }

pub returns-clause-places : goal.returns-clause-places
returns-clause-places c =
    let h = λ (s : ℕ). place_among (channels_in (get c.args.slots.now) c.args.order.now.items) (get c.args.slots.now s) in
    let end : c.loop-at.at ≡ 0 = omega (arith, c.loop-at-test.false) in
    c.loop-at.invariant.places ∙ ap (λ (n : ℕ). sorted_by nat_lt (map h (drop n (take c.args.count c.args.dues.now.items)))) end

pub returns-clause-room : goal.returns-clause-room
returns-clause-room c = c.loop-at.invariant.spare
