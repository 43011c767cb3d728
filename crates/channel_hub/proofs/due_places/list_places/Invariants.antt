use Rattle.std.proofs.Common.{◌≡◌, ◌+◌, ◌-◌, ◌≤◌, length, map, take, drop}
use Rattle.std.specs.Prelude.{nat_lt}
use Rattle.ordered_lists.specs.Lists.{sorted_by}
use Rattle.slab.specs.Slab.{get}
use Rattle.channel_hub.specs.DuePlaces.{place_among}
use Rattle.channel_hub.specs.Hubs.{channels_in}
use Rattle.channel_hub.proofs.due_places.list_places.Given as goal

-- the places of the last ones
abbrev pub invariant-loop-at : goal.invariant-loop-at
invariant-loop-at l = record {
  places : l.places.items ≡ sorted_by nat_lt (map (λ s. place_among (channels_in (get l.slots) l.order.items) (get l.slots s)) (drop l.at (take l.count l.dues.items)));
  within : l.at ≤ l.count;
  room : l.count ≤ l.places.spare + (l.count - l.at);
  spare : length l.places.items + l.places.spare ≡ l.initial.places.spare;
}

abbrev pub decreases-loop-at : goal.decreases-loop-at
decreases-loop-at l = l.at
