-- What is kept of channels stays where room is added.
use Rattle.std.proofs.Common.{◌≡◌, ◌<◌, ◌≤◌, ◌+◌, ℕ, true, length, refl}
use Rattle.std.specs.Prelude.{Option, is_some}
use Rattle.world_data.specs.declared.channels.Channel.{Channel}
use Rattle.fence_index.specs.Boxed.{AreSame}
use Rattle.fence_index.specs.Numbered.{Indexed}
use Rattle.run_list.specs.Runs.{Sequence}
use Rattle.channel_hub.specs.Hubs.{IsKept}
use Rattle.channel_hub.specs.Named.{Named}
use Rattle.channel_hub.proofs.Boxes.{same_boxed}

pub kept_more : (f g : ℕ → Option Channel) (order more dues more_dues : Sequence) (index other : Indexed) (names others : Named) (used as_used capacity room : ℕ)
    → g ≡ f → as_used ≡ used → more.items ≡ order.items → more_dues.items ≡ dues.items → AreSame index.boxes other.boxes → others.slots ≡ names.slots
    → (is_some other.prepared ≡ true → (others.ready ≡ true) × (as_used < room) × (1 ≤ more.spare) × (length more.items + 1 ≤ length more_dues.items + more_dues.spare))
    → IsKept f order dues index names used capacity → IsKept g more more_dues other others as_used room
kept_more f g order more dues more_dues index other names others used as_used capacity room same as_many items due_items boxes under ready kept = record {
  ordered = rw (same, items) kept.ordered;
  boxed = rw (same, items) (same_boxed f order.items index.boxes other.boxes boxes kept.boxed);
  named = λ n. rw (under, same, items) (kept.named n);
  whole = rw (same, items) kept.whole;
  expire = rw (due_items, same, items) kept.expire;
  taken = rw (as_many, items) kept.taken;
  room = ready;
}

pub same_boxes : (index : Indexed) → AreSame index.boxes index.boxes
same_boxes index = λ r key w. refl
