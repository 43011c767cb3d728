-- What a contract sees of a hub, and what it keeps.
use Rattle.std.specs.Prelude.{◌≡◌, ◌<◌, ◌≤◌, ◌+◌, ℕ, Bool, true, false, ◌&&◌, List, length, Option, Some, None, is_some, filter_map, option_map}
use Rattle.std.specs.List.{AllByRecursion}
use Rattle.byte_text.specs.Names.{Bytes, before}
use Rattle.planar_geom.specs.Points.{Bounds}
use Rattle.ordered_lists.specs.Lists.{ascends}
use Rattle.ordered_lists.specs.Slots.{Stores, are_other}
use Rattle.fence_model.specs.Messages.{watches}
use Rattle.world_data.specs.Worlds.{are_channels}
use Rattle.world_data.specs.declared.channels.Channel.{Channel}
use Rattle.world_data.specs.declared.objects.Object.{Object}
use Rattle.fence_index.specs.declared.marks.Mark.{Mark}
use Rattle.fence_index.specs.Marks.{mark_of}
use Rattle.fence_index.specs.Candidates.{box_if, is_concerned}
use Rattle.fence_index.specs.Numbered.{AreBoxed, Indexed}
use Rattle.fence_index.specs.Silence.{IsWholeWatch}
use Rattle.run_list.specs.Runs.{Sequence}
use Rattle.channel_hub.specs.DueOrder.{dues_of}
use Rattle.channel_hub.specs.Named.{AreNamed, Named}

-- the channels that are left, those that are out, in the order in which they expire, and both together, by name; the moment at which those
-- that are out were due; and what is kept of the channel that can be put without taking memory
pub record Held : Type 0 where
  pub channels : List Channel
  pub taken : List Channel
  pub every : List Channel
  pub out : Option ℕ
  pub prepared : Option Mark

-- all channels by name, and what is kept of the one that can be put without taking memory
pub record ByName : Type 0 where
  pub channels : List Channel
  pub prepared : Option Mark

-- this channel can be put without taking memory
abbrev pub IsPrepared : Held → Channel → Type 0
IsPrepared held c = held.prepared ≡ Some (mark_of c)

-- what each channel watches is whole
abbrev pub AreWhole : List Channel → Type 0
AreWhole channels = AllByRecursion (λ c. IsWholeWatch c.fence.watch) channels

-- channels in slots

-- the channels in these slots
abbrev pub channels_in : (ℕ → Option Channel) → List ℕ → List Channel
channels_in slots order = filter_map slots order

-- slots of channels in byte order of their names, no slot twice
pub record AreInOrder (slots : ℕ → Option Channel) (order : List ℕ) : Type 0 where
  pub stored : Stores slots order (channels_in slots order)
  pub apart : ascends are_other order ≡ true
  pub by_name : are_channels (channels_in slots order) ≡ true

-- what the index asks of the channel in a slot
abbrev pub mark_in : (ℕ → Option Channel) → ℕ → Option Mark
mark_in slots s = option_map mark_of (slots s)

-- a channel is there, and stands before the name
abbrev pub stands_before : Bytes → Option Channel → Bool
stands_before name None = false
stands_before name (Some c) = before c.name name

-- what a hub keeps: whole channels in order, an index that has each under its slot, names that lead to these slots alone, the slots of those
-- that have a deadline in the order in which they expire, no slot taken beside theirs, and room for the one that is prepared, where so many
-- slots are taken, of so many
pub record IsKept (slots : ℕ → Option Channel) (order dues : Sequence) (index : Indexed) (names : Named) (used capacity : ℕ) : Type 0 where
  pub ordered : AreInOrder slots order.items
  pub boxed : AreBoxed (mark_in slots) order.items index.boxes
  pub named : AreNamed slots order.items names.slots
  pub whole : AreWhole (channels_in slots order.items)
  pub expire : dues.items ≡ dues_of slots order.items
  pub taken : used ≡ length order.items
  pub room : is_some index.prepared ≡ true
      → (names.ready ≡ true) × (used < capacity) × (1 ≤ order.spare) × (length order.items + 1 ≤ length dues.items + dues.spare)

-- what a change may concern

-- the channel is on the key, and a change that moves an object from the old box, where it was there, to the new one, where it is there after
-- it, may concern it
abbrev pub may_concern : Bytes → Option Bounds → Option Bounds → Channel → Bool
may_concern key old new c = watches (Some key) c && is_concerned old new (mark_of c)

abbrev pub put_may_concern : Option Object → Object → Channel → Bool
put_may_concern old new = may_concern new.key (box_if old) (box_if (Some new))

abbrev pub del_may_concern : Object → Channel → Bool
del_may_concern old = may_concern old.key (box_if (Some old)) None
