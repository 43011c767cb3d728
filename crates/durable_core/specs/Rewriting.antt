-- How a log is rewritten: the items of a world are copied one behind another, and each batch is copied beside them.
use Rattle.std.specs.Prelude.{◌^◌, ℕ, Bool, true, false, not, nat_lt, ◌+◌, List, [], ◌∷◌, ◌++◌, length, filter, map, take, drop, if◌then◌else◌}
use Rattle.byte_text.specs.Names.{Bytes}
use Rattle.world_data.specs.declared.channels.Channel.{Channel}
use Rattle.world_data.specs.declared.objects.Object.{Object}
use Rattle.world_data.specs.declared.worlds.Change.{Change}
use Rattle.world_data.specs.declared.worlds.Change.TheVariants.{Put, SetChan}
use Rattle.world_data.specs.declared.worlds.World.{World}
use Rattle.world_model.specs.declared.events.CallOutcome.{CallOutcome}
use Rattle.world_model.specs.declared.events.CallOutcome.TheVariants as called
use Rattle.journal.specs.Openings.{AreWhole}
use Rattle.log_sides.specs.Texts.{newest}
use Rattle.log_record.specs.Copying.{IsPart}
use Rattle.world_recovery.specs.Recorded.{record_fault, world_in}
use Rattle.world_store.specs.Copies.{is_behind, is_behind_name}
use Rattle.durable_core.specs.declared.rewritings.LastCopied.{LastCopied}
use Rattle.durable_core.specs.declared.rewritings.LastCopied.TheVariants as last
use Rattle.durable_core.specs.declared.rewritings.Rewriting.{Rewriting}
use Rattle.durable_core.specs.declared.rewritings.Rewriting.TheVariants as rewriting

-- an item of a world
pub data Item : Type 0 where
  of_channel : (c : Channel) → Item
  of_object : (o : Object) → Item

-- what makes it
abbrev pub change_of : Item → Change
change_of (of_channel c) = SetChan c
change_of (of_object o) = Put o

abbrev pub changes_of : List Item → List Change
changes_of items = map change_of items

-- it stands behind the one that was copied last

abbrev pub is_channel_left : LastCopied → Channel → Bool
is_channel_left last.Nothing c = true
is_channel_left (last.Channel name) c = is_behind_name name c
is_channel_left (last.Object key id) c = false

abbrev pub is_object_left : LastCopied → Object → Bool
is_object_left last.Nothing o = true
is_object_left (last.Channel name) o = true
is_object_left (last.Object key id) o = is_behind key id o

-- the items of a world that stand behind it: channels by name, and then objects by key and id
abbrev pub items_left : LastCopied → World → List Item
items_left last w = map of_channel (filter (is_channel_left last) w.channels) ++ map of_object (filter (is_object_left last) w.objects)

-- all items of a world
abbrev pub items_of : World → List Item
items_of w = items_left last.Nothing w

-- the last one that was copied, where this one was
abbrev pub last_of : Item → LastCopied
last_of (of_channel c) = last.Channel c.name
last_of (of_object o) = last.Object o.key o.id

-- and where these were, one behind another
abbrev pub last_behind : LastCopied → List Item → LastCopied
last_behind last [] = last
last_behind last (item ∷ items) = last_behind (last_of item) items

-- a part of a world, with all items up to the one that was copied last
abbrev pub IsCopiedTo : LastCopied → World → World → Type 0
IsCopiedTo last part w = IsPart (λ o. not (is_object_left last o)) (λ c. not (is_channel_left last c)) part w

-- these batches of the newest version make such a part of the world of the others, which are of this version
pub record IsCopy (last : LastCopied) (version : ℕ) (copied batches : List Bytes) : Type 0 where
  pub whole : AreWhole (record_fault newest) copied
  pub part : IsCopiedTo last (world_in newest copied) (world_in version batches)

-- so they do where a log is rewritten
abbrev pub IsCopyWhile : Rewriting → ℕ → List Bytes → List Bytes → Type 0
IsCopyWhile rewriting.Idle version copied batches = Unit {0}
IsCopyWhile rewriting.Asked version copied batches = Unit {0}
IsCopyWhile (rewriting.Going last) version copied batches = IsCopy last version copied batches

-- what a core shows of a rewriting: none, one that is asked for, or one that goes on, with the items that are left
pub data Shown : Type 0 where
  idle : Shown
  asked : Shown
  going : (left : List Item) → Shown

abbrev pub shown_by : Rewriting → World → Shown
shown_by rewriting.Idle w = idle
shown_by rewriting.Asked w = asked
shown_by (rewriting.Going last) w = going (items_left last w)

-- behind a step: one that is asked for begins with all items, one that goes on copies the first 256 that are left, and ends where none is
abbrev pub next_shown : World → Shown → Shown
next_shown w idle = idle
next_shown w asked = going (items_of w)
next_shown w (going []) = idle
next_shown w (going (item ∷ items)) = going (drop 256 (item ∷ items))

-- the same of what it is: it goes on behind these items that are left
abbrev pub goes_behind : LastCopied → List Item → Rewriting
goes_behind last [] = rewriting.Idle
goes_behind last (item ∷ items) = rewriting.Going (last_behind last (take 256 (item ∷ items)))

abbrev pub next_rewriting : World → Rewriting → Rewriting
next_rewriting w rewriting.Idle = rewriting.Idle
next_rewriting w rewriting.Asked = rewriting.Going last.Nothing
next_rewriting w (rewriting.Going last) = goes_behind last (items_left last w)

-- it ends with the step
abbrev pub is_ending : Shown → Bool
is_ending idle = false
is_ending asked = false
is_ending (going []) = true
is_ending (going (item ∷ items)) = false

-- one is asked for where none is, unless the generations are at their end
abbrev pub asked_for : ℕ → Rewriting → Rewriting
asked_for generation rewriting.Idle = if nat_lt generation (2 ^ 63) then rewriting.Asked else rewriting.Idle
asked_for generation rewriting.Asked = rewriting.Asked
asked_for generation (rewriting.Going last) = rewriting.Going last

-- behind a call that asks for one, where it was done
abbrev pub rewriting_after : CallOutcome → Bool → ℕ → Rewriting → Rewriting
rewriting_after called.Ok asks generation r = if asks then asked_for generation r else r
rewriting_after answer asks generation r = r

-- how many steps there are at most, up to the last one
abbrev pub steps_left : World → Shown → ℕ
steps_left w idle = 0
steps_left w asked = length (items_of w) + 2
steps_left w (going items) = length items + 1

abbrev pub is_idle : Rewriting → Bool
is_idle rewriting.Idle = true
is_idle rewriting.Asked = false
is_idle (rewriting.Going last) = false

abbrev pub is_asked : Rewriting → Bool
is_asked rewriting.Idle = false
is_asked rewriting.Asked = true
is_asked (rewriting.Going last) = false

abbrev pub is_going : Rewriting → Bool
is_going rewriting.Idle = false
is_going rewriting.Asked = false
is_going (rewriting.Going last) = true
