-- Channels by name: where one stands, and what a put or a removal makes of them.
use Rattle.std.proofs.Common.{◌≡◌, ℕ, true, List}
use Rattle.std.specs.Prelude.{Some, None, filter, find, not, slice_get}
use Rattle.std.specs.List.{slice_set, insert, remove}
use Rattle.byte_text.specs.Names.{Bytes, before}
use Rattle.ordered_lists.specs.Lists.{put_in, IsHeld, IsFree}
use Rattle.ordered_lists.specs.Ascending.{set_held, insert_free, ascends-put_in, ascends-remove}
use Rattle.ordered_lists.specs.NameOrder.{name_trans, name_tie, name_asym, name_found, name_missing, name_left}
use Rattle.world_data.specs.declared.channels.Channel.{Channel}
use Rattle.world_data.specs.Worlds.{channel_before, are_channels, is_named}

-- the channel of this name, where it stands
pub found : (name : Bytes) (xs : List Channel) (at : ℕ) (c : Channel) → IsHeld (λ d. before d.name name) (λ d. before name d.name) xs at → slice_get xs at ≡ Some c → find (is_named name) xs ≡ Some c
found = name_found (λ (c : Channel). c.name)

pub lacking : (name : Bytes) (xs : List Channel) (at : ℕ) → are_channels xs ≡ true → IsFree (λ d. before d.name name) (λ d. before name d.name) xs at → find (is_named name) xs ≡ None
lacking = name_missing (λ (c : Channel). c.name)

pub left : (name : Bytes) (xs : List Channel) (at : ℕ) → are_channels xs ≡ true → IsHeld (λ d. before d.name name) (λ d. before name d.name) xs at → filter (λ d. not (is_named name d)) xs ≡ remove xs at
left = name_left (λ (c : Channel). c.name)

-- a channel of this name put at its place
pub put_held : (c : Channel) (xs : List Channel) (at : ℕ) → IsHeld (λ d. before d.name c.name) (λ d. before c.name d.name) xs at → slice_set xs at c ≡ put_in channel_before c xs
put_held = set_held channel_before (name_asym (λ (d : Channel). d.name))

pub put_free : (c : Channel) (xs : List Channel) (at : ℕ) → IsFree (λ d. before d.name c.name) (λ d. before c.name d.name) xs at → insert xs at c ≡ put_in channel_before c xs
put_free = insert_free channel_before (name_asym (λ (d : Channel). d.name))

pub put_by_name : (c : Channel) (xs : List Channel) → are_channels xs ≡ true → are_channels (put_in channel_before c xs) ≡ true
put_by_name c xs asc = ascends-put_in channel_before (name_trans (λ (d : Channel). d.name)) (name_tie (λ (d : Channel). d.name)) c xs asc

pub removed_by_name : (xs : List Channel) (at : ℕ) → are_channels xs ≡ true → are_channels (remove xs at) ≡ true
removed_by_name xs at asc = ascends-remove channel_before xs at asc
