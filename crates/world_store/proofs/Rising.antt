-- What stands behind something that stands behind a place does so too.
use Rattle.std.proofs.Common.{◌≡◌, ◌<◌, ◌+◌, ℕ, Bool, true, false, List, length, sym, ap, ◌∙◌}
use Rattle.std.specs.Prelude.{Some, IfSome, filter, slice_get}
use Rattle.ordered_lists.specs.Lists.{ascends}
use Rattle.byte_text.specs.Names.{Bytes, before}
use Rattle.byte_text.specs.ByteOrder.{before_trans}
use Rattle.byte_text.specs.ListLaws.{item_at}
use Rattle.world_data.specs.Worlds.{channel_before}
use Rattle.world_data.specs.declared.objects.Object.{Object}
use Rattle.world_data.specs.declared.channels.Channel.{Channel}
use Rattle.collection.specs.Objects.{id_before}
use Rattle.keyspace.specs.Entries.{Entry, key_before, has_objects}
use Rattle.world_store.specs.Copies.{is_behind_name, has_id_behind, has_key_behind, IsInFront, IsAtBack, AreBare}
use Rattle.world_store.proofs.Walking.{go_up, go_down, got}

pub channels_rise : (name : Bytes) (c d : Channel) → channel_before c d ≡ true → is_behind_name name c ≡ true → is_behind_name name d ≡ true
channels_rise name c d lt behind = before_trans name c.name d.name behind lt

pub ids_rise : (id : Bytes) (o p : Object) → id_before o p ≡ true → has_id_behind id o ≡ true → has_id_behind id p ≡ true
ids_rise id o p lt behind = before_trans id o.id p.id behind lt

pub keys_rise : (key : Bytes) (e f : Entry) → key_before e f ≡ true → has_key_behind key e ≡ true → has_key_behind key f ≡ true
keys_rise key e f lt behind = before_trans key e.key f.key behind lt

-- a key that has objects was read at a place
module _ (key : Bytes) (es : List Entry) (asc : ascends key_before (filter has_objects es) ≡ true) (at : ℕ) (within : at < length es)
    (held : IfSome (slice_get es at) (λ e. has_objects e ≡ true)) (k : Bytes) (read : IfSome (slice_get es at) (λ e. k ≡ e.key)) where
  here : (e : Entry) × (slice_get es at ≡ Some e)
  here = item_at es at within

  has_some : has_objects here.0 ≡ true
  has_some = got (λ e. has_objects e ≡ true) es at here.0 here.1 held

  tested : (b : Bool) → before key k ≡ b → has_key_behind key here.0 ≡ b
  tested b e = ap (before key) (sym (got (λ e. k ≡ e.key) es at here.0 here.1 read)) ∙ e

  pub key_up : before key k ≡ false → IsInFront has_objects (has_key_behind key) es (at + 1)
  key_up e = go_up key_before has_objects (has_key_behind key) (keys_rise key) es asc at here.0 here.1 has_some (tested false e)

  pub key_down : (middle : ℕ) → AreBare has_objects es middle at → before key k ≡ true → IsAtBack has_objects (has_key_behind key) es middle
  key_down middle bare e = go_down key_before has_objects (has_key_behind key) (keys_rise key) es asc at here.0 here.1 has_some middle bare (tested true e)
