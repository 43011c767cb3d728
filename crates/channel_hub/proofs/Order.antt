-- Slots of channels in order of their names, as a channel comes, goes, or takes the place of another.
use Rattle.std.proofs.Common.{◌≡◌, ◌≢◌, ◌<◌, ℕ, refl, sym, ap, ◌∙◌, List, [], length, get_or, arith}
use Rattle.std.specs.Prelude.{Option, Some, None, slice_get}
use Rattle.std.specs.List.{insert, remove}
use Rattle.std.proofs.lemmas.Option.{slice_get-get_or}
use Rattle.byte_text.specs.Names.{Bytes, before}
use Rattle.ordered_lists.specs.Ascending.{ascends-remove}
use Rattle.ordered_lists.specs.Lists.{IsHeld, IsFree, put_in}
use Rattle.world_data.specs.declared.channels.Channel.{Channel}
use Rattle.world_data.specs.Worlds.{channel_before}
use Rattle.channel_hub.specs.Hubs.{AreInOrder, channels_in}
use Rattle.channel_hub.proofs.ChannelsByName.{put_by_name, put_free, put_held, removed_by_name}
use Rattle.ordered_lists.specs.Slots.{are_other, apart_insert, as_many, as_stored, free_slot, others_apart, read_off, stored_at, stored_insert, stored_remove, stored_set}

-- what is read at a place stands there
pub at_place : (slots : List ℕ) (i d slot : ℕ) → i < length slots → slot ≡ get_or slots i d → slice_get slots i ≡ Some slot
at_place slots i d slot lt is = slice_get-get_or slots i d lt ∙ ap Some (sym is)

pub none_in_order : (f : ℕ → Option Channel) → AreInOrder f []
none_in_order f = record { stored = refl; apart = refl; by_name = refl }

module _ (f : ℕ → Option Channel) (order : List ℕ) (o : AreInOrder f order) where
  pub within_order : (at : ℕ) → at < length (channels_in f order) → at < length order
  within_order at lt = let long = as_many f order (channels_in f order) o.stored in omega (arith, lt, long)

  -- the channel in the slot at a place stands at this place
  pub seat : (at slot : ℕ) (c : Channel) → slice_get order at ≡ Some slot → f slot ≡ Some c → slice_get (channels_in f order) at ≡ Some c
  seat at slot c is has = sym (stored_at f order (channels_in f order) at slot o.stored is) ∙ has

  module _ (g : ℕ → Option Channel) (slot : ℕ) (others : (other : ℕ) → other ≢ slot → g other ≡ f other) (at : ℕ) where
    -- one in the place of the one of its name

    abbrev IsNamedAt : Bytes → Type 0
    IsNamedAt name = IsHeld (λ (d : Channel). before d.name name) (λ d. before name d.name) (channels_in f order) at

    pub channels_set : (c : Channel) → IsNamedAt c.name → slice_get order at ≡ Some slot → g slot ≡ Some c → channels_in g order ≡ put_in channel_before c (channels_in f order)
    channels_set c held is new =
        let xs = channels_in f order in
        read_off g order _ (stored_set f g slot others order xs at c o.stored o.apart is new) ∙ put_held c xs at held

    pub order_set : (c : Channel) → IsNamedAt c.name → slice_get order at ≡ Some slot → g slot ≡ Some c → AreInOrder g order
    order_set c held is new =
        let xs = channels_in f order in
        record {
          stored = as_stored g order _ (stored_set f g slot others order xs at c o.stored o.apart is new);
          apart = o.apart;
          by_name = rw (channels_set c held is new) (put_by_name c xs o.by_name);
        }

    -- one more

    abbrev IsFreeAt : Bytes → Type 0
    IsFreeAt name = IsFree (λ (d : Channel). before d.name name) (λ d. before name d.name) (channels_in f order) at

    pub channels_insert : (c : Channel) → IsFreeAt c.name → f slot ≡ None → g slot ≡ Some c → channels_in g (insert order at slot) ≡ put_in channel_before c (channels_in f order)
    channels_insert c free vacant new =
        let xs = channels_in f order in
        read_off g (insert order at slot) _ (stored_insert f g slot others order xs at c o.stored (free_slot f slot order xs vacant o.stored) new) ∙ put_free c xs at free

    pub order_insert : (c : Channel) → IsFreeAt c.name → f slot ≡ None → g slot ≡ Some c → AreInOrder g (insert order at slot)
    order_insert c free vacant new =
        let xs = channels_in f order in
        let other = free_slot f slot order xs vacant o.stored in
        record {
          stored = as_stored g (insert order at slot) _ (stored_insert f g slot others order xs at c o.stored other new);
          apart = apart_insert order at slot o.apart other;
          by_name = rw (channels_insert c free vacant new) (put_by_name c xs o.by_name);
        }

    -- one less

    pub channels_removed : slice_get order at ≡ Some slot → channels_in g (remove order at) ≡ remove (channels_in f order) at
    channels_removed is = read_off g (remove order at) _ (stored_remove f g slot others order (channels_in f order) at o.stored (others_apart order at slot is o.apart))

    pub order_remove : slice_get order at ≡ Some slot → AreInOrder g (remove order at)
    order_remove is =
        let xs = channels_in f order in
        record {
          stored = as_stored g (remove order at) _ (stored_remove f g slot others order xs at o.stored (others_apart order at slot is o.apart));
          apart = ascends-remove are_other order at o.apart;
          by_name = rw (channels_removed is) (removed_by_name xs at o.by_name);
        }
