-- A change keeps a world sorted.
use Rattle.std.proofs.Common.{◌≡◌, true, false, not, refl, arith}
use Rattle.ordered_lists.specs.Ascending.{ascends-put_in, ascends-filter}
use Rattle.ordered_lists.specs.NameOrder.{pair_trans, pair_tie, pair_asym, name_trans, name_tie, name_asym}
use Rattle.world_data.specs.Worlds.{object_before, channel_before, is_at, has_key, is_named, is_sorted_world, after}
use Rattle.world_data.specs.declared.objects.Object.{Object}
use Rattle.world_data.specs.declared.channels.Channel.{Channel}
use Rattle.world_data.specs.declared.worlds.World.{World}
use Rattle.world_data.specs.declared.worlds.Change.{Change}
use Rattle.world_data.specs.declared.worlds.Change.TheVariants.{Put, Del, Drop, Flush, SetChan, DelChan}

-- objects stand in the order of two names, channels in that of one

pub object_trans : (o p q : Object) → object_before o p ≡ true → object_before p q ≡ true → object_before o q ≡ true
object_trans = pair_trans (λ (o : Object). o.key) (λ o. o.id)

pub object_tie : (o p q : Object) → object_before o p ≡ false → object_before p o ≡ false → object_before p q ≡ true → object_before o q ≡ true
object_tie = pair_tie (λ (o : Object). o.key) (λ o. o.id)

pub object_asym : (o p : Object) → object_before o p ≡ true → object_before p o ≡ false
object_asym = pair_asym (λ (o : Object). o.key) (λ o. o.id)

pub channel_trans : (c d e : Channel) → channel_before c d ≡ true → channel_before d e ≡ true → channel_before c e ≡ true
channel_trans = name_trans (λ (c : Channel). c.name)

pub channel_tie : (c d e : Channel) → channel_before c d ≡ false → channel_before d c ≡ false → channel_before d e ≡ true → channel_before c e ≡ true
channel_tie = name_tie (λ (c : Channel). c.name)

pub channel_asym : (c d : Channel) → channel_before c d ≡ true → channel_before d c ≡ false
channel_asym = name_asym (λ (c : Channel). c.name)

pub keeps_order : (w : World) (c : Change) → is_sorted_world w ≡ true → is_sorted_world (after w c) ≡ true
keeps_order w (Put o) sorted = let put = ascends-put_in object_before object_trans object_tie o w.objects in grind arith
keeps_order w (Del key id) sorted = let kept = ascends-filter object_before (λ o. not (is_at key id o)) w.objects in grind arith
keeps_order w (Drop key) sorted = let kept = ascends-filter object_before (λ o. not (has_key key o)) w.objects in grind arith
keeps_order w Flush sorted = refl
keeps_order w (SetChan c) sorted = let put = ascends-put_in channel_before channel_trans channel_tie c w.channels in grind arith
keeps_order w (DelChan name) sorted = let kept = ascends-filter channel_before (λ c. not (is_named name c)) w.channels in grind arith
