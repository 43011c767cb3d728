-- The first object of the next key.
use Rattle.world_store.specs.Copies.{is_next_key, name_in}
use Rattle.world_store.proofs.NextKeys.{place_held, first_next}
use Rattle.world_store.proofs.copies.first_of_next.Goals as goal

pub first_of-requires : goal.first_of-requires
first_of-requires c = place_held (is_next_key (name_in c.args.after)) c.args.objects.now c.next_key.result c.next_key.ensures.place

pub returns : goal.returns
returns c =
    first_next (is_next_key (name_in c.args.after)) c.args.objects.now c.next_key.result _ c.requires c.keys-count.ensures.distinct c.next_key.ensures.place c.first_of.ensures
