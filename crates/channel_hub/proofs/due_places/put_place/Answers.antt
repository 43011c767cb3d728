use Rattle.std.proofs.Common.{◌∙◌}
use Rattle.std.specs.Prelude.{nat_lt}
use Rattle.channel_hub.proofs.Inserting.{insert_here}
use Rattle.channel_hub.proofs.Places.{numbers_cut}
use Rattle.channel_hub.proofs.due_places.put_place.Goals as goal

pub place_of-at-requires : goal.place_of-at-requires
place_of-at-requires c = numbers_cut c.args.place c.args.places.now.items c.requires.order

pub returns-clause-items : goal.returns-clause-items
returns-clause-items c =
    c.insert.ensures.items ∙ insert_here nat_lt c.args.place c.args.places.now.items c.place_of-at.result c.place_of-at.ensures.front c.place_of-at.ensures.behind
