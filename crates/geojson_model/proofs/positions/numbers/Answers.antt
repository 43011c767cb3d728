use Rattle.geojson_model.proofs.Rings.{one_item, four_items}
use Rattle.geojson_model.proofs.positions.numbers.Goals as goal

pub returns-in-len1 : goal.returns-in-len1
returns-in-len1 c = one_item c.args.items.now c.in-len1.len_at_least c.in-len1.len_below

pub returns-in-len4-up : goal.returns-in-len4-up
returns-in-len4-up c = four_items c.args.items.now c.in-len4-up.len_at_least
