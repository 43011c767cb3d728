use Rattle.std.specs.Prelude.{string_bytes}
use Rattle.tile_top.proofs.Ends.{is_one, alike_if, if_alike}
use Rattle.tile_top.proofs.tops.is_alone.Goals as goal

pub returns-in-len1 : goal.returns-in-len1
returns-in-len1 c = is_one string_bytes c.args.words.now c.word-item.result c.args.name.now c.as_str.result.now c.eq.result c.in-len1.len_at_least c.in-len1.len_below c.word-item.is c.as_str.ensures.value
    (alike_if c.eq.result c.as_str.result.now c.args.name.now c.eq.ensures) (if_alike c.eq.result c.as_str.result.now c.args.name.now c.eq.ensures)
