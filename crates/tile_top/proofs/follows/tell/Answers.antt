use Rattle.std.proofs.Common.{rules}
use Rattle.tile_top.specs.Follows.{news}
use Rattle.tile_top.proofs.Telling.{part_as}
use Rattle.tile_top.proofs.follows.tell.Goals as goal

pub returns-clause-part : goal.returns-clause-part
returns-clause-part g c = part_as (g.K.Sink.held c.args.sink.now) (g.K.Sink.held c.write_all.new.sink) c.bytes.result.now (news c.args.told c.args.node.now)
    (search rules) c.in-Err.ensures.part
