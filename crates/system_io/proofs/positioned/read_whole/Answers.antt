use Rattle.std.proofs.Common.{rules}
use Rattle.system_io.proofs.Transfers.{read_on}
use Rattle.system_io.proofs.positioned.read_whole.Goals as goal

pub loop-got-preserved : goal.loop-got-preserved
loop-got-preserved g c =
    let read = c.in_ok-count.ensures in
    record {
      room = search rules;
      long = search rules;
      same = search rules;
      bytes = read_on c.args.at c.saturating_add.result c.loop-got.got c.in_ok-count.count c.loop-got.into c.read_part.new.into (g.F.Positioned.held c.args.file.now) (g.F.Positioned.held c.loop-got.file) c.loop-got.invariant.same
          (search rules) c.saturating_add.ensures c.loop-got.invariant.room (search rules) (g.met.F.Positioned.reached c.loop-got.file) c.loop-got.invariant.bytes read.within read.bytes;
    }
