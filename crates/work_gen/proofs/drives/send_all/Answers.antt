use Rattle.std.proofs.Common.{List, subst}
use Rattle.std.specs.Prelude.{Option}
use Rattle.work_gen.specs.Workload.{lines, NextIs}
use Rattle.work_gen.specs.declared.lines.Line.{Line}
use Rattle.work_gen.proofs.Going.{GoesTo, to_next}
use Rattle.work_gen.proofs.drives.send_all.Goals as goal

pub sending-preserved : goal.sending-preserved
sending-preserved g c =
    let old = g.M.Machine.hall c.args.machine.now in
    let mid = g.M.Machine.hall c.sending.machine in
    let new = g.M.Machine.hall c.ask.new.machine in
    let whole = lines c.args.n c.args.seed in
    let first = subst (λ (o : Option Line). NextIs c.sending.left c.next_line.new.self o) c.in-Some.is c.in_ok-line.ensures.ok in
    let going = subst (λ (l : List Line). GoesTo c.args.pair.now whole l old mid (record { messages = 0; bytes = 0 }) c.sending.tally) first.0 c.sending.invariant.going in
    record {
      empty = c.in_ok-tally.ensures.empty;
      goes = c.ask.ensures.goes;
      going = to_next c.args.pair.now whole c.next_line.new.self c.in-Some.line old mid new (record { messages = 0; bytes = 0 }) c.sending.tally c.in_ok-tally.tally going c.in_ok-tally.ensures.ok;
    }
