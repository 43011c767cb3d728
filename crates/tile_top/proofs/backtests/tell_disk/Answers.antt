use Rattle.std.proofs.Common.{inl, inr, sym, ap}
use Rattle.tile_top.proofs.Fronting.{damaged_as, end_as, halt_as, unspent_as}
use Rattle.tile_top.proofs.backtests.tell_disk.Goals as goal
use Rattle.tile_top.proofs.backtests.tell_disk.Goals.{in-Ok, in-Err}

pub returns-clause-told : goal.returns-clause-told
returns-clause-told g c =
    elim c.match-backtest_log.branch [
      | in-Ok w ↦ inl (record {
        text = w.in-Ok.text;
        reported = w.in-Ok.ensures.told;
        ended = end_as _ _ _ _ _ _ _ _ (ap g.K.Sink.held (sym w.sink-is)) w.bytes.ensures (sym w.status-is) w.end-status.ensures.told;
      })
      | in-Err w ↦ inr (record {
        why = w.halt_of.result;
        unspent = unspent_as w.in-Err.why w.halt_of.result w.halt_of.ensures;
        damaged = damaged_as _ w.in-Err.why w.halt_of.result w.halt_of.ensures w.in-Err.ensures.damaged;
        ended = halt_as w.halt_of.result _ _ _ _ _ (ap g.K.Sink.held (sym w.sink-is)) (sym w.status-is) w.end_halt-status.ensures.told;
      })
    ]
