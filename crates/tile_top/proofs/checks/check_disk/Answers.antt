use Rattle.std.proofs.Common.{inl, inr, refl, sym, ap, ◌∙◌}
use Rattle.tile_top.proofs.Fronting.{checked_line, damaged_as, end_as, not_done, unspent_as}
use Rattle.tile_top.proofs.checks.check_disk.Goals as goal
use Rattle.tile_top.proofs.checks.check_disk.Goals.{in-Ok-Ok, in-Ok-Err, in_default+in-Ok-1, in_default+in-Err-1}

pub returns-after-found-clause-told : goal.returns-after-found-clause-told
returns-after-found-clause-told g c =
    let f = c.in-Ok.ensures.found in
    inr (record {
      world = f.0;
      logged = f.1;
      opens = f.2.opens;
      generation = c.in-Ok.found.generation;
      answered = c.in-Ok.found.answer;
      left = f.3;
      ended = elim c.match-found.branch [
        | in-Ok-Ok w ↦ inl (
          w.in-Ok-Ok.is-0,
          inl (end_as _ _ _ _ _ _ _ _ (ap g.K.Sink.held (sym w.sink-is))
              (w.bytes.ensures ∙ checked_line f.0 c.in-Ok.found.objects c.in-Ok.found.channels c.in-Ok.found.generation c.check_text-text.result w.in-Ok-Ok.text w.in-Ok-Ok.is-1 c.check_text-text.ensures f.2.objects_are f.2.channels_are)
              (sym w.status-is) w.end-status.ensures.told),
        )
        | in-Ok-Err w ↦ inl (w.in-Ok-Err.is-0, inr (end_as _ _ _ _ _ _ _ _ (ap g.K.Sink.held (sym w.sink-is)) refl (sym w.status-is) w.end-status-in-Ok-Err.ensures.told))
        | in_default+in-Ok-1 w ↦ inr (not_done c.in-Ok.found.answer f.2.fine w.in_default.not-Ok-0, end_as _ _ _ _ _ _ _ _ (ap g.K.Sink.held (sym w.sink-is)) refl (sym w.status-is) w.end-status-in_default.ensures.told)
        | in_default+in-Err-1 w ↦ inr (not_done c.in-Ok.found.answer f.2.fine w.in_default.not-Ok-0, end_as _ _ _ _ _ _ _ _ (ap g.K.Sink.held (sym w.sink-is)) refl (sym w.status-is) w.end-status-in_default.ensures.told)
      ];
    })

pub returns-in-Err-clause-told : goal.returns-in-Err-clause-told
returns-in-Err-clause-told g c = inl (record {
  why = c.halt_of.result;
  unspent = unspent_as c.in-Err.unopened.why c.halt_of.result c.halt_of.ensures;
  damaged = damaged_as _ c.in-Err.unopened.why c.halt_of.result c.halt_of.ensures c.in-Err.ensures.damaged;
  back = (c.in-Err.unopened.why, c.halt_of.ensures, c.in-Err.ensures.back);
  ended = c.end_halt-status.ensures.told;
})
