use Rattle.std.proofs.Common.{◌≡◌, true, refl, sym, ap, subst}
use Rattle.std.specs.Prelude.{option_map}
use Rattle.shared_hall.specs.Cores.{tells}
use Rattle.shared_hall.specs.Seats.{first_writing, knows_of}
use Rattle.tile_top.proofs.Fronting.{damaged_as, fronts_of, mapped_some, unspent_as, written_as}
use Rattle.tile_top.proofs.serves.serve_hall.Goals as goal

pub returns-in-Ok-clause-serves : goal.returns-in-Ok-clause-serves
returns-in-Ok-clause-serves g c =
    let D = g.D.Disk in
    fronts_of _ _ _ _ _ _ _ _ _ _ _ _ _ (option_map knows_of c.serve_on.result.front) (ap (λ (d : g.row.D.Denot). tells D.crashes D.seen d) c.in-Ok.ensures.handed)
    (mapped_some knows_of c.serve_on.result.front c.serve_on.ensures.some) (c.serve_on.ensures.serves _ c.in-Ok.ensures.first c.in-Ok.ensures.writing)

pub returns-in-Err-clause-serves : goal.returns-in-Err-clause-serves
returns-in-Err-clause-serves g c = record {
  same_door = refl;
  same_wait = refl;
  why = c.halt_of.result;
  unspent = unspent_as c.in-Err.unopened.why c.halt_of.result c.halt_of.ensures;
  damaged = damaged_as _ c.in-Err.unopened.why c.halt_of.result c.halt_of.ensures c.in-Err.ensures.damaged;
  back = (c.in-Err.unopened.why, c.halt_of.ensures, c.in-Err.ensures.back);
  ended = c.end_halt.ensures.told;
}

pub returns-in-Ok-clause-counted : goal.returns-in-Ok-clause-counted
returns-in-Ok-clause-counted g c = c.serve_on.ensures.counted (g.D.Disk.faults c.args.disk) c.in-Ok.ensures.begun

pub returns-in-Ok-clause-rewritten : goal.returns-in-Ok-clause-rewritten
returns-in-Ok-clause-rewritten g c told =
    let on = c.serve_on in
    written_as knows_of g.D.Disk.seen c.args.disk (first_writing c.in-Ok.hall) on.result.front on.result.disk c.in-Ok.ensures.writing
    (on.ensures.rewritten (subst (λ (d : g.row.D.Denot). tells g.D.Disk.crashes g.D.Disk.seen d ≡ true) (sym c.in-Ok.ensures.handed) told))
