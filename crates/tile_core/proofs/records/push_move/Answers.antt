use Rattle.std.proofs.Common.{Bool, OnOk, sym, subst}
use Rattle.object_plans.specs.declared.moves.ObjectChange.{ObjectChange}
use Rattle.tile_core.specs.RecordSinks.{ArePushed}
use Rattle.object_plans.specs.Plans.{writes_of}
use Rattle.tile_core.proofs.records.push_move.Goals as goal

pub returns-in-Put : goal.returns-in-Put
returns-in-Put g c =
    subst (λ (m : ObjectChange). OnOk c.push_written.result ((is_loud : Bool) → ArePushed (writes_of m is_loud) c.args.into.now c.push_written.new.into)) (sym c.in-Put.is) c.push_written.ensures
