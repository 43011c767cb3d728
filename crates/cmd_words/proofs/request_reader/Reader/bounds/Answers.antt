use Rattle.std.proofs.Common.{rules}
use Rattle.std.proofs.Math.Facts.{to_z-of_z}
use mir.Syntax.{w64}
use mir.Val.{SFits}
use Rattle.std.proofs.lemmas.Result.{err_from_is_err_and}
use Rattle.world_model.specs.Kinds.{coordinate}
use Rattle.cmd_words.specs.Progress.{behind_min_lat}
use Rattle.cmd_words.proofs.Binds.{bind_fails, bind_then}
use Rattle.cmd_words.proofs.Ahead.{beside_fails, beside_then}
use Rattle.cmd_words.proofs.request_reader.Reader.bounds.Goals as goal

pub returns-in_err-min_lat-clause-reads : goal.returns-in_err-min_lat-clause-reads
returns-in_err-min_lat-clause-reads c =
    let p = err_from_is_err_and c.from_residual.result c.from_residual.ensures.1 in
    rw (p.1, p.2) (bind_fails coordinate behind_min_lat c.args.self.now c.coordinate.new.self c.coordinate.new.self _ c.in_err-min_lat.ensures.reads)

pub returns-in_err-min_lat-clause-beside : goal.returns-in_err-min_lat-clause-beside
returns-in_err-min_lat-clause-beside c =
    let p = err_from_is_err_and c.from_residual.result c.from_residual.ensures.1 in
    rw (p.1, p.2) (beside_fails coordinate behind_min_lat c.args.self.now c.coordinate.new.self c.coordinate.new.self _ c.in_err-min_lat.ensures.beside)

pub returns-clause-reads : goal.returns-clause-reads
returns-clause-reads c =
    let a : SFits w64 c.in_ok-min_lat.min_lat = search rules in
    bind_then coordinate behind_min_lat c.args.self.now c.coordinate.new.self c.bounds_from.new.self c.in_ok-min_lat.min_lat c.bounds_from.result c.in_ok-min_lat.ensures.reads (rw (to_z-of_z a) at c.bounds_from.ensures)

pub returns-clause-beside : goal.returns-clause-beside
returns-clause-beside c =
    let a : SFits w64 c.in_ok-min_lat.min_lat = search rules in
    beside_then coordinate behind_min_lat c.args.self.now c.coordinate.new.self c.bounds_from.new.self c.in_ok-min_lat.min_lat c.bounds_from.result c.in_ok-min_lat.ensures.beside (rw (to_z-of_z a) at c.bounds_from.ensures)
