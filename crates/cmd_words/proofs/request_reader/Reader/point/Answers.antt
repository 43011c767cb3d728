use Rattle.std.proofs.Common.{◌≡◌, ap, sym, rules}
use Rattle.std.proofs.Math.Facts.{to_z-of_z}
use mir.Syntax.{w64}
use mir.Val.{SFits}
use Rattle.std.specs.Prelude.{Ok, Err}
use Rattle.std.proofs.lemmas.Result.{err_from_is_err_and}
use Rattle.planar_geom.specs.Points.{pt}
use Rattle.world_model.specs.Grammar.{◌>>=◌, done}
use Rattle.world_model.specs.Kinds.{coordinate}
use Rattle.cmd_words.proofs.Binds.{bind_fails, bind_then, bind_done}
use Rattle.cmd_words.proofs.request_reader.Reader.point.Goals as goal

pub returns-in_err-lat : goal.returns-in_err-lat
returns-in_err-lat c =
    let p = err_from_is_err_and c.from_residual.result c.from_residual.ensures.1 in
    rw (p.1, p.2) (bind_fails coordinate (λ lat. coordinate >>= λ lon. done (pt lon lat)) c.args.self.now c.coordinate.new.self c.coordinate.new.self _ c.in_err-lat.ensures.reads)

pub returns-in_err-lon : goal.returns-in_err-lon
returns-in_err-lon c =
    let p = err_from_is_err_and c.from_residual-in_err-lon.result c.from_residual-in_err-lon.ensures.1 in
    rw (p.1, p.2) (bind_then coordinate (λ lat. coordinate >>= λ lon. done (pt lon lat)) c.args.self.now c.coordinate.new.self c.coordinate-2.new.self c.in_ok-lat.lat (Err _) c.in_ok-lat.ensures.reads
    (bind_fails coordinate (λ lon. done (pt lon c.in_ok-lat.lat)) c.coordinate.new.self c.coordinate-2.new.self c.coordinate-2.new.self _ c.in_err-lon.ensures.reads))

pub returns : goal.returns
returns c =
    let y : SFits w64 c.in_ok-lat.lat = search rules in
    let x : SFits w64 c.in_ok-lon.lon = search rules in
    let made : c.point_at.result ≡ pt c.in_ok-lon.lon c.in_ok-lat.lat = rw (to_z-of_z x, to_z-of_z y) at c.point_at.ensures in
    bind_then coordinate (λ lat. coordinate >>= λ lon. done (pt lon lat)) c.args.self.now c.coordinate.new.self c.coordinate-2.new.self c.in_ok-lat.lat (Ok c.point_at.result) c.in_ok-lat.ensures.reads
    (bind_done coordinate (λ lon. done (pt lon c.in_ok-lat.lat)) c.coordinate.new.self c.coordinate-2.new.self c.in_ok-lon.lon c.point_at.result (ap done (sym made)) c.in_ok-lon.ensures.reads)
