use Rattle.std.proofs.Common.{refl}
use Rattle.std.specs.Prelude.{Ok, Err}
use Rattle.std.proofs.lemmas.Result.{err_from_is_err_and}
use Rattle.planar_geom.specs.Points.{Point}
use Rattle.world_model.specs.Grammar.{Form, ◌>>=◌, done}
use Rattle.world_model.specs.Kinds.{lat_lon, meters}
use Rattle.cmd_words.specs.declared.fence_areas.FenceArea.{FenceArea}
use Rattle.cmd_words.specs.declared.fence_areas.FenceArea.TheVariants as area
use Rattle.cmd_words.proofs.Binds.{bind_fails, bind_then, bind_done}
use Rattle.cmd_words.proofs.fence_areas.read_around.Goals as goal

-- what is due behind the centre
abbrev behind_centre : Point → Form FenceArea
behind_centre p = meters >>= λ r. done (area.Around p r)

pub returns-in_err-centre : goal.returns-in_err-centre
returns-in_err-centre c =
    let p = err_from_is_err_and c.from_residual.result c.from_residual.ensures.1 in
    rw (p.1, p.2) (bind_fails lat_lon behind_centre c.args.reader.now c.point.new.self c.point.new.self _ c.in_err-centre.ensures)

pub returns-in_err-radius : goal.returns-in_err-radius
returns-in_err-radius c =
    let p = err_from_is_err_and c.from_residual-in_err-radius.result c.from_residual-in_err-radius.ensures.1 in
    rw (p.1, p.2) (bind_then lat_lon behind_centre c.args.reader.now c.point.new.self c.meters.new.self c.in_ok-centre.centre (Err _) c.in_ok-centre.ensures
    (bind_fails meters (λ r. done (area.Around c.in_ok-centre.centre r)) c.point.new.self c.meters.new.self c.meters.new.self _ c.in_err-radius.ensures))

pub returns : goal.returns
returns c =
    bind_then lat_lon behind_centre c.args.reader.now c.point.new.self c.meters.new.self c.in_ok-centre.centre (Ok (area.Around c.in_ok-centre.centre c.in_ok-radius.radius)) c.in_ok-centre.ensures
    (bind_done meters (λ r. done (area.Around c.in_ok-centre.centre r)) c.point.new.self c.meters.new.self c.in_ok-radius.radius (area.Around c.in_ok-centre.centre c.in_ok-radius.radius) refl c.in_ok-radius.ensures)
