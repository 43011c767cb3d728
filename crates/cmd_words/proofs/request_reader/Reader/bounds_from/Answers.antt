use Rattle.std.proofs.Common.{◌≡◌, ℤ, ap, sym, rules}
use Rattle.std.proofs.Math.Facts.{to_z-of_z}
use mir.Syntax.{w64}
use mir.Val.{SFits}
use Rattle.std.specs.Prelude.{Ok, Err}
use Rattle.std.proofs.lemmas.Result.{err_from_is_err_and}
use Rattle.planar_geom.specs.Points.{Bounds, bounds, pt}
use Rattle.world_model.specs.Grammar.{Form, ◌>>=◌, done}
use Rattle.world_model.specs.Kinds.{coordinate, coordinate_from}
use Rattle.cmd_words.proofs.Binds.{bind_fails, bind_then, bind_done}
use Rattle.cmd_words.proofs.request_reader.Reader.bounds_from.Goals as goal

-- what is due behind the first coordinates of a box
abbrev behind_three : ℤ → ℤ → ℤ → Form Bounds
behind_three a b c = coordinate_from b >>= λ d. done (bounds (pt b a) (pt d c))

abbrev behind_two : ℤ → ℤ → Form Bounds
behind_two a b = coordinate_from a >>= behind_three a b

pub returns-in_err-min_lon : goal.returns-in_err-min_lon
returns-in_err-min_lon c =
    let p = err_from_is_err_and c.from_residual.result c.from_residual.ensures.1 in
    rw (p.1, p.2) (bind_fails coordinate (behind_two c.args.min_lat) c.args.self.now c.coordinate.new.self c.coordinate.new.self _ c.in_err-min_lon.ensures.reads)

pub returns-in_err-max_lat : goal.returns-in_err-max_lat
returns-in_err-max_lat c =
    let p = err_from_is_err_and c.from_residual-in_err-max_lat.result c.from_residual-in_err-max_lat.ensures.1 in
    let third = rw (to_z-of_z c.ranges.min_lat) at c.in_err-max_lat.ensures.reads in
    rw (p.1, p.2) (bind_then coordinate (behind_two c.args.min_lat) c.args.self.now c.coordinate.new.self c.coordinate_from.new.self c.in_ok-min_lon.min_lon (Err _) c.in_ok-min_lon.ensures.reads
    (bind_fails (coordinate_from c.args.min_lat) (behind_three c.args.min_lat c.in_ok-min_lon.min_lon) c.coordinate.new.self c.coordinate_from.new.self c.coordinate_from.new.self _ third))

pub returns-in_err-max_lon : goal.returns-in_err-max_lon
returns-in_err-max_lon c =
    let p = err_from_is_err_and c.from_residual-in_err-max_lon.result c.from_residual-in_err-max_lon.ensures.1 in
    let b : SFits w64 c.in_ok-min_lon.min_lon = search rules in
    let third = rw (to_z-of_z c.ranges.min_lat) at c.in_ok-max_lat.ensures.reads in
    let fourth = rw (to_z-of_z b) at c.in_err-max_lon.ensures.reads in
    rw (p.1, p.2) (bind_then coordinate (behind_two c.args.min_lat) c.args.self.now c.coordinate.new.self c.coordinate_from-2.new.self c.in_ok-min_lon.min_lon (Err _) c.in_ok-min_lon.ensures.reads
    (bind_then (coordinate_from c.args.min_lat) (behind_three c.args.min_lat c.in_ok-min_lon.min_lon) c.coordinate.new.self c.coordinate_from.new.self c.coordinate_from-2.new.self c.in_ok-max_lat.max_lat (Err _) third
    (bind_fails (coordinate_from c.in_ok-min_lon.min_lon) (λ d. done (bounds (pt c.in_ok-min_lon.min_lon c.args.min_lat) (pt d c.in_ok-max_lat.max_lat))) c.coordinate_from.new.self c.coordinate_from-2.new.self c.coordinate_from-2.new.self _ fourth)))

pub returns : goal.returns
returns c =
    let b : SFits w64 c.in_ok-min_lon.min_lon = search rules in
    let x : SFits w64 c.in_ok-max_lon.max_lon = search rules in
    let y : SFits w64 c.in_ok-max_lat.max_lat = search rules in
    let third = rw (to_z-of_z c.ranges.min_lat) at c.in_ok-max_lat.ensures.reads in
    let fourth = rw (to_z-of_z b) at c.in_ok-max_lon.ensures.reads in
    let made : c.box_between.result ≡ bounds (pt c.in_ok-min_lon.min_lon c.args.min_lat) (pt c.in_ok-max_lon.max_lon c.in_ok-max_lat.max_lat) = rw (to_z-of_z c.ranges.min_lat, to_z-of_z b, to_z-of_z x, to_z-of_z y) at c.box_between.ensures in
    bind_then coordinate (behind_two c.args.min_lat) c.args.self.now c.coordinate.new.self c.coordinate_from-2.new.self c.in_ok-min_lon.min_lon (Ok c.box_between.result) c.in_ok-min_lon.ensures.reads
    (bind_then (coordinate_from c.args.min_lat) (behind_three c.args.min_lat c.in_ok-min_lon.min_lon) c.coordinate.new.self c.coordinate_from.new.self c.coordinate_from-2.new.self c.in_ok-max_lat.max_lat (Ok c.box_between.result) third
    (bind_done (coordinate_from c.in_ok-min_lon.min_lon) (λ d. done (bounds (pt c.in_ok-min_lon.min_lon c.args.min_lat) (pt d c.in_ok-max_lat.max_lat))) c.coordinate_from.new.self c.coordinate_from-2.new.self c.in_ok-max_lon.max_lon c.box_between.result (ap done (sym made)) fourth))
