use Rattle.std.proofs.lemmas.Result.{err_from_is_err_and}
use Rattle.cmd_words.proofs.AreaWords.{centre_refused, radius_refused, disc_read}
use Rattle.cmd_words.proofs.areas.read_disc.Goals as goal

pub returns-in_err-centre : goal.returns-in_err-centre
returns-in_err-centre c =
    let p = err_from_is_err_and c.from_residual.result c.from_residual.ensures.1 in
    rw (p.1, p.2) (centre_refused c.args.reader.now c.point.new.self _ c.in_err-centre.ensures)

pub returns-in_err-radius : goal.returns-in_err-radius
returns-in_err-radius c =
    let p = err_from_is_err_and c.from_residual-in_err-radius.result c.from_residual-in_err-radius.ensures.1 in
    rw (p.1, p.2) (radius_refused c.args.reader.now c.point.new.self c.meters.new.self c.in_ok-centre.centre _ c.in_ok-centre.ensures c.in_err-radius.ensures)

pub returns : goal.returns
returns c = disc_read c.args.reader.now c.point.new.self c.meters.new.self c.in_ok-centre.centre c.in_ok-radius.radius c.in_ok-centre.ensures c.in_ok-radius.ensures
