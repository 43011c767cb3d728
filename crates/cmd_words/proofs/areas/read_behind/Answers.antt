use Rattle.std.proofs.lemmas.Result.{err_from_is_err_and}
use Rattle.cmd_words.proofs.AreaWords.{box_read, box_refused, holder_read, holder_refused}
use Rattle.cmd_words.proofs.areas.read_behind.Goals as goal

pub returns-in_err-rect-in-Bounds : goal.returns-in_err-rect-in-Bounds
returns-in_err-rect-in-Bounds c =
    let p = err_from_is_err_and c.from_residual.result c.from_residual.ensures.1 in
    rw (p.1, p.2, c.in-Bounds.is) (box_refused c.args.reader.now c.bounds.new.self _ c.in_err-rect-in-Bounds.ensures.reads)

pub returns-in_ok-rect-in-Bounds : goal.returns-in_ok-rect-in-Bounds
returns-in_ok-rect-in-Bounds c = rw (c.in-Bounds.is, c.rect_area.ensures) (box_read c.args.reader.now c.bounds.new.self c.in_ok-rect-in-Bounds.rect c.in_ok-rect-in-Bounds.ensures.reads)

pub returns-in-Object : goal.returns-in-Object
returns-in-Object c = rw c.in-Object.is c.read_figure.ensures

pub returns-in-Circle : goal.returns-in-Circle
returns-in-Circle c = rw c.in-Circle.is c.read_disc.ensures

pub returns-in_err-key-in-Get : goal.returns-in_err-key-in-Get
returns-in_err-key-in-Get c =
    let p = err_from_is_err_and c.from_residual-in_err-key-in-Get.result c.from_residual-in_err-key-in-Get.ensures.1 in
    rw (p.1, p.2, c.in-Get.is) (holder_refused c.args.reader.now c.key_and_id.new.self _ c.in_err-key-in-Get.ensures)

pub returns-in_ok-key-in-Get : goal.returns-in_ok-key-in-Get
returns-in_ok-key-in-Get c = rw (c.in-Get.is, c.nowhere.ensures) (holder_read c.args.reader.now c.key_and_id.new.self _ c.in_ok-key-in-Get.ensures)
