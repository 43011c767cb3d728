use Rattle.std.proofs.lemmas.Result.{err_from_is_err_and}
use Rattle.cmd_words.proofs.OptionWords.{point_read, point_refused, bounds_read, bounds_refused, object_read, made_read, nothing_next}
use Rattle.cmd_words.proofs.object_places.read_place.Goals as goal

pub returns-in_err-at-in-Some-Point : goal.returns-in_err-at-in-Some-Point
returns-in_err-at-in-Some-Point c =
    let p = err_from_is_err_and c.from_residual.result c.from_residual.ensures.1 in
    let t = rw c.in-Some-Point.field-0-is at c.in-Some-Point.ensures in
    rw (p.1, p.2) (λ o n. point_refused o c.args.reader.now c.place_word.new.reader c.point.new.self t.0 t.2 _ t.1 c.in_err-at-in-Some-Point.ensures)

pub returns-in_err-bounds-in-Some-Bounds : goal.returns-in_err-bounds-in-Some-Bounds
returns-in_err-bounds-in-Some-Bounds c =
    let p = err_from_is_err_and c.from_residual-in_err-bounds-in-Some-Bounds.result c.from_residual-in_err-bounds-in-Some-Bounds.ensures.1 in
    let t = rw c.in-Some-Bounds.field-0-is at c.in-Some-Bounds.ensures in
    rw (p.1, p.2) (λ o n. bounds_refused o c.args.reader.now c.place_word.new.reader c.bounds.new.self t.0 t.2 _ t.1 c.in_err-bounds-in-Some-Bounds.ensures.reads)

pub returns-in_ok-at-in-Some-Point : goal.returns-in_ok-at-in-Some-Point
returns-in_ok-at-in-Some-Point c =
    let t = rw c.in-Some-Point.field-0-is at c.in-Some-Point.ensures in
    λ o n. made_read o c.args.reader.now c.point.new.self _ c.point_object.result c.point_object.ensures.ok c.point_object.ensures.err
    (point_read o c.args.reader.now c.place_word.new.reader c.point.new.self t.0 t.2 c.in_ok-at-in-Some-Point.at t.1 c.in_ok-at-in-Some-Point.ensures)

pub returns-in_ok-bounds-in-Some-Bounds : goal.returns-in_ok-bounds-in-Some-Bounds
returns-in_ok-bounds-in-Some-Bounds c =
    let t = rw c.in-Some-Bounds.field-0-is at c.in-Some-Bounds.ensures in
    λ o n. made_read o c.args.reader.now c.bounds.new.self _ c.bounds_object.result c.bounds_object.ensures.ok c.bounds_object.ensures.err
    (bounds_read o c.args.reader.now c.place_word.new.reader c.bounds.new.self t.0 t.2 c.in_ok-bounds-in-Some-Bounds.bounds t.1 c.in_ok-bounds-in-Some-Bounds.ensures.reads)

pub returns-in-Some-Object : goal.returns-in-Some-Object
returns-in-Some-Object c =
    let t = rw c.in-Some-Object.field-0-is at c.in-Some-Object.ensures in
    λ o n. object_read o c.args.reader.now c.place_word.new.reader c.geojson.new.self t.0 t.2 c.geojson.result t.1 c.geojson.ensures

pub returns-in-None : goal.returns-in-None
returns-in-None c = λ o n. nothing_next o c.args.reader.now c.place_word.new.reader c.refusal.result c.in-None.ensures n c.refusal.ensures
