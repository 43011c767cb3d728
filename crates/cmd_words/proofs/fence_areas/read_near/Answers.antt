use Rattle.std.proofs.Common.{◌≡◌, subst, rules}
use Rattle.std.specs.Prelude.{is_none}
use Rattle.cmd_words.specs.Progress.{Place, ParsesAhead}
use Rattle.cmd_words.specs.FenceAreas.{around, beside, near_area}
use Rattle.cmd_words.proofs.FenceAreas.{led_to, point_goes, roam_goes, no_near}
use Rattle.cmd_words.proofs.fence_areas.read_near.Goals as goal

pub returns-then-takes_due : goal.returns-then-takes_due
returns-then-takes_due c =
    let o = c.args.options.now in
    let nodwell : c.options.inside.nodwell ≡ o.nodwell = search rules in
    let t = rw nodwell at c.if-takes_due.ensures in
    led_to (near_area o) around c.args.reader.now c.takes_due.new.self c.read_around.new.reader t.1 t.3 (λ next more. point_goes o t.1 t.2 t.0 next more) c.read_around.result c.read_around.ensures

pub returns-then-takes_due-2 : goal.returns-then-takes_due-2
returns-then-takes_due-2 c =
    let o = c.args.options.now in
    let detect : c.is_none.result ≡ is_none o.detect = search rules in
    let t = rw detect at c.if-takes_due-2.ensures in
    subst (λ (p : Place). ParsesAhead (near_area o) p c.read_beside.new.reader c.read_beside.result) c.if-takes_due.ensures.0
    (led_to (near_area o) beside c.takes_due.new.self c.takes_due-else-takes_due.new.self c.read_beside.new.reader t.1 t.3 (λ next more. roam_goes o t.1 t.2 t.0 next more) c.read_beside.result c.read_beside.ensures)

pub returns-else-takes_due-2 : goal.returns-else-takes_due-2
returns-else-takes_due-2 c =
    let o = c.args.options.now in
    let nodwell : c.options.inside.nodwell ≡ o.nodwell = search rules in
    let detect : c.is_none.result ≡ is_none o.detect = search rules in
    no_near o c.args.reader.now c.takes_due.new.self c.takes_due-else-takes_due.new.self c.args.reader.now c.refusal.result (rw nodwell at c.if-takes_due.ensures) (rw detect at c.if-takes_due-2.ensures) c.refusal.ensures
