use Rattle.std.proofs.Common.{[], length, ap, arith}
use Rattle.std.proofs.lemmas.Result.{on_ok_weaker}
use Rattle.outside.specs.Disks.{Torn}
use Rattle.log_sides.specs.Texts.{newest}
use Rattle.log_sides.specs.Making.{IsShut, IsBare, WhileShut}
use Rattle.log_sides.specs.Closing.{shut_torn, shut_while, length-head}
use Rattle.log_sides.specs.Crashing.{leads_step, leads_then, leads_held}
use Rattle.log_sides.specs.Torn.{first_place}
use Rattle.log_rewrite.specs.NewSides.{IsPart}
use Rattle.log_rewrite.proofs.Parts.{part_begun}
use Rattle.log_rewrite.proofs.Written.{now_write}
use Rattle.log_rewrite.proofs.rewriters.begin_side.Goals as goal

pub returns-in-Ok-clause-begun : goal.returns-in-Ok-clause-begun
returns-in-Ok-clause-begun g c before short safe =
    let D = g.D.Disk in
    let mid = c.shut_side.new.disk in
    let new = c.write_piece.new.disk in
    let leads = leads_step D.crashes D.seen D.images D.moment D.left_since c.args.side IsShut IsShut (Torn 1 (length c.head_of.result)) mid new (c.in-Ok.ensures.shut before short safe)
    (λ x y shut torn. shut_torn 1 (length c.head_of.result) x y (omega arith) (omega (arith, ap length c.head_of.ensures, length-head c.args.generation)) shut torn) c.write_piece.ensures.torn c.write_piece.ensures.crash c.write_piece.ensures.moments in
    on_ok_weaker c.write_piece.result
    (λ written. record {
      numbered = c.requires;
      place = first_place newest c.args.generation;
      now = now_write (D.seen mid) (D.seen new) c.args.side 1 c.head_of.result IsBare (IsPart c.args.generation []) (c.in-Ok.ensures.bare before short safe)
          (λ x bare. part_begun c.args.generation c.head_of.result x c.head_of.ensures bare) written;
      shut = leads_held D.crashes D.seen D.images D.moment D.left_since c.args.side IsShut mid new c.write_piece.ensures.told leads;
    })
    c.write_piece.ensures.written

pub returns-in-Ok-clause-either : goal.returns-in-Ok-clause-either
returns-in-Ok-clause-either g c before short safe =
    let D = g.D.Disk in
    let mid = c.shut_side.new.disk in
    let new = c.write_piece.new.disk in
    leads_then D.crashes D.seen D.images D.moment D.left_since c.args.side (WhileShut before) c.args.disk.now mid new c.in-Ok.ensures.told (c.in-Ok.ensures.either before short safe)
    (leads_step D.crashes D.seen D.images D.moment D.left_since c.args.side IsShut (WhileShut before) (Torn 1 (length c.head_of.result)) mid new (c.in-Ok.ensures.shut before short safe)
    (λ x y shut torn. shut_while before y (shut_torn 1 (length c.head_of.result) x y (omega arith) (omega (arith, ap length c.head_of.ensures, length-head c.args.generation)) shut torn)) c.write_piece.ensures.torn c.write_piece.ensures.crash c.write_piece.ensures.moments)
