use Rattle.std.proofs.Common.{arith, ◌≡◌, ◌-◌, length, take, drop, length-drop, refl}
use Rattle.std.proofs.lemmas.List.{take_all}
use Rattle.system_io.proofs.Transfers.{write_on, write_reaches}
use Rattle.system_io.proofs.positioned.write_whole.Goals as goal

pub loop-rest-preserved : goal.loop-rest-preserved
loop-rest-preserved g c =
    let rest = c.loop-rest.rest.now in
    let n = c.in_ok-count.count in
    let wrote = c.in_ok-count.ensures in
    let left : take (length rest - n) (drop n rest) ≡ drop n rest = take_all (length rest - n) (drop n rest) (omega (arith, length-drop n rest)) in
    record {
      end = omega (arith, c.loop-rest.invariant.end, wrote.bound, length-drop n rest);
      left = write_on c.loop-rest.place n _ rest _ _ _ _ wrote.bound refl left wrote.written c.loop-rest.invariant.left;
      reached = λ _. write_reaches c.loop-rest.place n _ rest _ _ wrote.bound refl wrote.written;
    }
