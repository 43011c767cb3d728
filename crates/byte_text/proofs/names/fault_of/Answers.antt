use Rattle.std.proofs.Common.{rules, arith, ◌≡◌, nat_eq, false, length, ◌≤◌}
use Rattle.byte_text.proofs.NameLaws.{not_utf8, no_fault}
use Rattle.byte_text.proofs.names.fault_of.Goals as goal

pub returns-in-Ok : goal.returns-in-Ok
returns-in-Ok c =
    let some : nat_eq (length c.args.bytes.now) 0 ≡ false = search rules in
    let short : length c.args.bytes.now ≤ 255 = search (rules, arith) in
    no_fault c.args.bytes.now some short (search rules)

pub returns-in-Err : goal.returns-in-Err
returns-in-Err c =
    let some : nat_eq (length c.args.bytes.now) 0 ≡ false = search rules in
    let short : length c.args.bytes.now ≤ 255 = search (rules, arith) in
    not_utf8 c.args.bytes.now some short c.in-Err.ensures.cases.0
