use Rattle.std.proofs.Common.{◌<◌, ◌^◌, length, arith}
use Rattle.repl_node.proofs.Frames.{too_few, opened, number_read, too_long, first_there}
use Rattle.repl_node.proofs.log_worlds.first_len.Goals as goal
use Rattle.repl_node.proofs.log_worlds.first_len.Goals.{then-text-lt-FRAME-via-then-text-lt-FRAME, then-text-lt-FRAME-via-else-text-lt-FRAME+then-text-ne-OPEN_GATE}

pub returns-then-text-lt-FRAME-clause-none : goal.returns-then-text-lt-FRAME-clause-none
returns-then-text-lt-FRAME-clause-none c = λ batch rest first.
    elim c.then-text-lt-FRAME.branch [
      | then-text-lt-FRAME-via-then-text-lt-FRAME w ↦ too_few c.args.text.now batch rest w.if-text-lt-FRAME.true first
      | then-text-lt-FRAME-via-else-text-lt-FRAME+then-text-ne-OPEN_GATE w ↦ absurd (w.if-text-ne-OPEN_GATE.true (opened c.args.text.now batch rest first))
    ]

pub returns-then-len-text-clause-none : goal.returns-then-len-text-clause-none
returns-then-len-text-clause-none c = λ batch rest first.
    let text = c.args.text.now in
    let short : length text < 2 ^ 64 = omega arith in
    too_long text batch rest c.from_be_bytes-len.result short (number_read text c.from_be_bytes-len.result c.if-text-lt-FRAME.false c.from_be_bytes-len.ensures) c.if-len-text.true first

pub returns-clause-some : goal.returns-clause-some
returns-clause-some c =
    let text = c.args.text.now in
    first_there text c.from_be_bytes-len.result c.if-text-lt-FRAME.false c.if-text-ne-OPEN_GATE.false (λ i. let fits = c.type_inv.text i in omega (arith, fits))
    (number_read text c.from_be_bytes-len.result c.if-text-lt-FRAME.false c.from_be_bytes-len.ensures) c.if-len-text.false
