use Rattle.std.proofs.Common.{◌++◌, ℕ, take, drop, subst, arith, length-append}
use Rattle.std.proofs.lemmas.Result.{IfErr-weaker, on_ok_weaker}
use Rattle.append_log.specs.Reading.{IsInBatch}
use Rattle.journal.proofs.Looking.{no_record}
use Rattle.journal.proofs.side_replays.take_piece.Goals as goal

pub returns-then-count-eq0-clause-broken : goal.returns-then-count-eq0-clause-broken
returns-then-count-eq0-clause-broken g c v batches part n bytes taken safe inside begun place is =
    let read = c.in-Ok.ensures.piece v n batches part bytes safe inside in
    absurd (omega (arith, read.0, c.if-count-eq0.true, c.requires.some, c.requires.block))

pub returns-else-count-eq0-clause-broken : goal.returns-else-count-eq0-clause-broken
returns-else-count-eq0-clause-broken g c v batches part n bytes taken safe inside begun =
    let R = g.R.Replay in
    let next = c.next_piece.new.self in
    let piece = take c.in-Ok.count c.next_piece.new.into in
    let read = (c.in-Ok.ensures.piece v n batches part bytes safe inside).1 in
    IfErr-weaker c.take_read.result _ _
    (λ stop refused place is. no_record (R.fault v) v n batches (part ++ piece) next.len next.left next.at c.args.start place bytes read begun (refused place is (take next.left (drop next.at bytes))))
    (c.take_read.ensures.broken v batches part taken (omega (arith, begun, read.place, read.within, next.short, length-append part piece)))

pub returns-else-count-eq0-clause-took : goal.returns-else-count-eq0-clause-took
returns-else-count-eq0-clause-took g c v batches part taken =
    let next = c.next_piece.new.self in
    let piece = take c.in-Ok.count c.next_piece.new.into in
    on_ok_weaker c.take_read.result
    (λ more. record {
      more = piece;
      taken = more;
      read = λ n bytes safe inside.
          subst (λ (k : ℕ). IsInBatch v n batches (part ++ piece) k next.left next.at bytes) c.next_piece.ensures.len (c.in-Ok.ensures.piece v n batches part bytes safe inside).1;
    })
    (c.take_read.ensures.took v batches part taken)
