use Rattle.std.proofs.Common.{◌≡◌, ◌∙◌, ℕ, ◌++◌, take, drop, refl, sym, ap, subst, arith, append-nil}
use Rattle.std.proofs.lemmas.Result.{IfErr-weaker}
use Rattle.byte_text.specs.Names.{Bytes}
use Rattle.outside.specs.declared.sides.Side.{Side}
use Rattle.log_sides.specs.Texts.{with_batch}
use Rattle.log_sides.specs.States.{SideIsSafe}
use Rattle.append_log.specs.Reading.{IsAtGate, IsInBatch}
use Rattle.journal.proofs.Looking.{looked_self, looked_on, on_ok_two, piece_none, piece_then, no_record, refused_end}
use Rattle.journal.proofs.side_replays.replay_batch.Goals as goal

pub pieces-init : goal.pieces-init
pieces-init g c =
    let D = g.D.Disk in
    let R = g.R.Replay in
    let reader = c.args.reader.now in
    record {
      side = refl;
      len = refl;
      on = omega arith;
      looked = looked_self D.crashes D.seen D.images D.moment D.left_since D.faults reader.side c.args.disk.now;
      took = λ v batches taken. piece_none R.took R.fault D.crashes D.seen D.images D.moment D.left_since D.faults reader.side v batches reader.len reader.left reader.at c.args.disk.now c.args.replay.now taken;
    }

pub pieces-preserved : goal.pieces-preserved
pieces-preserved g c =
    let D = g.D.Disk in
    let R = g.R.Replay in
    let start = c.args.reader.now in
    let now = c.pieces in
    let next = c.take_piece.new.reader in
    let before = now.invariant in
    record {
      side = c.take_piece.ensures.side ∙ before.side;
      len = c.take_piece.ensures.len ∙ before.len;
      on = omega (arith, before.on, c.in-Ok.ensures.at);
      looked = looked_on D.crashes D.seen D.images D.moment D.left_since D.faults start.side now.reader.side c.args.disk.now now.disk c.take_piece.new.disk before.side before.looked c.take_piece.ensures.looked;
      took = λ v batches taken.
          let one = before.took v batches taken in
          piece_then R.took R.fault D.crashes D.seen D.images D.moment D.left_since D.faults start.side now.reader.side v batches start.len now.reader.len start.left start.at now.reader.left now.reader.at next.left next.at c.args.disk.now now.disk now.replay c.take_piece.new.replay
          before.side before.len before.looked one (c.in-Ok.ensures.took v batches one.more one.taken);
    }

pub returns-in-Err-clause-looked : goal.returns-in-Err-clause-looked
returns-in-Err-clause-looked g c =
    let D = g.D.Disk in
    let now = c.pieces in
    looked_on D.crashes D.seen D.images D.moment D.left_since D.faults c.args.reader.now.side now.reader.side c.args.disk.now now.disk c.take_piece.new.disk now.invariant.side now.invariant.looked c.take_piece.ensures.looked

pub returns-in-Err-clause-broken : goal.returns-in-Err-clause-broken
returns-in-Err-clause-broken g c v batches n bytes taken safe inside =
    let D = g.D.Disk in
    let now = c.pieces in
    let before = now.invariant in
    let one = before.took v batches taken in
    c.in-Err.ensures.broken v batches one.more n bytes one.taken
    (subst (λ (s : Side). SideIsSafe (D.crashes now.disk) (D.seen now.disk) (D.images now.disk) s (λ x. x ≡ bytes)) (sym before.side) (before.looked.safe bytes safe))
    (subst (λ (k : ℕ). IsInBatch v n batches one.more k now.reader.left now.reader.at bytes) (sym before.len) (one.read n bytes safe inside))
    (omega (arith, c.place-start.ensures, inside.place))

pub returns-clause-broken : goal.returns-clause-broken
returns-clause-broken g c v batches n bytes taken safe inside =
    let R = g.R.Replay in
    let now = c.pieces in
    let one = now.invariant.took v batches taken in
    let read = subst (λ (k : ℕ). IsInBatch v n batches one.more k now.reader.left now.reader.at bytes) (sym now.invariant.len) (one.read n bytes safe inside) in
    let none : now.reader.left ≡ 0 = omega (arith, c.pieces-test.false, c.left.ensures) in
    let start = c.place-start.result in
    IfErr-weaker c.end_batch.result _ _
    (λ stop refused place is. no_record (R.fault v) v n batches one.more now.reader.len now.reader.left now.reader.at start place bytes read (omega (arith, c.place-start.ensures, inside.place))
    (refused_end (R.fault v) start place now.reader.left now.reader.at one.more bytes none (refused place is)))
    (c.end_batch.ensures.broken v batches one.more one.taken (omega (arith, c.place-start.ensures, inside.place, read.place, read.within, now.reader.short)))

pub returns-clause-took : goal.returns-clause-took
returns-clause-took g c v batches taken =
    let now = c.pieces in
    let one = now.invariant.took v batches taken in
    let none : now.reader.left ≡ 0 = omega (arith, c.pieces-test.false, c.left.ensures) in
    on_ok_two c.end_batch.result
    (λ ended whole. record {
      batch = one.more;
      taken = ended;
      whole = whole;
      read = λ n bytes safe inside.
          let here = subst (λ (k : ℕ). IsInBatch v n batches one.more k now.reader.left now.reader.at bytes) (sym now.invariant.len) (one.read n bytes safe inside) in
          let all = ap (λ (k : ℕ). one.more ++ take k (drop now.reader.at bytes)) none ∙ append-nil one.more in
          subst (λ (l : Bytes). IsAtGate v n (with_batch batches l) c.args.reader.now.len c.skip.new.self.at bytes) all
          (subst (λ (k : ℕ). IsAtGate v n (with_batch batches (one.more ++ take now.reader.left (drop now.reader.at bytes))) k c.skip.new.self.at bytes) (c.skip.ensures.len ∙ now.invariant.len) (c.skip.ensures.at v n batches one.more bytes here));
    })
    (c.end_batch.ensures.took v batches one.more one.taken) (c.end_batch.ensures.whole v batches one.more one.taken)
