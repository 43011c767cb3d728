use Rattle.std.proofs.Common.{◌≡◌, ◌∙◌, ◌≤◌, ◌++◌, ◌∷◌, [], List, Some, None, Err, length, drop, sym, ap, subst, arith, append_assoc}
use Rattle.std.proofs.lemmas.List.{length-drop}
use Rattle.byte_text.specs.Names.{Bytes}
use Rattle.byte_text.specs.Streams.{request}
use Rattle.world_data.specs.declared.worlds.Change.{Change}
use Rattle.log_record.specs.Batches.{record_front}
use Rattle.fence_backtest.proofs.RecordsRead.{read_all, read_more, read_none, rest_of}
use Rattle.fence_backtest.proofs.records.push_changes.Goals as goal

pub loop-at-preserved : goal.loop-at-preserved
loop-at-preserved c =
    let batch = c.args.batch.now in
    let at = c.loop-at.at in
    let n = c.in-Ok.taken in
    let rest = rest_of batch at in
    let so_far = c.loop-at.invariant.read in
    let one = c.in-Ok.ensures.read in
    let within = subst (λ (l : Bytes). n ≤ length l) rest c.in-Ok.ensures.within in
    let front = subst (λ (l : Bytes). record_front c.args.version (request l) ≡ Some (one.0, drop n l)) rest one.1 in
    record {
      within = omega (arith, within, length-drop at batch, c.loop-at-test.true);
      read = (
        so_far.0 ++ one.0 ∷ [],
        one.2 ∙ ap (λ (l : List Change). l ++ one.0 ∷ []) so_far.1 ∙ append_assoc c.args.changes.now so_far.0 (one.0 ∷ []),
        read_more c.args.version batch at n so_far.0 one.0 c.loop-at-test.true within so_far.2 front,
      );
    }

pub returns-in-Err-clause-refused : goal.returns-in-Err-clause-refused
returns-in-Err-clause-refused c = λ place is.
    let batch = c.args.batch.now in
    let at = c.loop-at.at in
    let refused = c.in-Err.ensures.refused place is in
    let none = subst (λ (l : Bytes). record_front c.args.version (request l) ≡ None) (rest_of batch at) refused.1 in
    let broken = read_none c.args.version batch at c.loop-at.invariant.read.0 c.loop-at-test.true c.loop-at.invariant.read.2 none in
    (omega (arith, refused.0, c.loop-at-test.true), broken ∙ ap Err (sym refused.0))

pub returns-clause-read : goal.returns-clause-read
returns-clause-read c =
    let so_far = c.loop-at.invariant.read in
    (so_far.0, read_all c.args.version c.args.batch.now c.loop-at.at so_far.0 c.loop-at-test.false so_far.2, so_far.1)
