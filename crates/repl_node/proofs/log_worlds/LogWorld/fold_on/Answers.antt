use Rattle.std.proofs.Common.{◌≡◌, ◌<◌, ◌+◌, ◌-◌, ◌^◌, length, subst, arith, ap, Err}
use Rattle.std.proofs.lemmas.List.{length-drop}
use Rattle.byte_text.specs.Names.{Bytes}
use Rattle.repl_node.specs.LogTexts.{IsTaken, IsNoBatch}
use Rattle.repl_node.specs.declared.log_worlds.HearFault.{HearFault}
use Rattle.repl_node.specs.declared.log_worlds.HearFault.TheVariants.{NotRecords}
use Rattle.repl_node.proofs.Frames.{from_place, no_log}
use Rattle.repl_node.proofs.Worlds.{one_taken, split_there}
use Rattle.repl_node.proofs.log_worlds.LogWorld.fold_on.Goals as goal

pub loop-at-preserved : goal.loop-at-preserved
loop-at-preserved c =
    let now = c.loop-at.invariant.taken in
    let log = c.args.log.now in
    let took = subst (λ (l : Bytes). IsTaken c.take_batch.new.replay now.batches l c.in-Ok.taken) (from_place log c.loop-at.at) (c.in-Ok.ensures.took now.batches now.taken) in
    record { taken = one_taken log c.loop-at.at c.in-Ok.taken c.take_batch.new.replay now.batches now.within now.front took }

pub returns-in-Err-clause-refused : goal.returns-in-Err-clause-refused
returns-in-Err-clause-refused c = λ is.
    let now = c.loop-at.invariant.taken in
    let log = c.args.log.now in
    let short : length log < 2 ^ 64 = omega arith in
    let none = subst (λ (l : Bytes). IsNoBatch l) (from_place log c.loop-at.at)
    (c.in-Err.ensures.refused now.batches now.taken (let same : c.in-Err.fault ≡ NotRecords = cc is in ap (λ (f : HearFault). Err f) same)) in
    no_log log now.batches c.loop-at.at short c.loop-at-test.true (split_there log c.loop-at.at now.batches now.front) none

pub overflow_add-at : goal.overflow_add-at
overflow_add-at c =
    let now = c.loop-at.invariant.taken in
    let took = c.in-Ok.ensures.took now.batches now.taken in
    omega (arith, took.within, ap length (from_place c.args.log.now c.loop-at.at), length-drop c.loop-at.at c.args.log.now)

pub loop-at-smaller : goal.loop-at-smaller
loop-at-smaller c =
    let now = c.loop-at.invariant.taken in
    let took = c.in-Ok.ensures.took now.batches now.taken in
    let less : length c.args.log.now - (c.loop-at.at + c.in-Ok.taken) < length c.args.log.now - c.loop-at.at =
    omega (arith, took.some, took.within, ap length (from_place c.args.log.now c.loop-at.at), length-drop c.loop-at.at c.args.log.now) in
    less

pub returns-clause-ok : goal.returns-clause-ok
returns-clause-ok c =
    let now = c.loop-at.invariant.taken in
    record { took = now; all = omega (arith, now.within, c.loop-at-test.false) }
