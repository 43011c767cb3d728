use Rattle.std.proofs.Common.{◌∙◌, ◌++◌, length, take, length-append, ap, subst, arith}
use Rattle.std.proofs.lemmas.List.{take_all, length-drop}
use Rattle.byte_text.specs.Names.{Bytes}
use Rattle.world_recovery.specs.Replayed.{StandsFor, IsNoRecord}
use Rattle.world_recovery.proofs.Steps.{behind, more_taken, all_taken}
use Rattle.world_recovery.proofs.world_replays.WorldReplayReplay.take.Goals as goal

pub loop-at-preserved : goal.loop-at-preserved
loop-at-preserved c =
    let piece = c.args.piece.now in
    let at = c.loop-at.at in
    record {
      within = omega (arith, c.loop-at.invariant.within, c.in-Ok.ensures.within, ap (λ (l : Bytes). length l) (behind piece at), length-drop at piece);
      took = λ v batches part stands.
          subst (λ (l : Bytes). StandsFor c.take_next.new.self v batches l) (ap (λ (l : Bytes). (part ++ take at piece) ++ take c.in-Ok.taken l) (behind piece at) ∙ more_taken part piece at c.in-Ok.taken)
          (c.in-Ok.ensures.took v batches (part ++ take at piece) (c.loop-at.invariant.took v batches part stands));
    }

pub returns-in-Err-clause-refused : goal.returns-in-Err-clause-refused
returns-in-Err-clause-refused c = λ v batches part stands at is.
    let piece = c.args.piece.now in
    let none = c.in-Err.ensures.refused v batches (part ++ take c.loop-at.at piece) (c.loop-at.invariant.took v batches part stands) at is in
    let there = subst (λ (l : Bytes). IsNoRecord v l at) (ap (λ (l : Bytes). (part ++ take c.loop-at.at piece) ++ l) (behind piece c.loop-at.at) ∙ all_taken part piece c.loop-at.at) none in
    (omega (arith, there.within, length-append part piece), there.none)

pub returns-clause-took : goal.returns-clause-took
returns-clause-took c = λ v batches part stands.
    subst (λ (l : Bytes). StandsFor c.loop-at.self v batches (part ++ l)) (take_all c.loop-at.at c.args.piece.now (omega (arith, c.loop-at-test.false))) (c.loop-at.invariant.took v batches part stands)
