use Rattle.std.proofs.Common.{◌∙◌, ◌+◌, sym, subst, List, ◌∷◌, drop, map, arith}
use Rattle.fence_model.specs.Writes.{Write, going, silent}
use Rattle.world_data.specs.Expiry.{deadline_of, in_turn}
use Rattle.world_data.specs.declared.worlds.Change.TheVariants as change
use Rattle.tile_core.specs.RecordSinks.{ArePushedUpTo}
use Rattle.tile_core.proofs.Orders.{rise_drop}
use Rattle.tile_core.proofs.Pushing.{goes_within, it_goes, object_goes, up_to_more}
use Rattle.tile_core.proofs.records.push_before.Goals as goal

pub loop-into-preserved : goal.loop-into-preserved
loop-into-preserved g c =
    let l = c.loop-into in
    let out = c.args.out.now in
    let o = c.args.object.now in
    let ch = c.at.result.now in
    let goes = sym c.goes_next.ensures.value ∙ c.loop-into-test.true in
    record {
      within = omega (arith, goes_within o out l.next goes);
      pushed = λ more. up_to_more (map going (in_turn (o ∷ more) (drop c.args.at out))) (map going (in_turn (o ∷ more) (drop (l.next + 1) out))) (silent (change.DelChan ch.name)) c.args.into.now l.into c.push_deletion.new.into
          (subst (λ (ws : List Write). ArePushedUpTo (map going (in_turn (o ∷ more) (drop c.args.at out))) ws c.args.into.now l.into) (it_goes o out l.next ch more c.at.ensures goes) (l.invariant.pushed more))
          c.in_ok-push_deletion.ensures;
    }

pub overflow_add-next : goal.overflow_add-next
overflow_add-next g c = let short = c.goes_next.ensures.short c.loop-into-test.true in omega (arith, short)

pub returns-clause-pushed : goal.returns-clause-pushed
returns-clause-pushed g c = λ more.
    let l = c.loop-into in
    let out = c.args.out.now in
    let o = c.args.object.now in
    let stays = sym c.goes_next.ensures.value ∙ c.loop-into-test.false in
    subst (λ (ws : List Write). ArePushedUpTo (map going (in_turn (o ∷ more) (drop c.args.at out))) ws c.args.into.now l.into)
    (object_goes o more (drop l.next out) (rise_drop (λ d. deadline_of d.deadline) l.next out c.requires.rise) stays) (l.invariant.pushed more)
