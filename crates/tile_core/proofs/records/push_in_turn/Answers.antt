use Rattle.std.proofs.Common.{◌≡◌, ◌+◌, subst, List, [], ◌∷◌, drop, map, arith}
use Rattle.std.specs.Prelude.{Some, slice_get}
use Rattle.std.proofs.lemmas.Result.{on_ok_weaker}
use Rattle.ordered_lists.specs.Reading.{stands_at}
use Rattle.fence_model.specs.Writes.{announced, going}
use Rattle.world_data.specs.Expiry.{in_turn}
use Rattle.world_data.specs.declared.objects.Object.{Object}
use Rattle.world_data.specs.declared.worlds.Change.TheVariants as change
use Rattle.tile_core.specs.RecordSinks.{ArePushedUpTo}
use Rattle.tile_core.proofs.Pushing.{drop_at, drop_end, up_to_more}
use Rattle.tile_core.proofs.records.push_in_turn.Goals as goal

pub loop-i-preserved : goal.loop-i-preserved
loop-i-preserved g c =
    let l = c.loop-i in
    let held = c.args.held.now in
    let out = c.args.out.now in
    let o = c.index-held-i.result in
    let here : slice_get held l.i ≡ Some o = stands_at held l.i o (omega (arith, c.loop-i-test.true)) c.index-held-i.is in
    let all = map going (in_turn held out) in
    let more = drop (l.i + 1) held in
    let next = c.in_ok-next.next in
    let up : ArePushedUpTo all (map going (in_turn (o ∷ more) (drop l.at out))) c.args.into.now l.into =
    subst (λ (os : List Object). ArePushedUpTo all (map going (in_turn os (drop l.at out))) c.args.into.now l.into) (drop_at held l.i o here) l.invariant.pushed in
    let go = c.in_ok-next.ensures.pushed more in
    record {
      within = c.in_ok-next.ensures.within;
      pushed = up_to_more all (map going (in_turn more (drop next out))) (announced (change.Del o.key o.id)) c.args.into.now c.push_before.new.into c.push_one.new.into (λ new p. up new (go new p)) c.in_ok-push_one.ensures;
    }

pub returns : goal.returns
returns g c =
    let l = c.loop-i in
    let end : drop l.i c.args.held.now ≡ [] = drop_end c.args.held.now l.i (omega (arith, c.loop-i-test.false)) in
    let up = subst (λ (os : List Object). ArePushedUpTo (map going (in_turn c.args.held.now c.args.out.now)) (map going (in_turn os (drop l.at c.args.out.now))) c.args.into.now l.into) end l.invariant.pushed in
    on_ok_weaker c.push_rest.result (up c.push_rest.new.into) c.push_rest.ensures
