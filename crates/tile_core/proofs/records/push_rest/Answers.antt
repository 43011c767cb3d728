use Rattle.std.proofs.Common.{◌≡◌, ◌+◌, sym, subst, List, [], drop, map, arith}
use Rattle.fence_model.specs.Writes.{going, silent}
use Rattle.world_data.specs.Expiry.{deletions}
use Rattle.world_data.specs.declared.channels.Channel.{Channel}
use Rattle.world_data.specs.declared.worlds.Change.TheVariants as change
use Rattle.tile_core.specs.RecordSinks.{ArePushed, ArePushedUpTo}
use Rattle.tile_core.proofs.Pushing.{drop_at, drop_end, pushed_none, up_to_more}
use Rattle.tile_core.proofs.records.push_rest.Goals as goal

pub loop-i-init : goal.loop-i-init
loop-i-init g c = λ new p. p

pub loop-i-preserved : goal.loop-i-preserved
loop-i-preserved g c =
    let l = c.loop-i in
    let out = c.args.out.now in
    let ch = c.at.result.now in
    let all = map going (deletions (drop c.args.from out)) in
    up_to_more all (map going (deletions (drop (l.i + 1) out))) (silent (change.DelChan ch.name)) c.args.into.now l.into c.push_deletion.new.into
    (subst (λ (cs : List Channel). ArePushedUpTo all (map going (deletions cs)) c.args.into.now l.into) (drop_at out l.i ch c.at.ensures) l.invariant)
    c.in_ok-push_deletion.ensures

pub returns : goal.returns
returns g c =
    let l = c.loop-i in
    let out = c.args.out.now in
    let end : drop l.i out ≡ [] = drop_end out l.i (omega (arith, c.loop-i-test.false, c.len-i-end.ensures)) in
    l.invariant l.into (subst (λ (cs : List Channel). ArePushed (map going (deletions cs)) l.into l.into) (sym end) (pushed_none l.into))
