use Rattle.std.proofs.Common.{◌≡◌, take, subst, List, arith}
use Rattle.std.proofs.lemmas.List.{take_all}
use Rattle.byte_text.specs.Names.{Bytes}
use Rattle.fence_model.specs.Writes.{silent}
use Rattle.world_data.specs.declared.worlds.Change.TheVariants as change
use Rattle.tile_core.specs.RecordSinks.{ArePushed}
use Rattle.channel_plans.specs.Planned.{dropped_of}
use Rattle.tile_core.proofs.Pushing.{pushed_more, pushed_none, pushed_one}
use Rattle.tile_core.proofs.records.push_dropped.Goals as goal

pub loop-i-init : goal.loop-i-init
loop-i-init g c = pushed_none c.args.into.now

pub loop-i-preserved : goal.loop-i-preserved
loop-i-preserved g c =
    let name = c.at.result.now in
    pushed_more (λ n. silent (change.DelChan n)) c.args.names.now c.loop-i.i name c.args.into.now c.loop-i.into c.push_delchan.new.into c.at.ensures c.loop-i.invariant
    (pushed_one (silent (change.DelChan name)) c.loop-i.into c.push_delchan.new.into c.in_ok-push_delchan.ensures.ok (c.changes_are_recorded.ensures.channel_ends name c.in_ok-push_delchan.ensures.is_kept))

pub returns : goal.returns
returns g c =
    let all : take c.loop-i.i c.args.names.now ≡ c.args.names.now = take_all c.loop-i.i c.args.names.now (omega (arith, c.loop-i-test.false, c.len-i-end.ensures)) in
    subst (λ (names : List Bytes). ArePushed (dropped_of names) c.args.into.now c.loop-i.into) all c.loop-i.invariant
