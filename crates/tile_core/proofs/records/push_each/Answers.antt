use Rattle.std.proofs.Common.{◌≡◌, take, subst, List, arith}
use Rattle.std.proofs.lemmas.List.{take_all}
use Rattle.byte_text.specs.Names.{Bytes}
use Rattle.fence_model.specs.Writes.{announced}
use Rattle.world_data.specs.declared.worlds.Change.TheVariants as change
use Rattle.tile_core.specs.RecordSinks.{ArePushed}
use Rattle.tile_core.specs.Staged.{dels_of}
use Rattle.tile_core.proofs.Pushing.{pushed_more, pushed_none}
use Rattle.tile_core.proofs.records.push_each.Goals as goal

pub loop-i-init : goal.loop-i-init
loop-i-init g c = pushed_none c.args.into.now

pub loop-i-preserved : goal.loop-i-preserved
loop-i-preserved g c =
    pushed_more (λ id. announced (change.Del c.args.key.now id)) c.args.ids.now c.loop-i.i c.at.result.now c.args.into.now c.loop-i.into c.push_one.new.into c.at.ensures c.loop-i.invariant c.in_ok-push_one.ensures

pub returns : goal.returns
returns g c =
    let all : take c.loop-i.i c.args.ids.now ≡ c.args.ids.now = take_all c.loop-i.i c.args.ids.now (omega (arith, c.loop-i-test.false, c.len-i-end.ensures)) in
    subst (λ (ids : List Bytes). ArePushed (dels_of c.args.key.now ids) c.args.into.now c.loop-i.into) all c.loop-i.invariant
