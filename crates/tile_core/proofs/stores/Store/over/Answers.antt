use Rattle.std.proofs.Common.{◌+◌, ◌≤◌, arith}
use Rattle.object_plans.specs.Kept.{most_kept}
use Rattle.tile_core.specs.declared.stores.Store.{Store}
use Rattle.tile_core.proofs.Stored.{stored}
use Rattle.tile_core.proofs.stores.Store.over.Goals as goal

pub returns-clause-kept : goal.returns-clause-kept
returns-clause-kept c =
    let p = c.into_parts-objects.result in
    let e = c.into_parts-objects.ensures in
    let light : p.weight + p.channel_weight ≤ most_kept = omega (arith, c.in-Some.ensures, c.if-total-gt-MOST_KEPT.false) in
    let s : Store = record { objects = p.objects; weight = p.weight; due_from = p.due_from; hub = p.hub; channel_weight = p.channel_weight; channels_due_from = p.due_from; steps = c.new-2.result } in
    stored c.args.world c.requires.sound e.few_fields c.requires.recorded p e.world e.weight e.channel_weight e.due_from light s
