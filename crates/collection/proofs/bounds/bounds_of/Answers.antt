use Rattle.std.proofs.Common.{◌≡◌, ◌≤◌, sym, ap, ◌∙◌, List, [], length, drop, flat_map, arith}
use Rattle.std.specs.Prelude.{fold}
use Rattle.std.proofs.lemmas.List.{drop_all}
use Rattle.planar_geom.specs.Points.{grown}
use Rattle.planar_geom.specs.Shapes.{all_vertices}
use Rattle.world_data.specs.declared.objects.Object.{Object}
use Rattle.collection.proofs.Boxes.{bounds_at, taken_more}
use Rattle.collection.proofs.bounds.bounds_of.Goals as goal

pub loop-i-preserved : goal.loop-i-preserved
loop-i-preserved c = record {
  taken_in = taken_more c.args.objects.now.objects c.loop-i.i c.at.result.now c.loop-i.round c.with_shape.result c.at.ensures c.with_shape.ensures ∙ c.loop-i.invariant.taken_in;
  some = λ lt e. cc;
}

pub returns : goal.returns
returns c =
    let objects = c.args.objects.now.objects in
    let round = c.loop-i.round in
    let past : length objects ≤ c.loop-i.i = omega arith in
    let none : drop c.loop-i.i objects ≡ [] = drop_all c.loop-i.i objects past in
    let all = ap (λ (l : List Object). fold grown round (flat_map (λ o. all_vertices o.shape) l)) none in
    bounds_at objects round (sym c.loop-i.invariant.taken_in ∙ all) (λ h. c.loop-i.invariant.some (omega (arith, past, h)))
