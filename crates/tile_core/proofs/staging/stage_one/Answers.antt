use Rattle.std.proofs.Common.{◌≡◌, ◌∷◌, [], refl, ap, ◌∙◌, subst}
use Rattle.byte_text.specs.Names.{Bytes}
use Rattle.world_data.specs.Worlds.{object_at}
use Rattle.world_data.specs.declared.worlds.Change.TheVariants as change
use Rattle.fence_model.specs.Writes.{Write, announced}
use Rattle.keyspace.specs.Entries.{objects_in}
use Rattle.message_fanout.specs.Stagings.{IsBeforeDel, IsStagedIn, those_left}
use Rattle.object_plans.specs.Moves.{world_with}
use Rattle.tile_core.specs.Staged.{StagesBehind}
use Rattle.tile_core.proofs.Behind.{as_all, behind_one, on_ok}
use Rattle.object_plans.specs.Weights.{found_at}
use Rattle.tile_core.proofs.staging.stage_one.Goals as goal

pub returns-in_ok-grown-in-Some-clause-staged : goal.returns-in_ok-grown-in-Some-clause-staged
returns-in_ok-grown-in-Some-clause-staged g c =
    let key = c.args.key.now in
    let id = c.args.id.now in
    let xs = objects_in c.args.objects.now in
    let cs = c.args.hub.now.channels in
    let o = c.in-Some.object.now in
    let found = c.in-Some.ensures.some in
    let own = found_at key id xs o found in
    let w = world_with cs xs in
    let old = c.args.sessions.now.items in
    let new = c.stage_del.new.sessions.items in
    let such : IsBeforeDel cs o w = record {
      channels_are = refl;
      stands = ap (λ (k : Bytes). object_at w k o.id) own.0 ∙ ap (λ (k : Bytes). object_at w key k) own.1 ∙ found;
    } in
    let named : announced (change.Del o.key o.id) ≡ announced (change.Del key id) = ap (λ (k : Bytes). announced (change.Del k o.id)) own.0 ∙ ap (λ (k : Bytes). announced (change.Del key k)) own.1 in
    on_ok c.stage_del.result _ _
    (λ (s : IsStagedIn (IsBeforeDel (those_left 0 cs) o) (announced (change.Del o.key o.id)) old new). subst (λ (d : Write). StagesBehind w (d ∷ []) old new) named (behind_one w (announced (change.Del o.key o.id)) (IsBeforeDel (those_left 0 cs) o) old new (as_all cs o w such) s))
    c.stage_del.ensures.staged
