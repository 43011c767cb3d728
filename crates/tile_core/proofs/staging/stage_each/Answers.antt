use Rattle.std.proofs.Common.{◌≡◌, ◌+◌, ◌∙◌, sym, ap, subst, List, take}
use Rattle.std.specs.Prelude.{map}
use Rattle.keyspace.specs.Entries.{objects_in}
use Rattle.session_table.specs.Sessions.{State, session_of}
use Rattle.object_plans.specs.Moves.{world_with}
use Rattle.tile_core.specs.Staged.{StagesBehind, dels_of}
use Rattle.tile_core.proofs.Behind.{each_next, each_some}
use Rattle.tile_core.proofs.staging.stage_each.Goals as goal
use Rattle.tile_core.proofs.staging.stage_each.Goals.{in-Some+in_ok-grown+in_ok-stage_del, in_default}

pub loop-i-preserved : goal.loop-i-preserved
loop-i-preserved g c =
    let l = c.loop-i in
    let cs = c.args.hub.now.channels in
    let xs = objects_in c.args.objects.now in
    let key = c.args.key.now in
    let ids = c.args.ids.now in
    let id = c.at.result.now in
    let first = c.args.sessions.now.items in
    elim c.match-get.branch [
      | in-Some+in_ok-grown+in_ok-stage_del w ↦
          let items : c.match-get.sessions.items ≡ w.stage_del.new.sessions.items = ap (λ s. s.items) w.sessions-is in (
            ap (map session_of) items ∙ w.stage_del.ensures.same ∙ l.invariant.0,
            subst (λ (ss : List State). StagesBehind (world_with cs xs) (dels_of key (take (l.i + 1) ids)) first ss) (sym items)
                (each_next cs xs key ids l.i id c.requires.there c.at.ensures w.in-Some.object.now first l.sessions.items w.stage_del.new.sessions.items w.in-Some.ensures.some l.invariant.1 w.in_ok-stage_del.ensures.staged),
          )
      | in_default w ↦ absurd (each_some cs xs key ids l.i id c.requires.there c.at.ensures w.in_default.ensures.none)
    ]
