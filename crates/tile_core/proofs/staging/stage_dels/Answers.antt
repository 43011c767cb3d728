use Rattle.std.proofs.Common.{◌≡◌, refl, sym, ◌∙◌, subst, List, take, arith}
use Rattle.std.specs.Prelude.{Some, slice_get}
use Rattle.std.proofs.lemmas.List.{take_all}
use Rattle.byte_text.specs.ListLaws.{take_next}
use Rattle.ordered_lists.specs.Reading.{stands_at}
use Rattle.world_data.specs.declared.objects.Object.{Object}
use Rattle.tile_core.specs.Staged.{AreStagedEach}
use Rattle.tile_core.proofs.Behind.{each_behind}
use Rattle.tile_core.proofs.staging.stage_dels.Goals as goal

pub loop-i-init : goal.loop-i-init
loop-i-init g c = (refl, refl)

pub loop-i-preserved : goal.loop-i-preserved
loop-i-preserved g c =
    let l = c.loop-i in
    let held = c.args.held.now in
    let cs = c.args.hub.now.channels in
    let first = c.args.sessions.now.items in
    let o = c.index-held-i.result in
    let at : slice_get held l.i ≡ Some o = stands_at held l.i o (omega (arith, c.loop-i-test.true)) c.index-held-i.is in (
      c.stage_due.ensures.same ∙ l.invariant.0,
      subst (λ (os : List Object). AreStagedEach cs os first c.stage_due.new.sessions.items) (sym (take_next held l.i o at))
          (each_behind cs (take l.i held) o first l.sessions.items c.stage_due.new.sessions.items l.invariant.1 c.in_ok-stage_due.ensures.staged),
    )

pub returns-clause-staged : goal.returns-clause-staged
returns-clause-staged g c =
    let l = c.loop-i in
    let held = c.args.held.now in
    subst (λ (os : List Object). AreStagedEach c.args.hub.now.channels os c.args.sessions.now.items l.sessions.items) (take_all l.i held (omega (arith, c.loop-i-test.false))) l.invariant.1
