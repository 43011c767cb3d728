use Rattle.std.proofs.Common.{[], refl, subst, sym}
use Rattle.world_recovery.specs.Replayed.{Replayed, StandsFor}
use Rattle.world_recovery.proofs.Opens.{begun_as}
use Rattle.world_recovery.proofs.world_replays.WorldReplayReplay.begin.Goals as goal

pub returns : goal.returns
returns c = λ v stands.
    let s = c.self.inside in
    let here = subst (λ (r : Replayed). StandsFor r v [] []) (sym c.self.view_is) stands in
    (refl, begun_as v c.args.version s.world s.records s.taken s.place here.1)
