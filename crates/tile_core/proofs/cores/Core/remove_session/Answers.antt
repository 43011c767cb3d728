use Rattle.std.proofs.Common.{◌≡◌, true, List, sym, subst}
use Rattle.std.specs.Prelude.{remove}
use Rattle.std.proofs.lemmas.Option.{slice_get_within}
use Rattle.world_model.specs.Histories.{Step}
use Rattle.world_model.specs.declared.events.Event.TheVariants as event
use Rattle.world_model.specs.declared.events.Outcome.TheVariants as outcome
use Rattle.session_table.specs.Sessions.{State}
use Rattle.session_table.specs.Fans.{AreBare}
use Rattle.tile_core.specs.CoreStates.{CoreState}
use Rattle.tile_core.specs.Stores.{hall_of, ArePresent}
use Rattle.tile_core.specs.Sessions.{IsAt, AreOthers, are_rising}
use Rattle.tile_core.proofs.Halving.{rising}
use Rattle.tile_core.proofs.Takes.{remove_absent, remove_present}
use Rattle.tile_core.proofs.Finishing.{bare_remove, present_remove}
use Rattle.tile_core.proofs.cores.Core.remove_session.Goals as goal

pub position_of-requires : goal.position_of-requires
position_of-requires c =
    let k = c.self.inside in
    subst (λ (ss : List State). are_rising ss ≡ true) (sym c.as_slice.ensures.value) (rising 0 k.drawn k.sessions.items c.self.invariant.present.rises)

pub invariant_of-self : goal.invariant_of-self
invariant_of-self c =
    let k = c.self.inside in
    let at = subst (λ (ss : List State). IsAt ss c.args.session c.in-Some.at) c.as_slice.ensures.value c.in-Some.ensures.found in
    record {
      kept = c.self.invariant.kept;
      early = c.self.invariant.early;
      present = subst (ArePresent k.drawn) (sym c.remove.ensures.items) (present_remove k.drawn k.sessions.items c.in-Some.at (slice_get_within k.sessions.items c.in-Some.at at.session at.here) c.self.invariant.present);
      bare = subst AreBare (sym c.remove.ensures.items) (bare_remove k.sessions.items c.in-Some.at c.self.invariant.bare);
    }

pub returns-in-Some-clause-step : goal.returns-in-Some-clause-step
returns-in-Some-clause-step c =
    let k = c.self.inside in
    let at = subst (λ (ss : List State). IsAt ss c.args.session c.in-Some.at) c.as_slice.ensures.value c.in-Some.ensures.found in
    let step = remove_present k.store k.clock k.logged k.drawn k.sessions.items c.args.session c.in-Some.at at.session c.self.invariant.present.rises at.here at.numbered in
    subst (λ (ss : List State). Step c.args.self.now.hall (event.Remove c.args.session) outcome.Done (hall_of k.store k.clock k.logged k.drawn ss)) (sym c.remove.ensures.items)
    (subst (λ (n : CoreState). Step n.hall (event.Remove c.args.session) outcome.Done (hall_of k.store k.clock k.logged k.drawn (remove k.sessions.items c.in-Some.at))) c.self.view_is step)

pub returns-in_default-clause-step : goal.returns-in_default-clause-step
returns-in_default-clause-step c =
    let k = c.self.inside in
    let others = subst (λ (ss : List State). AreOthers c.args.session ss) c.as_slice.ensures.value c.in_default.ensures.absent in
    subst (λ (n : CoreState). Step n.hall (event.Remove c.args.session) outcome.Done n.hall) c.self.view_is (remove_absent k.store k.clock k.logged k.drawn k.sessions.items c.args.session others)
