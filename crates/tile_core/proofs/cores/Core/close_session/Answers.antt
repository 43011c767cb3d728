use Rattle.std.proofs.Common.{◌≡◌, true, List, [], sym, ap, ◌∙◌, subst}
use Rattle.std.specs.Prelude.{slice_set}
use Rattle.ordered_lists.specs.Reading.{got_at}
use Rattle.world_model.specs.Histories.{Step}
use Rattle.world_model.specs.declared.events.Event.TheVariants as event
use Rattle.world_model.specs.declared.events.Outcome.TheVariants as outcome
use Rattle.world_model.specs.Halls.{Session}
use Rattle.delivery_model.specs.Plans.{ending}
use Rattle.delivery_model.specs.ChangedSessions.{ending_number}
use Rattle.session_table.specs.Mail.{Mail}
use Rattle.session_table.specs.Sessions.{State, session_of}
use Rattle.tile_core.specs.CoreStates.{CoreState}
use Rattle.tile_core.specs.Stores.{hall_of}
use Rattle.tile_core.specs.Sessions.{IsAt, AreOthers, are_rising}
use Rattle.tile_core.proofs.Halving.{rising}
use Rattle.tile_core.proofs.Takes.{close_absent, close_present}
use Rattle.tile_core.proofs.Finishing.{bare_at, bare_set, present_set}
use Rattle.tile_core.proofs.cores.Core.close_session.Goals as goal

pub position_of-requires : goal.position_of-requires
position_of-requires c =
    let k = c.self.inside in
    subst (λ (ss : List State). are_rising ss ≡ true) (sym c.as_slice.ensures.value) (rising 0 k.drawn k.sessions.items c.self.invariant.present.rises)

pub invariant_of-self : goal.invariant_of-self
invariant_of-self c =
    let k = c.self.inside in
    let at = subst (λ (ss : List State). IsAt ss c.args.session c.in-Some.at) c.as_slice.ensures.value c.in-Some.ensures.found in
    let is : c.index_mut.result.now ≡ at.session = c.index_mut.ensures.value ∙ got_at k.sessions.items c.in-Some.at at.session c.index_mut.result.now at.here in
    let same : c.close.new.self.number ≡ at.session.number = ap (λ (h : Session). h.number) c.close.ensures.same ∙ ending_number (session_of c.index_mut.result.now) ∙ ap (λ (s : State). s.number) is in
    let staged : c.close.new.self.mail.staged ≡ [] = ap (λ (m : Mail). m.staged) c.close.ensures.mail ∙ ap (λ (s : State). s.mail.staged) is ∙ bare_at k.sessions.items c.in-Some.at at.session c.self.invariant.bare at.here in
    record { kept = c.self.invariant.kept; early = c.self.invariant.early; present = present_set k.drawn k.sessions.items c.in-Some.at at.session c.close.new.self c.self.invariant.present at.here same; bare = bare_set k.sessions.items c.in-Some.at c.close.new.self c.self.invariant.bare staged }

pub returns-in-Some-clause-step : goal.returns-in-Some-clause-step
returns-in-Some-clause-step c =
    let k = c.self.inside in
    let at = subst (λ (ss : List State). IsAt ss c.args.session c.in-Some.at) c.as_slice.ensures.value c.in-Some.ensures.found in
    let is : c.index_mut.result.now ≡ at.session = c.index_mut.ensures.value ∙ got_at k.sessions.items c.in-Some.at at.session c.index_mut.result.now at.here in
    let new : session_of c.close.new.self ≡ ending (session_of at.session) = c.close.ensures.same ∙ ap (λ (s : State). ending (session_of s)) is in
    let step = close_present k.store k.clock k.logged k.drawn k.sessions.items c.args.session c.in-Some.at at.session c.self.invariant.present.rises at.here at.numbered c.close.new.self new in
    subst (λ (n : CoreState). Step n.hall (event.Close c.args.session) outcome.Done (hall_of k.store k.clock k.logged k.drawn (slice_set k.sessions.items c.in-Some.at c.close.new.self))) c.self.view_is step

pub returns-in_default-clause-step : goal.returns-in_default-clause-step
returns-in_default-clause-step c =
    let k = c.self.inside in
    let others = subst (λ (ss : List State). AreOthers c.args.session ss) c.as_slice.ensures.value c.in_default.ensures.absent in
    subst (λ (n : CoreState). Step n.hall (event.Close c.args.session) outcome.Done n.hall) c.self.view_is (close_absent k.store k.clock k.logged k.drawn k.sessions.items c.args.session others)
