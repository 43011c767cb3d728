use Rattle.std.proofs.Common.{◌≡◌, ℕ, ◌<◌, ◌≤◌, true, List, [], length, length-take, take, drop, sym, ap, ◌∙◌, subst, arith}
use Rattle.std.specs.Prelude.{slice_set, remove}
use Rattle.std.proofs.lemmas.Option.{slice_get_within}
use Rattle.ordered_lists.specs.Reading.{got_at}
use Rattle.world_data.specs.Limits.{take_frames}
use Rattle.world_data.specs.Frames.{FrameList}
use Rattle.byte_text.specs.Names.{Bytes}
use Rattle.world_model.specs.Histories.{Step}
use Rattle.world_model.specs.declared.events.Event.TheVariants as event
use Rattle.world_model.specs.declared.events.Outcome.TheVariants as outcome
use Rattle.world_model.specs.Halls.{Session}
use Rattle.session_table.specs.Sessions.{State, session_of}
use Rattle.session_table.specs.Fans.{AreBare}
use Rattle.tile_core.specs.CoreStates.{CoreState}
use Rattle.tile_core.specs.Stores.{hall_of, ArePresent}
use Rattle.tile_core.specs.Sessions.{IsAt, AreOthers, is_open, are_rising}
use Rattle.tile_core.proofs.Halving.{rising}
use Rattle.tile_core.proofs.Takes.{absent, empty, ended, given}
use Rattle.tile_core.proofs.Finishing.{bare_remove, bare_set, present_set, present_remove}
use Rattle.tile_core.proofs.cores.Core.take.Goals as goal

some_of : (a b : ℕ) → a ≡ b → 0 < a → 0 < b
some_of a b e lt = omega (arith, e, lt)

none_of : (a b : ℕ) → a ≡ b → a ≤ 0 → b ≡ 0
none_of a b e le = omega (arith, e, le)

pub position_of-requires : goal.position_of-requires
position_of-requires c =
    let k = c.self.inside in
    subst (λ (ss : List State). are_rising ss ≡ true) (sym c.as_slice.ensures.value) (rising 0 k.drawn k.sessions.items c.self.invariant.present.rises)

pub returns-in_default-clause-step : goal.returns-in_default-clause-step
returns-in_default-clause-step c =
    let k = c.self.inside in
    let others = subst (λ (ss : List State). AreOthers c.args.session ss) c.as_slice.ensures.value c.in_default.ensures.absent in
    let step = absent k.store k.clock k.logged k.drawn k.sessions.items c.args.session others in
    subst (λ (n : CoreState). Step n.hall (event.Take c.args.session) outcome.Ended n.hall) c.self.view_is step

pub invariant_of-self : goal.invariant_of-self
invariant_of-self c =
    let k = c.self.inside in
    let at = subst (λ (ss : List State). IsAt ss c.args.session c.in-Some.at) c.as_slice.ensures.value c.in-Some.ensures.found in
    let is : c.index_mut.result.now ≡ at.session = c.index_mut.ensures.value ∙ got_at k.sessions.items c.in-Some.at at.session c.index_mut.result.now at.here in
    let same : c.take_frames.new.self.number ≡ at.session.number = ap (λ (h : Session). h.number) c.take_frames.ensures.left ∙ ap (λ (s : State). s.number) is in
    let staged : c.take_frames.new.self.mail.staged ≡ [] = c.take_frames.ensures.staged in
    record { kept = c.self.invariant.kept; early = c.self.invariant.early; present = present_set k.drawn k.sessions.items c.in-Some.at at.session c.take_frames.new.self c.self.invariant.present at.here same; bare = bare_set k.sessions.items c.in-Some.at c.take_frames.new.self c.self.invariant.bare staged }

pub returns-then-frames-gt0-clause-step : goal.returns-then-frames-gt0-clause-step
returns-then-frames-gt0-clause-step c =
    let k = c.self.inside in
    let at = subst (λ (ss : List State). IsAt ss c.args.session c.in-Some.at) c.as_slice.ensures.value c.in-Some.ensures.found in
    let read : c.index.result.now ≡ at.session = c.index.ensures ∙ got_at k.sessions.items c.in-Some.at at.session c.index.result.now at.here in
    let is : c.index_mut.result.now ≡ at.session = c.index_mut.ensures.value ∙ got_at k.sessions.items c.in-Some.at at.session c.index_mut.result.now at.here in
    let left : session_of c.take_frames.new.self ≡ record (session_of at.session) { frames = drop take_frames at.session.mail.frames } = c.take_frames.ensures.left ∙ ap (λ (s : State). record (session_of s) { frames = drop take_frames s.mail.frames }) is in
    let count : c.frames.result ≡ length at.session.mail.frames = c.frames.ensures ∙ ap (λ (s : State). length s.mail.frames) read in
    let some : 0 < length at.session.mail.frames = some_of c.frames.result (length at.session.mail.frames) count c.if-frames-gt0.true in
    let shown : c.take_frames.new.into.list ≡ take take_frames at.session.mail.frames = ap (λ (f : FrameList). f.list) c.take_frames.ensures.given ∙ ap (λ (s : State). take take_frames s.mail.frames) is in
    let step = given k.store k.clock k.logged k.drawn k.sessions.items c.args.session c.in-Some.at at.session c.self.invariant.present.rises at.here at.numbered c.take_frames.new.self left some in
    subst (λ (fs : List Bytes). Step c.args.self.now.hall (event.Take c.args.session) (outcome.Given fs) (hall_of k.store k.clock k.logged k.drawn (slice_set k.sessions.items c.in-Some.at c.take_frames.new.self))) (sym shown)
    (subst (λ (n : CoreState). Step n.hall (event.Take c.args.session) (outcome.Given (take take_frames at.session.mail.frames)) (hall_of k.store k.clock k.logged k.drawn (slice_set k.sessions.items c.in-Some.at c.take_frames.new.self))) c.self.view_is step)

pub returns-then-frames-gt0-clause-count : goal.returns-then-frames-gt0-clause-count
returns-then-frames-gt0-clause-count c =
    c.take_frames.ensures.count ∙ sym (length-take take_frames c.index_mut.result.now.mail.frames) ∙ ap length (sym (ap (λ (f : FrameList). f.list) c.take_frames.ensures.given))

pub returns-then-is_live-clause-step : goal.returns-then-is_live-clause-step
returns-then-is_live-clause-step c =
    let k = c.self.inside in
    let at = subst (λ (ss : List State). IsAt ss c.args.session c.in-Some.at) c.as_slice.ensures.value c.in-Some.ensures.found in
    let is : c.index.result.now ≡ at.session = c.index.ensures ∙ got_at k.sessions.items c.in-Some.at at.session c.index.result.now at.here in
    let also : c.index-2.result.now ≡ at.session = c.index-2.ensures ∙ got_at k.sessions.items c.in-Some.at at.session c.index-2.result.now at.here in
    let none : length at.session.mail.frames ≡ 0 = none_of c.frames.result (length at.session.mail.frames) (c.frames.ensures ∙ ap (λ (s : State). length s.mail.frames) is) c.if-frames-gt0.false in
    let lives = sym (ap is_open also) ∙ sym c.is_live.ensures ∙ c.if-is_live.true in
    let step = empty k.store k.clock k.logged k.drawn k.sessions.items c.args.session c.in-Some.at at.session c.self.invariant.present.rises at.here at.numbered lives none in
    subst (λ (n : CoreState). Step n.hall (event.Take c.args.session) outcome.Empty n.hall) c.self.view_is step

pub invariant_of-self-2 : goal.invariant_of-self-2
invariant_of-self-2 c =
    let k = c.self.inside in
    let at = subst (λ (ss : List State). IsAt ss c.args.session c.in-Some.at) c.as_slice.ensures.value c.in-Some.ensures.found in
    record {
      kept = c.self.invariant.kept;
      early = c.self.invariant.early;
      present = subst (ArePresent k.drawn) (sym c.remove.ensures.items) (present_remove k.drawn k.sessions.items c.in-Some.at (slice_get_within k.sessions.items c.in-Some.at at.session at.here) c.self.invariant.present);
      bare = subst AreBare (sym c.remove.ensures.items) (bare_remove k.sessions.items c.in-Some.at c.self.invariant.bare);
    }

pub returns-clause-step : goal.returns-clause-step
returns-clause-step c =
    let k = c.self.inside in
    let at = subst (λ (ss : List State). IsAt ss c.args.session c.in-Some.at) c.as_slice.ensures.value c.in-Some.ensures.found in
    let is : c.index.result.now ≡ at.session = c.index.ensures ∙ got_at k.sessions.items c.in-Some.at at.session c.index.result.now at.here in
    let also : c.index-2.result.now ≡ at.session = c.index-2.ensures ∙ got_at k.sessions.items c.in-Some.at at.session c.index-2.result.now at.here in
    let none : length at.session.mail.frames ≡ 0 = none_of c.frames.result (length at.session.mail.frames) (c.frames.ensures ∙ ap (λ (s : State). length s.mail.frames) is) c.if-frames-gt0.false in
    let closed_ = sym (ap is_open also) ∙ sym c.is_live.ensures ∙ c.if-is_live.false in
    let step = ended k.store k.clock k.logged k.drawn k.sessions.items c.args.session c.in-Some.at at.session c.self.invariant.present.rises at.here at.numbered closed_ none in
    subst (λ (ss : List State). Step c.args.self.now.hall (event.Take c.args.session) outcome.Ended (hall_of k.store k.clock k.logged k.drawn ss)) (sym c.remove.ensures.items)
    (subst (λ (n : CoreState). Step n.hall (event.Take c.args.session) outcome.Ended (hall_of k.store k.clock k.logged k.drawn (remove k.sessions.items c.in-Some.at))) c.self.view_is step)
