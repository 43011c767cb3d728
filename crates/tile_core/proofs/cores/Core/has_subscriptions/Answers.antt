use Rattle.std.proofs.Common.{◌≡◌, ℕ, true, false, sym, ap, ◌∙◌, subst, List, [], ◌∷◌, length, arith}
use Rattle.std.specs.Prelude.{nat_lt}
use Rattle.std.proofs.lemmas.Bool.Decides.{nat_tests}
use Rattle.ordered_lists.specs.Reading.{got_at}
use Rattle.world_model.specs.Halls.{session_of}
use Rattle.world_model.specs.Subscriptions.{Sub, has_subs}
use Rattle.session_table.specs.Sessions.{State}
use Rattle.tile_core.specs.Subscribers.{has_subscriptions}
use Rattle.tile_core.specs.CoreStates.{CoreState}
use Rattle.tile_core.specs.Sessions.{AreOthers, IsAt, are_rising}
use Rattle.tile_core.proofs.Halving.{rising}
use Rattle.tile_core.proofs.Present.{found, none_found}
use Rattle.tile_core.proofs.cores.Core.has_subscriptions.Goals as goal

pub position_of-requires : goal.position_of-requires
position_of-requires c =
    let k = c.self.inside in
    subst (λ (ss : List State). are_rising ss ≡ true) (sym c.as_slice.ensures.value) (rising 0 k.drawn k.sessions.items c.self.invariant.present.rises)

-- a test of their count
counted : (n : ℕ) (subs : List Sub) → n ≡ length subs → nat_lt 0 n ≡ has_subs subs
counted n [] e = grind (arith, nat_tests)
counted n (s ∷ subs) e = grind (arith, nat_tests)

pub returns-in-Some : goal.returns-in-Some
returns-in-Some c =
    let k = c.self.inside in
    let ss = k.sessions.items in
    let n = c.args.session in
    let at = subst (λ (xs : List State). IsAt xs n c.in-Some.at) c.as_slice.ensures.value c.in-Some.ensures.found in
    let s = at.session in
    let is : c.index.result.now ≡ s = c.index.ensures ∙ got_at ss c.in-Some.at s c.index.result.now at.here in
    let count : c.len.result ≡ length s.subs = c.len.ensures.count ∙ ap length (c.subscriptions.ensures.same ∙ ap (λ (t : State). t.subs) is) in
    subst (λ (v : CoreState). nat_lt 0 c.len.result ≡ has_subscriptions (session_of v.hall n)) c.self.view_is
    (counted c.len.result s.subs count ∙ sym (ap has_subscriptions (found 0 k.drawn ss c.in-Some.at n s c.self.invariant.present.rises at.here at.numbered)))

pub returns-in-None : goal.returns-in-None
returns-in-None c =
    let k = c.self.inside in
    let n = c.args.session in
    let others = subst (λ (ss : List State). AreOthers n ss) c.as_slice.ensures.value c.in-None.ensures.absent in
    subst (λ (v : CoreState). false ≡ has_subscriptions (session_of v.hall n)) c.self.view_is (sym (ap has_subscriptions (none_found k.sessions.items n others)))
