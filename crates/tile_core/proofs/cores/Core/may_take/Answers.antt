use Rattle.std.proofs.Common.{◌≡◌, ℕ, ◌<◌, Bool, true, false, refl, sym, ap, ◌∙◌, subst, List, length, arith}
use Rattle.std.specs.Prelude.{Decides, nat_lt}
use Rattle.std.proofs.lemmas.Bool.Decides.{nat_tests}
use Rattle.ordered_lists.specs.Reading.{got_at}
use Rattle.session_table.specs.Sessions.{State}
use Rattle.tile_core.specs.Answered.{MayTake}
use Rattle.tile_core.specs.CoreStates.{CoreState}
use Rattle.tile_core.specs.Sessions.{AreOthers, IsAt, are_rising}
use Rattle.tile_core.specs.Stores.{hall_of}
use Rattle.tile_core.proofs.Answered.{no_more_to_take, none_to_take, some_to_take}
use Rattle.tile_core.proofs.Halving.{rising}
use Rattle.tile_core.proofs.cores.Core.may_take.Goals as goal

pub position_of-requires : goal.position_of-requires
position_of-requires c =
    let k = c.self.inside in
    subst (λ (ss : List State). are_rising ss ≡ true) (sym c.as_slice.ensures.value) (rising 0 k.drawn k.sessions.items c.self.invariant.present.rises)

-- a test of a count, where there are frames or not
counted : (P : Type 0) (n m : ℕ) → n ≡ m → (0 < m → P) → (m ≡ 0 → P → ⊥) → Decides (nat_lt 0 n) P
counted P n m e some none = by (nat_lt 0 n) refl
  where
    by : (b : Bool) → nat_lt 0 n ≡ b → (b ≡ true → P) × (P → b ≡ true)
    by true t = (λ s. some (let lt : 0 < n = grind (arith, nat_tests) in omega (arith, e, lt)), λ p. refl)
    by false t = (λ s. absurd (cc), λ p. absurd (none (let le : n ≡ 0 = grind (arith, nat_tests) in omega (arith, e, le)) p))

pub returns-in-Some : goal.returns-in-Some
returns-in-Some c =
    let k = c.self.inside in
    let ss = k.sessions.items in
    let n = c.args.session in
    let at = subst (λ (xs : List State). IsAt xs n c.in-Some.at) c.as_slice.ensures.value c.in-Some.ensures.found in
    let s = at.session in
    let is : c.index.result.now ≡ s = c.index.ensures ∙ got_at ss c.in-Some.at s c.index.result.now at.here in
    let count : c.frames.result ≡ length s.mail.frames = c.frames.ensures ∙ ap (λ (t : State). length t.mail.frames) is in
    let rises = c.self.invariant.present.rises in
    subst (λ (v : CoreState). Decides (nat_lt 0 c.frames.result) (MayTake v.hall n)) c.self.view_is
    (counted (MayTake (hall_of k.store k.clock k.logged k.drawn ss) n) c.frames.result (length s.mail.frames) count
    (λ some. some_to_take k.drawn ss n c.in-Some.at s rises at.here at.numbered some)
    (λ none may. no_more_to_take k.drawn ss n c.in-Some.at s rises at.here at.numbered none may.0 may.1))

pub returns-in-None : goal.returns-in-None
returns-in-None c =
    let k = c.self.inside in
    let others = subst (λ (ss : List State). AreOthers c.args.session ss) c.as_slice.ensures.value c.in-None.ensures.absent in
    (λ e. absurd (cc), λ may. absurd (none_to_take k.sessions.items c.args.session others (subst (λ (v : CoreState). MayTake v.hall c.args.session) (sym c.self.view_is) may).0))
