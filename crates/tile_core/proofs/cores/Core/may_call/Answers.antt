use Rattle.std.proofs.Common.{◌≡◌, true, false, sym, ap, ◌∙◌, subst, List, arith}
use Rattle.std.specs.Prelude.{Decides}
use Rattle.world_model.specs.Histories.{is_spent}
use Rattle.session_table.specs.Sessions.{State}
use Rattle.tile_core.specs.Answered.{MayCall}
use Rattle.tile_core.specs.CoreStates.{CoreState}
use Rattle.tile_core.specs.Sessions.{IsServed, are_rising}
use Rattle.tile_core.specs.Stores.{hall_of}
use Rattle.tile_core.proofs.Answered.{serves}
use Rattle.tile_core.proofs.Halving.{rising}
use Rattle.tile_core.proofs.cores.Core.may_call.Goals as goal

pub served-requires : goal.served-requires
served-requires c =
    let k = c.self.inside in
    subst (λ (ss : List State). are_rising ss ≡ true) (sym c.as_slice.ensures.value) (rising 0 k.drawn k.sessions.items c.self.invariant.present.rises)

pub returns-then-not-is_spent : goal.returns-then-not-is_spent
returns-then-not-is_spent c =
    let k = c.self.inside in
    let n = c.args.session in
    let sv = subst (λ (ss : List State). IsServed ss n c.served.result) c.as_slice.ensures.value c.served.ensures in
    let passed = c.if-not-is_spent.true in
    let unspent : c.is_spent.result ≡ false = grind arith in
    let served = serves k.drawn k.sessions.items n c.self.invariant.present.rises c.served.result sv in
    let spent : is_spent (hall_of k.store k.clock k.logged k.drawn k.sessions.items) ≡ false = ap (λ (v : CoreState). is_spent v.hall) c.self.view_is ∙ sym c.is_spent.ensures ∙ unspent in
    subst (λ (v : CoreState). Decides c.is_ok.result (MayCall v.hall n)) c.self.view_is
    (λ e. let fine = served.0 (sym c.is_ok.ensures.value ∙ e) in (spent, fine.0, fine.1), λ may. c.is_ok.ensures.value ∙ served.1 (may.1, may.2))
