use Rattle.std.proofs.Common.{◌≡◌, ◌∙◌, ℕ, sym, subst}
use Rattle.std.specs.Prelude.{Some, None, decimal}
use Rattle.live_fence.specs.Parts.{behind}
use Rattle.live_fence.proofs.Fronts.{none_first, none_count, none_channel, none_number, none_end, some_rest, none_rest}
use Rattle.live_fence.proofs.parts.payload_of.Goals as goal

pub returns-in_err-rest : goal.returns-in_err-rest
returns-in_err-rest c = rw c.from_residual.ensures (none_first c.args.session c.args.frame.now c.in_err-rest.ensures)

pub returns-in_err-rest-2 : goal.returns-in_err-rest-2
returns-in_err-rest-2 c = rw c.from_residual-in_err-rest-2.ensures (none_count c.args.session c.args.frame.now c.in_ok-rest.rest.now c.in_ok-rest.ensures
    (subst (λ (n : ℕ). behind (decimal n) c.in_ok-rest.rest.now ≡ None) c.name_len.ensures c.in_err-rest-2.ensures))

pub returns-in_err-rest-3 : goal.returns-in_err-rest-3
returns-in_err-rest-3 c = rw c.from_residual-in_err-rest-3.ensures (none_channel c.args.session c.args.frame.now c.in_ok-rest.rest.now c.in_ok-rest.ensures c.in_ok-rest-2.rest.now
    (subst (λ (n : ℕ). behind (decimal n) c.in_ok-rest.rest.now ≡ Some c.in_ok-rest-2.rest.now) c.name_len.ensures c.in_ok-rest-2.ensures)
    c.in_err-rest-3.ensures)

pub returns-in_err-rest-4 : goal.returns-in_err-rest-4
returns-in_err-rest-4 c = rw c.from_residual-in_err-rest-4.ensures (none_number c.args.session c.args.frame.now c.in_ok-rest.rest.now c.in_ok-rest.ensures c.in_ok-rest-2.rest.now
    (subst (λ (n : ℕ). behind (decimal n) c.in_ok-rest.rest.now ≡ Some c.in_ok-rest-2.rest.now) c.name_len.ensures c.in_ok-rest-2.ensures)
    c.in_ok-rest-3.rest.now c.in_ok-rest-3.ensures
    c.in_err-rest-4.ensures)

pub returns-in_err-rest-5 : goal.returns-in_err-rest-5
returns-in_err-rest-5 c = rw c.from_residual-in_err-rest-5.ensures (none_end c.args.session c.args.frame.now c.in_ok-rest.rest.now c.in_ok-rest.ensures c.in_ok-rest-2.rest.now
    (subst (λ (n : ℕ). behind (decimal n) c.in_ok-rest.rest.now ≡ Some c.in_ok-rest-2.rest.now) c.name_len.ensures c.in_ok-rest-2.ensures)
    c.in_ok-rest-3.rest.now c.in_ok-rest-3.ensures c.in_ok-rest-4.rest.now c.in_ok-rest-4.ensures
    c.in_err-rest-5.ensures)

pub returns-then-begins_bulk : goal.returns-then-begins_bulk
returns-then-begins_bulk c = some_rest c.args.session c.args.frame.now c.in_ok-rest.rest.now c.in_ok-rest.ensures c.in_ok-rest-2.rest.now
    (subst (λ (n : ℕ). behind (decimal n) c.in_ok-rest.rest.now ≡ Some c.in_ok-rest-2.rest.now) c.name_len.ensures c.in_ok-rest-2.ensures)
    c.in_ok-rest-3.rest.now c.in_ok-rest-3.ensures c.in_ok-rest-4.rest.now c.in_ok-rest-4.ensures c.in_ok-rest-5.rest.now c.in_ok-rest-5.ensures
    (sym c.begins_bulk.ensures ∙ c.if-begins_bulk.true)

pub returns-else-begins_bulk : goal.returns-else-begins_bulk
returns-else-begins_bulk c = none_rest c.args.session c.args.frame.now c.in_ok-rest.rest.now c.in_ok-rest.ensures c.in_ok-rest-2.rest.now
    (subst (λ (n : ℕ). behind (decimal n) c.in_ok-rest.rest.now ≡ Some c.in_ok-rest-2.rest.now) c.name_len.ensures c.in_ok-rest-2.ensures)
    c.in_ok-rest-3.rest.now c.in_ok-rest-3.ensures c.in_ok-rest-4.rest.now c.in_ok-rest-4.ensures c.in_ok-rest-5.rest.now c.in_ok-rest-5.ensures
    (sym c.begins_bulk.ensures ∙ c.if-begins_bulk.false)
