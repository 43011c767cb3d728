use Rattle.std.proofs.Common.{◌≡◌, [], true, subst, sym, rules}
use Rattle.byte_text.specs.Globs.{behind_item, outside}
use Rattle.glob_match.specs.Tokens.{left, Begins}
use Rattle.glob_match.proofs.ClassLaws.{InClass, ends}
use Rattle.glob_match.proofs.classes.class_at.Goals as goal

pub returns-then-some-clause-read : goal.returns-then-some-clause-read
returns-then-some-clause-read c =
    let some : c.loop-behind.some ≡ true = search rules in
    let whole = left c.args.text.now (behind_item c.args.others []) in
    let begun = subst (λ b. InClass whole c.loop-behind.rest.now c.args.others b c.loop-behind.hit c.args.c) some c.loop-behind.invariant.2 in
    subst (λ b. Begins whole (left c.in-Closed.behind.now outside) c.args.c b) (sym c.is_hit.ensures)
    (ends whole c.loop-behind.rest.now c.in-Closed.behind.now c.args.others c.loop-behind.hit c.args.c begun c.in-Closed.ensures.read)
