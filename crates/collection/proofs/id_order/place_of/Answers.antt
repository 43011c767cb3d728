use Rattle.std.proofs.Common.{◌≡◌, ◌<◌, true, false, rules, length, sym, subst, ◌∙◌}
use Rattle.std.specs.Prelude.{Option, IfSome}
use Rattle.byte_text.specs.Names.{before, same}
use Rattle.world_data.specs.declared.objects.Object.{Object}
use Rattle.byte_text.specs.ByteOrder.{behind_others}
use Rattle.collection.specs.IdOrder.{tied}
use Rattle.collection.proofs.Slots.{first_behind}
use Rattle.collection.proofs.id_order.place_of.Goals as goal

pub returns-then-is_same-clause-held : goal.returns-then-is_same-clause-held
returns-then-is_same-clause-held c =
    let id = c.args.id.now in
    let list = c.args.list.now.objects in
    let at = c.count_before-at.result in
    let x = c.at.result.now in
    let le = c.count_before-at.ensures.within in
    let within : at < length list = search rules in
    let is : same x.id id ≡ true = sym c.is_same.ensures ∙ c.if-is_same.true in
    record {
      front = c.count_before-at.ensures.front;
      within = within;
      tie = subst (λ (o : Option Object). IfSome o (λ o. (before id o.id ≡ false) × (before o.id id ≡ false))) (sym c.at.ensures) (tied id x is);
    }

pub returns-else-is_same-clause-free : goal.returns-else-is_same-clause-free
returns-else-is_same-clause-free c =
    let id = c.args.id.now in
    let list = c.args.list.now.objects in
    let at = c.count_before-at.result in
    let x = c.at.result.now in
    let other : same x.id id ≡ false = sym c.is_same.ensures ∙ c.if-is_same.false in
    let fails : before x.id id ≡ false = first_behind (λ (o : Object). before o.id id) list at x c.at.ensures c.count_before-at.ensures.behind in
    record {
      front = c.count_before-at.ensures.front;
      within = c.count_before-at.ensures.within;
      behind = subst (λ (o : Option Object). IfSome o (λ o. before id o.id ≡ true)) (sym c.at.ensures) (behind_others x.id id fails other);
    }
