use Rattle.std.proofs.Common.{◌≡◌, true, false, rules, sym, subst, ◌∙◌, take}
use Rattle.std.specs.Prelude.{Option, IfSome}
use Rattle.std.specs.List.{list_all}
use Rattle.byte_text.specs.Names.{Bytes, before, same}
use Rattle.byte_text.specs.ByteOrder.{before_tie}
use Rattle.world_data.specs.declared.objects.Object.{Object}
use Rattle.collection.specs.Objects.{id_before}
use Rattle.collection.specs.IdOrder.{tied, in_front}
use Rattle.collection.proofs.id_order.place_near.Goals as goal

pub returns-then-is_same-clause-held : goal.returns-then-is_same-clause-held
returns-then-is_same-clause-held c =
    let id = c.args.id.now in
    let list = c.args.list.now.objects in
    let at = c.place-near.result in
    let x = c.at.result.now in
    let is : same x.id id ≡ true = sym c.is_same.ensures ∙ c.if-is_same.true in
    let ties = tied id x is in
    record {
      front = subst (λ (n : Bytes). list_all (λ (o : Object). before o.id n) (take at list) ≡ true) (before_tie x.id id ties.1 ties.0)
          (in_front id_before list at x c.requires c.at.ensures);
      within = search rules;
      tie = subst (λ (o : Option Object). IfSome o (λ o. (before id o.id ≡ false) × (before o.id id ≡ false))) (sym c.at.ensures) ties;
    }
