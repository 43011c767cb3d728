use Rattle.std.proofs.Common.{◌≡◌, ◌+◌, ◌++◌, ◌∙◌, List, [], ◌∷◌, take, ap, sym, subst, get_or, IsPermutation, arith}
use Rattle.std.specs.Prelude.{Option}
use Rattle.std.specs.List.{cons_option}
use Rattle.std.proofs.lemmas.List.{take_all, take_more}
use Rattle.std.proofs.lemmas.List.Elements.{filter_map-append}
use Rattle.world_data.specs.declared.objects.Object.{Object}
use Rattle.slab.specs.Slab.{get}
use Rattle.collection.specs.Slotted.{objects_at}
use Rattle.collection.proofs.found_objects.list_found.Goals as goal

pub loop-i-preserved : goal.loop-i-preserved
loop-i-preserved c =
    let f = get c.args.slots.now in
    let ns = c.args.numbers.now in
    let i = c.loop-i.i in
    let more : objects_at f (take (i + 1) ns) ≡ objects_at f (take i ns) ++ cons_option (f (get_or ns i 0)) [] = ap (objects_at f) (take_more ns i 0 (omega arith)) ∙ filter_map-append f (take i ns) (get_or ns i 0 ∷ []) in
    c.in_ok-push.ensures
    ∙ ap (λ (o : Option Object). c.loop-i.into ++ cons_option o []) (c.get.ensures ∙ ap f c.at.ensures)
    ∙ ap (λ (l : List Object). l ++ cons_option (f (get_or ns i 0)) []) c.loop-i.invariant
    ∙ sym more

pub returns : goal.returns
returns c =
    let f = get c.args.slots.now in
    let all = c.loop-i.invariant ∙ ap (objects_at f) (take_all c.loop-i.i c.args.numbers.now (omega arith)) in
    record {
      moved = subst (λ (l : List Object). IsPermutation l c.sort.new.self) all c.sort.ensures.objects;
      order = c.sort.ensures.order;
    }
