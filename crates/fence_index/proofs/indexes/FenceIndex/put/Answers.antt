use Rattle.std.proofs.Common.{◌≡◌, ◌∙◌, ap, sym, subst, arith}
use Rattle.std.specs.Prelude.{Some, option_map}
use Rattle.fence_index.specs.declared.ready.Ready.{Ready}
use Rattle.fence_index.specs.Marks.{mark_of}
use Rattle.fence_index.specs.Numbered.{Indexed}
use Rattle.fence_index.proofs.Prepared.{is_ready, mark_is, none_prepared, none_there}
use Rattle.fence_index.proofs.indexes.FenceIndex.put.Goals as goal

pub unreachable-requires : goal.unreachable-requires
unreachable-requires c =
    let asked = subst (λ (h : Indexed). h.prepared ≡ Some (mark_of c.args.channel.now)) (sym c.self.view_is) c.requires in
    none_there c.self.inside.prepared (mark_of c.args.channel.now) (sym c.take.ensures.value ∙ c.in_default.is) asked

pub put_boxes-requires-clause-places : goal.put_boxes-requires-clause-places
put_boxes-requires-clause-places c =
    let m = mark_of c.args.channel.now in
    let asked = subst (λ (h : Indexed). h.prepared ≡ Some m) (sym c.self.view_is) c.requires in
    let there = sym c.take.ensures.value ∙ c.in-Some.is in
    let ready = is_ready c.self.inside.boxes.items _ c.self.inside.prepared c.in-Some.ready m there (mark_is c.self.inside.prepared c.in-Some.ready m there asked) c.self.invariant.ready in
    omega (arith, ready.spare_is)

pub put_boxes-requires-clause-room : goal.put_boxes-requires-clause-room
put_boxes-requires-clause-room c =
    let m = mark_of c.args.channel.now in
    let asked = subst (λ (h : Indexed). h.prepared ≡ Some m) (sym c.self.view_is) c.requires in
    let there = sym c.take.ensures.value ∙ c.in-Some.is in
    (is_ready c.self.inside.boxes.items _ c.self.inside.prepared c.in-Some.ready m there (mark_is c.self.inside.prepared c.in-Some.ready m there asked) c.self.invariant.ready).room

pub put_boxes-requires-clause-fresh : goal.put_boxes-requires-clause-fresh
put_boxes-requires-clause-fresh c =
    let m = mark_of c.args.channel.now in
    let asked = subst (λ (h : Indexed). h.prepared ≡ Some m) (sym c.self.view_is) c.requires in
    let there = sym c.take.ensures.value ∙ c.in-Some.is in
    (is_ready c.self.inside.boxes.items _ c.self.inside.prepared c.in-Some.ready m there (mark_is c.self.inside.prepared c.in-Some.ready m there asked) c.self.invariant.ready).is_fresh

pub invariant_of-self : goal.invariant_of-self
invariant_of-self c = record {
  by_key = c.put_boxes.ensures.by_key;
  ready = none_prepared c.put_boxes.new.boxes.items _ c.take.new.self c.take.ensures.after;
}

pub returns-clause-boxes : goal.returns-clause-boxes
returns-clause-boxes c = rw (← c.self.view_is) c.put_boxes.ensures.weights

pub returns-clause-prepared : goal.returns-clause-prepared
returns-clause-prepared c = ap (option_map (λ (r : Ready). r.mark)) c.take.ensures.after
