use Rattle.std.proofs.Common.{◌≡◌, ◌≤◌, ◌∷◌, ◌++◌, [], subst, ap, arith}
use Rattle.std.specs.BinaryHeap.{heap_items}
use Rattle.std.specs.List.Sorted.{IsPermutation}
use Rattle.std.proofs.lemmas.List.Sorted.{IsPermutation-trans, length_permutation}
use Rattle.std.proofs.lemmas.Result.{err_from_is_err_and}
use Rattle.rtree.specs.Near.{met_nodes, pairs_of}
use Rattle.rtree.proofs.Nears.{far, found_one, found_moved, found_all, found_part, queue_less, pairs_popped, nodes_popped}
use Rattle.rtree.proofs.near.give.Goals as goal

pub returns-in_err-push-in-One-clause-err : goal.returns-in_err-push-in-One-clause-err
returns-in_err-push-in-One-clause-err g c =
    let p = err_from_is_err_and c.from_residual.result c.from_residual.ensures.1 in
    let same = c.in_err-push-in-One.ensures.err in
    rw (p.1, same) (found_part c.loop-nearest.found c.args.from (pairs_of (heap_items c.args.waiting.now)) (pairs_of (heap_items c.loop-nearest.waiting)) c.args.into.now c.loop-nearest.into c.loop-nearest.invariant.found)

pub loop-nearest-smaller-in-One : goal.loop-nearest-smaller-in-One
loop-nearest-smaller-in-One g c =
    let w = c.in-Some.nearest in
    let old = heap_items c.loop-nearest.waiting in
    let new = heap_items c.take_due.new.waiting in
    let top = c.in-Some.ensures in
    let pairs : IsPermutation (pairs_of old) (c.in-One.entry.now ∷ pairs_of new) = pairs_popped w _ old new c.in-One.is top.taken in
    omega (arith, length_permutation (pairs_of old) (c.in-One.entry.now ∷ pairs_of new) pairs, nodes_popped w old new top.taken)

pub loop-nearest-preserved-in-One : goal.loop-nearest-preserved-in-One
loop-nearest-preserved-in-One g c =
    let w = c.in-Some.nearest in
    let from = c.args.from in
    let found = c.loop-nearest.found in
    let old = heap_items c.loop-nearest.waiting in
    let new = heap_items c.take_due.new.waiting in
    let top = c.in-Some.ensures in
    let q = queue_less found from w old new c.loop-nearest.invariant.queue top in
    let pairs : IsPermutation (pairs_of old) (c.in-One.entry.now ∷ pairs_of new) = pairs_popped w _ old new c.in-One.is top.taken in
    let least = far (λ n. w.distance ≤ n) (λ m k l e. omega (arith, l, e)) from new top.nearest q.0.near in
    let id = c.in-One.entry.now.id in
    let put : c.push.new.self ≡ c.loop-nearest.into ++ id ∷ [] = subst (λ n. c.push.new.self ≡ c.loop-nearest.into ++ n ∷ []) c.id.ensures c.in_ok-push-in-One.ensures.ok in record {
      queue = q.0;
      found = found_one found from (pairs_of (heap_items c.args.waiting.now)) (pairs_of old) (pairs_of new) c.in-One.entry.now w.distance c.args.into.now c.loop-nearest.into c.push.new.self c.loop-nearest.invariant.found pairs (q.1.exact c.in-One.entry c.in-One.is) top.due least put;
    }

pub open-requires : goal.open-requires
open-requires g c =
    let q = queue_less c.loop-nearest.found c.args.from c.in-Some.nearest (heap_items c.loop-nearest.waiting) (heap_items c.take_due.new.waiting) c.loop-nearest.invariant.queue c.in-Some.ensures in
    record { queue = q.0 }

pub loop-nearest-smaller : goal.loop-nearest-smaller
loop-nearest-smaller g c =
    let w = c.in-Some.nearest in
    let n = c.in-Below.node.now in
    let old = heap_items c.loop-nearest.waiting in
    let new = heap_items c.take_due.new.waiting in
    let opened = heap_items c.open.new.waiting in
    let top = c.in-Some.ensures in
    let pairs : IsPermutation (pairs_of old) (n.entries ++ pairs_of new) = pairs_popped w _ old new c.in-Below.is top.taken in
    let all = IsPermutation-trans (pairs_of old) (n.entries ++ pairs_of new) (pairs_of opened) pairs c.in_ok-open-in-Below.ensures.pairs in
    let nodes : met_nodes w.met ≡ n.nodes = ap met_nodes c.in-Below.is in
    omega (arith, length_permutation (pairs_of old) (pairs_of opened) all, nodes_popped w old new top.taken, nodes, c.in_ok-open-in-Below.ensures.nodes)

pub loop-nearest-preserved : goal.loop-nearest-preserved
loop-nearest-preserved g c =
    let w = c.in-Some.nearest in
    let n = c.in-Below.node.now in
    let old = heap_items c.loop-nearest.waiting in
    let new = heap_items c.take_due.new.waiting in
    let opened = heap_items c.open.new.waiting in
    let pairs : IsPermutation (pairs_of old) (n.entries ++ pairs_of new) = pairs_popped w _ old new c.in-Below.is c.in-Some.ensures.taken in
    let all = IsPermutation-trans (pairs_of old) (n.entries ++ pairs_of new) (pairs_of opened) pairs c.in_ok-open-in-Below.ensures.pairs in record {
      queue = c.in_ok-open-in-Below.ensures.queue;
      found = found_moved c.loop-nearest.found c.args.from (pairs_of (heap_items c.args.waiting.now)) (pairs_of old) (pairs_of opened) c.args.into.now c.loop-nearest.into all c.loop-nearest.invariant.found;
    }

pub returns-in_err-open-in-Below-clause-err : goal.returns-in_err-open-in-Below-clause-err
returns-in_err-open-in-Below-clause-err g c =
    let p = err_from_is_err_and c.from_residual-in_err-open-in-Below.result c.from_residual-in_err-open-in-Below.ensures.1 in
    rw (p.1) (found_part c.loop-nearest.found c.args.from (pairs_of (heap_items c.args.waiting.now)) (pairs_of (heap_items c.loop-nearest.waiting)) c.args.into.now c.loop-nearest.into c.loop-nearest.invariant.found)

pub returns-clause-ok : goal.returns-clause-ok
returns-clause-ok g c =
    found_all c.loop-nearest.found c.args.from (pairs_of (heap_items c.args.waiting.now)) (heap_items c.loop-nearest.waiting) (heap_items c.take_due.new.waiting) c.args.into.now c.loop-nearest.into c.loop-nearest.invariant.found c.loop-nearest.invariant.queue.near c.in_default.ensures
