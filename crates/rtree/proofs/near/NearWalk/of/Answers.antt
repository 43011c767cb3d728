use Rattle.std.proofs.Common.{◌≡◌, ◌∷◌, [], subst, sym, ap, ◌∙◌, append-nil}
use Rattle.std.specs.BinaryHeap.{heap_items, IsHeap}
use Rattle.std.specs.List.Sorted.{IsPermutation}
use Rattle.rtree.specs.declared.waiting.Met.TheVariants.{Below}
use Rattle.rtree.specs.declared.waiting.Waiting.{Waiting}
use Rattle.rtree.specs.Near.{nearest_first, pairs_of}
use Rattle.rtree.proofs.Nears.{kept_promise, queue_more, queue_none, near_root, only_one}
use Rattle.rtree.proofs.near.NearWalk.of.Goals as goal
use Rattle.rtree.proofs.near.NearWalk.of.Goals.{in-Some+else-is_err, in_default}

pub invariant_of-result : goal.invariant_of-result
invariant_of-result c =
    let p = c.args.p in
    let none = heap_items c.in_ok-waiting.waiting in
    let q = queue_none p none c.in_ok-waiting.ensures.heap_order c.in_ok-waiting.ensures.items in
    elim c.match-root.branch [
      | in-Some+else-is_err w ↦
          let first : Waiting = record { distance = 0; met = Below w.in-Some.root } in
          let new = heap_items w.push.new.self in
          let ok = w.if-is_err.ensures.negation in
          let more = kept_promise w.push.result (IsPermutation (first ∷ none) new) ok w.push.ensures.permutation in
          let keeps = kept_promise w.push.result (IsHeap nearest_first none → IsHeap nearest_first new) ok w.push.ensures.heap_order in
          rw w.waiting-is (queue_more p first none new q (near_root p w.in-Some.root) more keeps)
      | in_default w ↦ rw w.waiting-is q
    ]

pub returns-clause-left : goal.returns-clause-left
returns-clause-left c =
    let none = heap_items c.in_ok-waiting.waiting in
    elim c.match-root.branch [
      | in-Some+else-is_err w ↦
          let first : Waiting = record { distance = 0; met = Below w.in-Some.root } in
          let new = heap_items w.push.new.self in
          let more = kept_promise w.push.result (IsPermutation (first ∷ none) new) w.if-is_err.ensures.negation w.push.ensures.permutation in
          let one : new ≡ first ∷ [] = only_one first new (subst (λ ws. IsPermutation (first ∷ ws) new) c.in_ok-waiting.ensures.items more) in
          ap (λ h. pairs_of (heap_items h)) w.waiting-is ∙ (ap pairs_of one ∙ (append-nil w.in-Some.root.now.entries ∙ w.in-Some.ensures))
      | in_default w ↦ ap (λ h. pairs_of (heap_items h)) w.waiting-is ∙ (ap pairs_of c.in_ok-waiting.ensures.items ∙ sym w.in_default.ensures)
    ]
