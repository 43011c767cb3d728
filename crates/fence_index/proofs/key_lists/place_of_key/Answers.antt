use Rattle.std.proofs.Common.{◌≡◌, ◌<◌, true, false, rules, length, subst, sym, ◌∙◌, arith}
use Rattle.std.proofs.lemmas.List.Sorted.{IsPartitionPoint-from_clause}
use Rattle.byte_text.specs.Names.{before, same}
use Rattle.fence_index.specs.declared.key_boxes.KeyBoxes.{KeyBoxes}
use Rattle.ordered_lists.specs.NameOrder.{partitioned, named_held, named_free}
use Rattle.ordered_lists.specs.Places.{free_at_end}
use Rattle.fence_index.proofs.key_lists.place_of_key.Goals as goal

pub returns-then-at-list-clause-free : goal.returns-then-at-list-clause-free
returns-then-at-list-clause-free call =
    let name = call.args.key.now in
    let list = call.args.list.now in
    let at = call.partition_point-at.result in
    let parts = IsPartitionPoint-from_clause (λ (s : KeyBoxes). before s.key name) list at call.partition_point-at.ensures.partitioned (partitioned (λ (s : KeyBoxes). s.key) name list call.requires) (λ a r f' called. search rules) in
    free_at_end (λ (s : KeyBoxes). before s.key name) (λ s. before name s.key) list at call.partition_point-at.ensures.bound parts (omega arith)

pub returns-then-is_same-clause-held : goal.returns-then-is_same-clause-held
returns-then-is_same-clause-held call =
    let name = call.args.key.now in
    let list = call.args.list.now in
    let at = call.partition_point-at.result in
    let x = call.index-list-at.result in
    let parts = IsPartitionPoint-from_clause (λ (s : KeyBoxes). before s.key name) list at call.partition_point-at.ensures.partitioned (partitioned (λ (s : KeyBoxes). s.key) name list call.requires) (λ a r f' called. search rules) in
    let within : at < length list = omega (arith, call.partition_point-at.ensures.bound) in
    let is : same x.key name ≡ true = subst (λ (s : KeyBoxes). same s.key name ≡ true) (sym call.index-list-at.is) (sym call.is_same.ensures ∙ call.if-is_same.true) in
    named_held (λ (s : KeyBoxes). s.key) name list at call.partition_point-at.ensures.bound parts x within call.index-list-at.is is

pub returns-else-is_same-clause-free : goal.returns-else-is_same-clause-free
returns-else-is_same-clause-free call =
    let name = call.args.key.now in
    let list = call.args.list.now in
    let at = call.partition_point-at.result in
    let x = call.index-list-at.result in
    let parts = IsPartitionPoint-from_clause (λ (s : KeyBoxes). before s.key name) list at call.partition_point-at.ensures.partitioned (partitioned (λ (s : KeyBoxes). s.key) name list call.requires) (λ a r f' called. search rules) in
    let within : at < length list = omega (arith, call.partition_point-at.ensures.bound) in
    let other : same x.key name ≡ false = subst (λ (s : KeyBoxes). same s.key name ≡ false) (sym call.index-list-at.is) (sym call.is_same.ensures ∙ call.if-is_same.false) in
    named_free (λ (s : KeyBoxes). s.key) name list at call.partition_point-at.ensures.bound parts x within call.index-list-at.is other
