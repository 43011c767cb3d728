use Rattle.std.proofs.Common.{◌≡◌, ◌<◌, true, false, rules, length, subst, sym, ◌∙◌, arith}
use Rattle.std.proofs.lemmas.List.Sorted.{IsPartitionPoint-from_clause}
use Rattle.byte_text.specs.Names.{Bytes, before, same}
use Rattle.ordered_lists.specs.NameOrder.{partitioned, named_held, named_free}
use Rattle.ordered_lists.specs.Places.{free_at_end}
use Rattle.keyspace.specs.Entries.{Entry}
use Rattle.keyspace.proofs.key_order.place_of.Goals as goal

pub returns-then-at-list-clause-free : goal.returns-then-at-list-clause-free
returns-then-at-list-clause-free c =
    let key = c.args.key.now in
    let list = c.args.list.now in
    let at = c.partition_point-at.result in
    let parts = IsPartitionPoint-from_clause (λ (e : Entry). before e.key key) list at c.partition_point-at.ensures.partitioned (partitioned (λ (e : Entry). e.key) key list c.requires) (λ a r f' called. search rules) in
    free_at_end (λ (e : Entry). before e.key key) (λ e. before key e.key) list at c.partition_point-at.ensures.bound parts (omega arith)

pub returns-then-is_same-clause-held : goal.returns-then-is_same-clause-held
returns-then-is_same-clause-held c =
    let key = c.args.key.now in
    let list = c.args.list.now in
    let at = c.partition_point-at.result in
    let x = c.index-list-at.result in
    let parts = IsPartitionPoint-from_clause (λ (e : Entry). before e.key key) list at c.partition_point-at.ensures.partitioned (partitioned (λ (e : Entry). e.key) key list c.requires) (λ a r f' called. search rules) in
    let within : at < length list = omega (arith, c.partition_point-at.ensures.bound) in
    let is : same x.key key ≡ true = subst (λ (n : Bytes). same n key ≡ true) c.key.ensures (sym c.is_same.ensures ∙ c.if-is_same.true) in
    named_held (λ (e : Entry). e.key) key list at c.partition_point-at.ensures.bound parts x within c.index-list-at.is is

pub returns-else-is_same-clause-free : goal.returns-else-is_same-clause-free
returns-else-is_same-clause-free c =
    let key = c.args.key.now in
    let list = c.args.list.now in
    let at = c.partition_point-at.result in
    let x = c.index-list-at.result in
    let parts = IsPartitionPoint-from_clause (λ (e : Entry). before e.key key) list at c.partition_point-at.ensures.partitioned (partitioned (λ (e : Entry). e.key) key list c.requires) (λ a r f' called. search rules) in
    let within : at < length list = omega (arith, c.partition_point-at.ensures.bound) in
    let other : same x.key key ≡ false = subst (λ (n : Bytes). same n key ≡ false) c.key.ensures (sym c.is_same.ensures ∙ c.if-is_same.false) in
    named_free (λ (e : Entry). e.key) key list at c.partition_point-at.ensures.bound parts x within c.index-list-at.is other
