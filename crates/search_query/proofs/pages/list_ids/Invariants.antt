use Rattle.std.proofs.Common.{◌≡◌, length, take}
use Rattle.std.specs.Prelude.{filter}
use Rattle.fence_model.specs.Queries.{in_order, meets_query, page_ids}
use Rattle.search_query.proofs.pages.list_ids.Given as goal

-- what is found among the first objects in the order of the rule
abbrev pub invariant-loop-i : goal.invariant-loop-i
invariant-loop-i l = record {
  count : l.found ≡ length (filter (meets_query l.query) (take l.i (in_order l.query.rule l.collection.objects)));
  ids : l.ids ≡ page_ids l.query (filter (meets_query l.query) (take l.i (in_order l.query.rule l.collection.objects)));
}
