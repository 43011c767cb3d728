use Rattle.std.proofs.Common.{◌≡◌, length}
use Rattle.std.specs.Prelude.{filter}
use Rattle.fence_model.specs.Queries.{distance, page_ids}
use Rattle.collection.specs.Nearing.{is_farther}
use Rattle.search_query.specs.Found.{found_so_far}
use Rattle.search_query.proofs.near_pages.list_nearest.Given as goal

-- what was given so far is found
abbrev pub invariant-loop-nearest : goal.invariant-loop-nearest
invariant-loop-nearest g l = record {
  objects : l.walk.objects ≡ l.collection.objects;
  from : l.walk.from ≡ l.fn.at;
  count : l.found ≡ length (found_so_far l.query l.fn.at l.reach l.walk.given l.collection.objects);
  ids : l.ids ≡ page_ids l.query (found_so_far l.query l.fn.at l.reach l.walk.given l.collection.objects);
}

-- fewer are left each time
abbrev pub decreases-loop-nearest : goal.decreases-loop-nearest
decreases-loop-nearest g l = length (filter (λ o. is_farther l.walk.given (distance l.fn.at o)) l.collection.objects)
