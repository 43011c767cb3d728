use Rattle.std.proofs.Common.{◌≡◌, length, take}
use Rattle.std.specs.Prelude.{filter}
use Rattle.planar_geom.specs.Relations.{area_box}
use Rattle.fence_model.specs.Queries.{meets_query, page_ids}
use Rattle.collection.specs.Meeting.{meets_box}
use Rattle.search_query.proofs.pages.list_met.Given as goal

-- what is found among the first objects whose box meets the area's
abbrev pub invariant-loop-i : goal.invariant-loop-i
invariant-loop-i g l = record {
  count : l.found ≡ length (filter (meets_query l.query) (take l.i (filter (meets_box (area_box l.area)) l.collection.objects)));
  ids : l.ids ≡ page_ids l.query (filter (meets_query l.query) (take l.i (filter (meets_box (area_box l.area)) l.collection.objects)));
}
