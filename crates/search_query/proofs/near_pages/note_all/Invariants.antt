use Rattle.std.proofs.Common.{◌≡◌, ◌++◌, List, length, take}
use Rattle.std.specs.Prelude.{filter}
use Rattle.world_data.specs.declared.objects.Object.{Object}
use Rattle.fence_model.specs.Queries.{meets_query, page_ids}
use Rattle.search_query.proofs.near_pages.note_all.Given as goal

-- what is found among the first of these objects stands behind what was found before
abbrev pub invariant-loop-i : goal.invariant-loop-i
invariant-loop-i l = record {
  count : (seen : List Object) → l.found ≡ length seen → l.all ≡ length (seen ++ filter (meets_query l.query) (take l.i l.objects));
  ids : (seen : List Object) → l.found ≡ length seen → l.initial.ids ≡ page_ids l.query seen
      → l.ids ≡ page_ids l.query (seen ++ filter (meets_query l.query) (take l.i l.objects));
}
