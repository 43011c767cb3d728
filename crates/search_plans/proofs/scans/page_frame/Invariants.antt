use Rattle.std.proofs.Common.{map, take}
use Rattle.world_model.specs.Replies.{item_reply}
use Rattle.search_plans.specs.Pages.{objects_of_ids}
use Rattle.object_plans.specs.Listings.{AreItems}
use Rattle.search_plans.proofs.scans.page_frame.Given as goal

-- the items are those of the first ids of the page
abbrev pub invariant-loop-i : goal.invariant-loop-i
invariant-loop-i l = AreItems (map (item_reply l.query) (objects_of_ids l.objects.objects (take l.i l.page.ids))) l.items
