use Rattle.std.proofs.Common.{◌≡◌, true, take}
use Rattle.std.specs.List.{list_all}
use Rattle.world_data.specs.Worlds.{object_before}
use Rattle.world_data.proofs.objects.place_of.Given as goal

abbrev pub invariant-loop-at : goal.invariant-loop-at
invariant-loop-at l = list_all (λ o. object_before o l.object) (take l.at l.list) ≡ true
