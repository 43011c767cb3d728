use Rattle.std.proofs.Common.{◌≡◌, true, take}
use Rattle.std.specs.List.{list_all}
use Rattle.world_data.specs.Worlds.{channel_before}
use Rattle.world_data.proofs.channels.place_of.Given as goal

abbrev pub invariant-loop-at : goal.invariant-loop-at
invariant-loop-at l = list_all (λ o. channel_before o l.channel) (take l.at l.list) ≡ true
