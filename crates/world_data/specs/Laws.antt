-- Laws of worlds.
use Rattle.std.specs.Prelude.{◌≡◌, true}
use Rattle.world_data.specs.Worlds.{is_sorted_world, after}
use Rattle.world_data.specs.Sound.{IsSoundWorld, IsSoundChange}
use Rattle.world_data.specs.declared.worlds.World.{World}
use Rattle.world_data.specs.declared.worlds.Change.{Change}

-- a change keeps a world sorted
abbrev pub ChangesKeepOrder : Type 0
ChangesKeepOrder = (w : World) (c : Change) → is_sorted_world w ≡ true → is_sorted_world (after w c) ≡ true

-- a change that brings what is sound keeps a world sound
abbrev pub ChangesKeepSoundness : Type 0
ChangesKeepSoundness = (w : World) (c : Change) → IsSoundWorld w → IsSoundChange c → IsSoundWorld (after w c)
