-- Folding: the world after changes, one behind another.
use Rattle.std.specs.Prelude.{List, [], ◌∷◌}
use Rattle.world_data.specs.Worlds.{after}
use Rattle.world_data.specs.declared.worlds.World.{World}
use Rattle.world_data.specs.declared.worlds.Change.{Change}

-- the world with each of the changes done, in order
abbrev pub folded : World → List Change → World
folded w [] = w
folded w (c ∷ changes) = folded (after w c) changes
