-- A rewriting: the world that the new side holds is a part of the world that is committed, and comes to be all of it.
use Rattle.std.specs.Prelude.{◌≡◌, Bool, true, false, ◌||◌, List, ◌∷◌, ◌++◌, filter}
use Rattle.std.specs.List.{list_all}
use Rattle.ordered_lists.specs.Lists.{ties}
use Rattle.world_data.specs.Worlds.{object_before, channel_before, is_sorted_world, empty_world, after}
use Rattle.world_data.specs.declared.worlds.Change.{Change}
use Rattle.world_data.specs.declared.worlds.Change.TheVariants.{Put, SetChan}
use Rattle.world_data.specs.declared.objects.Object.{Object}
use Rattle.world_data.specs.declared.channels.Channel.{Channel}
use Rattle.world_data.specs.declared.worlds.World.{World}

-- some of a list's items, all those among them that are copied already
pub record IsPicked {A : Type 0} (copied : A → Bool) (part all : List A) : Type 0 where
  pub picked : A → Bool
  pub part_is : part ≡ filter picked all
  pub enough : (x : A) → copied x ≡ true → picked x ≡ true

-- a part of a world, with all that is copied already
pub record IsPart (copied : Object → Bool) (copied_channels : Channel → Bool) (part all : World) : Type 0 where
  pub objects : IsPicked copied part.objects all.objects
  pub channels : IsPicked copied_channels part.channels all.channels

-- an item stands in a list
pub record StandsIn {A : Type 0} (x : A) (xs : List A) : Type 0 where
  pub earlier : List A
  pub later : List A
  pub list_is : xs ≡ earlier ++ x ∷ later

-- the four laws of a rewriting: the new side begins with nothing; each batch is done to both; each item that is copied adds
-- itself; and when all are copied the new side is the world
pub record PartsGrow : Type 0 where
  pub begin : (all : World) → IsPart (λ o. false) (λ c. false) empty_world all
  pub follow : (copied : Object → Bool) (copied_channels : Channel → Bool) (part all : World) (c : Change) → is_sorted_world all ≡ true
      → IsPart copied copied_channels part all → IsPart copied copied_channels (after part c) (after all c)
  pub object : (copied : Object → Bool) (copied_channels : Channel → Bool) (part all : World) (o : Object) → is_sorted_world all ≡ true
      → StandsIn o all.objects → IsPart copied copied_channels part all
      → IsPart (λ p. ties object_before p o || copied p) copied_channels (after part (Put o)) all
  pub channel : (copied : Object → Bool) (copied_channels : Channel → Bool) (part all : World) (c : Channel) → is_sorted_world all ≡ true
      → StandsIn c all.channels → IsPart copied copied_channels part all
      → IsPart copied (λ d. ties channel_before d c || copied_channels d) (after part (SetChan c)) all
  pub end : (copied : Object → Bool) (copied_channels : Channel → Bool) (part all : World) → list_all copied all.objects ≡ true
      → list_all copied_channels all.channels ≡ true → IsPart copied copied_channels part all → part ≡ all
