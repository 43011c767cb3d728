-- Writes: changes of a world that raise messages, and changes that raise none.
use Rattle.std.specs.Prelude.{ℕ, Bool, true, false, List, map}
use Rattle.world_data.specs.declared.objects.Object.{Object}
use Rattle.world_data.specs.declared.worlds.Change.{Change}
use Rattle.world_data.specs.declared.worlds.Change.TheVariants.{Put, Del, Drop, Flush, SetChan, DelChan}
use Rattle.world_data.specs.declared.worlds.World.{World}
use Rattle.world_data.specs.Expiry.{expired}

-- a change, and whether it raises messages
pub record Write : Type 0 where
  pub change : Change
  pub announced : Bool

-- a change that raises messages: the put of SET, every del, every drop
abbrev pub announced : Change → Write
announced c = record { change = c; announced = true }

-- a change that raises none: the puts of FSET, EXPIRE and PERSIST, the flush, and changes of channels
abbrev pub silent : Change → Write
silent c = record { change = c; announced = false }

-- these objects deleted, one change each
abbrev pub dels : List Object → List Write
dels objects = map (λ o. announced (Del o.key o.id)) objects

-- what goes by its deadline: the del of an object raises messages, the deletion of a channel none
abbrev pub going : Change → Write
going (Del key id) = announced (Del key id)
going (Put o) = silent (Put o)
going (Drop key) = silent (Drop key)
going Flush = silent Flush
going (SetChan c) = silent (SetChan c)
going (DelChan name) = silent (DelChan name)

-- the writes of all that is due at a moment, in order
abbrev pub due_writes : World → ℕ → List Write
due_writes w now = map going (expired w now)
