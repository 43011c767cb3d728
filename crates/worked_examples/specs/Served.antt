-- The machine as it is served so far: what its own step does.
use Rattle.std.specs.Prelude.{◌≡◌, [], ◌∷◌, List, codes, map}
use Prim.Native.String.{String}
use Rattle.byte_text.specs.Names.{Bytes}
use Rattle.world_data.specs.Worlds.{empty_world}
use Rattle.world_model.specs.Halls.{Hall, session_of}
use Rattle.world_model.specs.Histories.{doing, opening_hall}
use Rattle.world_model.specs.declared.events.Event.{Event}
use Rattle.world_model.specs.declared.events.Event.TheVariants.{Enter}
use Rattle.worked_examples.specs.Runs.{asks, frames_in}

abbrev does : Hall → List Event → Hall
does h [] = h
does h (e ∷ events) = does (doing h e).1 events

-- the frames that one session is given for its requests
abbrev answers : List String → List Bytes
answers lines = frames_in (session_of (does (opening_hall empty_world 17) (Enter ∷ map (asks 1 0) lines)) 1)

pub record HoldsServed : Type 0 where
  pub first_path : answers ("set fleet truck1 Point 33 112" ∷ "GET fleet truck1" ∷ "GET fleet none" ∷ [])
      ≡ codes "+OK\r\n" ∷ codes "$39\r\n{\"type\":\"Point\",\"coordinates\":[112,33]}\r\n" ∷ codes "$-1\r\n" ∷ []
