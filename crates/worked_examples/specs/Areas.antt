-- Searches by an area with a hole.
use Rattle.std.specs.Prelude.{◌≡◌, [], ◌∷◌, ◌++◌, List, codes, map}
use Prim.Native.String.{String}
use Rattle.byte_text.specs.Names.{Bytes}
use Rattle.world_model.specs.declared.events.Event.{Event}
use Rattle.world_model.specs.declared.events.Event.TheVariants.{Call}
use Rattle.world_model.specs.declared.events.Asked.TheVariants.{Words}
use Rattle.worked_examples.specs.Commands.{line}
use Rattle.worked_examples.specs.Runs.{waiting, asks}

-- the square of side 10 with a hole from 4 to 6
abbrev holed : Bytes
holed = codes "{\"type\":\"Polygon\",\"coordinates\":[[[0,0],[10,0],[10,10],[0,10],[0,0]],[[4,4],[6,4],[6,6],[4,6],[4,4]]]}"

-- a request whose last word is that area
abbrev over_holed : String → Event
over_holed s = Call 1 0 (Words (line s ++ holed ∷ []))

-- an edge, a vertex, the hole, the hole's edge, and inside
abbrev five_points : List Event
five_points = map (asks 1 0) ("SET p a POINT 0 5" ∷ "SET p b POINT 0 0" ∷ "SET p c POINT 5 5" ∷ "SET p d POINT 5 4" ∷ "SET p e POINT 2 2" ∷ [])

abbrev fine : Bytes
fine = codes "+OK\r\n"

pub record HoldsAreas : Type 0 where
  pub edges_are_in : waiting 1 (five_points ++ over_holed "INTERSECTS p IDS OBJECT" ∷ [])
      ≡ fine ∷ fine ∷ fine ∷ fine ∷ fine ∷ codes "*2\r\n:0\r\n*4\r\n$1\r\na\r\n$1\r\nb\r\n$1\r\nd\r\n$1\r\ne\r\n" ∷ []
  -- the figure itself is within it, a box that goes round the hole is not
  pub round_the_hole : waiting 1 (over_holed "SET q h OBJECT" ∷ asks 1 0 "SET q r BOUNDS 3 3 7 7" ∷ over_holed "WITHIN q IDS OBJECT" ∷
      asks 1 0 "WITHIN q COUNT BOUNDS 0 0 10 10" ∷ [])
      ≡ fine ∷ fine ∷ codes "*2\r\n:0\r\n*1\r\n$1\r\nh\r\n" ∷ codes ":2\r\n" ∷ []
