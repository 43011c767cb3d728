-- Worked examples of commands and refusals, each proved by computing.
use Rattle.std.specs.Prelude.{◌≡◌, pos, false, List, [], ◌∷◌, codes, None, Ok, Err, ◌==◌, if◌then◌else◌}
use Prim.Native.String.{String}
use Rattle.byte_text.specs.Names.{Bytes}
use Rattle.planar_geom.specs.Points.{pt}
use Rattle.planar_geom.specs.declared.shapes.Area.TheVariants.{Rect}
use Rattle.planar_geom.specs.declared.shapes.Part.TheVariants.{Spot}
use Rattle.geo_text.specs.Texts.{joins_first}
use Rattle.world_model.specs.Commands.{reads}
use Rattle.world_model.specs.declared.commands.Command.TheVariants as command
use Rattle.world_model.specs.declared.object_commands.ObjectCommand.TheVariants as of_object
use Rattle.world_model.specs.declared.search_commands.SearchCommand.TheVariants as of_search
use Rattle.world_model.specs.declared.faults.WordFault.{WordFault}
use Rattle.world_model.specs.declared.faults.WordFault.TheVariants as fault
use Rattle.world_model.specs.declared.object_commands.Only.TheVariants.{Any}
use Rattle.world_model.specs.declared.search_commands.AreaWords.TheVariants.{Given}
use Rattle.world_data.specs.declared.values.Value.TheVariants.{Whole, Word}
use Rattle.world_data.specs.declared.queries.Shown.TheVariants as shown
use Rattle.world_data.specs.declared.queries.Rule.TheVariants.{InArea}
use Rattle.world_data.specs.declared.channels.Kind.TheVariants.{Within}

abbrev pub split_spaces : Bytes → List Bytes
split_spaces [] = [] ∷ []
split_spaces (b ∷ bs) = if b == 32 then [] ∷ split_spaces bs else joins_first b (split_spaces bs)

-- the words of a line
abbrev pub line : String → List Bytes
line s = split_spaces (codes s)

abbrev Refused : String → WordFault → Type 0
Refused s f = reads (line s) ≡ Err f

pub record HoldsCommands : Type 0 where
  pub set : reads (line "SET k a POINT 1 2") ≡ Ok
      (command.Object (of_object.Set (codes "k") (codes "a") [] [] None Any (codes "{\"type\":\"Point\",\"coordinates\":[2,1]}")
      (Spot (pt (pos 2) (pos 1)) ∷ [])))
  pub fields : reads (line "SET k a field z 1 FIELD b 2 NX") ≡ Err (fault.WrongCount (codes "set"))
  pub fset : reads (line "FSET k a z 1 b 2 z 0")
      ≡ Ok (command.Object (of_object.Fset (codes "k") (codes "a") ((codes "b", Whole (pos 2)) ∷ []) (codes "z" ∷ [])))
  pub unfinished : Refused "FSET k a z 1 b" (fault.WrongCount (codes "fset"))
  pub too_far : Refused "SET far b POINT 1000000001 0" (fault.Invalid (codes "1000000001"))
  pub fraction : Refused "SET fleet t POINT 33.5123 -112.2693" (fault.Fraction (codes "33.5123"))
  pub unknown : Refused "HELLO x" (fault.Unknown (codes "HELLO"))
  pub no_more : Refused "PING x" (fault.WrongCount (codes "ping"))
  pub half : Refused "WITHIN k BOUNDS" (fault.WrongCount (codes "within"))
  pub both_bounds : reads (line "WITHIN k BOUNDS BOUNDS 0 0 1 1") ≡ Ok (command.Search (of_search.Area (codes "k")
      (record {
        rule = InArea Within (Rect (record { min = pt (pos 0) (pos 0); max = pt (pos 1) (pos 1) }));
        glob = None;
        tests = [];
        cursor = 0;
        limit = 100;
        bare = false;
        shown = shown.Bounds;
      })
      (Given (Rect (record { min = pt (pos 0) (pos 0); max = pt (pos 1) (pos 1) })))))
  pub over : Refused "SET k a BOUNDS 5 5 9 4" (fault.Invalid (codes "4"))
  pub dwell_spot : Refused "SETCHAN r NEARBY k FENCE NODWELL POINT 0 0 5" (fault.Invalid (codes "POINT"))
  pub dwell_within : Refused "SETCHAN r WITHIN k FENCE NODWELL" (fault.Invalid (codes "NODWELL"))
  pub detect_roam : Refused "SETCHAN r NEARBY k FENCE DETECT enter ROAM k * 5" (fault.Invalid (codes "ROAM"))
  pub later_of_two : Refused "SETCHAN r NEARBY k FENCE NODWELL DETECT enter" (fault.Invalid (codes "DETECT"))
  pub no_fence : Refused "SETCHAN r WITHIN k CIRCLE 0 0 5" (fault.Invalid (codes "CIRCLE"))
  pub list_word : Refused "SETCHAN r WITHIN k DETECT enter,,exit" (fault.Invalid (codes "enter,,exit"))
  pub twice : Refused "SCAN k LIMIT 5 LIMIT 6" (fault.Invalid (codes "LIMIT"))
  pub behind_output : Refused "SCAN k IDS LIMIT 6" (fault.WrongCount (codes "scan"))
  -- values of fields are numbers or texts
  pub texts : reads (line "FSET k a z 007 b idle z 0")
      ≡ Ok (command.Object (of_object.Fset (codes "k") (codes "a") ((codes "b", Word (codes "idle")) ∷ []) (codes "z" ∷ [])))
  pub bound_and_text : Refused "SCAN k WHERE f 5 idle COUNT" (fault.Invalid (codes "idle"))
  pub text_and_bound : Refused "SCAN k WHERE f idle 5 COUNT" (fault.Invalid (codes "5"))
  pub endless_and_text : Refused "SCAN k WHERE f inf idle COUNT" (fault.Invalid (codes "idle"))
  pub two_texts : Refused "SCAN k WHERE f idle busy COUNT" (fault.Invalid (codes "busy"))
  pub half_test : Refused "SCAN k WHERE f idle" (fault.WrongCount (codes "scan"))
  -- the seconds of a channel stand directly behind its name
  pub late_seconds : Refused "SETCHAN z WITHIN k EX 5 FENCE BOUNDS 0 0 1 1" (fault.Invalid (codes "EX"))
  pub seconds_twice : Refused "SETCHAN z EX 5 EX 5 WITHIN k FENCE BOUNDS 0 0 1 1" (fault.Invalid (codes "EX"))
  pub no_seconds : Refused "SETCHAN z EX 0 WITHIN k FENCE BOUNDS 0 0 1 1" (fault.Invalid (codes "0"))
  pub half_setting : Refused "SETCHAN z EX 5" (fault.WrongCount (codes "setchan"))
