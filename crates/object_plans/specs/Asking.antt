-- What a command on objects keeps to.
use Rattle.std.specs.Prelude.{◌≡◌, ◌≢◌, true, Ok}
use Rattle.byte_text.specs.Globs.{is_well_formed}
use Rattle.geo_text.specs.Texts.{shape_of}
use Rattle.world_data.specs.declared.queries.Shown.TheVariants as shown
use Rattle.world_model.specs.declared.object_commands.ObjectCommand.{ObjectCommand}
use Rattle.world_model.specs.declared.object_commands.ObjectCommand.TheVariants as of_object

-- a text has its shape, an object is not shown as a number of objects, and patterns are well formed
abbrev pub IsAsked : ObjectCommand → Type 0
IsAsked (of_object.Set key id fields cleared seconds only text shape) = shape_of text ≡ Ok shape
IsAsked (of_object.Get key id with_fields how) = how ≢ shown.Count
IsAsked (of_object.Pdel key pattern) = is_well_formed pattern ≡ true
IsAsked (of_object.Keys pattern) = is_well_formed pattern ≡ true
IsAsked c = Unit {0}
