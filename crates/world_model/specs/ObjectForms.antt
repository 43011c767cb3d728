-- How the commands on objects are spelled.
use Rattle.std.specs.Prelude.{ℕ, true, false, not, List, [], ◌∷◌, ◌++◌, map, filter, Option, Some, None, is_none, unwrap_or, codes}
use Rattle.byte_text.specs.Names.{Bytes}
use Rattle.planar_geom.specs.declared.shapes.Part.TheVariants.{Spot, Face}
use Rattle.geo_text.specs.Texts.{Shape, point_text, bounds_text, corners}
use Rattle.world_data.specs.Filters.{Field, last_values, is_absent}
use Rattle.world_model.specs.Grammar.{Form, ◌>>=◌, ◌>>◌, done, one_of, where_, word, maybe, repeated, once_or_more}
use Rattle.world_model.specs.Kinds.{name, glob, value, seconds, lat_lon, four, geojson}
use Rattle.world_data.specs.declared.queries.Shown.{Shown}
use Rattle.world_data.specs.declared.queries.Shown.TheVariants as shown
use Rattle.world_model.specs.declared.object_commands.Only.{Only}
use Rattle.world_model.specs.declared.object_commands.Only.TheVariants.{Any, Absent, Present}
use Rattle.world_model.specs.declared.commands.Command.{Command}
use Rattle.world_model.specs.declared.commands.Command.TheVariants as command
use Rattle.world_model.specs.declared.object_commands.ObjectCommand.TheVariants as of_object
use Rattle.world_model.specs.Rows.{Row, row, of_key_and_id, of_one, of_some}

-- SET: what its options have said so far

pub record SetOptions : Type 0 where
  pub given : List Field
  pub after_ex : Option ℕ
  pub only : Option Only

abbrev pub field : Form Field
field = do
  field_name ← name
  v ← value
  done (field_name, v)

abbrev pub set_option : SetOptions → Form SetOptions
set_option so_far = one_of (
    (word (codes "FIELD") >> field >>= λ f. done (record so_far { given = so_far.given ++ f ∷ [] })) ∷
    where_ (is_none so_far.after_ex) (word (codes "EX") >> seconds >>= λ s. done (record so_far { after_ex = Some s })) ∷
    where_ (is_none so_far.only) (word (codes "NX") >> done (record so_far { only = Some Absent })) ∷
    where_ (is_none so_far.only) (word (codes "XX") >> done (record so_far { only = Some Present })) ∷ [])

-- a place: the text that is stored, and its shape
abbrev pub place : Form (Bytes × Shape)
place = one_of (
    (word (codes "POINT") >> lat_lon >>= λ p. done (point_text p, Spot p ∷ [])) ∷
    (word (codes "BOUNDS") >> four >>= λ b. done (bounds_text b, Face (corners b ∷ []) ∷ [])) ∷
    (word (codes "OBJECT") >> geojson) ∷ [])

-- the values that are not 0, and the names whose value is 0; of each name the last value counts
abbrev pub nonzero_of : List Field → List Field
nonzero_of given = filter (λ f. not (is_absent f)) (last_values [] given)

abbrev pub cleared_of : List Field → List Bytes
cleared_of given = map (λ f. f.0) (filter is_absent (last_values [] given))

abbrev pub set_words : Form Command
set_words = do
  key ← name
  id ← name
  options ← repeated set_option (record { given = []; after_ex = None; only = None })
  at ← place
  done (command.Object (of_object.Set key id (nonzero_of options.given) (cleared_of options.given) options.after_ex
      (unwrap_or options.only Any) at.0 at.1))

-- GET

abbrev pub as_objects : Form Shown
as_objects = one_of ((word (codes "OBJECT") >> done shown.Objects) ∷ (word (codes "POINT") >> done shown.Points) ∷
    (word (codes "BOUNDS") >> done shown.Bounds) ∷ [])

abbrev pub get_words : Form Command
get_words = do
  key ← name
  id ← name
  with_fields ← maybe false (word (codes "WITHFIELDS") >> done true)
  how ← maybe shown.Objects as_objects
  done (command.Object (of_object.Get key id with_fields how))

abbrev pub pdel_words : Form Command
pdel_words = do
  key ← name
  pattern ← glob
  done (command.Object (of_object.Pdel key pattern))

abbrev pub fset_words : Form Command
fset_words = do
  key ← name
  id ← name
  given ← once_or_more (λ read. field >>= λ f. done (read ++ f ∷ [])) []
  done (command.Object (of_object.Fset key id (nonzero_of given) (cleared_of given)))

abbrev pub fget_words : Form Command
fget_words = do
  key ← name
  id ← name
  field_name ← name
  done (command.Object (of_object.Fget key id field_name))

abbrev pub expire_words : Form Command
expire_words = do
  key ← name
  id ← name
  s ← seconds
  done (command.Object (of_object.Expire key id s))

-- a row a command
abbrev pub object_rows : List Row
object_rows =
    row (codes "SET") set_words ∷
    row (codes "GET") get_words ∷
    row (codes "DEL") (of_key_and_id (λ key id. command.Object (of_object.Del key id))) ∷
    row (codes "PDEL") pdel_words ∷
    row (codes "DROP") (of_one name (λ key. command.Object (of_object.Drop key))) ∷
    row (codes "FSET") fset_words ∷
    row (codes "FGET") fget_words ∷
    row (codes "EXPIRE") expire_words ∷
    row (codes "PERSIST") (of_key_and_id (λ key id. command.Object (of_object.Persist key id))) ∷
    row (codes "TTL") (of_key_and_id (λ key id. command.Object (of_object.Ttl key id))) ∷
    row (codes "KEYS") (of_one glob (λ pattern. command.Object (of_object.Keys pattern))) ∷
    row (codes "BOUNDS") (of_one name (λ key. command.Object (of_object.Bounds key))) ∷
    row (codes "STATS") (of_some name (λ keys. command.Object (of_object.Stats keys))) ∷
    row (codes "FLUSHDB") (done (command.Object of_object.Flush)) ∷
    row (codes "AOFSHRINK") (done (command.Object of_object.Shrink)) ∷ []
