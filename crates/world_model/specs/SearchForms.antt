-- How searches are spelled.
use Rattle.std.specs.Prelude.{ℕ, pos, Bool, true, false, not, ◌&&◌, nat_lt, List, [], ◌∷◌, ◌++◌, length, Option, Some, None, is_none, unwrap_or}
use Rattle.std.specs.Prelude.{codes, decimal}
use Rattle.std.specs.Fmt.{signed_decimal}
use Rattle.byte_text.specs.Names.{Bytes}
use Rattle.planar_geom.specs.Points.{pt}
use Rattle.planar_geom.specs.declared.shapes.Area.{Area}
use Rattle.planar_geom.specs.declared.shapes.Area.TheVariants.{Rect, Disc, Figure}
use Rattle.world_data.specs.Limits.{max_limit, max_tests, max_values}
use Rattle.world_model.specs.Grammar.{Form, ◌>>=◌, ◌>>◌, ◌or◌, done, one_of, where_, word, maybe, repeated, times}
use Rattle.world_model.specs.Kinds.{name, glob, value, between, meters, lat_lon, four, geojson, bound, text, again}
use Rattle.world_data.specs.declared.filters.Test.{Test}
use Rattle.world_data.specs.declared.filters.Test.TheVariants.{Range, Same, Among}
use Rattle.world_data.specs.declared.channels.Kind.{Kind}
use Rattle.world_data.specs.declared.channels.Kind.TheVariants.{Within, Intersects}
use Rattle.world_data.specs.declared.queries.Shown.{Shown}
use Rattle.world_data.specs.declared.queries.Shown.TheVariants as shown
use Rattle.world_data.specs.declared.queries.Rule.{Rule}
use Rattle.world_data.specs.declared.queries.Rule.TheVariants.{All, Descending, InArea, Nearest}
use Rattle.world_data.specs.declared.queries.Query.{Query}
use Rattle.world_model.specs.declared.search_commands.AreaWords.{AreaWords}
use Rattle.world_model.specs.declared.search_commands.AreaWords.TheVariants.{Given, Of}
use Rattle.world_model.specs.declared.commands.Command.{Command}
use Rattle.world_model.specs.declared.commands.Command.TheVariants as command
use Rattle.world_model.specs.declared.search_commands.SearchCommand.TheVariants as of_search
use Rattle.world_model.specs.Rows.{Row, row}

-- tests

-- between two bounds, or the same text twice
abbrev pub where_range : Bytes → Form Test
where_range field_name = do
  low ← bound
  high ← bound
  done (Range field_name low high)

abbrev pub where_same : Bytes → Form Test
where_same field_name = do
  t ← text
  again t
  done (Same field_name t)

abbrev pub where_test : Form Test
where_test = do
  word (codes "WHERE")
  field_name ← name
  where_range field_name or where_same field_name

abbrev pub wherein_test : Form Test
wherein_test = do
  word (codes "WHEREIN")
  field_name ← name
  count ← between 1 max_values
  values ← times count value
  done (Among field_name values)

abbrev pub test : Form Test
test = where_test or wherein_test

-- searches: what the options have said so far

pub record SearchOptions : Type 0 where
  pub glob : Option Bytes
  pub tests : List Test
  pub cursor : Option ℕ
  pub limit : Option ℕ
  pub bare : Bool
  pub down : Option Bool

abbrev pub no_search_options : SearchOptions
no_search_options = record { glob = None; tests = []; cursor = None; limit = None; bare = false; down = None }

abbrev pub search_option : Bool → SearchOptions → Form SearchOptions
search_option ordered so_far = one_of (
    where_ (is_none so_far.glob) (word (codes "MATCH") >> glob >>= λ pattern. done (record so_far { glob = Some pattern })) ∷
    where_ (is_none so_far.cursor) (word (codes "CURSOR") >> between 0 4294967295 >>= λ n. done (record so_far { cursor = Some n })) ∷
    where_ (is_none so_far.limit) (word (codes "LIMIT") >> between 1 max_limit >>= λ n. done (record so_far { limit = Some n })) ∷
    where_ (not so_far.bare) (word (codes "NOFIELDS") >> done (record so_far { bare = true })) ∷
    where_ (ordered && is_none so_far.down) (word (codes "ASC") >> done (record so_far { down = Some false })) ∷
    where_ (ordered && is_none so_far.down) (word (codes "DESC") >> done (record so_far { down = Some true })) ∷
    where_ (nat_lt (length so_far.tests) max_tests) (test >>= λ t. done (record so_far { tests = so_far.tests ++ t ∷ [] })) ∷ [])

abbrev pub output : Form Shown
output = one_of ((word (codes "COUNT") >> done shown.Count) ∷ (word (codes "IDS") >> done shown.Ids) ∷
    (word (codes "OBJECTS") >> done shown.Objects) ∷ (word (codes "POINTS") >> done shown.Points) ∷ (word (codes "BOUNDS") >> done shown.Bounds) ∷ [])

abbrev pub query_of : SearchOptions → Shown → Rule → Query
query_of options how rule = record {
  rule = rule;
  glob = options.glob;
  tests = options.tests;
  cursor = unwrap_or options.cursor 0;
  limit = unwrap_or options.limit 100;
  bare = options.bare;
  shown = how;
}

abbrev pub scan_rule : Option Bool → Rule
scan_rule (Some true) = Descending
scan_rule o = All

abbrev pub scan_words : Form Command
scan_words = do
  key ← name
  options ← repeated (search_option true) no_search_options
  how ← maybe shown.Objects output
  done (command.Search (of_search.Scan key (query_of options how (scan_rule options.down))))

-- an area: where it is from, the area itself or what holds its place, and its normal words
pub record AreaRead : Type 0 where
  pub from : AreaWords
  pub area : Area
  pub words : List Bytes

abbrev pub given_area : Area → List Bytes → AreaRead
given_area a words = record { from = Given a; area = a; words = words }

abbrev pub nowhere : Area
nowhere = Rect (record { min = pt (pos 0) (pos 0); max = pt (pos 0) (pos 0) })

abbrev pub area : Form AreaRead
area = one_of (
    (word (codes "BOUNDS") >> four >>= λ b.
    done (given_area (Rect b) (codes "BOUNDS" ∷ signed_decimal b.min.y ∷ signed_decimal b.min.x ∷ signed_decimal b.max.y ∷ signed_decimal b.max.x ∷
    []))) ∷
    (word (codes "OBJECT") >> geojson >>= λ t. done (given_area (Figure t.1) (codes "OBJECT" ∷ t.0 ∷ []))) ∷
    (word (codes "CIRCLE") >> lat_lon >>= λ p. meters >>= λ r.
    done (given_area (Disc p r) (codes "CIRCLE" ∷ signed_decimal p.y ∷ signed_decimal p.x ∷ decimal r ∷ []))) ∷
    (word (codes "GET") >> name >>= λ key. name >>= λ id. done (record { from = Of key id; area = nowhere; words = [] })) ∷ [])

abbrev pub area_words : Kind → Form Command
area_words kind = do
  key ← name
  options ← repeated (search_option false) no_search_options
  how ← maybe shown.Objects output
  a ← area
  done (command.Search (of_search.Area key (query_of options how (InArea kind a.area)) a.from))

abbrev pub nearby_words : Form Command
nearby_words = do
  key ← name
  options ← repeated (search_option false) no_search_options
  how ← maybe shown.Objects output
  word (codes "POINT")
  at ← lat_lon
  reach ← maybe None (meters >>= λ r. done (Some r))
  done (command.Search (of_search.Nearby key (query_of options how Nearest) at reach))

-- a row a command
abbrev pub search_rows : List Row
search_rows =
    row (codes "SCAN") scan_words ∷
    row (codes "WITHIN") (area_words Within) ∷
    row (codes "INTERSECTS") (area_words Intersects) ∷
    row (codes "NEARBY") nearby_words ∷ []
