-- The table of the commands, which lists of words are the beginning of a spelling, and how others are refused.
use Rattle.std.specs.Prelude.{Bool, not, ◌&&◌, ◌==◌, nat_lt, List, [], ◌∷◌, ◌++◌, length, map, take, Option, Some, None, is_some, if◌then◌else◌}
use Rattle.std.specs.Prelude.{Result, Ok, Err}
use Rattle.std.specs.List.{list_any, list_all, before_first, after_first}
use Rattle.std.specs.Str.{str_to_ascii_lowercase}
use Rattle.byte_text.specs.Names.{Bytes}
use Rattle.geo_text.specs.Texts.{Shape, shape_of}
use Rattle.geo_text.specs.declared.faults.GeoFault.{GeoFault}
use Rattle.world_model.specs.Grammar.{Form, Reading, one_of, live, spelled, goes_on, wants_coordinate, wants_geojson}
use Rattle.byte_text.specs.Streams.{is_digit}
use Rattle.world_model.specs.declared.commands.Command.{Command}
use Rattle.world_model.specs.declared.faults.WordFault.{WordFault}
use Rattle.world_model.specs.declared.faults.WordFault.TheVariants as fault
pub use Rattle.world_model.specs.Rows.{Row, row, form_of, of_key_and_id, of_one, of_some}
pub use Rattle.world_model.specs.ObjectForms.{SetOptions, field, set_option, place, nonzero_of, cleared_of, set_words, as_objects, get_words}
pub use Rattle.world_model.specs.ObjectForms.{pdel_words, fset_words, fget_words, expire_words, object_rows}
pub use Rattle.world_model.specs.SearchForms.{where_range, where_same, where_test, wherein_test, test, SearchOptions, no_search_options}
pub use Rattle.world_model.specs.SearchForms.{search_option, output, query_of}
pub use Rattle.world_model.specs.SearchForms.{scan_rule, scan_words, AreaRead, given_area, nowhere, area, area_words, nearby_words, search_rows}
pub use Rattle.world_model.specs.ChannelForms.{FenceOptions, no_fence_options, detect_names, command_names, fence_option, wants, wanted_of}
pub use Rattle.world_model.specs.ChannelForms.{bound_word, test_words, glob_words, list_words, option_words, Called, setting, setchan_area, near_area}
pub use Rattle.world_model.specs.ChannelForms.{setchan_near, setchan_kinds, after_ex_words, setchan_words, channel_rows}
pub use Rattle.world_model.specs.SessionForms.{session_rows}

-- every command, by family
abbrev pub command_rows : List Row
command_rows = object_rows ++ search_rows ++ channel_rows ++ session_rows

abbrev pub command_table : Form Command
command_table = one_of (map form_of command_rows)

-- what a list of words spells, and what is due behind it; nothing where it is a prefix of no spelling
unfoldable pub readings : List Bytes → List (Reading Command)
readings words = live (command_table words)

-- the words are a spelling of a command
abbrev pub command_spelled : List Bytes → Option Command
command_spelled words = spelled (readings words)

-- the words are a prefix of a spelling
abbrev pub is_open : List Bytes → Bool
is_open words = nat_lt 0 (length (readings words))

-- refusals

-- the first word such that the words up to and with it are not open, and the words before it
pub record Stop : Type 0 where
  pub earlier : List Bytes
  pub at : Bytes

abbrev pub stop_behind : List Bytes → List Bytes → Option Stop
stop_behind read [] = None
stop_behind read (w ∷ words) = if is_open (read ++ w ∷ []) then stop_behind (read ++ w ∷ []) words else Some (record { earlier = read; at = w })

-- an optional `-`, digits, `.`, digits, at least one digit each
abbrev pub without_minus : Bytes → Bytes
without_minus [] = []
without_minus (b ∷ bs) = if b == 45 then bs else b ∷ bs

abbrev pub are_digits : Bytes → Bool
are_digits bytes = nat_lt 0 (length bytes) && list_all is_digit bytes

abbrev pub is_fraction : Bytes → Bool
is_fraction w = let n = without_minus w in are_digits (before_first (λ b. b == 46) n) && are_digits (after_first (λ b. b == 46) n)

abbrev pub first_word : List Bytes → Bytes
first_word [] = []
first_word (w ∷ words) = w

-- what a refusal shows of a word
abbrev pub shown_of : Bytes → Bytes
shown_of w = take 64 w

abbrev pub wrong_count : List Bytes → WordFault
wrong_count words = fault.WrongCount (str_to_ascii_lowercase (first_word words))

abbrev pub geo_fault_of : Bytes → Result Shape GeoFault → WordFault
geo_fault_of w (Ok shape) = fault.Invalid (shown_of w)
geo_fault_of w (Err f) = fault.Geo f

-- the fault at the word w behind the words read, by their readings
abbrev pub fault_at : List Bytes → Bytes → List (Reading Command) → WordFault
fault_at [] w found = fault.Unknown (shown_of w)
fault_at (first ∷ read) w found =
    if is_some (spelled found) && not (list_any goes_on found) then wrong_count (first ∷ read) else
    if list_any wants_coordinate found && is_fraction w then fault.Fraction (shown_of w) else
    if list_any wants_geojson found then geo_fault_of w (shape_of w) else
    fault.Invalid (shown_of w)

abbrev pub fault_of : List Bytes → Option Stop → WordFault
fault_of words None = wrong_count words
fault_of words (Some stop) = fault_at stop.earlier stop.at (readings stop.earlier)

abbrev pub ok_or_fault : List Bytes → Option Command → Result Command WordFault
ok_or_fault words (Some c) = Ok c
ok_or_fault words None = Err (fault_of words (stop_behind [] words))

-- the command that the words spell, or how they are refused
abbrev pub reads : List Bytes → Result Command WordFault
reads words = ok_or_fault words (command_spelled words)
