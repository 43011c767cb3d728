-- The versions of a log: the least one that can say a change, and what words are the record of in a side of a version.
use Rattle.std.specs.Prelude.{◌≤◌, ℕ, Bool, true, false, nat_le, List, Option, Some, None, is_some, if◌then◌else◌}
use Rattle.std.specs.List.{list_any}
use Rattle.byte_text.specs.Names.{Bytes}
use Rattle.world_data.specs.Filters.{Field}
use Rattle.world_data.specs.declared.values.Value.{Value}
use Rattle.world_data.specs.declared.values.Value.TheVariants.{Whole, Word}
use Rattle.world_data.specs.declared.channels.Channel.{Channel}
use Rattle.world_data.specs.declared.filters.Test.{Test}
use Rattle.world_data.specs.declared.filters.Test.TheVariants.{Range, Same, Among}
use Rattle.world_data.specs.declared.worlds.Change.{Change}
use Rattle.world_data.specs.declared.worlds.Change.TheVariants.{Put, Del, Drop, Flush, SetChan, DelChan}
use Rattle.log_record.specs.Words.{change_of_words, IsRecorded}
pub use Rattle.log_sides.specs.Texts.{newest}

-- a value is a text
abbrev pub is_text : Value → Bool
is_text (Whole z) = false
is_text (Word w) = true

-- some field has a text
abbrev pub has_text : List Field → Bool
has_text fields = list_any (λ f. is_text f.1) fields

-- a test names a text
abbrev pub names_text : Test → Bool
names_text (Range name low high) = false
names_text (Same name text) = true
names_text (Among name values) = list_any is_text values

-- texts as values came with version 2
abbrev pub text_version : Bool → ℕ
text_version some = if some then 2 else 1

-- deadlines of channels came with version 3
abbrev pub setting_version : Channel → ℕ
setting_version c = if is_some c.deadline then 3 else text_version (list_any names_text c.fence.tests)

-- the least version that can say a change
unfoldable pub least_version : Change → ℕ
least_version (Put o) = text_version (has_text o.fields)
least_version (SetChan c) = setting_version c
least_version (Del key id) = 1
least_version (Drop key) = 1
least_version Flush = 1
least_version (DelChan name) = 1

-- of what words are the record of, what a version can say
abbrev pub in_version : ℕ → Option Change → Option Change
in_version version None = None
in_version version (Some c) = if nat_le (least_version c) version then Some c else None

-- the change that these words are the record of in a side of this version: that of the words, if the version can say it
unfoldable pub change_of_version : ℕ → List Bytes → Option Change
change_of_version version words = in_version version (change_of_words words)

-- the change has a record in this version, which fits a request
pub record IsRecordedIn (version : ℕ) (c : Change) : Type 0 where
  pub recorded : IsRecorded c
  pub said : least_version c ≤ version
