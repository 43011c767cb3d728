-- What a search keeps to.
use Rattle.std.specs.Prelude.{◌≡◌, true}
use Rattle.byte_text.specs.Globs.{is_sound_glob}
use Rattle.world_model.specs.declared.search_commands.SearchCommand.{SearchCommand}
use Rattle.world_model.specs.declared.search_commands.SearchCommand.TheVariants as of_search

-- a pattern is well formed
abbrev pub IsAsked : SearchCommand → Type 0
IsAsked (of_search.Scan key q) = is_sound_glob q.glob ≡ true
IsAsked (of_search.Area key q from) = is_sound_glob q.glob ≡ true
IsAsked (of_search.Nearby key q at reach) = is_sound_glob q.glob ≡ true
