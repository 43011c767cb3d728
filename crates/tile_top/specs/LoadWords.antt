-- The words of the command line that ask for the generated workload, as clap reads them.
use Rattle.std.specs.Prelude.{ℕ, ◌&&◌, nat_le, List, Option, Some, None, Result, Ok, Err, codes, if◌then◌else◌, option_and_then}
use Rattle.byte_text.specs.Names.{Bytes}
use Rattle.byte_text.specs.Numbers.{read_natural}
use Rattle.byte_text.specs.declared.texts.TextFault.{TextFault}
use Rattle.clap.specs.Simple.{App, new_app, with_rule}
use Rattle.clap.specs.Walk.{Row, first_of}
use Rattle.serve_run.specs.Options.{begins_with, needed_rule, rows_taken}
use Rattle.tile_top.specs.declared.workloads.LoadWords.{LoadWords}
use Rattle.tile_top.specs.declared.workloads.TheConstants.{MOST_COMMANDS}

-- `load N SEED`
unfoldable pub load_app : App
load_app = with_rule (with_rule (new_app (codes "load")) (needed_rule (codes "n"))) (needed_rule (codes "seed"))

-- at most so many commands are sent
abbrev pub most_commands : ℕ
most_commands = MOST_COMMANDS

-- a canonical number from 1 to the most
abbrev pub as_commands : Result ℕ TextFault → Option ℕ
as_commands (Ok n) = if nat_le 1 n && nat_le n most_commands then Some n else None
as_commands (Err f) = None

abbrev pub commands_of : Bytes → Option ℕ
commands_of word = as_commands (read_natural word)

-- any canonical number of 64 bits
abbrev pub as_seed : Result ℕ TextFault → Option ℕ
as_seed (Ok n) = Some n
as_seed (Err f) = None

abbrev pub seed_of : Bytes → Option ℕ
seed_of word = as_seed (read_natural word)

abbrev pub load_with : Option ℕ → Option ℕ → Option LoadWords
load_with (Some n) (Some seed) = Some (record { commands = n; seed = seed })
load_with (Some n) None = None
load_with None seed = None

-- what was found, where both words are there and name a number
abbrev pub load_in : List Row → Option LoadWords
load_in rows = option_and_then (λ n. option_and_then (λ seed. load_with (commands_of n) (seed_of seed)) (first_of (codes "seed") rows))
    (first_of (codes "n") rows)

-- what the words ask for, where they ask for the workload
abbrev pub load_of : List Bytes → Option LoadWords
load_of words = if begins_with (codes "load") words then option_and_then load_in (rows_taken load_app words) else None
