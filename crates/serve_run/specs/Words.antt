-- The words of the command line that ask to serve, as clap reads them.
use Rattle.std.specs.Prelude.{ℕ, Bool, false, [], ◌&&◌, ◌||◌, nat_le, List, Option, Some, None, Result, Ok, Err, codes, bytes_eq, option_and_then}
use Rattle.std.specs.Prelude.{if◌then◌else◌}
use Rattle.std.specs.Option.{option_map_or}
use Rattle.byte_text.specs.Names.{Bytes}
use Rattle.byte_text.specs.Numbers.{read_natural}
use Rattle.byte_text.specs.declared.texts.TextFault.{TextFault}
use Rattle.clap.specs.Simple.{App, new_app, with_rule}
use Rattle.clap.specs.Walk.{Row, first_of}
use Rattle.outside.specs.Doors.{OpenedAt, opened_at}
use Rattle.outside.specs.declared.doors.Kinds.{Kinds}
use Rattle.outside.specs.declared.doors.Kinds.TheVariants.{Plain, Web, Both}
use Rattle.serve_run.specs.Options.{begins_with, flag_rule, needed_rule, option_rule, rows_taken}
use Rattle.serve_run.specs.declared.words.ServeWords.{ServeWords}
use Rattle.serve_run.specs.declared.words.TheConstants.{MOST_LINKS, MOST_IDLE, MOST_SHRINK_AT, SHRINK_AT, MOST_FOLLOWERS}

-- Where to listen, and for whom; how many callers are served; behind how many seconds without a request a link is ended, or 0 for never; by
-- how many per cent the log grows until it is rewritten, or 0 for never; how many sessions may be followers at a time; and whether the end of
-- standard input asks for the end.
pub record Serve : Type 0 where
  pub port : OpenedAt
  pub limit : ℕ
  pub idle : ℕ
  pub shrink_at : ℕ
  pub followers : ℕ
  pub until_end : Bool

abbrev pub asked_of : ServeWords → Serve
asked_of w = record {
  port = opened_at w.port;
  limit = w.limit;
  idle = w.idle;
  shrink_at = w.shrink_at;
  followers = w.followers;
  until_end = w.until_end;
}

-- `NAME ADDR [--sessions N] [--idle SECONDS] [--shrink-at PERCENT] [--followers N] [--until-stdin-ends] [--origin LIST]`
unfoldable pub link_app : Bytes → App
link_app name = with_rule (with_rule (with_rule (with_rule (with_rule (with_rule (with_rule (new_app name)
    (needed_rule (codes "addr"))) (option_rule (codes "sessions"))) (option_rule (codes "idle"))) (option_rule (codes "shrink-at")))
    (option_rule (codes "followers"))) (flag_rule (codes "until-stdin-ends"))) (option_rule (codes "origin"))

-- `serve ADDR [..] [--ws]`, and `ws ADDR [..]`
unfoldable pub serve_app : App
serve_app = with_rule (link_app (codes "serve")) (flag_rule (codes "ws"))

unfoldable pub ws_app : App
ws_app = link_app (codes "ws")

-- a canonical number within bounds, or the one that stands for no word
abbrev pub within : ℕ → ℕ → Result ℕ TextFault → Option ℕ
within least most (Ok n) = if nat_le least n && nat_le n most then Some n else None
within least most (Err f) = None

abbrev pub number_of : ℕ → ℕ → ℕ → Option Bytes → Option ℕ
number_of least most unsaid None = Some unsaid
number_of least most unsaid (Some word) = within least most (read_natural word)

abbrev pub is_given : Option Bytes → Bool
is_given word = option_map_or (λ w. bytes_eq w (codes "true")) word false

-- no origin, where nothing is said
abbrev pub origins_of : Option Bytes → Bytes
origins_of (Some list) = list
origins_of None = []

-- plain links alone, or WebSockets at the same port, too
abbrev pub kinds_of : List Row → Kinds
kinds_of rows = if is_given (first_of (codes "ws") rows) then Both else Plain

-- what was found, where each number is one
abbrev pub serve_in : Kinds → List Row → Option Serve
serve_in kinds rows = option_and_then (λ addr. option_and_then (λ limit. option_and_then (λ idle. option_and_then (λ shrink_at.
    option_and_then (λ followers. Some (record {
      port = record { addr = addr; kinds = kinds; origins = origins_of (first_of (codes "origin") rows) };
      limit = limit;
      idle = idle;
      shrink_at = shrink_at;
      followers = followers;
      until_end = is_given (first_of (codes "until-stdin-ends") rows);
    }))
    (number_of 0 MOST_FOLLOWERS 0 (first_of (codes "followers") rows)))
    (number_of 0 MOST_SHRINK_AT SHRINK_AT (first_of (codes "shrink-at") rows)))
    (number_of 1 MOST_IDLE 0 (first_of (codes "idle") rows)))
    (number_of 1 MOST_LINKS MOST_LINKS (first_of (codes "sessions") rows)))
    (first_of (codes "addr") rows)

-- the words ask to serve, if they ask for anything
abbrev pub begins_to_serve : List Bytes → Bool
begins_to_serve words = begins_with (codes "serve") words || begins_with (codes "ws") words

-- what the words ask for behind each of the two names
abbrev pub serve_taken : List Bytes → Option Serve
serve_taken words = option_and_then (λ rows. serve_in (kinds_of rows) rows) (rows_taken serve_app words)

abbrev pub ws_taken : List Bytes → Option Serve
ws_taken words = option_and_then (serve_in Web) (rows_taken ws_app words)

-- what the words ask for, where they ask to serve: plain links, WebSockets, or both
abbrev pub serve_of : List Bytes → Option Serve
serve_of words = if begins_with (codes "serve") words then serve_taken words
    else if begins_with (codes "ws") words then ws_taken words else None
