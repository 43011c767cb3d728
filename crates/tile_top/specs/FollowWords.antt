-- The words of the command line that ask to follow a leader, as clap reads them.
use Rattle.std.specs.Prelude.{Bool, true, false, not, ◌&&◌, List, Option, Some, None, codes, if◌then◌else◌, option_and_then}
use Rattle.byte_text.specs.Names.{Bytes}
use Rattle.clap.specs.Simple.{App, new_app, with_rule}
use Rattle.clap.specs.Walk.{Row, first_of}
use Rattle.serve_run.specs.Options.{begins_with, flag_rule, needed_rule, rows_taken}
use Rattle.serve_run.specs.Words.{is_given}
use Rattle.tile_top.specs.declared.follow_words.FollowTerms.{FollowTerms}
use Rattle.tile_top.specs.declared.follow_words.FollowWords.{FollowWords}

-- where the leader listens; and whether it is followed on and on, and whether the end of standard input asks for the end
pub record Follow : Type 0 where
  pub addr : Bytes
  pub terms : FollowTerms

abbrev pub follow_asked : FollowWords → Follow
follow_asked w = record { addr = w.addr.now; terms = w.terms }

-- `follow ADDR [--watch] [--until-stdin-ends]`
unfoldable pub follow_app : App
follow_app = with_rule (with_rule (with_rule (new_app (codes "follow")) (needed_rule (codes "addr"))) (flag_rule (codes "watch")))
    (flag_rule (codes "until-stdin-ends"))

-- who follows once ends by itself, and is not asked to
abbrev pub follow_with : Bytes → Bool → Bool → Option Follow
follow_with addr watch until_end =
    if until_end && not watch then None else Some (record { addr = addr; terms = record { watch = watch; until_end = until_end } })

-- what was found
abbrev pub follow_in : List Row → Option Follow
follow_in rows = option_and_then (λ addr. follow_with addr (is_given (first_of (codes "watch") rows))
    (is_given (first_of (codes "until-stdin-ends") rows)))
    (first_of (codes "addr") rows)

-- what the words ask for, where they ask to follow
abbrev pub follow_of : List Bytes → Option Follow
follow_of words = if begins_with (codes "follow") words then option_and_then follow_in (rows_taken follow_app words) else None
