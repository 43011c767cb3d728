-- What the commands on the session itself do.
use Rattle.std.specs.Prelude.{true, false, nat_lt, List, [], ◌∷◌, length, map, codes}
use Rattle.byte_text.specs.Names.{Bytes}
use Rattle.byte_text.specs.Replies.{fine}
use Rattle.byte_text.specs.declared.replies.Piece.TheVariants as piece
use Rattle.world_data.specs.Limits.{max_subs}
use Rattle.world_model.specs.declared.faults.Refusal.TheVariants as refusal
use Rattle.world_model.specs.Subscriptions.{Sub, with_subs}
use Rattle.world_model.specs.Replies.{confirmations}
use Rattle.world_model.specs.declared.session_commands.SessionCommand.{SessionCommand}
use Rattle.world_model.specs.declared.session_commands.SessionCommand.TheVariants as of_session
use Rattle.world_model.specs.EffectParts.{Effect, says, refuses, unless}

-- SUBSCRIBE and PSUBSCRIBE: all words are taken or none
abbrev pub subscribe_effect : Bytes → List Sub → List Sub → Effect
subscribe_effect called held subs = unless ((nat_lt max_subs (length (with_subs held subs)), refuses refusal.TooManySubscriptions) ∷ [])
    (record { replies = confirmations called held subs; subs = subs; writes = []; closes = false })

-- what a command does for a session with these subscriptions
abbrev pub session_effect : List Sub → SessionCommand → Effect
session_effect held of_session.Ping = says (piece.Status (codes "PONG") ∷ [])
session_effect held of_session.Quit = record { replies = fine ∷ []; subs = []; writes = []; closes = true }
session_effect held (of_session.Subscribe names) = subscribe_effect (codes "subscribe") held (map (λ n. record { pattern = false; word = n }) names)
session_effect held (of_session.Psubscribe globs) = subscribe_effect (codes "psubscribe") held (map (λ g. record { pattern = true; word = g }) globs)
