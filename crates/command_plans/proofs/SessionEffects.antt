-- What a session may ask, and what PING and QUIT do.
use Rattle.std.proofs.Common.{◌≡◌, ℕ, ◌<◌, true, false, not, refl, List, [], ◌∷◌, length, arith}
use Rattle.std.specs.Prelude.{codes, nat_lt, ◌&&◌}
use Rattle.std.proofs.lemmas.Bool.Decides.{nat_tests}
use Rattle.byte_text.specs.Replies.{fine}
use Rattle.byte_text.specs.declared.replies.Piece.TheVariants as piece
use Rattle.world_data.specs.declared.worlds.World.{World}
use Rattle.world_model.specs.Effects.{says, refuses, within_reply, effect, is_served_subscribed}
use Rattle.world_model.specs.Subscriptions.{Sub, has_subs}
use Rattle.world_model.specs.declared.channel_commands.ChannelCommand.{ChannelCommand}
use Rattle.world_model.specs.declared.commands.Command.{Command}
use Rattle.world_model.specs.declared.commands.Command.TheVariants as family
use Rattle.world_model.specs.declared.object_commands.ObjectCommand.{ObjectCommand}
use Rattle.world_model.specs.declared.search_commands.SearchCommand.{SearchCommand}
use Rattle.world_model.specs.declared.session_commands.SessionCommand.TheVariants as of_session
use Rattle.world_model.specs.declared.faults.Refusal.TheVariants as refusal
use Rattle.delivery_model.specs.Plans.{ends_with}

-- a command of another family does the same for a session with subscriptions, which may ask it, as for one without

module _ (w : World) (now : ℕ) (held : List Sub) where
  pub object_alike : (c : ObjectCommand) → (has_subs held && not (is_served_subscribed (family.Object c))) ≡ false
      → effect w now held (family.Object c) ≡ effect w now [] (family.Object c)
  unfolding effect
  object_alike c e = rw e refl

  pub search_alike : (c : SearchCommand) → (has_subs held && not (is_served_subscribed (family.Search c))) ≡ false
      → effect w now held (family.Search c) ≡ effect w now [] (family.Search c)
  unfolding effect
  search_alike c e = rw e refl

  pub channel_alike : (c : ChannelCommand) → (has_subs held && not (is_served_subscribed (family.Channel c))) ≡ false
      → effect w now held (family.Channel c) ≡ effect w now [] (family.Channel c)
  unfolding effect
  channel_alike c e = rw e refl

-- one with subscriptions may ask no more
pub kept_out : (u : World) (now : ℕ) (held : List Sub) (c : Command) → (has_subs held && not (is_served_subscribed c)) ≡ true
    → effect u now held c ≡ within_reply (refuses refusal.Subscribed)
unfolding effect
kept_out u now held c e = rw e refl

pub any_held : (n : ℕ) (held : List Sub) → n ≡ length held → nat_lt 0 n ≡ has_subs held
any_held n [] e = grind (arith, nat_tests)
any_held n (s ∷ held) e = let some : 0 < n = omega (arith, e) in grind (arith, nat_tests)

-- what it may ask in any case

pub answered : (w : World) (now : ℕ) (held : List Sub)
    → effect w now held (family.Session of_session.Ping) ≡ within_reply (says (piece.Status (codes "PONG") ∷ []))
unfolding effect
answered w now [] = refl
answered w now (s ∷ held) = refl

pub left : (w : World) (now : ℕ) (held : List Sub) → effect w now held (family.Session of_session.Quit) ≡ ends_with fine
unfolding effect
left w now [] = refl
left w now (s ∷ held) = refl
