-- What a contract sees of a session, and the session of the hall that it stands for.
use Rattle.std.specs.Prelude.{◌≡◌, ℕ, true, Bool, List, if◌then◌else◌}
use Rattle.std.specs.List.{AllByRecursion}
use Rattle.byte_text.specs.Globs.{is_well_formed}
use Rattle.world_model.specs.Subscriptions.{Sub}
use Rattle.world_model.specs.Halls as halls
use Rattle.world_model.specs.Halls.{is_live}
use Rattle.byte_text.specs.Names.{Bytes}
use Rattle.session_table.specs.declared.sessions.Stage.{Stage}
use Rattle.session_table.specs.declared.sessions.Stage.TheVariants.{Live, Cut, Closing}
use Rattle.session_table.specs.Mail.{Mail}

abbrev pub stage_of : Stage → halls.Stage
stage_of Live = halls.live
stage_of Cut = halls.cut
stage_of Closing = halls.closing

pub record State : Type 0 where
  pub number : ℕ
  pub mail : Mail
  pub subs : List Sub
  pub stage : halls.Stage

-- what is staged is no frame of it yet
abbrev pub session_of : State → halls.Session
session_of s = record { number = s.number; subs = s.subs; frames = s.mail.frames; stage = s.stage }

-- a pattern is well formed
abbrev pub is_sound_sub : Sub → Bool
is_sound_sub s = if s.pattern then is_well_formed s.word else true

abbrev pub AreSoundSubs : List Sub → Type 0
AreSoundSubs subs = AllByRecursion (λ s. is_sound_sub s ≡ true) subs

-- where it is served, these are the replies to its request
abbrev pub AreReplies : List Bytes → State → Type 0
AreReplies replies s = is_live (session_of s) ≡ true → s.mail.replies ≡ replies
