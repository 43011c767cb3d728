-- What a call brings to the session that makes it, and who is to be told of it.
use Rattle.std.specs.Prelude.{◌≡◌, ◌⊎◌, ◌≤◌, ◌==◌, ℕ, true, false, max, List, [], length, filter, map, Bool, Some}
use Rattle.std.specs.List.{AllByRecursion, list_any}
use Rattle.byte_text.specs.Replies.{frame_text}
use Rattle.world_model.specs.Halls.{Hall, Session, due, session_of}
use Rattle.world_model.specs.Histories.{is_spent, gone, full, ended, idle}
use Rattle.world_model.specs.declared.events.Asked.{Asked}
use Rattle.delivery_model.specs.Plans.{IsReplied, effect_of_asked}
use Rattle.session_table.specs.Sessions as mail

-- the session is served and not full, and the log is not at its greatest length
abbrev pub MayCall : Hall → ℕ → Type 0
MayCall h n = (is_spent h ≡ false) × (gone (session_of h n) ≡ false) × (full (session_of h n) ≡ false)

-- the session has frames
abbrev pub MayTake : Hall → ℕ → Type 0
MayTake h n = (ended (session_of h n) ≡ false) × (idle (session_of h n) ≡ false)

-- a session without subscriptions is not cut by its own call, and has the frames of the reply last in its queue
abbrev pub IsAnswered : Hall → Hall → ℕ → ℕ → Asked → Type 0
IsAnswered old new moment n asked = (s : Session) → session_of old n ≡ Some s → s.subs ≡ []
    → IsReplied (session_of old n) (session_of new n)
    (map frame_text (effect_of_asked (due old moment).world (max old.now moment) s.subs asked).replies)

abbrev pub is_named : List ℕ → ℕ → Bool
is_named named n = list_any (λ m. m == n) named

-- no more names than sessions that they name, so that there is room to name all others
abbrev pub AreSessions : List ℕ → Hall → Type 0
AreSessions named h = length named ≤ length (filter (λ s. is_named named s.number) h.sessions)

-- the same, of the sessions that a core keeps
abbrev pub AreRoomy : List ℕ → List mail.State → Type 0
AreRoomy named sessions = length named ≤ length (filter (λ s. is_named named s.number) (map mail.session_of sessions))

-- each session for which something is staged is named
abbrev pub AreNamed : List ℕ → List mail.State → Type 0
AreNamed named sessions = AllByRecursion (λ s. (s.mail.staged ≡ []) ⊎ (is_named named s.number ≡ true)) sessions

-- what was named is
abbrev pub StayNamed : List ℕ → List ℕ → Type 0
StayNamed old new = (n : ℕ) → is_named old n ≡ true → is_named new n ≡ true
