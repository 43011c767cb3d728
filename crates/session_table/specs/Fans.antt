-- Sessions before and after something that was done to each of them.
use Rattle.std.specs.Prelude.{◌≡◌, ℕ, zero, suc, true, List, [], ◌∷◌}
use Rattle.std.specs.List.{AllByRecursion}
use Rattle.fence_model.specs.Messages.{Message}
use Rattle.fence_model.specs.Writes.{Write}
use Rattle.world_model.specs.Halls.{is_live, placed_each}
use Rattle.delivery_model.specs.Staging.{listens, frames_each, heard}
use Rattle.world_data.specs.declared.worlds.World.{World}
use Rattle.session_table.specs.Mail.{IsStaged, Stages}
use Rattle.session_table.specs.Sessions.{State, session_of}

-- it was done to each
abbrev pub Done : (State → State → Type 0) → List State → List State → Type 0
Done R [] [] = Unit {0}
Done R [] (t ∷ new) = ⊥
Done R (s ∷ old) [] = ⊥
Done R (s ∷ old) (t ∷ new) = R s t × Done R old new

-- it was done to the first ones, and the others are as they were
abbrev pub DoneTo : (State → State → Type 0) → ℕ → List State → List State → Type 0
DoneTo R n [] [] = Unit {0}
DoneTo R n [] (t ∷ new) = ⊥
DoneTo R n (s ∷ old) [] = ⊥
DoneTo R zero (s ∷ old) (t ∷ new) = (t ≡ s) × DoneTo R zero old new
DoneTo R (suc n) (s ∷ old) (t ∷ new) = R s t × DoneTo R n old new

-- the frames of these messages are staged for the session, as far as it hears them
pub record IsBrought (ms : List Message) (s t : State) : Type 0 where
  pub same : session_of t ≡ session_of s
  pub staged : Stages (frames_each ms (listens (session_of s))) s.mail t.mail

abbrev pub AreBrought : List Message → List State → List State → Type 0
AreBrought ms old new = Done (IsBrought ms) old new

-- all that was staged is placed
pub record IsPlaced (s t : State) : Type 0 where
  pub same : session_of t ≡ placed_each (session_of s) s.mail.staged
  pub bare : t.mail.staged ≡ []
  pub replies : is_live (session_of t) ≡ true → t.mail.replies ≡ s.mail.replies

abbrev pub ArePlaced : List State → List State → Type 0
ArePlaced old new = Done IsPlaced old new

-- nothing is staged
abbrev pub AreBare : List State → Type 0
AreBare sessions = AllByRecursion (λ s. s.mail.staged ≡ []) sessions

-- what is staged is what these writes bring, from the world before the first of them on
abbrev pub HaveStaged : World → List Write → List State → Type 0
HaveStaged w writes sessions = AllByRecursion (λ s. IsStaged s.mail (heard w writes (listens (session_of s)))) sessions

-- nothing is staged for it any more, and else it is as it was
pub record IsUnstaged (s t : State) : Type 0 where
  pub same : session_of t ≡ session_of s
  pub bare : t.mail.staged ≡ []
