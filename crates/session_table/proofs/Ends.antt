-- Sessions that are served, that end, and on which a frame is placed.
use Rattle.std.proofs.Common.{◌≡◌, Bool, true, false, sym, ap, subst, List, [], ◌∷◌, ◌++◌, take, append-nil}
use Rattle.std.specs.Prelude.{if◌then◌else◌}
use Rattle.byte_text.specs.Names.{Bytes}
use Rattle.world_model.specs.Halls.{Session, cut, closing, is_live, placed_each, frames_for}
use Rattle.delivery_model.specs.Placing.{takes_it, is_cut}
use Rattle.subscriber_queue.specs.Waiting.{takes_first}
use Rattle.fence_model.specs.Messages.{Message}
use Rattle.delivery_model.specs.Staging.{listens}
use Rattle.session_table.specs.Mail.{Stages}
use Rattle.session_table.specs.FanLaws.{stages_none}
use Rattle.delivery_model.specs.Plans.{ending}
use Rattle.session_table.specs.Sessions.{State, session_of, stage_of}
use Rattle.session_table.specs.declared.sessions.Stage.{Stage}

pub serves : (s : State) (g : Stage) → stage_of g ≡ s.stage → is_live (record (session_of s) { stage = stage_of g }) ≡ is_live (session_of s)
serves s g e = ap (λ x. is_live (record (session_of s) { stage = x })) e

pub ends_live : (t : Session) → is_live t ≡ true → record t { stage = closing; subs = [] } ≡ ending t
ends_live t e = sym (ap (λ (b : Bool). if b then record t { stage = closing; subs = [] } else t) e)

pub ends_not : (t : Session) → is_live t ≡ false → t ≡ ending t
ends_not t e = sym (ap (λ (b : Bool). if b then record t { stage = closing; subs = [] } else t) e)

-- the first of some frames is placed, where there is one

pub first_placed : (t : Session) (fs : List Bytes) → is_live t ≡ true → takes_first t.frames fs ≡ true
    → record t { frames = t.frames ++ take 1 fs } ≡ placed_each t (take 1 fs)
first_placed t [] e r = ap (λ (gs : List Bytes). record t { frames = gs }) (append-nil t.frames)
first_placed t (f ∷ fs) e r = sym (takes_it t f e r)

pub first_cut : (t : Session) (fs : List Bytes) → is_live t ≡ true → takes_first t.frames fs ≡ false
    → record t { stage = cut; subs = [] } ≡ placed_each t (take 1 fs)
first_cut t [] e r = absurd (cc)
first_cut t (f ∷ fs) e r = sym (is_cut t f e r)

-- one that is not served hears nothing
pub none_heard : (m : Message) (s : State) → is_live (session_of s) ≡ false → Stages (frames_for m (listens (session_of s))) s.mail s.mail
none_heard m s e = subst (λ (b : Bool). Stages (frames_for m (if b then s.subs else [])) s.mail s.mail) (sym e) (stages_none s.mail)
