use Rattle.std.proofs.Common.{◌≡◌, Bool, true, false, List, [], ◌++◌, ◌-◌, length, take, drop, sym, ap, ◌∙◌, subst}
use Rattle.std.specs.Prelude.{if◌then◌else◌}
use Rattle.byte_text.specs.Names.{Bytes}
use Rattle.world_model.specs.Halls.{cut, is_live, placed_each}
use Rattle.delivery_model.specs.Placing.{dead_takes_none}
use Rattle.subscriber_queue.specs.Waiting.{takes_first}
use Rattle.session_table.specs.Mail.{Mail}
use Rattle.session_table.specs.Sessions.{State, session_of, stage_of}
use Rattle.session_table.proofs.Ends.{first_placed, first_cut}
use Rattle.session_table.proofs.sessions.Session.place_first.Goals as goal

pub returns-then-not-is_live-clause-same : goal.returns-then-not-is_live-clause-same
returns-then-not-is_live-clause-same c =
    let m = c.args.self.now.mail in
    sym (dead_takes_none (session_of c.args.self.now) (take 1 (m.staged ++ m.replies)) (sym c.is_live.ensures ∙ c.if-not-is_live.true))

pub returns-then-not-place_first-clause-same : goal.returns-then-not-place_first-clause-same
returns-then-not-place_first-clause-same c =
    let k = c.self.inside in
    let was : State = record { number = k.number; mail = k.mail; subs = k.subs; stage = stage_of k.stage } in
    let lives : is_live (session_of was) ≡ true = subst (λ (s : State). is_live (session_of s) ≡ true) (sym c.self.view_is) (sym c.is_live.ensures ∙ c.if-not-is_live.false) in
    let full : takes_first k.mail.frames (k.mail.staged ++ k.mail.replies) ≡ false = sym c.place_first.ensures.room ∙ c.if-not-place_first.true in
    let same : c.place_first.new.self ≡ k.mail = c.place_first.ensures.placed ∙ ap (λ (b : Bool). if b then record { frames = k.mail.frames ++ take 1 (k.mail.staged ++ k.mail.replies); staged = drop 1 k.mail.staged; replies = drop (1 - length k.mail.staged) k.mail.replies } else k.mail) c.if-not-place_first.true in
    subst (λ (s : State). session_of c.end.new.self ≡ placed_each (session_of s) (take 1 (s.mail.staged ++ s.mail.replies))) c.self.view_is
    (ap session_of c.end.ensures ∙ ap (λ (m : Mail). record (session_of was) { subs = []; frames = m.frames; stage = cut }) same
    ∙ first_cut (session_of was) (k.mail.staged ++ k.mail.replies) lives full)

pub returns-else-not-place_first-clause-same : goal.returns-else-not-place_first-clause-same
returns-else-not-place_first-clause-same c =
    let k = c.self.inside in
    let was : State = record { number = k.number; mail = k.mail; subs = k.subs; stage = stage_of k.stage } in
    let lives : is_live (session_of was) ≡ true = subst (λ (s : State). is_live (session_of s) ≡ true) (sym c.self.view_is) (sym c.is_live.ensures ∙ c.if-not-is_live.false) in
    let room : takes_first k.mail.frames (k.mail.staged ++ k.mail.replies) ≡ true = sym c.place_first.ensures.room ∙ c.if-not-place_first.false in
    let more : c.place_first.new.self.frames ≡ k.mail.frames ++ take 1 (k.mail.staged ++ k.mail.replies) = ap (λ (m : Mail). m.frames) (c.place_first.ensures.placed ∙ ap (λ (b : Bool). if b then record { frames = k.mail.frames ++ take 1 (k.mail.staged ++ k.mail.replies); staged = drop 1 k.mail.staged; replies = drop (1 - length k.mail.staged) k.mail.replies } else k.mail) c.if-not-place_first.false) in
    subst (λ (s : State). session_of (record was { mail = c.place_first.new.self }) ≡ placed_each (session_of s) (take 1 (s.mail.staged ++ s.mail.replies))) c.self.view_is
    (ap (λ (fs : List Bytes). record (session_of was) { frames = fs }) more ∙ first_placed (session_of was) (k.mail.staged ++ k.mail.replies) lives room)
