use Rattle.std.proofs.Common.{◌≡◌, ◌-◌, ◌≤◌, true, List, [], ◌++◌, length, take, drop, sym, ap, ◌∙◌, arith}
use Rattle.std.proofs.lemmas.List.{drop-drop, take_all}
use Rattle.byte_text.specs.Names.{Bytes}
use Rattle.world_model.specs.Halls.{is_live, placed_each}
use Rattle.session_table.specs.Sessions.{State, session_of}
use Rattle.session_table.proofs.Placings.{either_way, live_before, placed_more, placed_those}
use Rattle.session_table.proofs.sessions.Session.place_replies.Goals as goal

pub loop-preserved : goal.loop-preserved
loop-preserved c =
    let l = c.loop in
    let m = l.self.mail in
    let all = c.args.self.now.mail.replies in
    let lived : is_live (session_of c.place_first.new.self) ≡ true → is_live (session_of l.self) ≡ true =
    λ lives. live_before (session_of l.self) (take 1 (m.staged ++ m.replies)) (ap is_live (sym c.place_first.ensures.same) ∙ lives) in
    record {
      same = placed_more (session_of c.args.self.now) (session_of l.self) (session_of c.place_first.new.self) (m.staged ++ m.replies) all l.counter l.invariant.same
          (λ lives. ap (λ (fs : List Bytes). take 1 (fs ++ m.replies)) (l.invariant.staged lives) ∙ ap (take 1) (l.invariant.left lives))
          c.place_first.ensures.same;
      left = λ lives.
          c.place_first.ensures.replies lives
          ∙ ap (λ (fs : List Bytes). drop (1 - length fs) m.replies) (l.invariant.staged (lived lives))
          ∙ ap (drop 1) (l.invariant.left (lived lives)) ∙ drop-drop 1 l.counter all;
      staged = λ lives. c.place_first.ensures.staged lives ∙ ap (drop 1) (l.invariant.staged (lived lives));
    }

pub returns-clause-same : goal.returns-clause-same
returns-clause-same c = λ replies are.
    let l = c.loop in
    let all = c.args.self.now.mail.replies in
    let end = c.replies-end.ensures ∙ ap (λ (s : State). length s.mail.replies) c.self.view_is in
    let past : length all ≤ l.counter = omega (arith, end) in
    c.unstage_dead.ensures.same ∙ l.invariant.same
    ∙ ap (placed_each (session_of c.args.self.now)) (take_all l.counter all past)
    ∙ placed_those (session_of c.args.self.now) all replies are

pub returns-clause-staged : goal.returns-clause-staged
returns-clause-staged c =
    either_way (c.unstage_dead.new.self.mail.staged ≡ []) (session_of c.loop.self)
    (λ lives. ap (λ (s : State). s.mail.staged) (c.unstage_dead.ensures.live lives) ∙ c.loop.invariant.staged lives)
    (λ dead. (c.unstage_dead.ensures.dead dead).0)
