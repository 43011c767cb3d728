use Rattle.std.proofs.Common.{◌≡◌, ℕ, ◌-◌, ◌≤◌, ◌<◌, true, List, [], ◌++◌, length, take, drop, sym, ap, ◌∙◌, arith}
use Rattle.std.proofs.lemmas.List.{drop-drop, drop_all}
use Rattle.byte_text.specs.Names.{Bytes}
use Rattle.world_model.specs.Halls.{is_live}
use Rattle.session_table.specs.Sessions.{State, session_of}
use Rattle.session_table.proofs.Placings.{either_way, first_of, live_before, placed_more, some_left}
use Rattle.session_table.proofs.sessions.Session.place_staged.Goals as goal

pub loop-preserved : goal.loop-preserved
loop-preserved c =
    let l = c.loop in
    let m = l.self.mail in
    let all = c.args.self.now.mail.staged in
    let end = c.staged-end.ensures ∙ ap (λ (s : State). length s.mail.staged) c.self.view_is in
    let below : l.counter < length all = omega (arith, end) in
    let lived : is_live (session_of c.place_first.new.self) ≡ true → is_live (session_of l.self) ≡ true =
    λ lives. live_before (session_of l.self) (take 1 (m.staged ++ m.replies)) (ap is_live (sym c.place_first.ensures.same) ∙ lives) in
    record {
      same = placed_more (session_of c.args.self.now) (session_of l.self) (session_of c.place_first.new.self) (m.staged ++ m.replies) all l.counter l.invariant.same
          (λ lives. ap (λ (fs : List Bytes). take 1 (fs ++ m.replies)) (l.invariant.left lives) ∙ first_of l.counter all m.replies below)
          c.place_first.ensures.same;
      left = λ lives. c.place_first.ensures.staged lives ∙ ap (drop 1) (l.invariant.left (lived lives)) ∙ drop-drop 1 l.counter all;
      replies = λ lives.
          let long = ap length (l.invariant.left (lived lives)) in
          let some = some_left l.counter all below in
          let none : 1 - length m.staged ≡ 0 = omega (arith, long, some) in
          c.place_first.ensures.replies lives ∙ ap (λ (n : ℕ). drop n m.replies) none ∙ l.invariant.replies (lived lives);
    }

pub returns-clause-staged : goal.returns-clause-staged
returns-clause-staged c =
    let l = c.loop in
    let all = c.args.self.now.mail.staged in
    let end = c.staged-end.ensures ∙ ap (λ (s : State). length s.mail.staged) c.self.view_is in
    let past : length all ≤ l.counter = omega (arith, end) in
    either_way (c.unstage_dead.new.self.mail.staged ≡ []) (session_of l.self)
    (λ lives. ap (λ (s : State). s.mail.staged) (c.unstage_dead.ensures.live lives) ∙ l.invariant.left lives ∙ drop_all l.counter all past)
    (λ dead. (c.unstage_dead.ensures.dead dead).0)

pub returns-clause-replies : goal.returns-clause-replies
returns-clause-replies c = λ lives.
    let lived : is_live (session_of c.loop.self) ≡ true = ap is_live (sym c.unstage_dead.ensures.same) ∙ lives in
    ap (λ (s : State). s.mail.replies) (c.unstage_dead.ensures.live lived) ∙ c.loop.invariant.replies lived
