use Rattle.std.proofs.Common.{◌≡◌, ◌+◌, ◌++◌, ◌∷◌, [], List, length, length-append, sym, ap, ◌∙◌, subst, arith, rules}
use Rattle.session_table.specs.Sessions.{State}
use Rattle.session_table.specs.Fans.{AreBare}
use Rattle.tile_core.specs.Sessions.{Rises}
use Rattle.tile_core.proofs.Finishing.{bare_more}
use Rattle.tile_core.proofs.Present.{rises_more}
use Rattle.tile_core.proofs.cores.Core.enter.Goals as goal

pub invariant_of-self-2 : goal.invariant_of-self-2
invariant_of-self-2 c =
    let i = c.self.invariant in
    let items = c.self.inside.sessions.items in
    let v : State = c.new-session.result in
    let number : v.number ≡ c.self.inside.drawn + 1 = ap (λ (s : State). s.number) c.new-session.ensures in
    let staged : v.mail.staged ≡ [] = ap (λ (s : State). s.mail.staged) c.new-session.ensures in
    let pushed : c.push.new.self.items ≡ items ++ v ∷ [] = search rules in
    record {
      kept = i.kept;
      early = i.early;
      present = record {
        rises = subst (λ (xs : List State). Rises 0 (c.self.inside.drawn + 1) xs) (sym pushed) (rises_more 0 c.self.inside.drawn items v i.present.rises number);
        few = let long = ap length pushed ∙ length-append items (v ∷ []) in omega (arith, long);
      };
      bare = subst AreBare (sym pushed) (bare_more items v i.bare staged);
    }
