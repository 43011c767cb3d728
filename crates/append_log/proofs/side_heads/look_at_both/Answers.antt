use Rattle.std.proofs.Common.{◌≡◌, ◌∙◌, ap, sym, subst, Some}
use Rattle.outside.specs.Sides.{Sides}
use Rattle.outside.specs.CrashLaws.{told_next}
use Rattle.append_log.specs.Heads.{head_of, start_of, IsHeadedIn}
use Rattle.append_log.specs.declared.side_heads.Head.{Head}
use Rattle.append_log.specs.declared.side_heads.Start.{Start}
use Rattle.append_log.proofs.Heading.{open_start}
use Rattle.append_log.proofs.side_heads.look_at_both.Goals as goal

pub returns-in-Ok-look_at-clause-start : goal.returns-in-Ok-look_at-clause-start
returns-in-Ok-look_at-clause-start g c s told =
    let D = g.D.Disk in
    let first = c.in-Ok.ensures.head s told in
    let mid = told_next (D.seen c.args.disk.now) (D.seen c.look_at.new.disk) s (λ s t. t ≡ s) told c.in-Ok.ensures.same in
    let second = c.in-Ok-look_at.ensures.head s (mid.1 ∙ ap (λ (t : Sides). Some t) mid.2) in (
      c.start.ensures.start ∙ ap (λ (h : Head). start_of h c.in-Ok-look_at.b) first.0 ∙ ap (λ (h : Head). start_of (head_of s.a) h) second.0,
      subst (λ (x : Start). IsHeadedIn s x) (sym c.start.ensures.start) (open_start s c.in-Ok.a c.in-Ok-look_at.b first.1 second.1),
    )
