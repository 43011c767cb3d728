use Rattle.std.proofs.Common.{sym, subst}
use Rattle.append_log.specs.Heads.{IsOpenHead, IsSizedHead}
use Rattle.append_log.specs.declared.side_heads.Head.{Head}
use Rattle.append_log.proofs.Heading.{head_says}
use Rattle.append_log.proofs.side_heads.Head.of.Goals as goal

pub returns-clause-headed : goal.returns-clause-headed
returns-clause-headed c bytes len first =
    subst (λ (h : Head). IsOpenHead bytes h) (sym c.said.ensures) ((head_says c.args.len c.args.first.now c.told-first c.fits-first).1 bytes len first)

pub returns-clause-sized : goal.returns-clause-sized
returns-clause-sized c = subst IsSizedHead (sym c.said.ensures) (head_says c.args.len c.args.first.now c.told-first c.fits-first).0
