use Rattle.std.proofs.Common.{◌≡◌, ◌+◌, ◌-◌, ◌∙◌, ap, arith}
use Rattle.byte_text.specs.Requests.{start_of}
use Rattle.byte_text.proofs.CutWords.{end_before}
use Rattle.byte_text.proofs.requests.start_of.Goals as goal

pub returns-else-at-eq0 : goal.returns-else-at-eq0
returns-else-at-eq0 c =
    let some = c.if-at-eq0.false in
    let back : (c.args.at - 1) + 1 ≡ c.args.at = omega (arith, some) in
    end_before 0 c.args.ends.now (c.args.at - 1) 0 (omega (arith, some, c.requires)) ∙ ap (start_of 0 c.args.ends.now) back
