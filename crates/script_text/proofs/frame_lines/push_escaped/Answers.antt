use Rattle.std.proofs.Common.{◌++◌, ◌∙◌, ap, sym}
use Rattle.std.proofs.lemmas.Result.{on_ok_weaker}
use Rattle.byte_text.specs.Names.{Bytes}
use Rattle.script_text.proofs.RunLaws.{no_run}
use Rattle.script_text.proofs.frame_lines.push_escaped.Goals as goal

pub returns-clause-ok : goal.returns-clause-ok
returns-clause-ok c =
    let l = c.loop-at in
    on_ok_weaker c.push.result (λ e. e ∙ ap (λ (t : Bytes). l.into ++ t) (sym (no_run l.rest.now (sym c.first_escaped.ensures.first ∙ c.in_default.is))) ∙ l.invariant.0) c.push.ensures.ok
