use Rattle.std.proofs.Common.{◌∙◌, ap, codes}
use Rattle.std.proofs.lemmas.Result.{IfOk-weaker}
use Rattle.clap.specs.Words.{with_rule}
use Rattle.clap.specs.Simple.{App}
use Rattle.serve_run.specs.Options.{flag_rule}
use Rattle.serve_run.specs.Words.{serve_app}
use Rattle.serve_run.proofs.words.serve_command.Goals as goal

pub returns : goal.returns
unfolding serve_app
returns c = IfOk-weaker c.with_flag.result _ _ (λ r is. is ∙ ap (λ (app : App). with_rule app (flag_rule (codes "ws"))) c.in_ok-link_command.ensures)
    c.with_flag.ensures
