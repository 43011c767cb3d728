use Rattle.std.proofs.Common.{◌∙◌, ap, codes}
use Rattle.std.proofs.lemmas.Result.{IfOk-weaker}
use Rattle.clap.specs.Words.{with_rule}
use Rattle.clap.specs.Simple.{App}
use Rattle.serve_run.specs.Options.{needed_rule}
use Rattle.tile_top.specs.LoadWords.{load_app}
use Rattle.tile_top.proofs.workloads.load_command.Goals as goal

pub returns : goal.returns
unfolding load_app
returns c =
    let n = c.in_ok-command.ensures ∙ ap (λ (app : App). with_rule app (needed_rule (codes "n"))) c.new.ensures.app in
    IfOk-weaker c.with_needed-2.result _ _ (λ r is. is ∙ ap (λ (app : App). with_rule app (needed_rule (codes "seed"))) n) c.with_needed-2.ensures
