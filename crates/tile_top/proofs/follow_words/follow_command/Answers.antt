use Rattle.std.proofs.Common.{◌∙◌, ap, codes}
use Rattle.std.proofs.lemmas.Result.{IfOk-weaker}
use Rattle.clap.specs.Words.{with_rule}
use Rattle.clap.specs.Simple.{App}
use Rattle.serve_run.specs.Options.{flag_rule, needed_rule}
use Rattle.tile_top.specs.FollowWords.{follow_app}
use Rattle.tile_top.proofs.follow_words.follow_command.Goals as goal

pub returns : goal.returns
unfolding follow_app
returns c =
    let addr = c.in_ok-command.ensures ∙ ap (λ (app : App). with_rule app (needed_rule (codes "addr"))) c.new.ensures.app in
    let watch = c.in_ok-command-2.ensures ∙ ap (λ (app : App). with_rule app (flag_rule (codes "watch"))) addr in
    IfOk-weaker c.with_flag-2.result _ _ (λ r is. is ∙ ap (λ (app : App). with_rule app (flag_rule (codes "until-stdin-ends"))) watch) c.with_flag-2.ensures
