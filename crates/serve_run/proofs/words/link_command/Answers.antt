use Rattle.std.proofs.Common.{◌∙◌, ap, codes}
use Rattle.std.proofs.lemmas.Result.{IfOk-weaker}
use Rattle.clap.specs.Words.{with_rule}
use Rattle.clap.specs.Simple.{App}
use Rattle.serve_run.specs.Options.{flag_rule, needed_rule, option_rule}
use Rattle.serve_run.specs.Words.{link_app}
use Rattle.serve_run.proofs.words.link_command.Goals as goal

pub returns : goal.returns
unfolding link_app
returns c =
    let addr = c.in_ok-command.ensures ∙ ap (λ (app : App). with_rule app (needed_rule (codes "addr"))) c.new.ensures.app in
    let sessions = c.in_ok-command-2.ensures ∙ ap (λ (app : App). with_rule app (option_rule (codes "sessions"))) addr in
    let idle = c.in_ok-command-3.ensures ∙ ap (λ (app : App). with_rule app (option_rule (codes "idle"))) sessions in
    let shrink_at = c.in_ok-command-4.ensures ∙ ap (λ (app : App). with_rule app (option_rule (codes "shrink-at"))) idle in
    let followers = c.in_ok-command-5.ensures ∙ ap (λ (app : App). with_rule app (option_rule (codes "followers"))) shrink_at in
    let until = c.in_ok-command-6.ensures ∙ ap (λ (app : App). with_rule app (flag_rule (codes "until-stdin-ends"))) followers in
    IfOk-weaker c.with_option-5.result _ _ (λ r is. is ∙ ap (λ (app : App). with_rule app (option_rule (codes "origin"))) until) c.with_option-5.ensures
