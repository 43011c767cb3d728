use Rattle.std.proofs.Common.{◌∙◌, ap}
use Rattle.std.specs.Prelude.{codes}
use Rattle.byte_text.specs.Names.{Bytes}
use Rattle.cmd_words.specs.ListTexts.{listed}
use Rattle.cmd_words.proofs.channel_words.detect_text.Goals as goal

pub returns : goal.returns
returns c =
    let w = c.args.wanted in
    c.in_ok-push_listed-5.ensures ∙ ap (λ (t : Bytes). listed t w.cross (codes "cross")) (
    c.in_ok-push_listed-4.ensures ∙ ap (λ (t : Bytes). listed t w.exit (codes "exit")) (
    c.in_ok-push_listed-3.ensures ∙ ap (λ (t : Bytes). listed t w.enter (codes "enter")) (
    c.in_ok-push_listed-2.ensures ∙ ap (λ (t : Bytes). listed t w.outside (codes "outside")) (
    c.in_ok-push_listed.ensures ∙ ap (λ (t : Bytes). listed t w.inside (codes "inside")) c.new-text.ensures))))
