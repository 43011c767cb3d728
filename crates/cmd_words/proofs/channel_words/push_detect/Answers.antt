use Rattle.std.proofs.Common.{rules, ◌≡◌, ◌++◌, ◌∷◌, [], false, ap, sym, subst, ◌∙◌, append_assoc}
use Rattle.std.specs.Prelude.{codes, OnOk, List}
use Rattle.std.specs.List.{list_all}
use Rattle.byte_text.specs.Names.{Bytes}
use Rattle.world_model.specs.Commands.{wanted_of, wants, detect_names, list_words}
use Rattle.cmd_words.specs.ListTexts.{detect_list}
use Rattle.cmd_words.proofs.ListTexts.{some_detected}
use Rattle.cmd_words.proofs.channel_words.push_detect.Goals as goal

pub returns : goal.returns
returns c =
    let o = c.args.options.now in
    let words = c.args.words.now in
    let some : list_all (wants o.detect) detect_names ≡ false = search rules in
    let text : c.bytes.result.now ≡ detect_list (wanted_of o) = c.bytes.ensures ∙ c.in_ok-list.ensures ∙ ap detect_list c.wanted-wanted.ensures in
    let called : c.push.new.self ≡ words ++ codes "DETECT" ∷ [] = search rules in
    let all : c.push.new.self ++ c.bytes.result.now ∷ [] ≡ words ++ list_words (codes "DETECT") detect_names o.detect =
    ap (λ (l : List Bytes). l ++ c.bytes.result.now ∷ []) called ∙ append_assoc words (codes "DETECT" ∷ []) (c.bytes.result.now ∷ [])
    ∙ ap (λ (t : Bytes). words ++ codes "DETECT" ∷ t ∷ []) text ∙ ap (λ (l : List Bytes). words ++ l) (sym (some_detected o some)) in
    subst (λ (l : List Bytes). OnOk c.push-2.result (c.push-2.new.self ≡ l)) all c.push-2.ensures
