use Rattle.std.proofs.Common.{List, ℕ, [], ◌∷◌, ◌++◌, sym, ap, ◌∙◌, subst}
use Rattle.byte_text.specs.Requests.{FitsRequest}
use Rattle.work_gen.specs.Brief.{brief_fits}
use Rattle.work_gen.specs.Words.{word_text}
use Rattle.work_gen.proofs.words.add.Goals as goal

pub push-requires : goal.push-requires
push-requires c =
    let text = c.bytes.ensures ∙ c.in_ok-push_word.ensures.text ∙ ap (λ (l : List ℕ). l ++ word_text c.args.word) c.new-text.ensures in
    subst (λ (w : List ℕ). FitsRequest (c.args.made.now ++ w ∷ [])) (sym text) (brief_fits c.args.made.now (word_text c.args.word) c.requires.brief c.requires.few c.in_ok-push_word.ensures.brief)
