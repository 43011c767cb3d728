-- The words of requests.
use Rattle.std.proofs.Common.{◌≡◌, ℕ, ◌+◌, ◌<◌, List, [], ◌∷◌, ◌++◌, length, take, get_or, refl, sym, ap, ◌∙◌, arith}
use Rattle.std.specs.Prelude.{true}
use Rattle.std.proofs.lemmas.List.{take_more, map-append, length-map}
use Rattle.byte_text.specs.Names.{Bytes}
use Rattle.world_model.specs.Outcomes.{is_proper}
use Rattle.world_model.specs.declared.events.Asked.TheVariants.{Words}
use Rattle.work_gen.specs.declared.words.Word.{Word}
use Rattle.work_gen.specs.Words.{word_text, texts}

pub texts_none : texts [] ≡ []
unfolding texts
texts_none = refl

pub texts_more : (words : List Word) (w : Word) → texts (words ++ w ∷ []) ≡ texts words ++ word_text w ∷ []
unfolding texts
texts_more words w = map-append word_text words (w ∷ [])

pub texts_length : (words : List Word) → length (texts words) ≡ length words
unfolding texts
texts_length words = length-map words word_text

-- one word more
pub texts_next : (words : List Word) (i : ℕ) (d : Word) (old made : List Bytes) → i < length words → old ≡ texts (take i words) → made ≡ old ++ word_text (get_or words i d) ∷ [] → made ≡ texts (take (i + 1) words)
texts_next words i d old made h is e =
    e ∙ ap (λ (l : List Bytes). l ++ word_text (get_or words i d) ∷ []) is ∙ sym (texts_more (take i words) (get_or words i d))
    ∙ ap (λ (l : List Word). texts l) (sym (take_more words i d h))

pub proper_some : (words : List Word) → 0 < length words → is_proper (Words (texts words)) ≡ true
unfolding texts
proper_some [] h = absurd (omega (arith, h))
proper_some (w ∷ words) h = refl
