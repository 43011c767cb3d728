-- Words grow by one part at a time.
use Rattle.std.proofs.Common.{◌≡◌, ◌∙◌, ◌+◌, ℕ, List, [], ◌∷◌, ◌++◌, map, take, sym, ap, append_assoc}
use Rattle.std.specs.Prelude.{Some, flat_map}
use Rattle.std.specs.List.{slice_get}
use Rattle.std.proofs.lemmas.Grind.{flat_map-append}
use Rattle.std.proofs.lemmas.List.{append-nil, map-append}
use Rattle.byte_text.specs.Names.{Bytes}
use Rattle.byte_text.specs.ListLaws.{take_next}

module _ {A : Type 0} (xs : List A) (i : ℕ) (x : A) (at : slice_get xs i ≡ Some x) (old into grown : List Bytes) where
  -- the words of the part at a place were put last
  pub words_more : (words_of : A → List Bytes) → into ≡ old ++ flat_map words_of (take i xs) → grown ≡ into ++ words_of x → grown ≡ old ++ flat_map words_of (take (i + 1) xs)
  words_more words_of before is =
      let last : flat_map words_of (take (i + 1) xs) ≡ flat_map words_of (take i xs) ++ words_of x =
      ap (flat_map words_of) (take_next xs i x at) ∙ flat_map-append words_of (take i xs) (x ∷ []) ∙ ap (λ (l : List Bytes). flat_map words_of (take i xs) ++ l) (append-nil (words_of x)) in
      is ∙ ap (λ (l : List Bytes). l ++ words_of x) before ∙ append_assoc old (flat_map words_of (take i xs)) (words_of x) ∙ ap (λ (l : List Bytes). old ++ l) (sym last)

  -- the word of the part at a place was put last
  pub word_more : (word_of : A → Bytes) → into ≡ old ++ map word_of (take i xs) → grown ≡ into ++ word_of x ∷ [] → grown ≡ old ++ map word_of (take (i + 1) xs)
  word_more word_of before is =
      let last : map word_of (take (i + 1) xs) ≡ map word_of (take i xs) ++ word_of x ∷ [] = ap (map word_of) (take_next xs i x at) ∙ map-append word_of (take i xs) (x ∷ []) in
      is ∙ ap (λ (l : List Bytes). l ++ word_of x ∷ []) before ∙ append_assoc old (map word_of (take i xs)) (word_of x ∷ []) ∙ ap (λ (l : List Bytes). old ++ l) (sym last)
