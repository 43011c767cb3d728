-- The words of a request, from the last to the first.
use Rattle.std.proofs.Common.{◌≡◌, ◌∙◌, ◌+◌, ℕ, List, [], ◌∷◌, length, drop, ap, arith}
use Rattle.std.specs.Prelude.{Some, slice_get}
use Rattle.std.proofs.lemmas.List.{drop_all}
use Rattle.byte_text.specs.Names.{Bytes}
use Rattle.byte_text.specs.ListLaws.{drop_next}

-- no word stands behind the last
pub none_behind : (words : List Bytes) (count : ℕ) → length words ≡ count → drop count words ≡ []
none_behind words count is = drop_all count words (omega (arith, is))

-- the words from a place on: the one that stands there, and those behind it
pub from_word : (words : List Bytes) (at : ℕ) (word : Bytes) (rest : List Bytes) → slice_get words at ≡ Some word
    → drop (at + 1) words ≡ rest → drop at words ≡ word ∷ rest
from_word words at word rest here behind = drop_next words at word here ∙ ap (λ (ws : List Bytes). word ∷ ws) behind
