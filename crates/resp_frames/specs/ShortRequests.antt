-- Words of few bytes each.
use Rattle.std.specs.Prelude.{◌≡◌, ℕ, ◌<◌, List, length}
use Rattle.std.specs.List.{AllByRecursion}
use Rattle.byte_text.specs.Names.{Bytes}

-- so many words, each of less than 100 bytes
pub record AreShortWords (words : List Bytes) (count : ℕ) : Type 0 where
  pub short : AllByRecursion (λ w. length w < 100) words
  pub counted : length words ≡ count
