-- The pieces of a word between its commas, as they are split.
use Rattle.std.proofs.Common.{◌≡◌, ℕ, refl, List, [], ◌∷◌}
use Rattle.std.specs.Prelude.{◌==◌}
use Rattle.std.specs.List.{slice_split, onto_first}
use Rattle.byte_text.specs.Names.{Bytes}
use Rattle.geo_text.specs.Texts.{joins_first}
use Rattle.world_model.specs.Kinds.{pieces}

first_onto : (b : ℕ) (words : List Bytes) → joins_first b words ≡ onto_first b words
first_onto b [] = refl
first_onto b (w ∷ words) = refl

pub pieces_split : (bytes : Bytes) → pieces bytes ≡ slice_split (λ b. b == 44) bytes
pieces_split [] = refl
pieces_split (b ∷ bytes) = rw (pieces_split bytes, first_onto b (slice_split (λ c. c == 44) bytes)) refl
