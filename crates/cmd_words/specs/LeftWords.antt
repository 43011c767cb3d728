-- The words from a place on, where one of them stands there.
use Rattle.std.proofs.Common.{◌≡◌, ℕ, ◌+◌, ◌<◌, suc, List, ◌∷◌, length, drop, drop-cons, add-one, ap, ◌∙◌}
use Rattle.std.specs.Prelude.{Some, slice_get}
use Rattle.std.proofs.lemmas.Option.{get_or_from_slice_get}
use Rattle.byte_text.specs.Names.{Bytes}

pub one_less : (words : List Bytes) (read : ℕ) (w : Bytes) → read < length words → slice_get words read ≡ Some w
    → drop read words ≡ w ∷ drop (read + 1) words
one_less words read w lt e = rw add-one (drop-cons words read w lt ∙ ap (λ v. v ∷ drop (suc read) words) (get_or_from_slice_get words read w w e))
