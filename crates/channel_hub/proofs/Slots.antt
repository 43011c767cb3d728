-- The items in slots, one slot after another.
use Rattle.std.proofs.Common.{◌≡◌, ◌<◌, ◌+◌, ℕ, ap, ◌∙◌, List, [], ◌∷◌, ◌++◌, length, take, get_or}
use Rattle.std.specs.Prelude.{Option, filter_map}
use Rattle.std.specs.List.{cons_option}
use Rattle.std.proofs.lemmas.List.{take_more}
use Rattle.std.proofs.lemmas.List.Elements.{filter_map-append}

-- what one slot more has
pub there_more : {A : Type 0} (f : ℕ → Option A) (slots : List ℕ) (i d : ℕ) → i < length slots → filter_map f (take (i + 1) slots) ≡ filter_map f (take i slots) ++ cons_option (f (get_or slots i d)) []
there_more f slots i d lt = ap (filter_map f) (take_more slots i d lt) ∙ filter_map-append f (take i slots) (get_or slots i d ∷ [])
