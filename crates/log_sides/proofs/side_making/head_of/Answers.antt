use Rattle.std.proofs.Common.{◌∙◌, ◌∷◌, ◌++◌, [], List, ℕ, ap}
use Rattle.log_sides.specs.Texts.{newest, number_bytes}
use Rattle.log_sides.proofs.side_making.head_of.Goals as goal

pub returns : goal.returns
unfolding number_bytes
returns c = ap (λ (l : List ℕ). 84 ∷ 70 ∷ 76 ∷ newest ∷ 0 ∷ 0 ∷ 0 ∷ (l ++ 0 ∷ [])) (c.copy_from_slice.ensures.after ∙ c.to_be_bytes.ensures)
