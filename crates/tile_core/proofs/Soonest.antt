-- The least deadline of objects: none comes before it.
use Rattle.std.proofs.Common.{◌≡◌, ℕ, ◌≤◌, min, refl, List, [], ◌∷◌, arith}
use Rattle.std.specs.Prelude.{Option, Some, None, fold}
use Rattle.world_data.specs.declared.objects.Object.{Object}
use Rattle.collection.specs.Objects.{earlier, least_due}
use Rattle.tile_core.specs.Dues.{AreDueFrom}

module _ (due_from : ℕ) where
  -- the moment, if there is one, is not before
  abbrev NotBefore : Option ℕ → Type 0
  NotBefore d = (m : ℕ) → d ≡ Some m → due_from ≤ m

  no_moment : NotBefore None
  no_moment m e = absurd (cc)

  one_moment : (a : ℕ) → due_from ≤ a → NotBefore (Some a)
  one_moment a le m e = let is : a ≡ m = cc in omega (arith, le, is)

  both : (a b : Option ℕ) → NotBefore (earlier a b) → NotBefore a × NotBefore b
  both None b f = (no_moment, f)
  both (Some a) None f = (f, no_moment)
  both (Some a) (Some b) f = let le : due_from ≤ min a b = f (min a b) refl in (one_moment a (omega (arith, le)), one_moment b (omega (arith, le)))

  all_from : (found : Option ℕ) (xs : List Object) → NotBefore (fold (λ d o. earlier d o.deadline) found xs) → NotBefore found × AreDueFrom due_from xs
  all_from found [] f = (f, tt)
  all_from found (x ∷ xs) f = let rest = all_from (earlier found x.deadline) xs f in let here = both found x.deadline rest.0 in (here.0, (here.1, rest.1))

  pub are_due_from : (xs : List Object) → NotBefore (least_due xs) → AreDueFrom due_from xs
  are_due_from xs f = (all_from None xs f).1
