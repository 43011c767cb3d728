-- Sorted lists rise, by numbers that the order goes by.
use Rattle.std.proofs.Common.{◌≡◌, ℕ, zero, suc, ◌≤◌, Bool, true, false, refl, List, [], ◌∷◌, drop, arith}
use Rattle.std.specs.Prelude.{◌&&◌, ◌||◌, ◌==◌, nat_lt, Option, Some, None, unwrap_or, if◌then◌else◌}
use Rattle.std.specs.List.{AllByRecursion}
use Rattle.std.proofs.lemmas.Bool.Decides.{nat_tests}
use Rattle.ordered_lists.specs.Lists.{insert_by, sorted_by}
use Rattle.ordered_lists.specs.Sorting.{each-insert_by}
use Rattle.world_data.specs.Expiry.{deadline_of, due_before, channel_due_before}
use Rattle.world_data.specs.declared.channels.Channel.{Channel}
use Rattle.world_data.specs.declared.objects.Object.{Object}
use Rattle.tile_core.specs.Orders.{Rise}

module _ {A : Type 0} (key : A → ℕ) where
  pub all_above : (m n : ℕ) → m ≤ n → (xs : List A) → AllByRecursion (λ y. n ≤ key y) xs → AllByRecursion (λ y. m ≤ key y) xs
  all_above m n le [] all = tt
  all_above m n le (x ∷ xs) all = let here = all.0 in (omega (arith, le, here), all_above m n le xs all.1)

  pub rise_drop : (i : ℕ) (xs : List A) → Rise key xs → Rise key (drop i xs)
  rise_drop zero xs r = r
  rise_drop (suc i) [] r = tt
  rise_drop (suc i) (x ∷ xs) r = rise_drop i xs r.1

  module _ (lt : A → A → Bool) (up : (x y : A) → lt x y ≡ true → key x ≤ key y) (down : (x y : A) → lt x y ≡ false → key y ≤ key x) where
    rise_insert : (x : A) (ys : List A) → Rise key ys → Rise key (insert_by lt x ys)
    rise_insert x [] r = (tt, tt)
    rise_insert x (y ∷ ys) r = by (lt y x) refl (rise_insert x ys r.1)
      where
        by : (b : Bool) → lt y x ≡ b → Rise key (insert_by lt x ys) → Rise key (if b then y ∷ insert_by lt x ys else x ∷ y ∷ ys)
        by true e ih = (each-insert_by lt (λ z. key y ≤ key z) x ys (up y x e) r.0, ih)
        by false e ih = let le = down y x e in ((le, all_above (key x) (key y) le ys r.0), r)

    pub rise_sorted : (xs : List A) → Rise key (sorted_by lt xs)
    rise_sorted [] = tt
    rise_sorted (x ∷ xs) = rise_insert x (sorted_by lt xs) (rise_sorted xs)

-- the orders by deadline

pub deadline_is : (d : Option ℕ) → unwrap_or d 0 ≡ deadline_of d
deadline_is None = refl
deadline_is (Some n) = refl

first_up : (a b : ℕ) (tie : Bool) → (nat_lt a b || (a == b && tie)) ≡ true → a ≤ b
first_up a b tie e = grind (arith, nat_tests)

first_down : (a b : ℕ) (tie : Bool) → (nat_lt a b || (a == b && tie)) ≡ false → b ≤ a
first_down a b tie e = grind (arith, nat_tests)

pub objects_rise : (xs : List Object) → Rise (λ (o : Object). deadline_of o.deadline) (sorted_by due_before xs)
objects_rise xs = rise_sorted (λ (o : Object). deadline_of o.deadline) due_before (λ o p e. first_up (deadline_of o.deadline) (deadline_of p.deadline) _ e) (λ o p e. first_down (deadline_of o.deadline) (deadline_of p.deadline) _ e) xs

pub channels_rise : (xs : List Channel) → Rise (λ (c : Channel). deadline_of c.deadline) (sorted_by channel_due_before xs)
channels_rise xs = rise_sorted (λ (c : Channel). deadline_of c.deadline) channel_due_before (λ c d e. first_up (deadline_of c.deadline) (deadline_of d.deadline) _ e) (λ c d e. first_down (deadline_of c.deadline) (deadline_of d.deadline) _ e) xs
