-- An object that stands in a list in order: the list without it, and with it back in its place.
use Rattle.std.proofs.Common.{◌≡◌, ℕ, suc, ◌<◌, ◌≤◌, Bool, true, false, not, refl, sym, ap, ◌∙◌, subst, List, [], ◌∷◌, length, arith}
use Rattle.std.specs.Prelude.{Some, find, filter, sum_by}
use Rattle.std.specs.List.{list_all, AllByRecursion}
use Rattle.std.proofs.lemmas.List.Sums.{sum_by-cons}
use Rattle.ordered_lists.specs.Lists.{put_in}
use Rattle.world_data.specs.Worlds.{object_before, are_objects, is_at}
use Rattle.ordered_lists.specs.NameOrder.{pair_asym}
use Rattle.world_data.specs.declared.objects.Object.{Object}
use Rattle.record_writer.specs.ObjectSums.{same_stay}

-- what is found

module _ {A : Type 0} (g : A → Bool) (x : A) where
  pub found_holds : (P : A → Type 0) (xs : List A) → find g xs ≡ Some x → AllByRecursion P xs → P x
  found_holds P [] e ps = absurd (cc)
  found_holds P (y ∷ ys) e ps = by (g y) refl (found_holds P ys)
    where
      by : (b : Bool) → g y ≡ b → (find g ys ≡ Some x → AllByRecursion P ys → P x) → P x
      by true t ih = let is : y ≡ x = cc (rw t at e) in subst P is ps.0
      by false t ih = ih (rw t at e) ps.1

  found_passes : (f : A → Bool) (xs : List A) → find g xs ≡ Some x → list_all f xs ≡ true → f x ≡ true
  found_passes f [] e all = absurd (cc)
  found_passes f (y ∷ ys) e all = by (g y) refl (found_passes f ys)
    where
      here : f y ≡ true
      here = grind arith

      rest : list_all f ys ≡ true
      rest = grind arith

      by : (b : Bool) → g y ≡ b → (find g ys ≡ Some x → list_all f ys ≡ true → f x ≡ true) → f x ≡ true
      by true t ih = let is : y ≡ x = cc (rw t at e) in subst (λ z. f z ≡ true) is here
      by false t ih = ih (rw t at e) rest

  -- a sum over the list is no less than its part
  pub found_sum : (f : A → ℕ) (xs : List A) → find g xs ≡ Some x → f x ≤ sum_by f xs
  found_sum f [] e = absurd (cc)
  found_sum f (y ∷ ys) e = by (g y) refl (found_sum f ys)
    where
      by : (b : Bool) → g y ≡ b → (find g ys ≡ Some x → f x ≤ sum_by f ys) → f x ≤ sum_by f (y ∷ ys)
      by true t ih = let is : y ≡ x = cc (rw t at e) in let same : f y ≡ f x = ap f is in omega (arith, same, sum_by-cons f y ys)
      by false t ih = let le = ih (rw t at e) in omega (arith, le, sum_by-cons f y ys)

  -- without it the list is shorter
  pub shorter : (xs : List A) → find g xs ≡ Some x → length (filter (λ y. not (g y)) xs) < length xs
  shorter [] e = absurd (cc)
  shorter (y ∷ ys) e = by (g y) refl (shorter ys) (no_longer ys)
    where
      no_longer : (zs : List A) → length (filter (λ z. not (g z)) zs) ≤ length zs
      no_longer [] = omega arith
      no_longer (z ∷ zs) = let ih = no_longer zs in grind arith

      by : (b : Bool) → g y ≡ b → (find g ys ≡ Some x → length (filter (λ z. not (g z)) ys) < length ys)
          → length (filter (λ z. not (g z)) ys) ≤ length ys → length (filter (λ z. not (g z)) (y ∷ ys)) < suc (length ys)
      by true t ih le = rw t (omega (arith, le))
      by false t ih le = rw t (let lt = ih (rw t at e) in omega (arith, lt))

-- objects in order

module _ (o : Object) where
  -- what is left of the list without it
  abbrev left : List Object → List Object
  left xs = filter (λ p. not (is_at o.key o.id p)) xs

  goes_first : (xs : List Object) → list_all (object_before o) xs ≡ true → put_in object_before o xs ≡ o ∷ xs
  goes_first [] all = refl
  goes_first (x ∷ xs) all = grind arith

  -- it is put back in its place
  pub back_there : (xs : List Object) → are_objects xs ≡ true → find (is_at o.key o.id) xs ≡ Some o → put_in object_before o (left xs) ≡ xs
  back_there [] asc here = absurd (cc)
  back_there (x ∷ xs) asc here = by (is_at o.key o.id x) refl (back_there xs rest)
    where
      all : list_all (object_before x) xs ≡ true
      all = grind arith

      rest : are_objects xs ≡ true
      rest = grind arith

      by : (b : Bool) → is_at o.key o.id x ≡ b → (find (is_at o.key o.id) xs ≡ Some o → put_in object_before o (left xs) ≡ xs)
          → put_in object_before o (left (x ∷ xs)) ≡ x ∷ xs
      by true t ih =
          let is : x ≡ o = cc (rw t at here) in
          let behind : left xs ≡ xs = same_stay o.key o.id x xs t all in
          rw (t, behind) (goes_first xs (subst (λ (z : Object). list_all (object_before z) xs ≡ true) is all) ∙ ap (λ (z : Object). z ∷ xs) (sym is))
      by false t ih =
          let found = rw t at here in
          let before_ : object_before x o ≡ true = found_passes (is_at o.key o.id) o (object_before x) xs found all in
          let behind : object_before o x ≡ false = pair_asym (λ (o : Object). o.key) (λ o. o.id) x o before_ in
          rw (t, behind, before_) (ap (λ (zs : List Object). x ∷ zs) (ih found))
