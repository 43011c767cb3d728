-- An item is put into some of the items of an ascending list as into all.
use Rattle.std.proofs.Common.{◌≡◌, ◌∙◌, Bool, true, false, refl, sym, ap, List, [], ◌∷◌, arith}
use Rattle.std.specs.Prelude.{filter, ◌||◌, if◌then◌else◌}
use Rattle.std.specs.List.{list_all}
use Rattle.ordered_lists.specs.Lists.{ascends, put_in, ties}
use Rattle.ordered_lists.specs.Reading.{both_of, filter-both, all-filter}
use Rattle.ordered_lists.specs.Ascending.{irreflexive, put_in-first, behind_earlier, behind_tied}

module _ {A : Type 0} (lt : A → A → Bool) (asym : (x y : A) → lt x y ≡ true → lt y x ≡ false)
    (trans : (x y z : A) → lt x y ≡ true → lt y z ≡ true → lt x z ≡ true)
    (tie : (x y z : A) → lt x y ≡ false → lt y x ≡ false → lt y z ≡ true → lt x z ≡ true) where
  -- what stands behind x does not tie with it
  same_behind : (q : A → Bool) (x : A) (ys : List A) → list_all (lt x) ys ≡ true → filter (λ y. ties lt y x || q y) ys ≡ filter q ys
  same_behind q x [] all = refl
  same_behind q x (y ∷ ys) all =
      let parts = both_of (lt x y) (list_all (lt x) ys) all in
      rw (asym x y parts.0, parts.0) (ap (λ l. if q y then y ∷ l else l) (same_behind q x ys parts.1))

  keep_self : (q : A → Bool) (x : A) (zs : List A) → filter (λ z. ties lt z x || q z) (x ∷ zs) ≡ x ∷ filter (λ z. ties lt z x || q z) zs
  keep_self q x zs = rw (irreflexive lt asym x) refl

  -- where the item's place is found
  put_by : (q : A → Bool) (x y : A) (ys : List A) → list_all (lt y) ys ≡ true
      → put_in lt x (filter q ys) ≡ filter (λ z. ties lt z x || q z) (put_in lt x ys)
      → (a b c : Bool) → lt x y ≡ a → lt y x ≡ b → q y ≡ c → put_in lt x (filter q (y ∷ ys)) ≡ filter (λ z. ties lt z x || q z) (put_in lt x (y ∷ ys))
  put_by q x y ys all ih true b c e f g =
      let behind : list_all (lt x) (y ∷ ys) ≡ true = rw e (behind_earlier lt trans tie x y ys e all) in
      put_in-first lt x (filter q (y ∷ ys)) (all-filter (lt x) q (y ∷ ys) behind)
      ∙ sym (ap (filter (λ z. ties lt z x || q z)) (put_in-first lt x (y ∷ ys) behind) ∙ keep_self q x (y ∷ ys)
      ∙ ap (λ l. x ∷ l) (same_behind q x (y ∷ ys) behind))
  put_by q x y ys all ih false true true e f g = simp (g, e, f) (ap (λ l. y ∷ l) ih)
  put_by q x y ys all ih false true false e f g = simp (g, e, f) ih
  put_by q x y ys all ih false false true e f g =
      let behind = behind_tied lt trans tie x y ys e f all in
      let itself = irreflexive lt asym x in
      simp (g, e, f, itself) (ap (λ l. x ∷ l) (sym (same_behind q x ys behind)))
  put_by q x y ys all ih false false false e f g =
      let behind = behind_tied lt trans tie x y ys e f all in
      let itself = irreflexive lt asym x in
      simp (g, e, f, itself) (put_in-first lt x (filter q ys) (all-filter (lt x) q ys behind) ∙ ap (λ l. x ∷ l) (sym (same_behind q x ys behind)))

  -- a put into some of the items is a put into all, with the item among those that are picked
  pub put_in-picked : (q : A → Bool) (x : A) (ys : List A) → ascends lt ys ≡ true
      → put_in lt x (filter q ys) ≡ filter (λ z. ties lt z x || q z) (put_in lt x ys)
  put_in-picked q x [] asc = rw (irreflexive lt asym x) refl
  put_in-picked q x (y ∷ ys) asc =
      let parts = both_of (list_all (lt y) ys) (ascends lt ys) asc in
      put_by q x y ys parts.0 (put_in-picked q x ys parts.1) (lt x y) (lt y x) (q y) refl refl refl

  -- items that are not kept make no difference
  pub put_in-kept : (q : A → Bool) (x : A) (ys : List A) → ascends lt ys ≡ true → filter q (put_in lt x (filter q ys)) ≡ filter q (put_in lt x ys)
  put_in-kept q x ys asc =
      ap (filter q) (put_in-picked q x ys asc) ∙ filter-both (λ z. ties lt z x || q z) q q (put_in lt x ys) not_kept (λ z e. refl)
    where
      not_kept : (z : A) → (ties lt z x || q z) ≡ false → q z ≡ false
      not_kept z e = grind arith
