-- Sorted lists in parts.
use Rattle.std.proofs.Common.{◌≡◌, Bool, true, false, not, refl, sym, ap, ◌∙◌, List, [], ◌∷◌, ◌++◌, arith, true≢false}
use Rattle.std.specs.Prelude.{filter}
use Rattle.std.specs.List.{list_all}
use Rattle.ordered_lists.specs.Lists.{sorted_by, insert_by, ascends}
use Rattle.ordered_lists.specs.Reading.{both_of, filter-passes, all-weaker}
use Rattle.ordered_lists.specs.Sorting.{all-sorted_by, insert_by-first}

module _ {A : Type 0} where
  -- what passes both of two tests, told by one, where each of the items has a property
  pub filter_both_of : (h t u v : A → Bool) (xs : List A) → list_all h xs ≡ true → ((x : A) → h x ≡ true → t x ≡ false → v x ≡ false) → ((x : A) → h x ≡ true → t x ≡ true → u x ≡ v x) → filter u (filter t xs) ≡ filter v xs
  filter_both_of h t u v [] all none same = refl
  filter_both_of h t u v (x ∷ xs) all none same =
      let p = both_of (h x) (list_all h xs) all in
      chosen (t x) refl (v x) refl p.0 (filter_both_of h t u v xs p.1 none same)
    where
      chosen : (b : Bool) → t x ≡ b → (d : Bool) → v x ≡ d → h x ≡ true → filter u (filter t xs) ≡ filter v xs → filter u (filter t (x ∷ xs)) ≡ filter v (x ∷ xs)
      chosen true e true f i ih = let g : u x ≡ true = same x i e ∙ f in rw (e, g, f) (ap (λ (l : List A). x ∷ l) ih)
      chosen true e false f i ih = let g : u x ≡ false = same x i e ∙ f in rw (e, g, f) ih
      chosen false e true f i ih = absurd (true≢false (sym f ∙ none x i e))
      chosen false e false f i ih = rw (e, f) ih

module _ {A : Type 0} (lt : A → A → Bool) where
  insert_low : (x : A) (ys zs : List A) → list_all (λ z. not (lt z x)) zs ≡ true → insert_by lt x (ys ++ zs) ≡ insert_by lt x ys ++ zs
  insert_low x [] zs all = insert_by-first lt x zs all
  insert_low x (y ∷ ys) zs all = chosen (lt y x) refl (insert_low x ys zs all)
    where
      chosen : (b : Bool) → lt y x ≡ b → insert_by lt x (ys ++ zs) ≡ insert_by lt x ys ++ zs → insert_by lt x ((y ∷ ys) ++ zs) ≡ insert_by lt x (y ∷ ys) ++ zs
      chosen true e ih = rw e (ap (λ (l : List A). y ∷ l) ih)
      chosen false e ih = rw e refl

  insert_high : (x : A) (ys zs : List A) → list_all (λ y. lt y x) ys ≡ true → insert_by lt x (ys ++ zs) ≡ ys ++ insert_by lt x zs
  insert_high x [] zs all = refl
  insert_high x (y ∷ ys) zs all = let p = both_of (lt y x) (list_all (λ y. lt y x) ys) all in rw p.0 (ap (λ (l : List A). y ∷ l) (insert_high x ys zs p.1))

  -- a sorted list where each of a kind is less than each of the others: those of the kind, sorted, and the others, sorted
  pub sorted_split : (low : A → Bool) → ((x y : A) → low x ≡ true → low y ≡ false → (lt x y ≡ true) × (lt y x ≡ false)) → (xs : List A)
      → sorted_by lt xs ≡ sorted_by lt (filter low xs) ++ sorted_by lt (filter (λ x. not (low x)) xs)
  sorted_split low apart [] = refl
  sorted_split low apart (x ∷ xs) = chosen (low x) refl (sorted_split low apart xs)
    where
      lows : List A
      lows = sorted_by lt (filter low xs)

      highs : List A
      highs = sorted_by lt (filter (λ x. not (low x)) xs)

      not_true : (b : Bool) → not b ≡ true → b ≡ false
      not_true false e = refl
      not_true true e = absurd (true≢false (sym e))

      chosen : (b : Bool) → low x ≡ b → sorted_by lt xs ≡ sorted_by lt (filter low xs) ++ sorted_by lt (filter (λ x. not (low x)) xs)
          → sorted_by lt (x ∷ xs) ≡ sorted_by lt (filter low (x ∷ xs)) ++ sorted_by lt (filter (λ x. not (low x)) (x ∷ xs))
      chosen true e ih =
          let behind : list_all (λ z. not (lt z x)) (sorted_by lt (filter (λ x. not (low x)) xs)) ≡ true =
          all-weaker (λ z. not (low z)) (λ z. not (lt z x)) (sorted_by lt (filter (λ x. not (low x)) xs)) (λ z n. ap not ((apart x z e (not_true (low z) n)).1)) (all-sorted_by lt (λ z. not (low z)) (filter (λ x. not (low x)) xs) (filter-passes (λ x. not (low x)) xs)) in
          ap (insert_by lt x) ih ∙ insert_low x (sorted_by lt (filter low xs)) (sorted_by lt (filter (λ x. not (low x)) xs)) behind ∙ shape
        where
          shape : insert_by lt x (sorted_by lt (filter low xs)) ++ sorted_by lt (filter (λ x. not (low x)) xs) ≡ sorted_by lt (filter low (x ∷ xs)) ++ sorted_by lt (filter (λ x. not (low x)) (x ∷ xs))
          shape = rw e refl
      chosen false e ih =
          let front : list_all (λ y. lt y x) (sorted_by lt (filter low xs)) ≡ true =
          all-weaker low (λ y. lt y x) (sorted_by lt (filter low xs)) (λ y l. (apart y x l e).0) (all-sorted_by lt low (filter low xs) (filter-passes low xs)) in
          ap (insert_by lt x) ih ∙ insert_high x (sorted_by lt (filter low xs)) (sorted_by lt (filter (λ x. not (low x)) xs)) front ∙ shape
        where
          shape : sorted_by lt (filter low xs) ++ insert_by lt x (sorted_by lt (filter (λ x. not (low x)) xs)) ≡ sorted_by lt (filter low (x ∷ xs)) ++ sorted_by lt (filter (λ x. not (low x)) (x ∷ xs))
          shape = rw e refl

  -- items of which none is less than another
  pub sorted_tied : (t : A → Bool) → ((x y : A) → t x ≡ true → t y ≡ true → lt y x ≡ false) → (xs : List A) → list_all t xs ≡ true → sorted_by lt xs ≡ xs
  sorted_tied t tied [] all = refl
  sorted_tied t tied (x ∷ xs) all =
      let p = both_of (t x) (list_all t xs) all in
      ap (insert_by lt x) (sorted_tied t tied xs p.1) ∙ insert_by-first lt x xs (all-weaker t (λ z. not (lt z x)) xs (λ z h. ap not (tied x z p.0 h)) p.1)

-- of items in front of which none of a later one stands by an order, those that tie are in that order already
module _ {A : Type 0} (less by : A → A → Bool) (nearer : A → A → Bool) (is : (x y : A) → by x y ≡ true → nearer y x ≡ less y x) where
  same_insert : (x : A) (ys : List A) → list_all (by x) ys ≡ true → insert_by nearer x ys ≡ insert_by less x ys
  same_insert x [] all = refl
  same_insert x (y ∷ ys) all = let ih = same_insert x ys in let here = is x y in grind arith

  pub same_sorted : (xs : List A) → ascends by xs ≡ true → sorted_by nearer xs ≡ sorted_by less xs
  same_sorted [] asc = refl
  same_sorted (x ∷ xs) asc =
      let b = both_of (list_all (by x) xs) (ascends by xs) asc in
      ap (insert_by nearer x) (same_sorted xs b.1) ∙ same_insert x (sorted_by less xs) (all-sorted_by less (by x) xs b.0)
