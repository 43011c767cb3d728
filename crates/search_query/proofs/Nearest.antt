-- What a walk by distance has given so far of what a query finds within reach.
use Rattle.std.proofs.Common.{◌≡◌, ◌<◌, ◌≤◌, ◌+◌, ◌*◌, ℕ, zero, suc, Bool, true, false, not, refl, sym, ap, ◌∙◌, List, [], ◌∷◌, ◌++◌, length, map, take, drop, arith, true≢false}
use Rattle.std.specs.Prelude.{filter, nat_eq, nat_lt, nat_le, ◌||◌, Option, Some, None, if◌then◌else◌}
use Rattle.std.specs.List.{list_all}
use Rattle.std.proofs.lemmas.Bool.Decides.{nat_tests}
use Rattle.byte_text.specs.ByteOrder.{before_asym}
use Rattle.planar_geom.specs.Points.{Point}
use Rattle.ordered_lists.specs.Lists.{sorted_by, insert_by}
use Rattle.ordered_lists.specs.Ascending.{ascends-filter}
use Rattle.ordered_lists.specs.Reading.{both_of, all-filter, filter-all, filter-both, filter-passes}
use Rattle.world_data.specs.declared.objects.Object.{Object}
use Rattle.world_data.specs.declared.queries.Query.{Query}
use Rattle.fence_model.specs.Queries.{distance, meets_query, within_reach, nearer, near_matches, page_items, page_ids, is_count}
use Rattle.collection.specs.Nearing.{is_farther}
use Rattle.collection.specs.Objects.{are_by_id, id_before}
use Rattle.search_query.specs.Found.{near_found, is_reached, nearer_box, is_given, found_so_far}
use Rattle.search_query.proofs.Sorting.{filter_both_of, sorted_split, sorted_tied, same_sorted}

by_nearness : (p : Point) (x y : Object) → id_before x y ≡ true → nearer p y x ≡ nearer_box p y x
by_nearness p x y b = let other = before_asym x.id y.id b in grind arith

by_number : (p : Point) (reach : Option ℕ) (o : Object) → within_reach p reach o ≡ is_reached reach (distance p o)
by_number p None o = refl
by_number p (Some r) o = refl

-- ---- numbers

given_apart : (given : Option ℕ) (a b : ℕ) → not (is_farther given a) ≡ true → not (is_farther given b) ≡ false → (nat_lt a b ≡ true) × (nat_lt b a ≡ false)
given_apart None a b low high = absurd (true≢false (sym low))
given_apart (Some g) a b low high = (grind (arith, nat_tests), grind (arith, nat_tests))

given_then : (given : Option ℕ) (d e : ℕ) → is_farther given d ≡ true → not (is_farther (Some d) e) ≡ false → not (is_farther given e) ≡ false
given_then None d e far h = refl
given_then (Some g) d e far h = grind (arith, nat_tests)

given_now : (given : Option ℕ) (d e : ℕ) → is_farther given d ≡ true → (not (is_farther given e) || nat_le d e) ≡ true → not (is_farther (Some d) e) ≡ true → not (not (is_farther given e)) ≡ nat_eq e d
given_now None d e far least h = grind (arith, nat_tests)
given_now (Some g) d e far least h = grind (arith, nat_tests)

not_now : (d e : ℕ) → not (is_farther (Some d) e) ≡ false → nat_eq e d ≡ false
not_now d e h = grind (arith, nat_tests)

unreached : (reach given : Option ℕ) (d e : ℕ) → is_reached reach d ≡ false → (not (is_farther given e) || nat_le d e) ≡ true → is_reached reach e ≡ true → not (is_farther given e) ≡ true
unreached None given d e far least near = absurd (true≢false far)
unreached (Some r) given d e far least near = chosen (not (is_farther given e)) refl
  where
    chosen : (b : Bool) → not (is_farther given e) ≡ b → b ≡ true
    chosen true h = refl
    chosen false h = absurd (no (r * r) d e far (or_right (not (is_farther given e)) (nat_le d e) h least) near)
      where
        or_right : (a b : Bool) → a ≡ false → (a || b) ≡ true → b ≡ true
        or_right true b h t = absurd (true≢false h)
        or_right false b h t = t

        no : (r d e : ℕ) → nat_le d r ≡ false → nat_le d e ≡ true → nat_le e r ≡ true → ⊥
        no r d e a b c = absurd (grind (arith, nat_tests))

module _ (q : Query) (p : Point) (reach : Option ℕ) (objects : List Object) where
  abbrev found : List Object
  found = near_found q p reach objects

  -- what holds of all objects holds of those found
  of_found : (t : Object → Bool) → list_all t objects ≡ true → list_all t found ≡ true
  of_found t all = all-filter t (within_reach p reach) (filter (meets_query q) objects) (all-filter t (meets_query q) objects all)

  -- those given so far, and those that were not
  pub split_given : (given : Option ℕ) → sorted_by (nearer_box p) found ≡ found_so_far q p reach given objects ++ sorted_by (nearer_box p) (filter (λ o. not (is_given p given o)) found)
  split_given given = sorted_split (nearer_box p) (is_given p given) (λ x y low high. given_apart given (distance p x) (distance p y) low high) found

  -- all that is found, the nearest first
  pub all_found : are_by_id objects ≡ true → sorted_by (nearer_box p) found ≡ near_matches q p reach objects
  all_found asc =
      let by_id = ascends-filter id_before (within_reach p reach) (filter (meets_query q) objects) (ascends-filter id_before (meets_query q) objects asc) in
      sym (same_sorted (nearer_box p) id_before (nearer p) (by_nearness p) found by_id)

  -- once all was given
  pub given_all : (given : Option ℕ) → are_by_id objects ≡ true → list_all (is_given p given) found ≡ true → found_so_far q p reach given objects ≡ near_matches q p reach objects
  given_all given asc all = ap (sorted_by (nearer_box p)) (filter-all (is_given p given) found all) ∙ all_found asc

  pub all_given : (given : Option ℕ) → list_all (is_given p given) objects ≡ true → list_all (is_given p given) found ≡ true
  all_given given all = of_found (is_given p given) all

  -- once what is left is out of reach
  pub none_reached : (given : Option ℕ) (d : ℕ) → is_reached reach d ≡ false → list_all (λ o. not (is_farther given (distance p o)) || nat_le d (distance p o)) objects ≡ true → list_all (is_given p given) found ≡ true
  none_reached given d far least = walked (filter (meets_query q) objects) (all-filter (λ o. not (is_farther given (distance p o)) || nat_le d (distance p o)) (meets_query q) objects least)
    where
      walked : (os : List Object) → list_all (λ o. not (is_farther given (distance p o)) || nat_le d (distance p o)) os ≡ true → list_all (is_given p given) (filter (within_reach p reach) os) ≡ true
      walked [] all = refl
      walked (o ∷ os) all =
          let b = both_of (not (is_farther given (distance p o)) || nat_le d (distance p o)) (list_all (λ o. not (is_farther given (distance p o)) || nat_le d (distance p o)) os) all in
          chosen (within_reach p reach o) refl b.0 (walked os b.1)
        where
          chosen : (b : Bool) → within_reach p reach o ≡ b → (not (is_farther given (distance p o)) || nat_le d (distance p o)) ≡ true → list_all (is_given p given) (filter (within_reach p reach) os) ≡ true → list_all (is_given p given) (filter (within_reach p reach) (o ∷ os)) ≡ true
          chosen true e least ih =
              let here : is_given p given o ≡ true = unreached reach given d (distance p o) far least (sym (by_number p reach o) ∙ e) in
              rw (e, here) ih
          chosen false e least ih = rw e ih

  -- those that are so far away, as they stand among all and among those found
  found_at : (d : ℕ) → is_reached reach d ≡ true → filter (meets_query q) (filter (λ o. nat_eq (distance p o) d) objects) ≡ filter (λ o. nat_eq (distance p o) d) found
  found_at d near = walked objects
    where
      reached : (o : Object) → nat_eq (distance p o) d ≡ true → within_reach p reach o ≡ true
      reached o e =
          let same : distance p o ≡ d = grind (arith, nat_tests) in
          by_number p reach o ∙ ap (is_reached reach) same ∙ near

      walked : (os : List Object) → filter (meets_query q) (filter (λ o. nat_eq (distance p o) d) os) ≡ filter (λ o. nat_eq (distance p o) d) (filter (within_reach p reach) (filter (meets_query q) os))
      walked [] = refl
      walked (o ∷ os) = chosen (nat_eq (distance p o) d) refl (meets_query q o) refl (within_reach p reach o) refl (walked os)
        where
          chosen : (b : Bool) → nat_eq (distance p o) d ≡ b → (m : Bool) → meets_query q o ≡ m → (r : Bool) → within_reach p reach o ≡ r
              → filter (meets_query q) (filter (λ o. nat_eq (distance p o) d) os) ≡ filter (λ o. nat_eq (distance p o) d) (filter (within_reach p reach) (filter (meets_query q) os))
              → filter (meets_query q) (filter (λ o. nat_eq (distance p o) d) (o ∷ os)) ≡ filter (λ o. nat_eq (distance p o) d) (filter (within_reach p reach) (filter (meets_query q) (o ∷ os)))
          chosen true e true m true r ih = rw (e, m, r, e) (ap (λ (l : List Object). o ∷ l) ih)
          chosen true e true m false r ih = absurd (true≢false (sym (reached o e) ∙ r))
          chosen true e false m t r ih = rw (e, m) ih
          chosen false e true m true r ih = rw (e, m, r, e) ih
          chosen false e true m false r ih = rw (e, m, r) ih
          chosen false e false m t r ih = rw (e, m) ih

  module _ (given : Option ℕ) (d : ℕ) (far : is_farther given d ≡ true) (least : list_all (λ o. not (is_farther given (distance p o)) || nat_le d (distance p o)) objects ≡ true) where
    -- those at the next distance stand behind those given before
    pub next_given : is_reached reach d ≡ true → found_so_far q p reach (Some d) objects ≡ found_so_far q p reach given objects ++ filter (meets_query q) (filter (λ o. nat_eq (distance p o) d) objects)
    next_given near =
        let now = filter (is_given p (Some d)) found in
        let split = sorted_split (nearer_box p) (is_given p given) (λ x y low high. given_apart given (distance p x) (distance p y) low high) now in
        let before : filter (is_given p given) now ≡ filter (is_given p given) found = filter-both (is_given p (Some d)) (is_given p given) (is_given p given) found (λ x h. given_then given d (distance p x) far h) (λ x h. refl) in
        let newly : filter (λ o. not (is_given p given o)) now ≡ filter (λ o. nat_eq (distance p o) d) found =
        filter_both_of (λ o. not (is_farther given (distance p o)) || nat_le d (distance p o)) (is_given p (Some d)) (λ o. not (is_given p given o)) (λ o. nat_eq (distance p o) d) found (of_found (λ o. not (is_farther given (distance p o)) || nat_le d (distance p o)) least)
        (λ x i h. not_now d (distance p x) h) (λ x i h. given_now given d (distance p x) far i h) in
        let alike : sorted_by (nearer_box p) (filter (λ o. nat_eq (distance p o) d) found) ≡ filter (λ o. nat_eq (distance p o) d) found =
        sorted_tied (nearer_box p) (λ o. nat_eq (distance p o) d) (λ x y a b. as_far (distance p x) (distance p y) a b) (filter (λ o. nat_eq (distance p o) d) found) (filter-passes (λ o. nat_eq (distance p o) d) found) in
        split
        ∙ ap (λ (l : List Object). sorted_by (nearer_box p) l ++ sorted_by (nearer_box p) (filter (λ o. not (is_given p given o)) now)) before
        ∙ ap (λ (l : List Object). found_so_far q p reach given objects ++ sorted_by (nearer_box p) l) newly
        ∙ ap (λ (l : List Object). found_so_far q p reach given objects ++ l) (alike ∙ sym (found_at d near))
      where
        as_far : (a b : ℕ) → nat_eq a d ≡ true → nat_eq b d ≡ true → nat_lt b a ≡ false
        as_far a b e f = grind (arith, nat_tests)

    -- fewer are left
    pub fewer_left : 1 ≤ length (filter (λ o. nat_eq (distance p o) d) objects) → length (filter (λ o. is_farther (Some d) (distance p o)) objects) < length (filter (λ o. is_farther given (distance p o)) objects)
    fewer_left some = let all = counted objects in omega (arith, all, some)
      where
        counted : (os : List Object) → length (filter (λ o. is_farther (Some d) (distance p o)) os) + length (filter (λ o. nat_eq (distance p o) d) os) ≤ length (filter (λ o. is_farther given (distance p o)) os)
        counted [] = omega arith
        counted (o ∷ os) = chosen (is_farther (Some d) (distance p o)) refl (nat_eq (distance p o) d) refl (is_farther given (distance p o)) refl (counted os)
          where
            here_too : (g : Option ℕ) (e : ℕ) → is_farther g d ≡ true → is_farther (Some d) e ≡ true → is_farther g e ≡ true
            here_too None e far h = refl
            here_too (Some g) e far h = grind (arith, nat_tests)

            not_both : (e : ℕ) → is_farther (Some d) e ≡ true → nat_eq e d ≡ true → ⊥
            not_both e h f = absurd (grind (arith, nat_tests))

            there : (e : ℕ) → nat_eq e d ≡ true → is_farther given e ≡ true
            there e f = let same : e ≡ d = grind (arith, nat_tests) in ap (is_farther given) same ∙ far

            chosen : (b : Bool) → is_farther (Some d) (distance p o) ≡ b → (c : Bool) → nat_eq (distance p o) d ≡ c → (g : Bool) → is_farther given (distance p o) ≡ g
                → length (filter (λ o. is_farther (Some d) (distance p o)) os) + length (filter (λ o. nat_eq (distance p o) d) os) ≤ length (filter (λ o. is_farther given (distance p o)) os)
                → length (filter (λ o. is_farther (Some d) (distance p o)) (o ∷ os)) + length (filter (λ o. nat_eq (distance p o) d) (o ∷ os)) ≤ length (filter (λ o. is_farther given (distance p o)) (o ∷ os))
            chosen true h true f g i ih = absurd (not_both (distance p o) h f)
            chosen true h false f true i ih = rw (h, f, i) (omega (arith, ih))
            chosen true h false f false i ih = absurd (true≢false (sym (here_too given (distance p o) far h) ∙ i))
            chosen false h true f true i ih = rw (h, f, i) (omega (arith, ih))
            chosen false h true f false i ih = absurd (true≢false (sym (there (distance p o) f) ∙ i))
            chosen false h false f true i ih = rw (h, f, i) (omega (arith, ih))
            chosen false h false f false i ih = rw (h, f, i) ih

    -- and all can be counted
    pub few_given : length (found_so_far q p reach given objects) + length (filter (λ o. nat_eq (distance p o) d) objects) ≤ length objects
    few_given = omega (arith, length_sorted (nearer_box p) (filter (is_given p given) found), few objects)
      where
        length_insert : (x : Object) (ys : List Object) → length (insert_by (nearer_box p) x ys) ≡ suc (length ys)
        length_insert x [] = refl
        length_insert x (y ∷ ys) = chosen (nearer_box p y x) refl (length_insert x ys)
          where
            chosen : (b : Bool) → nearer_box p y x ≡ b → length (insert_by (nearer_box p) x ys) ≡ suc (length ys) → length (insert_by (nearer_box p) x (y ∷ ys)) ≡ suc (length (y ∷ ys))
            chosen true e ih = rw e (ap suc ih)
            chosen false e ih = rw e refl

        length_sorted : (lt : Object → Object → Bool) (xs : List Object) → length (sorted_by (nearer_box p) xs) ≡ length xs
        length_sorted lt [] = refl
        length_sorted lt (x ∷ xs) = length_insert x (sorted_by (nearer_box p) xs) ∙ ap suc (length_sorted lt xs)

        not_both : (o : Object) → is_given p given o ≡ true → nat_eq (distance p o) d ≡ true → ⊥
        not_both o g e =
            let same : distance p o ≡ d = grind (arith, nat_tests) in
            let far' : is_farther given (distance p o) ≡ true = ap (is_farther given) same ∙ far in
            true≢false (sym g ∙ ap not far')

        few : (os : List Object) → length (filter (is_given p given) (near_found q p reach os)) + length (filter (λ o. nat_eq (distance p o) d) os) ≤ length os
        few [] = omega arith
        few (o ∷ os) = chosen (meets_query q o) refl (within_reach p reach o) refl (is_given p given o) refl (nat_eq (distance p o) d) refl (few os)
          where
            chosen : (m : Bool) → meets_query q o ≡ m → (r : Bool) → within_reach p reach o ≡ r → (g : Bool) → is_given p given o ≡ g → (b : Bool) → nat_eq (distance p o) d ≡ b
                → length (filter (is_given p given) (near_found q p reach os)) + length (filter (λ o. nat_eq (distance p o) d) os) ≤ length os
                → length (filter (is_given p given) (near_found q p reach (o ∷ os))) + length (filter (λ o. nat_eq (distance p o) d) (o ∷ os)) ≤ length (o ∷ os)
            chosen m k r l true g true b ih = absurd (not_both o g b)
            chosen true m true r true g false b ih = rw (m, r, g, b) (omega (arith, ih))
            chosen true m true r false g true b ih = rw (m, r, g, b) (omega (arith, ih))
            chosen true m true r false g false b ih = rw (m, r, g, b) (omega (arith, ih))
            chosen true m false r g h true b ih = rw (m, r, b) (omega (arith, ih))
            chosen true m false r g h false b ih = rw (m, r, b) (omega (arith, ih))
            chosen false m r s g h true b ih = rw (m, b) (omega (arith, ih))
            chosen false m r s g h false b ih = rw (m, b) (omega (arith, ih))

no_items : (n m : ℕ) → take {A = Object} n (drop m []) ≡ []
no_items zero zero = refl
no_items zero (suc m) = refl
no_items (suc n) zero = refl
no_items (suc n) (suc m) = refl

-- before anything was given
pub none_given : (q : Query) (p : Point) (reach : Option ℕ) (objects : List Object) → found_so_far q p reach None objects ≡ []
none_given q p reach objects = ap (sorted_by (nearer_box p)) (none (near_found q p reach objects))
  where
    none : (os : List Object) → filter (is_given p None) os ≡ []
    none [] = refl
    none (o ∷ os) = none os

pub no_page : (q : Query) → page_ids q [] ≡ []
no_page q = chosen (is_count q.shown)
  where
    chosen : (b : Bool) → (if b then [] else map (λ (o : Object). o.id) (page_items q [])) ≡ []
    chosen true = refl
    chosen false = ap (map (λ (o : Object). o.id)) (no_items q.limit q.cursor)

pub is_out : (b : Bool) → not b ≡ true → b ≡ false
is_out false e = refl
is_out true e = absurd (true≢false (sym e))

pub is_in : (b : Bool) → not b ≡ false → b ≡ true
is_in true e = refl
is_in false e = absurd (true≢false e)

pub only_none : (o : Option ℕ) → ((d : ℕ) → o ≡ Some d → ⊥) → o ≡ None
only_none None other = refl
only_none (Some d) other = absurd (other d refl)
