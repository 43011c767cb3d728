-- Objects of one key, between those of the keys before it and those of the keys behind it.
use Rattle.std.proofs.Common.{◌≡◌, Bool, true, false, not, refl, sym, ap, subst, ◌∙◌, List, [], ◌∷◌, ◌++◌, append-nil, arith}
use Rattle.std.specs.Prelude.{None, filter, find, if◌then◌else◌}
use Rattle.std.specs.List.{list_all, list_any}
use Rattle.byte_text.specs.Names.{Bytes, before}
use Rattle.ordered_lists.specs.Lists.{put_in}
use Rattle.world_data.specs.Worlds.{object_before, is_at, has_key}
use Rattle.world_data.specs.declared.objects.Object.{Object}
use Rattle.byte_text.specs.ByteOrder.{before_asym, before_self, same_refl, same_equal, other_before, other_behind}
use Rattle.ordered_lists.specs.Reading.{filter-all, both_of}
use Rattle.collection.specs.Objects.{id_before, has_id}

pub record Apart (key : Bytes) (front own back : List Object) : Type 0 where
  pub front_all : list_all (λ o. before o.key key) front ≡ true
  pub own_all : list_all (has_key key) own ≡ true
  pub back_all : list_all (λ o. before key o.key) back ≡ true

module _ {A : Type 0} (q : A → Bool) where
  pub all_both : (xs ys : List A) → list_all q xs ≡ true → list_all q ys ≡ true → list_all q (xs ++ ys) ≡ true
  all_both [] ys a b = b
  all_both (x ∷ xs) ys a b = let p = both_of (q x) (list_all q xs) a in rw (p.0, all_both xs ys p.1 b) refl

  pub filter_both : (xs ys : List A) → filter q (xs ++ ys) ≡ filter q xs ++ filter q ys
  filter_both [] ys = refl
  filter_both (x ∷ xs) ys = let ih = filter_both xs ys in grind arith

  pub filter_none : (xs : List A) → list_all (λ x. not (q x)) xs ≡ true → filter q xs ≡ []
  filter_none [] all = refl
  filter_none (x ∷ xs) all = let ih = filter_none xs in grind arith

  pub find_past : (xs ys : List A) → list_all (λ x. not (q x)) xs ≡ true → find q (xs ++ ys) ≡ find q ys
  find_past [] ys all = refl
  find_past (x ∷ xs) ys all = let ih = find_past xs ys in grind arith

  pub find_none : (xs : List A) → list_all (λ x. not (q x)) xs ≡ true → find q xs ≡ None
  find_none [] all = refl
  find_none (x ∷ xs) all = let ih = find_none xs in grind arith

  pub any_none : (xs : List A) → list_all (λ x. not (q x)) xs ≡ true → list_any q xs ≡ false
  any_none [] all = refl
  any_none (x ∷ xs) all = let ih = any_none xs in grind arith

  pub all_twice : (xs : List A) → list_all q xs ≡ true → list_all (λ x. not (not (q x))) xs ≡ true
  all_twice [] all = refl
  all_twice (x ∷ xs) all = let ih = all_twice xs in grind arith

-- objects of other keys
abbrev others : Bytes → List Object → Type 0
others key xs = list_all (λ o. not (has_key key o)) xs ≡ true

others_front : (key : Bytes) (xs : List Object) → list_all (λ o. before o.key key) xs ≡ true → others key xs
others_front key [] all = refl
others_front key (x ∷ xs) all =
    let p = both_of (before x.key key) (list_all (λ o. before o.key key) xs) all in
    rw (other_before x.key key p.0) (others_front key xs p.1)

others_back : (key : Bytes) (xs : List Object) → list_all (λ o. before key o.key) xs ≡ true → others key xs
others_back key [] all = refl
others_back key (x ∷ xs) all =
    let p = both_of (before key x.key) (list_all (λ o. before key o.key) xs) all in
    rw (other_behind x.key key p.0) (others_back key xs p.1)

others_at : (key id : Bytes) (xs : List Object) → others key xs → list_all (λ o. not (is_at key id o)) xs ≡ true
others_at key id [] all = refl
others_at key id (x ∷ xs) all = let ih = others_at key id xs in grind arith

module _ (key id : Bytes) where
  find_own : (xs ys : List Object) → list_all (has_key key) xs ≡ true → find (is_at key id) ys ≡ None → find (is_at key id) (xs ++ ys) ≡ find (has_id id) xs
  find_own [] ys all none = none
  find_own (x ∷ xs) ys all none = let ih = find_own xs ys in grind arith

  any_own : (xs : List Object) → list_all (has_key key) xs ≡ true → list_any (is_at key id) xs ≡ list_any (has_id id) xs
  any_own [] all = refl
  any_own (x ∷ xs) all = let ih = any_own xs in grind arith

  left_own : (xs : List Object) → list_all (has_key key) xs ≡ true → filter (λ o. not (is_at key id o)) xs ≡ filter (λ o. not (has_id id o)) xs
  left_own [] all = refl
  left_own (x ∷ xs) all = let ih = left_own xs in grind arith

any_past : {A : Type 0} (q : A → Bool) (xs ys : List A) → list_all (λ x. not (q x)) xs ≡ true → list_any q (xs ++ ys) ≡ list_any q ys
any_past q [] ys all = refl
any_past q (x ∷ xs) ys all = let ih = any_past q xs ys in grind arith

any_front : {A : Type 0} (q : A → Bool) (xs ys : List A) → list_any q ys ≡ false → list_any q (xs ++ ys) ≡ list_any q xs
any_front q [] ys none = none
any_front q (x ∷ xs) ys none = let ih = any_front q xs ys in grind arith

put_front : (o : Object) (xs ys : List Object) → list_all (λ p. before p.key o.key) xs ≡ true → put_in object_before o (xs ++ ys) ≡ xs ++ put_in object_before o ys
put_front o [] ys all = refl
put_front o (x ∷ xs) ys all =
    let p = both_of (before x.key o.key) (list_all (λ p. before p.key o.key) xs) all in
    rw (before_asym x.key o.key p.0, other_behind o.key x.key p.0, p.0) (ap (λ (l : List Object). x ∷ l) (put_front o xs ys p.1))

chosen : (a b : Bool) (x y z ys : List Object) → (if a then x ++ ys else if b then y ++ ys else z ++ ys) ≡ (if a then x else if b then y else z) ++ ys
chosen true b x y z ys = refl
chosen false true x y z ys = refl
chosen false false x y z ys = refl

-- within a key the order is that of ids
pub own_order : (o p : Object) → o.key ≡ p.key → object_before o p ≡ id_before o p
own_order o p e = rw (e, before_self p.key, same_refl p.key) refl

put_own : (o : Object) (xs ys : List Object) → list_all (has_key o.key) xs ≡ true → list_all (λ p. before o.key p.key) ys ≡ true → put_in object_before o (xs ++ ys) ≡ put_in id_before o xs ++ ys
put_own o [] [] own back = refl
put_own o [] (y ∷ ys) own back = rw ((both_of (before o.key y.key) (list_all (λ p. before o.key p.key) ys) back).0) refl
put_own o (x ∷ xs) ys own back =
    let p = both_of (has_key o.key x) (list_all (has_key o.key) xs) own in
    let e = same_equal x.key o.key p.0 in
    let a : object_before o x ≡ before o.id x.id = own_order o x (sym e) in
    let b : object_before x o ≡ before x.id o.id = own_order x o e in
    rw (a, b, put_own o xs ys p.1 back) (chosen (before o.id x.id) (before x.id o.id) (o ∷ x ∷ xs) (x ∷ put_in id_before o xs) (o ∷ xs) ys)

module _ (key : Bytes) (front own back : List Object) (parts : Apart key front own back) where
  pub found : (id : Bytes) → find (is_at key id) (front ++ (own ++ back)) ≡ find (has_id id) own
  found id =
      find_past (is_at key id) front (own ++ back) (others_at key id front (others_front key front parts.front_all))
      ∙ find_own key id own back parts.own_all (find_none (is_at key id) back (others_at key id back (others_back key back parts.back_all)))

  pub any_found : (id : Bytes) → list_any (is_at key id) (front ++ (own ++ back)) ≡ list_any (has_id id) own
  any_found id =
      any_past (is_at key id) front (own ++ back) (others_at key id front (others_front key front parts.front_all))
      ∙ any_front (is_at key id) own back (any_none (is_at key id) back (others_at key id back (others_back key back parts.back_all)))
      ∙ any_own key id own parts.own_all

  pub of_key : filter (has_key key) (front ++ (own ++ back)) ≡ own
  of_key =
      let f = filter_none (has_key key) front (others_front key front parts.front_all) in
      let b = filter_none (has_key key) back (others_back key back parts.back_all) in
      let o = filter-all (has_key key) own parts.own_all in
      rw (filter_both (has_key key) front (own ++ back), filter_both (has_key key) own back, f, b, o, append-nil own) refl

  pub left_others : filter (λ o. not (has_key key o)) (front ++ (own ++ back)) ≡ front ++ back
  left_others =
      let f = filter-all (λ o. not (has_key key o)) front (others_front key front parts.front_all) in
      let b = filter-all (λ o. not (has_key key o)) back (others_back key back parts.back_all) in
      let o = filter_none (λ o. not (has_key key o)) own (all_twice (has_key key) own parts.own_all) in
      rw (filter_both (λ o. not (has_key key o)) front (own ++ back), filter_both (λ o. not (has_key key o)) own back, f, b, o) refl

  pub left : (id : Bytes) → filter (λ o. not (is_at key id o)) (front ++ (own ++ back)) ≡ front ++ (filter (λ o. not (has_id id o)) own ++ back)
  left id =
      let f = filter-all (λ o. not (is_at key id o)) front (others_at key id front (others_front key front parts.front_all)) in
      let b = filter-all (λ o. not (is_at key id o)) back (others_at key id back (others_back key back parts.back_all)) in
      let o = left_own key id own parts.own_all in
      rw (filter_both (λ o. not (is_at key id o)) front (own ++ back), filter_both (λ o. not (is_at key id o)) own back, f, b, o) refl

  pub put : (o : Object) → o.key ≡ key → put_in object_before o (front ++ (own ++ back)) ≡ front ++ (put_in id_before o own ++ back)
  put o e =
      let f = subst (λ (k : Bytes). list_all (λ p. before p.key k) front ≡ true) (sym e) parts.front_all in
      let w = subst (λ (k : Bytes). list_all (has_key k) own ≡ true) (sym e) parts.own_all in
      let b = subst (λ (k : Bytes). list_all (λ p. before k p.key) back ≡ true) (sym e) parts.back_all in
      put_front o front (own ++ back) f ∙ ap (λ (l : List Object). front ++ l) (put_own o own back w b)
