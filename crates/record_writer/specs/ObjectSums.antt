-- The weight of objects: sums over them, and what changes of the objects make of these.
use Rattle.std.proofs.Common.{◌≡◌, ℕ, zero, suc, ◌+◌, ◌≤◌, Bool, true, false, not, refl, sym, ap, ◌∙◌, List, [], ◌∷◌, ◌++◌, take, arith}
use Rattle.std.specs.Prelude.{Some, None, sum_by, find, filter, slice_get, if◌then◌else◌, ◌&&◌, ◌||◌}
use Rattle.std.specs.List.{list_all}
use Rattle.std.proofs.lemmas.List.Sums.{sum_by-cons, sum_by_push}
use Rattle.byte_text.specs.Names.{Bytes, before, same}
use Rattle.ordered_lists.specs.Lists.{put_in}
use Rattle.world_data.specs.Worlds.{are_objects, object_before, is_at}
use Rattle.world_data.specs.declared.objects.Object.{Object}
use Rattle.byte_text.specs.ByteOrder.{before_tie, before_self, same_refl, same_equal}
use Rattle.ordered_lists.specs.NameOrder.{pair_asym}
use Rattle.record_writer.specs.Lengths.{len_of}

-- the order of objects, and the one of a key and an id

pub at_is : (key id : Bytes) (o : Object) → is_at key id o ≡ true → (o.key ≡ key) × (o.id ≡ id)
at_is key id o e = (same_equal o.key key (grind arith), same_equal o.id id (grind arith))

-- neither stands before the other
pub tied : (o p : Object) → object_before o p ≡ false → object_before p o ≡ false → is_at o.key o.id p ≡ true
tied o p a b =
    let k = before_tie o.key p.key in
    let i = before_tie o.id p.id in
    let r = same_refl o.key in
    let s = same_refl o.id in
    grind arith

-- one of the same key and id stands as it
like : (key id : Bytes) (o p q : Object) → is_at key id p ≡ true → is_at key id q ≡ true → object_before o p ≡ object_before o q
like key id o p q a b =
    let s = at_is key id p a in
    let t = at_is key id q b in
    let k : p.key ≡ q.key = s.0 ∙ sym t.0 in
    let i : p.id ≡ q.id = s.1 ∙ sym t.1 in
    ap (λ (m : Bytes). before o.key m || (same o.key m && before o.id p.id)) k
    ∙ ap (λ (m : Bytes). before o.key q.key || (same o.key q.key && before o.id m)) i

itself : (o : Object) → is_at o.key o.id o ≡ true
itself o = rw (same_refl o.key, same_refl o.id) refl

before_none : (o : Object) → object_before o o ≡ false
before_none o = let k = before_self o.key in let i = before_self o.id in grind arith

-- one at its place does not stand before it
pub other_at : (o p : Object) → is_at o.key o.id p ≡ true → object_before p o ≡ false
other_at o p e =
    let s = at_is o.key o.id p e in
    ap (λ (m : Bytes). before m o.key || (same m o.key && before p.id o.id)) s.0
    ∙ ap (λ (m : Bytes). before o.key o.key || (same o.key o.key && before m o.id)) s.1 ∙ before_none o

-- an object that stands behind one that does not stand before another is not at its place
other : (o p q : Object) → object_before p o ≡ false → object_before p q ≡ true → is_at o.key o.id q ≡ false
other o p q a b = by (is_at o.key o.id q) refl
  where
    by : (t : Bool) → is_at o.key o.id q ≡ t → is_at o.key o.id q ≡ false
    by true e = let s : object_before p q ≡ object_before p o = like o.key o.id p q o e (itself o) in absurd (cc)
    by false e = e

others_all : (o p : Object) (qs : List Object) → object_before p o ≡ false → list_all (object_before p) qs ≡ true → find (is_at o.key o.id) qs ≡ None
others_all o p [] a all = refl
others_all o p (q ∷ qs) a all =
    let here : object_before p q ≡ true = grind arith in
    let rest : list_all (object_before p) qs ≡ true = grind arith in
    let t = other o p q a here in
    rw t (others_all o p qs a rest)

pub same_stay : (key id : Bytes) (p : Object) (qs : List Object) → is_at key id p ≡ true → list_all (object_before p) qs ≡ true
    → filter (λ o. not (is_at key id o)) qs ≡ qs
same_stay key id p [] a all = refl
same_stay key id p (q ∷ qs) a all =
    let here : object_before p q ≡ true = grind arith in
    let rest : list_all (object_before p) qs ≡ true = grind arith in
    let ih = same_stay key id p qs a rest in
    by (is_at key id q) refl here ih
  where
    by : (t : Bool) → is_at key id q ≡ t → object_before p q ≡ true → filter (λ o. not (is_at key id o)) qs ≡ qs
        → filter (λ o. not (is_at key id o)) (q ∷ qs) ≡ q ∷ qs
    by true e lt ih = let s : object_before p q ≡ object_before p p = like key id p q p e a in let r = before_none p in absurd (cc)
    by false e lt ih = rw e (ap (λ (zs : List Object). q ∷ zs) ih)

-- sums over objects

module _ (f : Object → ℕ) where
  -- those of a kind and the others make all
  pub parts_sum : (p : Object → Bool) (xs : List Object) → sum_by f (filter p xs) + sum_by f (filter (λ o. not (p o)) xs) ≡ sum_by f xs
  parts_sum p [] = refl
  parts_sum p (x ∷ xs) = by (p x) (parts_sum p xs)
    where
      by : (t : Bool) → sum_by f (filter p xs) + sum_by f (filter (λ o. not (p o)) xs) ≡ sum_by f xs
          → sum_by f (if t then x ∷ filter p xs else filter p xs) + sum_by f
          (if not t then x ∷ filter (λ o. not (p o)) xs else filter (λ o. not (p o)) xs) ≡ sum_by f (x ∷ xs)
      by true ih = omega (arith, ih, sum_by-cons f x xs, sum_by-cons f x (filter p xs))
      by false ih = omega (arith, ih, sum_by-cons f x xs, sum_by-cons f x (filter (λ o. not (p o)) xs))

  -- the object of a key and an id is taken out
  pub taken_sum : (key id : Bytes) (xs : List Object) (o : Object) → are_objects xs ≡ true → find (is_at key id) xs ≡ Some o
      → sum_by f (filter (λ p. not (is_at key id p)) xs) + f o ≡ sum_by f xs
  taken_sum key id [] o asc e = absurd (cc)
  taken_sum key id (x ∷ xs) o asc e =
      let behind : list_all (object_before x) xs ≡ true = grind arith in
      let rest : are_objects xs ≡ true = grind arith in
      by (is_at key id x) refl behind (taken_sum key id xs o rest) e
    where
      by : (t : Bool) → is_at key id x ≡ t → list_all (object_before x) xs ≡ true
          → (find (is_at key id) xs ≡ Some o → sum_by f (filter (λ p. not (is_at key id p)) xs) + f o ≡ sum_by f xs)
          → (if t then Some x else find (is_at key id) xs) ≡ Some o
          → sum_by f (if not t then x ∷ filter (λ p. not (is_at key id p)) xs else filter (λ p. not (is_at key id p)) xs) + f o ≡ sum_by f (x ∷ xs)
      by true a behind ih e =
          let is : x ≡ o = cc in
          let same : f x ≡ f o = ap f is in
          let stay = ap (sum_by f) (same_stay key id x xs a behind) in
          omega (arith, same, stay, sum_by-cons f x xs)
      by false a behind ih e = let part = ih e in omega (arith, part, sum_by-cons f x xs, sum_by-cons f x (filter (λ p. not (is_at key id p)) xs))

  -- an object is put where none stood
  pub new_sum : (x : Object) (xs : List Object) → find (is_at x.key x.id) xs ≡ None → sum_by f (put_in object_before x xs) ≡ sum_by f xs + f x
  new_sum x [] e = sum_by-cons f x [] ∙ omega arith
  new_sum x (y ∷ ys) e = by (object_before x y) (object_before y x) refl refl (new_sum x ys) (is_at x.key x.id y) refl e
    where
      no_some : Some y ≡ None → ⊥
      no_some n = absurd (cc)

      by : (a b : Bool) → object_before x y ≡ a → object_before y x ≡ b
          → (find (is_at x.key x.id) ys ≡ None → sum_by f (put_in object_before x ys) ≡ sum_by f ys + f x) → (t : Bool) → is_at x.key x.id y ≡ t
          → (if t then Some y else find (is_at x.key x.id) ys) ≡ None
          → sum_by f (if a then x ∷ y ∷ ys else if b then y ∷ put_in object_before x ys else x ∷ ys) ≡ sum_by f (y ∷ ys) + f x
      by a b p q ih true s e = absurd (no_some e)
      by true b p q ih false s e = omega (arith, sum_by-cons f x (y ∷ ys))
      by false true p q ih false s e = let part = ih e in omega (arith, part, sum_by-cons f y ys, sum_by-cons f y (put_in object_before x ys))
      by false false p q ih false s e = let t = tied x y p q in absurd (cc)

  -- an object is put in the place of another
  pub changed_sum : (x : Object) (xs : List Object) (o : Object) → are_objects xs ≡ true → find (is_at x.key x.id) xs ≡ Some o
      → sum_by f (put_in object_before x xs) + f o ≡ sum_by f xs + f x
  changed_sum x [] o asc e = absurd (cc)
  changed_sum x (y ∷ ys) o asc e =
      let behind : list_all (object_before y) ys ≡ true = grind arith in
      let rest : are_objects ys ≡ true = grind arith in
      by (object_before x y) (object_before y x) refl refl behind (changed_sum x ys o rest) (is_at x.key x.id y) refl e
    where
      no_none : {A : Type 0} → (u : Object) → None ≡ Some u → A
      no_none u n = absurd (cc)

      by : (a b : Bool) → object_before x y ≡ a → object_before y x ≡ b → list_all (object_before y) ys ≡ true
          → (find (is_at x.key x.id) ys ≡ Some o → sum_by f (put_in object_before x ys) + f o ≡ sum_by f ys + f x) → (t : Bool)
          → is_at x.key x.id y ≡ t → (if t then Some y else find (is_at x.key x.id) ys) ≡ Some o
          → sum_by f (if a then x ∷ y ∷ ys else if b then y ∷ put_in object_before x ys else x ∷ ys) + f o ≡ sum_by f (y ∷ ys) + f x
      by true b p q behind ih true s e =
          let is : object_before x y ≡ object_before x x = like x.key x.id x y x s (itself x) in
          let self = before_none x in
          absurd (cc)
      by true b p q behind ih false s e = let none = others_all x y ys (pair_asym (λ (o : Object). o.key) (λ o. o.id) x y p) behind
          in no_none o (sym none ∙ e)
      by false true p q behind ih true s e = let t = other_at x y s in absurd (cc)
      by false true p q behind ih false s e = let part = ih e in omega (arith, part, sum_by-cons f y ys, sum_by-cons f y (put_in object_before x ys))
      by false false p q behind ih true s e = let is : y ≡ o = cc in let same : f y ≡ f o = ap f is
          in omega (arith, same, sum_by-cons f y ys, sum_by-cons f x ys)
      by false false p q behind ih false s e = let t = tied x y p q in absurd (cc)

-- what is looked at from the first on

pub take_more : {A : Type 0} (xs : List A) (i : ℕ) (x : A) → slice_get xs i ≡ Some x → take i xs ++ x ∷ [] ≡ take (suc i) xs
take_more [] i x at = absurd (cc)
take_more (y ∷ ys) zero x at = let is : y ≡ x = cc in ap (λ z. z ∷ []) (sym is)
take_more {A = A} (y ∷ ys) (suc i) x at = ap (λ (zs : List A). y ∷ zs) (take_more ys i x at)

pub next_take : {A : Type 0} (xs : List A) (i : ℕ) (x : A) → slice_get xs i ≡ Some x → take i xs ++ x ∷ [] ≡ take (i + 1) xs
next_take xs i x at = let one : suc i ≡ i + 1 = omega arith in take_more xs i x at ∙ ap (λ (n : ℕ). take n xs) one

-- what is looked at so far, and the next object, weigh no more than all
pub next_weighs : (xs : List Object) (i : ℕ) (o : Object) → slice_get xs i ≡ Some o → sum_by len_of (take i xs) + len_of o ≤ sum_by len_of xs
next_weighs [] i o at = absurd (cc)
next_weighs (x ∷ xs) zero o at = let is : x ≡ o = cc in let same_len : len_of x ≡ len_of o = ap len_of is
    in omega (arith, same_len, sum_by-cons len_of x xs)
next_weighs (x ∷ xs) (suc i) o at = let ih = next_weighs xs i o at in omega (arith, ih, sum_by-cons len_of x xs, sum_by-cons len_of x (take i xs))

pub next_sum : (f : Object → ℕ) (xs : List Object) (i : ℕ) (o : Object) → slice_get xs i ≡ Some o
    → sum_by f (take (i + 1) xs) ≡ sum_by f (take i xs) + f o
next_sum f xs i o at = ap (sum_by f) (sym (next_take xs i o at)) ∙ sum_by_push f (take i xs) o
