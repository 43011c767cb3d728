-- Lists of pairs in order, and a pair more in them.
use Rattle.std.proofs.Common.{◌≡◌, ◌+◌, ◌∙◌, ap, refl, sym, subst, Bool, true, false, drop, if◌then◌else◌, inl, inr, List, [], ◌∷◌, ◌++◌, length, arith, append_assoc, length-append, All}
use Rattle.std.specs.List.{Contains}
use Rattle.std.proofs.lemmas.List.Elements.{All-nil, All-cons, All-head, All-tail, All-append, All-weaker, All-contains, Contains-append_cases}
use Rattle.std.specs.Ordering.{is_lt}
use Rattle.rtree.specs.Pairs.{Pair, pair_cmp, earlier, IsBefore, IsAtMost, IsOrdered, IsWith, IsPut}
use Rattle.rtree.proofs.Order.{at_most-refl, at_most-trans, at_most-antisymm, before-not_at_most}

pub all-left : {X : Type 0} (P : X → Type 0) (xs ys : List X) → All P (xs ++ ys) → All P xs
all-left P [] ys h = All-nil P
all-left P (x ∷ xs) ys h = All-cons P x xs (All-head P x (xs ++ ys) h) (all-left P xs ys (All-tail P x (xs ++ ys) h))

pub all-right : {X : Type 0} (P : X → Type 0) (xs ys : List X) → All P (xs ++ ys) → All P ys
all-right P [] ys h = h
all-right P (x ∷ xs) ys h = all-right P xs ys (All-tail P x (xs ++ ys) h)

-- each pair of the first list is at most each of the second
abbrev pub IsBelow : List Pair → List Pair → Type 0
IsBelow xs ys = All (λ x. All (IsAtMost x) ys) xs

pub ordered-append : (xs ys : List Pair) → IsOrdered xs → IsOrdered ys → IsBelow xs ys → IsOrdered (xs ++ ys)
ordered-append [] ys h k b = k
ordered-append (x ∷ xs) ys h k b =
    let R : Pair → Type 0 = λ z. All (IsAtMost z) ys in
    (All-append (IsAtMost x) xs ys h.0 (All-head R x xs b), ordered-append xs ys h.1 k (All-tail R x xs b))

pub ordered-left : (xs ys : List Pair) → IsOrdered (xs ++ ys) → IsOrdered xs
ordered-left [] ys h = tt
ordered-left (x ∷ xs) ys h = (all-left (IsAtMost x) xs ys h.0, ordered-left xs ys h.1)

pub ordered-right : (xs ys : List Pair) → IsOrdered (xs ++ ys) → IsOrdered ys
ordered-right [] ys h = h
ordered-right (x ∷ xs) ys h = ordered-right xs ys h.1

pub ordered-across : (xs ys : List Pair) → IsOrdered (xs ++ ys) → IsBelow xs ys
ordered-across [] ys h = All-nil (λ x. All (IsAtMost x) ys)
ordered-across (x ∷ xs) ys h =
    let R : Pair → Type 0 = λ z. All (IsAtMost z) ys in
    All-cons R x xs (all-right (IsAtMost x) xs ys h.0) (ordered-across xs ys h.1)

-- what stands before a pair in order is at most that pair
pub ordered-before : (xs : List Pair) (y : Pair) (ys : List Pair) → IsOrdered (xs ++ y ∷ ys) → All (λ x. IsAtMost x y) xs
ordered-before xs y ys h =
    All-weaker (λ x. All (IsAtMost x) (y ∷ ys)) (λ x. IsAtMost x y) (λ x k. All-head (IsAtMost x) y ys k) xs (ordered-across xs (y ∷ ys) h)

below_through : (front : List Pair) (p : Pair) (back : List Pair) → All (λ q. IsAtMost q p) front → All (IsAtMost p) back → IsBelow front (p ∷ back)
below_through front p back low high =
    All-weaker (λ q. IsAtMost q p) (λ q. All (IsAtMost q) (p ∷ back)) (λ q k. All-cons (IsAtMost q) p back k (All-weaker (IsAtMost p) (IsAtMost q) (λ r l. at_most-trans q p r k l) back high)) front low

pub put-ordered : (p : Pair) (small large : List Pair) → IsPut p small large → IsOrdered small → IsOrdered large
put-ordered p small large h k =
    let t = h.there in
    let k' = subst IsOrdered t.without k in
    subst IsOrdered (sym t.with) (ordered-append t.front (p ∷ t.back) (ordered-left t.front t.back k') (h.above, ordered-right t.front t.back k') (below_through t.front p t.back h.below h.above))

pub with-ordered : (p : Pair) (small large : List Pair) → IsWith p small large → IsOrdered large → IsOrdered small
with-ordered p small large t k =
    let k' = subst IsOrdered t.with k in
    let R : Pair → Type 0 = λ x. All (IsAtMost x) (p ∷ t.back) in
    subst IsOrdered (sym t.without) (ordered-append t.front t.back (ordered-left t.front (p ∷ t.back) k') (ordered-right t.front (p ∷ t.back) k').1 (All-weaker R (λ x. All (IsAtMost x) t.back) (λ x l. All-tail (IsAtMost x) p t.back l) t.front (ordered-across t.front (p ∷ t.back) k')))

pub with-between : (p : Pair) (a small large c : List Pair) → IsWith p small large → IsWith p (a ++ (small ++ c)) (a ++ (large ++ c))
with-between p a small large c t = record {
  front = a ++ t.front;
  back = t.back ++ c;
  without = rw (t.without) (rw (append_assoc t.front t.back c) (sym (append_assoc a t.front (t.back ++ c))));
  with = rw (t.with) (rw (append_assoc t.front (p ∷ t.back) c) (sym (append_assoc a t.front (p ∷ (t.back ++ c)))));
}

pub put-between : (p : Pair) (a small large c : List Pair) → All (λ q. IsAtMost q p) a → All (IsAtMost p) c → IsPut p small large → IsPut p (a ++ (small ++ c)) (a ++ (large ++ c))
unfolding with-between
put-between p a small large c low high h = record {
  there = with-between p a small large c h.there;
  below = All-append (λ q. IsAtMost q p) a h.there.front low h.below;
  above = All-append (IsAtMost p) h.there.back c h.above high;
}

pub all-with : (P : Pair → Type 0) (p : Pair) (small large : List Pair) → IsWith p small large → P p → All P small → All P large
all-with P p small large t one all =
    let all' = subst (All P) t.without all in
    subst (All P) (sym t.with) (All-append P t.front (p ∷ t.back) (all-left P t.front t.back all') (All-cons P p t.back one (all-right P t.front t.back all')))

begins_by : (e f : Pair) (old new front back : List Pair) → old ≡ front ++ back → new ≡ front ++ e ∷ back → All (λ q. IsAtMost q e) front → All (IsAtMost e) back → old ≡ f ∷ drop 1 old → (t : Bool) → is_lt (pair_cmp e f) ≡ t → new ≡ (if t then e else f) ∷ drop 1 new
begins_by e f old new [] back without with low high begins true is = with ∙ ap (λ xs. e ∷ xs) (sym (ap (drop 1) with))
begins_by e f old new [] back without with low high begins false is =
    let high' : All (IsAtMost e) (f ∷ drop 1 old) = subst (All (IsAtMost e)) (sym without ∙ begins) high in
    let same : e ≡ f = at_most-antisymm e f (All-head (IsAtMost e) f (drop 1 old) high') (record { not_less = is }) in
    subst (λ x. new ≡ x ∷ drop 1 new) same (with ∙ ap (λ xs. e ∷ xs) (sym (ap (drop 1) with)))
begins_by e f old new (x ∷ front) back without with low high begins true is =
    let same : x ≡ f = cc (without, begins) in
    absurd (before-not_at_most e f (record { less = is }) (subst (λ y. IsAtMost y e) same (All-head (λ q. IsAtMost q e) x front low)))
begins_by e f old new (x ∷ front) back without with low high begins false is =
    let same : x ≡ f = cc (without, begins) in
    subst (λ y. new ≡ y ∷ drop 1 new) same (with ∙ ap (λ xs. x ∷ xs) (sym (ap (drop 1) with)))

-- with a pair more, a list begins with that pair or as before
pub put_begins : (e f : Pair) (old new : List Pair) → IsPut e old new → old ≡ f ∷ drop 1 old → new ≡ earlier e f ∷ drop 1 new
put_begins e f old new put begins =
    begins_by e f old new put.there.front put.there.back put.there.without put.there.with put.below put.above begins (is_lt (pair_cmp e f)) refl

pub all-without : (P : Pair → Type 0) (p : Pair) (small large : List Pair) → IsWith p small large → All P large → All P small
all-without P p small large t all =
    let all' = subst (All P) t.with all in
    subst (All P) (sym t.without) (All-append P t.front t.back (all-left P t.front (p ∷ t.back) all') (All-tail P p t.back (all-right P t.front (p ∷ t.back) all')))

pub length-with : (p : Pair) (small large : List Pair) → IsWith p small large → length large ≡ length small + 1
length-with p small large t =
    rw (t.with, t.without) (omega (arith, length-append t.front (p ∷ t.back), length-append t.front t.back))

-- a pair that stands in no list between those that are at most its own place and those behind it
pub not_around : (e f : Pair) (a b c : List Pair) → IsOrdered (a ++ (f ∷ b ++ c)) → IsAtMost f e → All (IsBefore e) c → (Contains (f ∷ b) e → ⊥) → Contains (a ++ (f ∷ b ++ c)) e → ⊥
not_around e f a b c order low above none there =
    elim (Contains-append_cases a (f ∷ b ++ c) e there) [
      | inl in_a ↦
          let low' : IsAtMost e f = All-contains (λ x. IsAtMost x f) a e (ordered-before a f (b ++ c) order) in_a in
          none (subst (λ x. Contains (f ∷ b) x) (at_most-antisymm f e low low') (0, omega arith, refl))
      | inr behind ↦ elim (Contains-append_cases (f ∷ b) c e behind) [
        | inl in_b ↦ none in_b
        | inr in_c ↦ before-not_at_most e e (All-contains (IsBefore e) c e above in_c) (at_most-refl e)
      ]
    ]
