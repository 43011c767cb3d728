-- The weight behind a change.
use Rattle.std.proofs.lemmas.List.Sums.{sum_by-cons}
use Rattle.std.proofs.Common.{◌≡◌, ◌∙◌, ℕ, ◌+◌, Bool, true, false, not, refl, sym, ap, subst, List, [], ◌∷◌, arith}
use Rattle.std.specs.Prelude.{filter, sum_by}
use Rattle.std.specs.List.{list_all}
use Rattle.byte_text.specs.Names.{Bytes, before, same}
use Rattle.ordered_lists.specs.Lists.{ascends, put_in}
use Rattle.world_data.specs.Worlds.{after, is_sorted_world, is_at, has_key, is_named, object_before, channel_before}
use Rattle.world_data.specs.Records.{weight}
use Rattle.world_data.specs.declared.objects.Object.{Object}
use Rattle.world_data.specs.declared.channels.Channel.{Channel}
use Rattle.world_data.specs.declared.worlds.World.{World}
use Rattle.world_data.specs.declared.worlds.Change.{Change}
use Rattle.world_data.specs.declared.worlds.Change.TheVariants.{Put, Del, Drop, Flush, SetChan, DelChan}
use Rattle.byte_text.specs.ByteOrder.{before_tie, before_asym, same_refl, same_equal}
use Rattle.ordered_lists.specs.NameOrder.{pair_trans, pair_tie, name_trans, name_tie}
use Rattle.ordered_lists.specs.Reading.{both_of}
use Rattle.ordered_lists.specs.Ascending.{behind_earlier, behind_tied}
use Rattle.worked_examples.specs.Weights.{object_len, channel_len, gained, lost}

abbrev total : {A : Type 0} → (A → ℕ) → List A → ℕ
total f [] = 0
total f (x ∷ xs) = f x + total f xs

as_total : {A : Type 0} (f : A → ℕ) (xs : List A) → sum_by f xs ≡ total f xs
as_total f [] = refl
as_total f (x ∷ xs) = sum_by-cons f x xs ∙ ap (λ n. f x + n) (as_total f xs)

parted_test : {A : Type 0} (f : A → ℕ) (p : A → Bool) (x : A) (xs : List A) (b : Bool) → p x ≡ b → total f (filter (λ y. not (p y)) xs) + total f (filter p xs) ≡ total f xs
    → total f (filter (λ y. not (p y)) (x ∷ xs)) + total f (filter p (x ∷ xs)) ≡ total f (x ∷ xs)
parted_test f p x xs true e ih = rw e (omega (arith, ih))
parted_test f p x xs false e ih = rw e (omega (arith, ih))

parted_total : {A : Type 0} (f : A → ℕ) (p : A → Bool) (xs : List A) → total f (filter (λ x. not (p x)) xs) + total f (filter p xs) ≡ total f xs
parted_total f p [] = refl
parted_total f p (x ∷ xs) = parted_test f p x xs (p x) refl (parted_total f p xs)

-- what is kept and what is taken away weigh as much as all
parted : {A : Type 0} (f : A → ℕ) (p : A → Bool) (xs : List A) → sum_by f (filter (λ x. not (p x)) xs) + sum_by f (filter p xs) ≡ sum_by f xs
parted f p xs = rw (as_total f (filter (λ x. not (p x)) xs), as_total f (filter p xs), as_total f xs) (parted_total f p xs)

module _ {A : Type 0} (f : A → ℕ) (lt : A → A → Bool) (tie : A → A → Bool)
    (before_no : (x y : A) → lt x y ≡ true → tie x y ≡ false) (behind_no : (x y : A) → lt y x ≡ true → tie x y ≡ false) (tied : (x y : A) → lt x y ≡ false → lt y x ≡ false → tie x y ≡ true)
    (trans : (x y z : A) → lt x y ≡ true → lt y z ≡ true → lt x z ≡ true) (tie_trans : (x y z : A) → lt x y ≡ false → lt y x ≡ false → lt y z ≡ true → lt x z ≡ true) where
  -- nothing ties with what stands before all
  none_tie : (x : A) (ys : List A) → list_all (lt x) ys ≡ true → total f (filter (tie x) ys) ≡ 0
  none_tie x [] all = refl
  none_tie x (y ∷ ys) all = let ih = none_tie x ys in let here = before_no x y in grind arith

  put_test : (x y : A) (ys : List A) (a b : Bool) → lt x y ≡ a → lt y x ≡ b → list_all (lt y) ys ≡ true
      → total f (put_in lt x ys) + total f (filter (tie x) ys) ≡ total f ys + f x
      → total f (put_in lt x (y ∷ ys)) + total f (filter (tie x) (y ∷ ys)) ≡ total f (y ∷ ys) + f x
  put_test x y ys true b e g all ih =
      let no_y = before_no x y e in
      let later = none_tie x ys (behind_earlier lt trans tie_trans x y ys e all) in
      rw (e, no_y) (omega (arith, later))
  put_test x y ys false true e g all ih = let no_y = behind_no x y g in rw (e, g, no_y) (omega (arith, ih))
  put_test x y ys false false e g all ih =
      let it_is = tied x y e g in
      let later = none_tie x ys (behind_tied lt trans tie_trans x y ys e g all) in
      rw (e, g, it_is) (omega (arith, later))

  put_total : (x : A) (ys : List A) → ascends lt ys ≡ true → total f (put_in lt x ys) + total f (filter (tie x) ys) ≡ total f ys + f x
  put_total x [] asc = omega arith
  put_total x (y ∷ ys) asc =
      let parts = both_of (list_all (lt y) ys) (ascends lt ys) asc in
      put_test x y ys (lt x y) (lt y x) refl refl parts.0 (put_total x ys parts.1)

  put_counted : (x : A) (ys : List A) → ascends lt ys ≡ true → sum_by f (put_in lt x ys) + sum_by f (filter (tie x) ys) ≡ sum_by f ys + f x
  put_counted x ys asc = rw (as_total f (put_in lt x ys), as_total f (filter (tie x) ys), as_total f ys) (put_total x ys asc)

-- objects and channels tie by key and id, and by name

other_name : (a b : Bytes) → before a b ≡ true → same b a ≡ false
other_name a b p = by_test (same b a) refl
  where
    clash : b ≡ a → ⊥
    clash e = let q : before a a ≡ true = subst (λ n. before a n ≡ true) e p in let r = before_asym a a q in absurd cc

    by_test : (t : Bool) → same b a ≡ t → same b a ≡ false
    by_test true e = absurd (clash (same_equal b a e))
    by_test false e = e

other_name_back : (a b : Bytes) → before b a ≡ true → same b a ≡ false
other_name_back a b p = by_test (same b a) refl
  where
    clash : b ≡ a → ⊥
    clash e = let q : before a a ≡ true = subst (λ n. before n a ≡ true) e p in let r = before_asym a a q in absurd cc

    by_test : (t : Bool) → same b a ≡ t → same b a ≡ false
    by_test true e = absurd (clash (same_equal b a e))
    by_test false e = e

tied_name : (a b : Bytes) → before a b ≡ false → before b a ≡ false → same b a ≡ true
tied_name a b p q = subst (λ n. same n a ≡ true) (before_tie a b p q) (same_refl a)

abbrev channel_ties : Channel → Channel → Bool
channel_ties c d = is_named c.name d

abbrev object_ties : Object → Object → Bool
object_ties o p = is_at o.key o.id p

object_no : (o p : Object) → object_before o p ≡ true → is_at o.key o.id p ≡ false
object_no o p =
    let k = other_name o.key p.key in
    let i = other_name o.id p.id in
    λ e. grind arith

object_no_back : (o p : Object) → object_before p o ≡ true → is_at o.key o.id p ≡ false
object_no_back o p =
    let k = other_name_back o.key p.key in
    let i = other_name_back o.id p.id in
    λ e. grind arith

object_tied : (o p : Object) → object_before o p ≡ false → object_before p o ≡ false → is_at o.key o.id p ≡ true
object_tied o p =
    let k = tied_name o.key p.key in
    let i = tied_name o.id p.id in
    let s = same_equal p.key o.key in
    let t = same_equal o.key p.key in
    let u : p.key ≡ o.key → same o.key p.key ≡ true = λ e. subst (λ n. same o.key n ≡ true) (sym e) (same_refl o.key) in
    λ e f. grind arith

objects_sorted : (w : World) → is_sorted_world w ≡ true → ascends object_before w.objects ≡ true
objects_sorted w e = grind arith

channels_sorted : (w : World) → is_sorted_world w ≡ true → ascends channel_before w.channels ≡ true
channels_sorted w e = grind arith

pub weight_is_counted : (w : World) (c : Change) → is_sorted_world w ≡ true → weight (after w c) + lost w c ≡ weight w + gained c
weight_is_counted w (Put o) sorted = let h = put_counted object_len object_before object_ties object_no object_no_back object_tied (pair_trans (λ (p : Object). p.key) (λ p. p.id)) (pair_tie (λ (p : Object). p.key) (λ p. p.id)) o w.objects (objects_sorted w sorted) in omega (arith, h)
weight_is_counted w (Del key id) sorted = let h = parted object_len (is_at key id) w.objects in omega (arith, h)
weight_is_counted w (Drop key) sorted = let h = parted object_len (has_key key) w.objects in omega (arith, h)
weight_is_counted w Flush sorted = omega arith
weight_is_counted w (SetChan c) sorted = let h = put_counted channel_len channel_before channel_ties (λ d e. other_name d.name e.name) (λ d e. other_name_back d.name e.name) (λ d e. tied_name d.name e.name) (name_trans (λ (d : Channel). d.name)) (name_tie (λ (d : Channel). d.name)) c w.channels (channels_sorted w sorted) in omega (arith, h)
weight_is_counted w (DelChan name) sorted = let h = parted channel_len (is_named name) w.channels in omega (arith, h)
