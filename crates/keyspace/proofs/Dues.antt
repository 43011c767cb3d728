-- The least deadline, and where it is.
use Rattle.std.proofs.Common.{◌≡◌, ◌<◌, ◌≤◌, ◌+◌, ℕ, min, Bool, true, false, not, refl, sym, ap, subst, ◌∙◌, List, [], ◌∷◌, ◌++◌, length, take, append_assoc, append-nil, arith, eqb, get_or}
use Rattle.std.specs.Prelude.{Option, Some, None, fold, nat_lt, nat_le, ◌&&◌, if◌then◌else◌, slice_get, IfSome}
use Rattle.std.specs.List.{list_all, remove}
use Rattle.std.proofs.lemmas.Bool.Decides.{nat_tests}
use Rattle.std.proofs.lemmas.List.{take_more, length-take-le}
use Rattle.std.proofs.lemmas.List.Concat.{flat_map-append}
use Rattle.world_data.specs.declared.objects.Object.{Object}
use Rattle.collection.specs.Objects.{earlier, least_due}
use Rattle.ordered_lists.specs.Reading.{both_of}
use Rattle.keyspace.specs.Entries.{Entry, objects_in}
use Rattle.collection.specs.Deadlines.{has_deadline, IsFirst, IsFirstDue}
use Rattle.collection.specs.DueLaws.{earlier_assoc}
use Rattle.keyspace.specs.FirstDue.{is_later, is_no_sooner, IsSoonest, Soonest, sooner, Took}
use Rattle.keyspace.proofs.Parts.{all_both}

abbrev step : Option ℕ → Object → Option ℕ
step found o = earlier found o.deadline

-- a test that the earlier of two moments passes where both do
pub record Least (test : Option ℕ → Bool) : Type 0 where
  pub none : test None ≡ true
  pub both : (a b : Option ℕ) → test (earlier a b) ≡ (test a && test b)

and_true : (a : Bool) → a ≡ (a && true)
and_true true = refl
and_true false = refl

and_assoc : (a b c : Bool) → ((a && b) && c) ≡ (a && (b && c))
and_assoc true b c = refl
and_assoc false b c = refl

module _ (test : Option ℕ → Bool) (least : Least test) where
  from_all : (found : Option ℕ) (xs : List Object) → test (fold step found xs) ≡ (test found && list_all (λ o. test o.deadline) xs)
  from_all found [] = and_true (test found)
  from_all found (x ∷ xs) = from_all (step found x) xs ∙ rw (least.both found x.deadline) (and_assoc (test found) (test x.deadline) (list_all (λ o. test o.deadline) xs))

  -- the least of all passes where all do
  pub least_all : (xs : List Object) → test (least_due xs) ≡ list_all (λ o. test o.deadline) xs
  least_all xs = from_all None xs ∙ rw least.none refl

  -- of all keys, where each key's least does
  pub least_each : (xs : List Entry) → list_all (λ e. test (least_due e.objects)) xs ≡ true → list_all (λ o. test o.deadline) (objects_in xs) ≡ true
  least_each [] all = refl
  least_each (x ∷ xs) all =
      let p = both_of (test (least_due x.objects)) (list_all (λ e. test (least_due e.objects)) xs) all in
      all_both (λ o. test o.deadline) x.objects (objects_in xs) (sym (least_all x.objects) ∙ p.0) (least_each xs p.1)

  pub each_least : (xs : List Entry) → list_all (λ o. test o.deadline) (objects_in xs) ≡ true → list_all (λ e. test (least_due e.objects)) xs ≡ true
  each_least [] all = refl
  each_least (x ∷ xs) all =
      rw (least_all x.objects ∙ first_all x.objects (objects_in xs) all, each_least xs (last_all x.objects (objects_in xs) all)) refl
    where
      first_all : (ys zs : List Object) → list_all (λ o. test o.deadline) (ys ++ zs) ≡ true → list_all (λ o. test o.deadline) ys ≡ true
      first_all [] zs h = refl
      first_all (y ∷ ys) zs h = let p = both_of (test y.deadline) (list_all (λ o. test o.deadline) (ys ++ zs)) h in rw (p.0, first_all ys zs p.1) refl

      last_all : (ys zs : List Object) → list_all (λ o. test o.deadline) (ys ++ zs) ≡ true → list_all (λ o. test o.deadline) zs ≡ true
      last_all [] zs h = h
      last_all (y ∷ ys) zs h = last_all ys zs (both_of (test y.deadline) (list_all (λ o. test o.deadline) (ys ++ zs)) h).1

lt_both : (due a b : ℕ) → nat_lt due (min a b) ≡ (nat_lt due a && nat_lt due b)
lt_both due a b = grind (arith, nat_tests)

le_both : (due a b : ℕ) → nat_le due (min a b) ≡ (nat_le due a && nat_le due b)
le_both due a b = grind (arith, nat_tests)

later_both : (due : ℕ) (a b : Option ℕ) → is_later due (earlier a b) ≡ (is_later due a && is_later due b)
later_both due None b = refl
later_both due (Some a) None = and_true (nat_lt due a)
later_both due (Some a) (Some b) = lt_both due a b

no_sooner_both : (due : ℕ) (a b : Option ℕ) → is_no_sooner due (earlier a b) ≡ (is_no_sooner due a && is_no_sooner due b)
no_sooner_both due None b = refl
no_sooner_both due (Some a) None = and_true (nat_le due a)
no_sooner_both due (Some a) (Some b) = le_both due a b

pub later : (due : ℕ) → Least (is_later due)
later due = record { none = refl; both = later_both due }

pub no_sooner : (due : ℕ) → Least (is_no_sooner due)
no_sooner due = record { none = refl; both = no_sooner_both due }

earlier_none : (a : Option ℕ) → a ≡ earlier a None
earlier_none None = refl
earlier_none (Some a) = refl

least_from : (a : Option ℕ) (xs : List Object) → fold step a xs ≡ earlier a (least_due xs)
least_from a [] = earlier_none a
least_from a (x ∷ xs) = least_from (step a x) xs ∙ earlier_assoc a x.deadline (least_due xs) ∙ ap (earlier a) (sym (least_from x.deadline xs))

least_both : (xs ys : List Object) → least_due (xs ++ ys) ≡ earlier (least_due xs) (least_due ys)
least_both [] ys = refl
least_both (x ∷ xs) ys =
    least_from x.deadline (xs ++ ys) ∙ ap (earlier x.deadline) (least_both xs ys) ∙ sym (earlier_assoc x.deadline (least_due xs) (least_due ys)) ∙ ap (λ (d : Option ℕ). earlier d (least_due ys)) (sym (least_from x.deadline xs))

pub least_pushed : (xs : List Entry) (x : Entry) → least_due (objects_in (xs ++ x ∷ [])) ≡ earlier (least_due (objects_in xs)) (least_due x.objects)
least_pushed xs x =
    ap least_due (flat_map-append (λ (e : Entry). e.objects) xs (x ∷ [])) ∙ least_both (objects_in xs) (x.objects ++ []) ∙ ap (λ (l : List Object). earlier (least_due (objects_in xs)) (least_due l)) (append-nil x.objects)

pub le_itself : (n : ℕ) → nat_le n n ≡ true
le_itself n = grind (arith, nat_tests)

-- moments that are later than another
earlier_first : (due : ℕ) (a : Option ℕ) → is_later due a ≡ true → earlier a (Some due) ≡ Some due
earlier_first due None h = refl
earlier_first due (Some a) h = ap (λ (n : ℕ). Some n) (least a due (grind (arith, nat_tests)))
  where
    least : (a b : ℕ) → b < a → min a b ≡ b
    least a b h = omega arith

earlier_last : (due : ℕ) (b : Option ℕ) → is_no_sooner due b ≡ true → earlier (Some due) b ≡ Some due
earlier_last due None h = refl
earlier_last due (Some b) h = ap (λ (n : ℕ). Some n) (least due b (grind (arith, nat_tests)))
  where
    least : (a b : ℕ) → a ≤ b → min a b ≡ a
    least a b h = omega arith

still_later : (due found : ℕ) (d : Option ℕ) → due < found → is_no_sooner found d ≡ true → is_later due d ≡ true
still_later due found None lt h = refl
still_later due found (Some d) lt h = grind (arith, nat_tests)

later_no_sooner : (due : ℕ) (d : Option ℕ) → is_later due d ≡ true → is_no_sooner due d ≡ true
later_no_sooner due None h = refl
later_no_sooner due (Some d) h = grind (arith, nat_tests)

pub all_as : {A : Type 0} (p q : A → Bool) (each : (x : A) → p x ≡ true → q x ≡ true) (xs : List A) → list_all p xs ≡ true → list_all q xs ≡ true
all_as p q each [] all = refl
all_as p q each (x ∷ xs) all = let a = both_of (p x) (list_all p xs) all in rw (each x a.0, all_as p q each xs a.1) refl

-- of all objects the least is that of the entry found
pub least_found : (xs : List Entry) (at due : ℕ) → IsSoonest xs at due → least_due (objects_in xs) ≡ Some due
least_found xs at due s =
    let a = ap objects_in s.whole ∙ flat_map-append (λ (e : Entry). e.objects) s.front (s.here ∷ s.back) in
    let front : is_later due (least_due (objects_in s.front)) ≡ true = least_all (is_later due) (later due) (objects_in s.front) ∙ least_each (is_later due) (later due) s.front s.later in
    let back : is_no_sooner due (least_due (objects_in s.back)) ≡ true = least_all (is_no_sooner due) (no_sooner due) (objects_in s.back) ∙ least_each (is_no_sooner due) (no_sooner due) s.back s.no_sooner in
    ap least_due a ∙ least_both (objects_in s.front) (s.here.objects ++ objects_in s.back) ∙ ap (earlier (least_due (objects_in s.front))) (least_both s.here.objects (objects_in s.back) ∙ ap (λ (d : Option ℕ). earlier d (least_due (objects_in s.back))) s.due_here ∙ earlier_last due _ back)
    ∙ earlier_first due _ front

-- one more entry
module _ (xs : List Entry) (x : Entry) where
  first_found : (due : ℕ) → least_due x.objects ≡ Some due → list_all (λ e. is_later due (least_due e.objects)) xs ≡ true → IsSoonest (xs ++ x ∷ []) (length xs) due
  first_found due is all = record { front = xs; here = x; back = []; whole = refl; place = refl; due_here = is; later = all; no_sooner = refl }

  still_found : (at due : ℕ) → IsSoonest xs at due → is_no_sooner due (least_due x.objects) ≡ true → IsSoonest (xs ++ x ∷ []) at due
  still_found at due s h = record {
    front = s.front;
    here = s.here;
    back = s.back ++ x ∷ [];
    whole = ap (λ (l : List Entry). l ++ x ∷ []) s.whole ∙ append_assoc s.front (s.here ∷ s.back) (x ∷ []);
    place = s.place;
    due_here = s.due_here;
    later = s.later;
    no_sooner = all_both (λ e. is_no_sooner due (least_due e.objects)) s.back (x ∷ []) s.no_sooner (rw h refl);
  }

  later_all : (at found due : ℕ) → IsSoonest xs at found → due < found → list_all (λ e. is_later due (least_due e.objects)) xs ≡ true
  later_all at found due s lt =
      let front = all_as (λ e. is_later found (least_due e.objects)) (λ e. is_later due (least_due e.objects)) (λ e h. still_later due found (least_due e.objects) lt (later_no_sooner found (least_due e.objects) h)) s.front s.later in
      let here : is_later due (least_due s.here.objects) ≡ true = still_later due found (least_due s.here.objects) lt (subst (λ (d : Option ℕ). is_no_sooner found d ≡ true) (sym s.due_here) (le_itself found)) in
      let back = all_as (λ e. is_no_sooner found (least_due e.objects)) (λ e. is_later due (least_due e.objects)) (λ e h. still_later due found (least_due e.objects) lt h) s.back s.no_sooner in
      subst (λ (l : List Entry). list_all (λ e. is_later due (least_due e.objects)) l ≡ true) (sym s.whole) (all_both (λ e. is_later due (least_due e.objects)) s.front (s.here ∷ s.back) front (rw (here, back) refl))

  test_case : (found : ℕ × ℕ) (due : ℕ) → IsSoonest xs found.0 found.1 → least_due x.objects ≡ Some due → (b : Bool) → nat_lt due found.1 ≡ b → Soonest (xs ++ x ∷ []) (if b then Some (length xs, due) else Some found)
  test_case found due s is true lt = first_found due is (later_all found.0 found.1 due s (is_lt due found.1 lt))
    where
      is_lt : (a b : ℕ) → nat_lt a b ≡ true → a < b
      is_lt a b h = grind (arith, nat_tests)
  test_case found due s is false lt = still_found found.0 found.1 s (subst (λ (d : Option ℕ). is_no_sooner found.1 d ≡ true) (sym is) (is_le due found.1 lt))
    where
      is_le : (a b : ℕ) → nat_lt a b ≡ false → nat_le b a ≡ true
      is_le a b h = grind (arith, nat_tests)

  next_case : (found : Option (ℕ × ℕ)) (d : Option ℕ) → least_due x.objects ≡ d → Soonest xs found → Soonest (xs ++ x ∷ []) (sooner found (length xs) d)
  next_case None None is s = least_pushed xs x ∙ rw (s, is) refl
  next_case (Some found) None is s = still_found found.0 found.1 s (rw is refl)
  next_case None (Some due) is s =
      first_found due is (each_least (is_later due) (later due) xs (sym (least_all (is_later due) (later due) (objects_in xs)) ∙ rw s refl))
  next_case (Some found) (Some due) is s = test_case found due s is (nat_lt due found.1) refl

  pub soonest_more : (found : Option (ℕ × ℕ)) → Soonest xs found → Soonest (xs ++ x ∷ []) (sooner found (length xs) (least_due x.objects))
  soonest_more found s = next_case found (least_due x.objects) refl s

pub soonest_next : (xs : List Entry) (at : ℕ) (x : Entry) (found r : Option (ℕ × ℕ)) (d : Option ℕ) → at < length xs → x ≡ get_or xs at x → Soonest (take at xs) found → r ≡ sooner found at d → d ≡ least_due x.objects → Soonest (take (at + 1) xs) r
soonest_next xs at x found r d within read s is least =
    let more : take (at + 1) xs ≡ take at xs ++ x ∷ [] = take_more xs at x within ∙ ap (λ (y : Entry). take at xs ++ y ∷ []) (sym read) in
    let long : length (take at xs) ≡ at = length-take-le at xs (lt_le at (length xs) within) in
    let result : r ≡ sooner found (length (take at xs)) (least_due x.objects) = is ∙ rw (long, least) refl in
    rw (more, result) (soonest_more (take at xs) x found s)
  where
    lt_le : (a b : ℕ) → a < b → a ≤ b
    lt_le a b h = omega arith

-- where the least deadline is `due`, all deadlines are no sooner, and one is that
pub none_sooner : (due : ℕ) (xs : List Object) → least_due xs ≡ Some due → list_all (λ o. is_no_sooner due o.deadline) xs ≡ true
none_sooner due xs is = sym (least_all (is_no_sooner due) (no_sooner due) xs) ∙ subst (λ (d : Option ℕ). is_no_sooner due d ≡ true) (sym is) (le_itself due)

other_later : (due : ℕ) (o : Object) (d : Option ℕ) → o.deadline ≡ d → is_no_sooner due d ≡ true → has_deadline due o ≡ false → is_later due d ≡ true
other_later due o None is h other = refl
other_later due o (Some d) is h other = let e : eqb d due ≡ false = rw is at other in grind (arith, nat_tests)

pub others_later : (due : ℕ) (xs : List Object) → list_all (λ o. is_no_sooner due o.deadline) xs ≡ true → list_all (λ o. not (has_deadline due o)) xs ≡ true → list_all (λ o. is_later due o.deadline) xs ≡ true
others_later due [] a b = refl
others_later due (x ∷ xs) a b =
    let p = both_of (is_no_sooner due x.deadline) (list_all (λ o. is_no_sooner due o.deadline) xs) a in
    let q = both_of (not (has_deadline due x)) (list_all (λ o. not (has_deadline due o)) xs) b in
    rw (other_later due x x.deadline refl p.0 (not_true (has_deadline due x) q.0), others_later due xs p.1 q.1) refl
  where
    not_true : (b : Bool) → not b ≡ true → b ≡ false
    not_true true h = absurd (cc)
    not_true false h = refl

some_is : (a b : ℕ) → Some a ≡ Some b → a ≡ b
some_is a b e = cc

none_is : (a : ℕ) → Some a ≡ None → ⊥
none_is a e = cc

-- where there is a least deadline, there is an object of it
pub no_first : (due : ℕ) (xs : List Object) → least_due xs ≡ Some due → least_due xs ≡ None → ⊥
no_first due xs is none = none_is due (sym is ∙ none)

moment_is : (due : ℕ) (d : Option ℕ) (o : Object) → o.deadline ≡ d → has_deadline due o ≡ true → o.deadline ≡ Some due
moment_is due None o is h = let e : false ≡ true = rw is at h in absurd (cc)
moment_is due (Some d) o is h = is ∙ ap (λ (n : ℕ). Some n) (same d due (rw is at h))
  where
    same : (a b : ℕ) → eqb a b ≡ true → a ≡ b
    same a b e = grind (arith, nat_tests)

-- what there is without the object at the first place
pub took_first : (due at : ℕ) (old new : List Object) (o : Object) → least_due old ≡ Some due → IsFirstDue old at → slice_get old at ≡ Some o → new ≡ remove old at → Took due old new o
took_first due at old new o is first got left =
    let e : first.due ≡ due = some_is first.due due (sym first.least ∙ is) in
    let own = subst (λ (n : ℕ). IsFirst (has_deadline n) old at) e first.first in
    let here : has_deadline due o ≡ true = subst (λ (x : Option Object). IfSome x (λ y. has_deadline due y ≡ true)) got own.here in
    record { at = at; taken = got; left = left; front = own.front; here = moment_is due o.deadline o refl here }
