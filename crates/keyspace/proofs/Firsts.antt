-- The object that expires first, and what there is without it.
use Rattle.std.proofs.Common.{◌≡◌, get_or, ◌<◌, ◌≤◌, ◌+◌, ℕ, suc, Bool, true, false, not, refl, sym, ap, subst, ◌∙◌, List, [], ◌∷◌, ◌++◌, length, take, drop, append_assoc, arith, length-append}
use Rattle.std.specs.Prelude.{Option, Some, None, filter, find, nat_lt, nat_le, ◌&&◌, ◌==◌, slice_get, if◌then◌else◌}
use Rattle.std.specs.List.{list_all, slice_set}
use Rattle.std.proofs.lemmas.Bool.Decides.{nat_tests}
use Rattle.ordered_lists.specs.Lists.{ascends, sorted_by}
use Rattle.world_data.specs.Worlds.{object_before, are_objects, is_at, has_key}
use Rattle.world_data.specs.Expiry.{is_due, due_before}
use Rattle.world_data.specs.declared.objects.Object.{Object}
use Rattle.byte_text.specs.ByteOrder.{same_refl, same_equal, other_before, other_behind}
use Rattle.ordered_lists.specs.Reading.{all_at, filter-all, both_of, stands_at, all-middle}
use Rattle.ordered_lists.specs.NameOrder.{pair_asym}
use Rattle.ordered_lists.specs.Sorting.{all-sorted_by, insert_by-first}
use Rattle.collection.specs.Objects.{least_due, are_by_id}
use Rattle.keyspace.specs.Entries.{Entry, objects_in}
use Rattle.keyspace.specs.KeyOrder.{is_entry, are_entries}
use Rattle.keyspace.specs.FirstDue.{is_later, is_no_sooner, IsSoonest, Took}
use Rattle.keyspace.proofs.Parts.{all_both, filter_both, find_past}
use Rattle.keyspace.proofs.Keys.{Stands, stands_here, split_at, all_take, all_drop, objects_around}
use Rattle.keyspace.proofs.Dues.{all_as, later, no_sooner, least_all, least_each, none_sooner, others_later}

module _ {A : Type 0} (lt : A → A → Bool) where
  -- one that stands before all in front of it and behind none of the others is sorted to the front
  sorted_first : (o : A) (xs ys : List A) → list_all (lt o) xs ≡ true → list_all (λ p. not (lt p o)) ys ≡ true → sorted_by lt (xs ++ o ∷ ys) ≡ o ∷ sorted_by lt (xs ++ ys)
  sorted_first o [] ys front back = insert_by-first lt o (sorted_by lt ys) (all-sorted_by lt (λ p. not (lt p o)) ys back)
  sorted_first o (x ∷ xs) ys front back =
      let p = both_of (lt o x) (list_all (lt o) xs) front in
      rw (sorted_first o xs ys p.1 back, p.0) refl

  ascends_front : (xs : List A) (o : A) (ys : List A) → ascends lt (xs ++ o ∷ ys) ≡ true → list_all (λ p. lt p o) xs ≡ true
  ascends_front [] o ys asc = refl
  ascends_front (x ∷ xs) o ys asc =
      let p = both_of (list_all (lt x) (xs ++ o ∷ ys)) (ascends lt (xs ++ o ∷ ys)) asc in
      rw (all-middle (lt x) xs o ys p.0, ascends_front xs o ys p.1) refl

  ascends_back : (xs : List A) (o : A) (ys : List A) → ascends lt (xs ++ o ∷ ys) ≡ true → list_all (lt o) ys ≡ true
  ascends_back [] o ys asc = (both_of (list_all (lt o) ys) (ascends lt ys) asc).0
  ascends_back (x ∷ xs) o ys asc = ascends_back xs o ys (both_of (list_all (lt x) (xs ++ o ∷ ys)) (ascends lt (xs ++ o ∷ ys)) asc).1

-- one that stands before another is not at its key and id, nor is one behind it
front_not : (p o : Object) → object_before p o ≡ true → is_at o.key o.id p ≡ false
front_not p o h = let a = other_before p.key o.key in let b = other_before p.id o.id in grind arith

back_not : (p o : Object) → object_before o p ≡ true → is_at o.key o.id p ≡ false
back_not p o h = let a = other_behind p.key o.key in let b = other_behind p.id o.id in let c = same_equal o.key p.key in let d = same_equal p.key o.key in grind arith

module _ (xs : List Object) (o : Object) (ys : List Object) (sorted : are_objects (xs ++ o ∷ ys) ≡ true) where
  front_others : list_all (λ p. not (is_at o.key o.id p)) xs ≡ true
  front_others = all_as (λ p. object_before p o) (λ p. not (is_at o.key o.id p)) (λ p h. rw (front_not p o h) refl) xs (ascends_front object_before xs o ys sorted)

  back_others : list_all (λ p. not (is_at o.key o.id p)) ys ≡ true
  back_others = all_as (λ p. object_before o p) (λ p. not (is_at o.key o.id p)) (λ p h. rw (back_not p o h) refl) ys (ascends_back object_before xs o ys sorted)

  own_at : is_at o.key o.id o ≡ true
  own_at = rw (same_refl o.key, same_refl o.id) refl

  pub found_one : find (is_at o.key o.id) (xs ++ o ∷ ys) ≡ Some o
  found_one = find_past (is_at o.key o.id) xs (o ∷ ys) front_others ∙ rw own_at refl

  pub without_one : xs ++ ys ≡ filter (λ p. not (is_at o.key o.id p)) (xs ++ o ∷ ys)
  without_one =
      sym (filter_both (λ p. not (is_at o.key o.id p)) xs (o ∷ ys) ∙ rw (own_at, filter-all (λ p. not (is_at o.key o.id p)) xs front_others, filter-all (λ p. not (is_at o.key o.id p)) ys back_others) refl)

due_some : (now due : ℕ) (o : Object) → o.deadline ≡ Some due → due ≤ now → is_due now o ≡ true
due_some now due o here le = rw here (at_most due now le)
  where
    at_most : (a b : ℕ) → a ≤ b → nat_le a b ≡ true
    at_most a b h = grind (arith, nat_tests)

module _ (now due : ℕ) (o : Object) (here : o.deadline ≡ Some due) where
  sooner_one : (p : Object) (d : Option ℕ) → p.deadline ≡ d → is_later due d ≡ true → is_due now p ≡ true → due_before o p ≡ true
  sooner_one p None is h now_due = let e : false ≡ true = rw is at now_due in absurd (cc)
  sooner_one p (Some t) is h now_due = rw (here, is, h) refl

  not_sooner_one : (p : Object) (d : Option ℕ) → p.deadline ≡ d → is_no_sooner due d ≡ true → is_due now p ≡ true → object_before o p ≡ true → due_before p o ≡ false
  not_sooner_one p None is h now_due behind = let e : false ≡ true = rw is at now_due in absurd (cc)
  not_sooner_one p (Some t) is h now_due behind = rw (here, is, not_less due t h, pair_asym (λ (o : Object). o.key) (λ o. o.id) o p behind) (no_and (t == due))
    where
      not_less : (a b : ℕ) → nat_le a b ≡ true → nat_lt b a ≡ false
      not_less a b h = grind (arith, nat_tests)

      no_and : (b : Bool) → (b && false) ≡ false
      no_and true = refl
      no_and false = refl

  first_front : (xs : List Object) → list_all (λ p. is_later due p.deadline) xs ≡ true → list_all (due_before o) (filter (is_due now) xs) ≡ true
  first_front [] all = refl
  first_front (x ∷ xs) all =
      let p = both_of (is_later due x.deadline) (list_all (λ p. is_later due p.deadline) xs) all in
      kept (is_due now x) refl p.0 (first_front xs p.1)
    where
      kept : (b : Bool) → is_due now x ≡ b → is_later due x.deadline ≡ true → list_all (due_before o) (filter (is_due now) xs) ≡ true → list_all (due_before o) (if b then x ∷ filter (is_due now) xs else filter (is_due now) xs) ≡ true
      kept true is h rest = rw (sooner_one x x.deadline refl h is, rest) refl
      kept false is h rest = rest

  first_back : (xs : List Object) → list_all (λ p. is_no_sooner due p.deadline) xs ≡ true → list_all (object_before o) xs ≡ true → list_all (λ p. not (due_before p o)) (filter (is_due now) xs) ≡ true
  first_back [] all behind = refl
  first_back (x ∷ xs) all behind =
      let p = both_of (is_no_sooner due x.deadline) (list_all (λ p. is_no_sooner due p.deadline) xs) all in
      let q = both_of (object_before o x) (list_all (object_before o) xs) behind in
      kept (is_due now x) refl p.0 q.0 (first_back xs p.1 q.1)
    where
      kept : (b : Bool) → is_due now x ≡ b → is_no_sooner due x.deadline ≡ true → object_before o x ≡ true → list_all (λ p. not (due_before p o)) (filter (is_due now) xs) ≡ true → list_all (λ p. not (due_before p o)) (if b then x ∷ filter (is_due now) xs else filter (is_due now) xs) ≡ true
      kept true is h after rest = rw (not_sooner_one x x.deadline refl h is after, rest) refl
      kept false is h after rest = rest

  pub due_first : (xs ys : List Object) → due ≤ now → are_objects (xs ++ o ∷ ys) ≡ true → list_all (λ p. is_later due p.deadline) xs ≡ true → list_all (λ p. is_no_sooner due p.deadline) ys ≡ true
      → sorted_by due_before (filter (is_due now) (xs ++ o ∷ ys)) ≡ o ∷ sorted_by due_before (filter (is_due now) (xs ++ ys))
  due_first xs ys le sorted front back =
      let whole : filter (is_due now) (xs ++ o ∷ ys) ≡ filter (is_due now) xs ++ o ∷ filter (is_due now) ys = filter_both (is_due now) xs (o ∷ ys) ∙ rw (due_some now due o here le) refl in
      ap (sorted_by due_before) whole
      ∙ sorted_first due_before o (filter (is_due now) xs) (filter (is_due now) ys) (first_front xs front) (first_back ys back (ascends_back object_before xs o ys sorted))
      ∙ ap (λ (l : List Object). o ∷ sorted_by due_before l) (sym (filter_both (is_due now) xs ys))

-- none is due where all deadlines are later
pub none_due : (now due : ℕ) (xs : List Object) → now < due → list_all (λ p. is_no_sooner due p.deadline) xs ≡ true → filter (is_due now) xs ≡ []
none_due now due [] lt all = refl
none_due now due (x ∷ xs) lt all =
    let p = both_of (is_no_sooner due x.deadline) (list_all (λ p. is_no_sooner due p.deadline) xs) all in
    rw (not_due x.deadline refl p.0, none_due now due xs lt p.1) refl
  where
    not_due : (d : Option ℕ) → x.deadline ≡ d → is_no_sooner due d ≡ true → is_due now x ≡ false
    not_due None is h = rw is refl
    not_due (Some t) is h = rw is (not_at_most due now t lt h)
      where
        not_at_most : (a b c : ℕ) → b < a → nat_le a c ≡ true → nat_le c b ≡ false
        not_at_most a b c p q = grind (arith, nat_tests)

pub nothing_due_yet : (now due : ℕ) (xs : List Object) → now < due → least_due xs ≡ Some due → filter (is_due now) xs ≡ []
nothing_due_yet now due xs lt is = none_due now due xs lt (none_sooner due xs is)

pub nothing_due_ever : (now : ℕ) (xs : List Object) → least_due xs ≡ None → filter (is_due now) xs ≡ []
nothing_due_ever now xs is =
    none_due now (suc now) xs (omega arith) (sym (least_all (is_no_sooner (suc now)) (no_sooner (suc now)) xs) ∙ subst (λ (d : Option ℕ). is_no_sooner (suc now) d ≡ true) (sym is) refl)

get_middle : (front : List Entry) (e : Entry) (back : List Entry) → slice_get (front ++ e ∷ back) (length front) ≡ Some e
get_middle [] e back = refl
get_middle (x ∷ front) e back = get_middle front e back

set_middle : (front : List Entry) (e f : Entry) (back : List Entry) → slice_set (front ++ e ∷ back) (length front) f ≡ front ++ f ∷ back
set_middle [] e f back = refl
set_middle (x ∷ front) e f back = ap (λ (l : List Entry). x ∷ l) (set_middle front e f back)

middle_within : (front : List Entry) (e : Entry) (back : List Entry) → length front < length (front ++ e ∷ back)
middle_within [] e back = omega arith
middle_within (x ∷ front) e back = let ih = middle_within front e back in omega (arith, ih)

pub soonest_at : (xs : List Entry) (at due : ℕ) (s : IsSoonest xs at due) → slice_get xs at ≡ Some s.here
soonest_at xs at due s = subst (λ (n : ℕ). slice_get xs n ≡ Some s.here) s.place (subst (λ (l : List Entry). slice_get l (length s.front) ≡ Some s.here) (sym s.whole) (get_middle s.front s.here s.back))

pub soonest_within : (xs : List Entry) (at due : ℕ) → IsSoonest xs at due → at < length xs
soonest_within xs at due s = subst (λ (n : ℕ). n < length xs) s.place (subst (λ (l : List Entry). length s.front < length l) (sym s.whole) (middle_within s.front s.here s.back))

-- the entry that is read there
pub read_here : (xs : List Entry) (at due : ℕ) (s : IsSoonest xs at due) (e : Entry) → e ≡ get_or xs at e → e ≡ s.here
read_here xs at due s e read = let a = stands_at xs at e (soonest_within xs at due s) read in let b = soonest_at xs at due s in cc

pub stood : (xs : List Entry) (at due : ℕ) (s : IsSoonest xs at due) (e : Entry) → are_entries xs ≡ true → e ≡ get_or xs at e → Stands e.key xs at e
stood xs at due s e sh read = stands_here xs at e sh (soonest_within xs at due s) (stands_at xs at e (soonest_within xs at due s) read)

pub of_its_key : (e : Entry) (due : ℕ) (new : List Object) (o : Object) → is_entry e ≡ true → Took due e.objects new o → e.key ≡ o.key
of_its_key e due new o sh t = sym (same_equal o.key e.key (all_at (has_key e.key) e.objects t.at o t.taken (both_of (list_all (has_key e.key) e.objects) (are_by_id e.objects) sh).0))

-- all objects round the first that expires
pub record Around (due : ℕ) (old new : List Object) (o : Object) : Type 0 where
  pub front : List Object
  pub back : List Object
  pub whole : old ≡ front ++ o ∷ back
  pub left : new ≡ front ++ back
  pub front_later : list_all (λ p. is_later due p.deadline) front ≡ true
  pub back_no_sooner : list_all (λ p. is_no_sooner due p.deadline) back ≡ true
  pub here : o.deadline ≡ Some due

module _ (xs : List Entry) (at due : ℕ) (e f : Entry) (o : Object) (s : IsSoonest xs at due) (is : e ≡ s.here) (t : Took due e.objects f.objects o) where
  pub around : Around due (objects_in xs) (objects_in (slice_set xs at f)) o
  around =
      let no : list_all (λ p. is_no_sooner due p.deadline) e.objects ≡ true = none_sooner due e.objects (ap (λ (g : Entry). least_due g.objects) is ∙ s.due_here) in
      let parts : e.objects ≡ take t.at e.objects ++ o ∷ drop (suc t.at) e.objects = split_at e.objects t.at o t.taken in
      let whole_is : xs ≡ s.front ++ e ∷ s.back = s.whole ∙ ap (λ (g : Entry). s.front ++ g ∷ s.back) (sym is) in
      let set_is : slice_set xs at f ≡ s.front ++ f ∷ s.back = ap (λ (n : ℕ). slice_set xs n f) (sym s.place) ∙ ap (λ (l : List Entry). slice_set l (length s.front) f) s.whole ∙ set_middle s.front s.here f s.back in
      record {
        front = objects_in s.front ++ take t.at e.objects;
        back = drop (suc t.at) e.objects ++ objects_in s.back;
        whole = ap objects_in whole_is ∙ objects_around s.front e s.back ∙ ap (λ (l : List Object). objects_in s.front ++ (l ++ objects_in s.back)) parts ∙ regroup (objects_in s.front) (take t.at e.objects) o (drop (suc t.at) e.objects) (objects_in s.back);
        left = ap objects_in set_is ∙ objects_around s.front f s.back ∙ ap (λ (l : List Object). objects_in s.front ++ (l ++ objects_in s.back)) t.left ∙ regroup_left (objects_in s.front) (take t.at e.objects) (drop (suc t.at) e.objects) (objects_in s.back);
        front_later = all_both (λ p. is_later due p.deadline) (objects_in s.front) (take t.at e.objects) (least_each (is_later due) (later due) s.front s.later) (others_later due (take t.at e.objects) (all_take (λ p. is_no_sooner due p.deadline) e.objects t.at no) t.front);
        back_no_sooner = all_both (λ p. is_no_sooner due p.deadline) (drop (suc t.at) e.objects) (objects_in s.back) (all_drop (λ p. is_no_sooner due p.deadline) e.objects (suc t.at) no) (least_each (is_no_sooner due) (no_sooner due) s.back s.no_sooner);
        here = t.here;
      }
    where
      regroup : (a b : List Object) (o : Object) (c d : List Object) → a ++ ((b ++ o ∷ c) ++ d) ≡ (a ++ b) ++ o ∷ (c ++ d)
      regroup a b o c d = simp append_assoc

      regroup_left : (a b c d : List Object) → a ++ ((b ++ c) ++ d) ≡ (a ++ b) ++ (c ++ d)
      regroup_left a b c d = simp append_assoc

module _ (due : ℕ) (old new : List Object) (o : Object) (r : Around due old new o) (sorted : are_objects old ≡ true) where
  parts_sorted : are_objects (r.front ++ o ∷ r.back) ≡ true
  parts_sorted = subst (λ (l : List Object). are_objects l ≡ true) r.whole sorted

  pub expires_first : (now : ℕ) → due ≤ now → sorted_by due_before (filter (is_due now) old) ≡ o ∷ sorted_by due_before (filter (is_due now) new)
  expires_first now le = rw (r.whole, r.left) (due_first now due o r.here r.front r.back le parts_sorted r.front_later r.back_no_sooner)

  pub found_first : find (is_at o.key o.id) old ≡ Some o
  found_first = rw r.whole (found_one r.front o r.back parts_sorted)

  pub left_first : new ≡ filter (λ p. not (is_at o.key o.id p)) old
  left_first = rw (r.whole, r.left) (without_one r.front o r.back parts_sorted)

  pub one_fewer : length new + 1 ≡ length old
  one_fewer = rw (r.whole, r.left) (fewer (length-append r.front r.back) (length-append r.front (o ∷ r.back)))
    where
      fewer : {n m : ℕ} → n ≡ length r.front + length r.back → m ≡ length r.front + suc (length r.back) → n + 1 ≡ m
      fewer p q = omega arith
