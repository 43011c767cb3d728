-- Slots of channels that have a deadline, as a channel comes, goes, or takes the place of another.
use Rattle.std.proofs.Common.{◌≡◌, ◌≢◌, ◌<◌, ◌≤◌, ◌+◌, ◌∙◌, ℕ, zero, suc, Bool, true, false, not, refl, sym, ap, subst, List, [], ◌∷◌, length, take, drop, arith}
use Rattle.std.specs.Prelude.{◌||◌, ◌&&◌, Option, Some, None, IsSome, filter, is_some, slice_get}
use Rattle.std.specs.List.{list_all, remove}
use Rattle.std.proofs.lemmas.Option.{slice_get_within}
use Rattle.byte_text.specs.ListLaws.{drop_next}
use Rattle.ordered_lists.specs.Lists.{insert_by, sorted_by}
use Rattle.ordered_lists.specs.Reading.{all-filter, all_at, both_of, filter-both, filter-most, filter-passes}
use Rattle.ordered_lists.specs.Slots.{Stores, are_other, differs, stored_at}
use Rattle.ordered_lists.specs.Sorting.{all-sorted_by}
use Rattle.run_list.specs.Runs.{is_cut}
use Rattle.world_data.specs.declared.channels.Channel.{Channel}
use Rattle.world_data.specs.Expiry.{channel_due_before, is_channel_due}
use Rattle.world_data.specs.Worlds.{are_channels, channel_before}
use Rattle.channel_hub.specs.DueOrder.{dues_of, due_order, expiring, has_come_in, has_deadline, slot_due_before, with_due}
use Rattle.channel_hub.specs.Dues.{due_in, left_at}
use Rattle.channel_hub.specs.Hubs.{AreInOrder, channels_in}
use Rattle.channel_hub.proofs.Concerned.{passing}
use Rattle.channel_hub.proofs.Expiring.{due_apart, due_asym, due_down, first_deadline, goes_down}
use Rattle.channel_hub.proofs.Inserting.{cut_by, fails, filter_sorted, goes_here, goes_on, insert_removed, length_sorted, passes, placed, sorted_with, stands, stands_sorted}

-- the order of slots

slot_goes_down : (x y c : Option Channel) → slot_due_before y x ≡ false → slot_due_before y c ≡ true → slot_due_before x c ≡ true
slot_goes_down x None c p q = absurd (cc)
slot_goes_down None (Some y) c p q = absurd (cc)
slot_goes_down (Some x) (Some y) None p q = refl
slot_goes_down (Some x) (Some y) (Some c) p q = goes_down x y c p q

slot_asym : (x y : Option Channel) → slot_due_before x y ≡ true → slot_due_before y x ≡ false
slot_asym None y p = absurd (cc)
slot_asym (Some x) None p = refl
slot_asym (Some x) (Some y) p = due_asym x y p

pub order_down : (f : ℕ → Option Channel) (x y c : ℕ) → due_order f y x ≡ false → due_order f y c ≡ true → due_order f x c ≡ true
order_down f x y c = slot_goes_down (f x) (f y) (f c)

pub order_asym : (f : ℕ → Option Channel) (x y : ℕ) → due_order f x y ≡ true → due_order f y x ≡ false
order_asym f x y = slot_asym (f x) (f y)

come_down : (now : ℕ) (x y : Option Channel) → has_deadline x ≡ true → slot_due_before y x ≡ false → has_come_in now y ≡ true → has_come_in now x ≡ true
come_down now None y some p q = absurd (cc)
come_down now (Some x) None some p q = absurd (cc)
come_down now (Some x) (Some y) some p q = due_down now x y some p q

-- those that stand before a slot, and those that are due, stand in front

pub all_expire : (f : ℕ → Option Channel) (order : List ℕ) → list_all (λ s. has_deadline (f s)) (dues_of f order) ≡ true
all_expire f order =
    let has = λ (s : ℕ). has_deadline (f s) in
    all-sorted_by (due_order f) (λ s. has_deadline (f s)) (filter (λ s. has_deadline (f s)) order) (filter-passes (λ s. has_deadline (f s)) order)

dues_stand : (f : ℕ → Option Channel) (order : List ℕ) → stands (due_order f) (order_down f) (order_asym f) (dues_of f order) ≡ true
dues_stand f order = stands_sorted (due_order f) (order_down f) (order_asym f) (filter (λ s. has_deadline (f s)) order)

pub before_cut : (f : ℕ → Option Channel) (order : List ℕ) (slot : ℕ) → is_cut (λ s. due_order f s slot) (dues_of f order) ≡ true
before_cut f order slot =
    cut_by (due_order f) (λ s. has_deadline (f s)) (λ s. due_order f s slot) (λ x y some. order_down f x y slot) (dues_of f order) (all_expire f order) (dues_stand f order)

pub come_cut : (f : ℕ → Option Channel) (order : List ℕ) (now : ℕ) → is_cut (λ s. has_come_in now (f s)) (dues_of f order) ≡ true
come_cut f order now =
    cut_by (due_order f) (λ s. has_deadline (f s)) (λ s. has_come_in now (f s)) (λ x y. come_down now (f x) (f y)) (dues_of f order) (all_expire f order) (dues_stand f order)

pub fewer_dues : (f : ℕ → Option Channel) (order : List ℕ) → length (dues_of f order) ≤ length order
fewer_dues f order =
    let a = length_sorted (due_order f) (filter (λ s. has_deadline (f s)) order) in
    let b = filter-most (λ s. has_deadline (f s)) order in
    omega (arith, a, b)

-- what the other slots have alone counts

module _ (f g : ℕ → Option Channel) (slot : ℕ) (others : (other : ℕ) → other ≢ slot → g other ≡ f other) where
  there : (s : ℕ) → are_other slot s ≡ true → g s ≡ f s
  there s e = others s (differs slot s e)

  insert_same : (s : ℕ) (ts : List ℕ) → are_other slot s ≡ true → list_all (are_other slot) ts ≡ true → insert_by (due_order g) s ts ≡ insert_by (due_order f) s ts
  insert_same s [] here all = refl
  insert_same s (t ∷ ts) here all =
      let p = both_of (are_other slot t) (list_all (are_other slot) ts) all in
      let same : due_order g t s ≡ due_order f t s = ap (λ (o : Option Channel). slot_due_before o (g s)) (there t p.0) ∙ ap (slot_due_before (f t)) (there s here) in
      by_test (due_order f t s) refl same (insert_same s ts here p.1)
    where
      by_test : (b : Bool) → due_order f t s ≡ b → due_order g t s ≡ due_order f t s → insert_by (due_order g) s ts ≡ insert_by (due_order f) s ts
          → insert_by (due_order g) s (t ∷ ts) ≡ insert_by (due_order f) s (t ∷ ts)
      by_test true e same ih = goes_on (due_order g) s t ts (same ∙ e) ∙ ap (λ (l : List ℕ). t ∷ l) ih ∙ sym (goes_on (due_order f) s t ts e)
      by_test false e same ih = goes_here (due_order g) s t ts (same ∙ e) ∙ sym (goes_here (due_order f) s t ts e)

  sorted_same : (ts : List ℕ) → list_all (are_other slot) ts ≡ true → sorted_by (due_order g) ts ≡ sorted_by (due_order f) ts
  sorted_same [] all = refl
  sorted_same (t ∷ ts) all =
      let p = both_of (are_other slot t) (list_all (are_other slot) ts) all in
      insert_same t (sorted_by (due_order g) ts) p.0 (all-sorted_by (due_order g) (are_other slot) ts p.1) ∙ ap (insert_by (due_order f) t) (sorted_same ts p.1)

  expire_same : (ts : List ℕ) → list_all (are_other slot) ts ≡ true → filter (λ s. has_deadline (g s)) ts ≡ filter (λ s. has_deadline (f s)) ts
  expire_same [] all = refl
  expire_same (t ∷ ts) all =
      let p = both_of (are_other slot t) (list_all (are_other slot) ts) all in
      by_test (has_deadline (f t)) refl (ap has_deadline (there t p.0)) (expire_same ts p.1)
    where
      by_test : (b : Bool) → has_deadline (f t) ≡ b → has_deadline (g t) ≡ has_deadline (f t) → filter (λ s. has_deadline (g s)) ts ≡ filter (λ s. has_deadline (f s)) ts
          → filter (λ s. has_deadline (g s)) (t ∷ ts) ≡ filter (λ s. has_deadline (f s)) (t ∷ ts)
      by_test true e same ih = passes (λ s. has_deadline (g s)) t ts (same ∙ e) ∙ ap (λ (l : List ℕ). t ∷ l) ih ∙ sym (passes (λ s. has_deadline (f s)) t ts e)
      by_test false e same ih = fails (λ s. has_deadline (g s)) t ts (same ∙ e) ∙ ih ∙ sym (fails (λ s. has_deadline (f s)) t ts e)

  pub dues_same : (order : List ℕ) → list_all (are_other slot) order ≡ true → dues_of g order ≡ dues_of f order
  dues_same order all =
      sorted_same (filter (λ s. has_deadline (g s)) order) (all-filter (are_other slot) (λ s. has_deadline (g s)) order all)
      ∙ ap (sorted_by (due_order f)) (expire_same order all)

-- one slot among others

module _ (f : ℕ → Option Channel) (slot : ℕ) (c : Channel) (has : f slot ≡ Some c) where
  abbrev is_apart : ℕ → Bool
  is_apart t = due_order f slot t || due_order f t slot

  apart_behind : (t : ℕ) (d : Channel) → f t ≡ Some d → channel_before c d ≡ true → is_apart t ≡ true
  apart_behind t d is p = rw (has, is) (due_apart c d p)

  apart_before : (t : ℕ) (d : Channel) → f t ≡ Some d → channel_before d c ≡ true → is_apart t ≡ true
  apart_before t d is p = let e = due_apart d c p in rw (has, is) (turned (channel_due_before d c) (channel_due_before c d) e)
    where
      turned : (a b : Bool) → (a || b) ≡ true → (b || a) ≡ true
      turned a b e = grind arith

  all_behind : (ts : List ℕ) (ds : List Channel) → Stores f ts ds → list_all (channel_before c) ds ≡ true → list_all is_apart ts ≡ true
  all_behind [] ds e all = refl
  all_behind (t ∷ ts) [] e all = absurd (cc)
  all_behind (t ∷ ts) (d ∷ ds) e all =
      let here : f t ≡ Some d = cc in
      let rest : Stores f ts ds = cc in
      let p = both_of (channel_before c d) (list_all (channel_before c) ds) all in
      rw (apart_behind t d here p.0, all_behind ts ds rest p.1) refl

  others_apart : (order : List ℕ) (xs : List Channel) (at : ℕ) → Stores f order xs → are_channels xs ≡ true → slice_get order at ≡ Some slot → list_all is_apart (remove order at) ≡ true
  others_apart [] xs at e asc is = absurd (cc)
  others_apart (s ∷ order) [] at e asc is = absurd (cc)
  others_apart (s ∷ order) (x ∷ xs) zero e asc is =
      let it : s ≡ slot = cc in
      let here : f s ≡ Some x = cc in
      let rest : Stores f order xs = cc in
      let one : Some x ≡ Some c = sym here ∙ ap f it ∙ has in
      let same : x ≡ c = cc in
      let p = both_of (list_all (channel_before x) xs) (are_channels xs) asc in
      all_behind order xs rest (ap (λ (d : Channel). list_all (channel_before d) xs) (sym same) ∙ p.0)
  others_apart (s ∷ order) (x ∷ xs) (suc at) e asc is =
      let here : f s ≡ Some x = cc in
      let rest : Stores f order xs = cc in
      let p = both_of (list_all (channel_before x) xs) (are_channels xs) asc in
      let c_at : slice_get xs at ≡ Some c = sym (stored_at f order xs at slot rest is) ∙ has in
      let first = apart_before s x here (all_at (channel_before x) xs at c c_at p.0) in
      rw (first, others_apart order xs at rest p.1 is) refl

  -- the slots of those that expire are those of the others, with this one where its channel expires
  pub dues_with : (order : List ℕ) (at : ℕ) → AreInOrder f order → slice_get order at ≡ Some slot → dues_of f order ≡ with_due f slot (dues_of f (remove order at))
  dues_with order at o is =
      ap (dues_of f) (sym (insert_removed order at slot is))
      ∙ sorted_with (due_order f) (order_down f) (order_asym f) (λ s. has_deadline (f s)) slot (remove order at) at (others_apart order (channels_in f order) at o.stored o.by_name is)

-- a slot that was put among others is found where it was put
pub placed_slot : (f : ℕ → Option Channel) (slot : ℕ) (dues rest : List ℕ) (at : ℕ) → dues ≡ with_due f slot rest → has_deadline (f slot) ≡ true
    → list_all (λ s. due_order f s slot) (take at dues) ≡ true → list_all (λ s. not (due_order f s slot)) (drop at dues) ≡ true → (at < length dues) × (remove dues at ≡ rest)
placed_slot f slot dues rest at is expires front behind =
    let put : dues ≡ insert_by (due_order f) slot rest = rw expires at is in
    let it = placed (due_order f) (order_down f) (order_asym f) slot rest at (subst (λ (l : List ℕ). list_all (λ s. due_order f s slot) (take at l) ≡ true) put front)
    (subst (λ (l : List ℕ). list_all (λ s. not (due_order f s slot)) (drop at l) ≡ true) put behind) in
    (slice_get_within dues at slot (ap (λ (l : List ℕ). slice_get l at) put ∙ it.0), ap (λ (l : List ℕ). remove l at) put ∙ it.1)

-- the channels in slots

pub some_in : (o : Option Channel) → IsSome o → (x : Channel) × (o ≡ Some x)
some_in None e = absurd (cc)
some_in (Some x) e = (x, refl)

module _ (f : ℕ → Option Channel) where
  in_front : (t : ℕ) (d : Channel) (ts : List ℕ) → f t ≡ Some d → channels_in f (t ∷ ts) ≡ d ∷ channels_in f ts
  in_front t d ts e = rw e refl

  same_order : (t s : ℕ) (d c : Channel) → f t ≡ Some d → f s ≡ Some c → due_order f t s ≡ channel_due_before d c
  same_order t s d c h is = rw (h, is) refl

  channels_insert : (s : ℕ) (c : Channel) (ts : List ℕ) → f s ≡ Some c → list_all (λ t. is_some (f t)) ts ≡ true
      → channels_in f (insert_by (due_order f) s ts) ≡ insert_by channel_due_before c (channels_in f ts)
  channels_insert s c [] is all = in_front s c [] is
  channels_insert s c (t ∷ ts) is all =
      let p = both_of (is_some (f t)) (list_all (λ t. is_some (f t)) ts) all in
      let one = some_in (f t) p.0 in
      by_test one.0 one.1 (channel_due_before one.0 c) refl (same_order t s one.0 c one.1 is) (channels_insert s c ts is p.1)
    where
      by_test : (d : Channel) → f t ≡ Some d → (b : Bool) → channel_due_before d c ≡ b → due_order f t s ≡ channel_due_before d c
          → channels_in f (insert_by (due_order f) s ts) ≡ insert_by channel_due_before c (channels_in f ts)
          → channels_in f (insert_by (due_order f) s (t ∷ ts)) ≡ insert_by channel_due_before c (channels_in f (t ∷ ts))
      by_test d h true e same ih =
          ap (channels_in f) (goes_on (due_order f) s t ts (same ∙ e)) ∙ in_front t d (insert_by (due_order f) s ts) h ∙ ap (λ (l : List Channel). d ∷ l) ih
          ∙ sym (ap (insert_by channel_due_before c) (in_front t d ts h) ∙ goes_on channel_due_before c d (channels_in f ts) e)
      by_test d h false e same ih =
          ap (channels_in f) (goes_here (due_order f) s t ts (same ∙ e)) ∙ in_front s c (t ∷ ts) is ∙ ap (λ (l : List Channel). c ∷ l) (in_front t d ts h)
          ∙ sym (ap (insert_by channel_due_before c) (in_front t d ts h) ∙ goes_here channel_due_before c d (channels_in f ts) e)

  channels_sorted : (ts : List ℕ) → list_all (λ t. is_some (f t)) ts ≡ true → channels_in f (sorted_by (due_order f) ts) ≡ sorted_by channel_due_before (channels_in f ts)
  channels_sorted [] all = refl
  channels_sorted (t ∷ ts) all =
      let p = both_of (is_some (f t)) (list_all (λ t. is_some (f t)) ts) all in
      let one = some_in (f t) p.0 in
      channels_insert t one.0 (sorted_by (due_order f) ts) one.1 (all-sorted_by (due_order f) (λ t. is_some (f t)) ts p.1)
      ∙ ap (insert_by channel_due_before one.0) (channels_sorted ts p.1)
      ∙ sym (ap (sorted_by channel_due_before) (in_front t one.0 ts one.1))

  all_stored : (ts : List ℕ) (xs : List Channel) → Stores f ts xs → list_all (λ t. is_some (f t)) ts ≡ true
  all_stored [] xs e = refl
  all_stored (t ∷ ts) [] e = absurd (cc)
  all_stored (t ∷ ts) (x ∷ xs) e =
      let here : f t ≡ Some x = cc in
      let rest : Stores f ts xs = cc in
      rw here (all_stored ts xs rest)

  -- those that pass a test of what expires, in the order in which they expire
  module _ (order : List ℕ) (xs : List Channel) (stored : Stores f order xs) (test : Channel → Bool) (q : Option Channel → Bool) (each : (x : Channel) → q (Some x) ≡ test x) where
    channels_passing : channels_in f (sorted_by (due_order f) (filter (λ s. q (f s)) order)) ≡ sorted_by channel_due_before (filter test xs)
    channels_passing =
        channels_sorted (filter (λ s. q (f s)) order) (all-filter (λ t. is_some (f t)) (λ s. q (f s)) order (all_stored order xs stored))
        ∙ ap (sorted_by channel_due_before) (passing f test q each order xs stored)

  none_come : (now : ℕ) (o : Option Channel) → has_deadline o ≡ false → has_come_in now o ≡ false
  none_come now None e = refl
  none_come now (Some c) e = grind arith

  -- those that are due, of those that expire, are those of all
  pub come_sorted : (order : List ℕ) (now : ℕ) → filter (λ s. has_come_in now (f s)) (dues_of f order) ≡ sorted_by (due_order f) (filter (λ s. has_come_in now (f s)) order)
  come_sorted order now =
      filter_sorted (due_order f) (order_down f) (order_asym f) (λ s. has_come_in now (f s)) (filter (λ s. has_deadline (f s)) order)
      ∙ ap (sorted_by (due_order f)) (filter-both (λ s. has_deadline (f s)) (λ s. has_come_in now (f s)) (λ s. has_come_in now (f s)) order (λ s e. none_come now (f s) e) (λ s e. refl))

  module _ (order : List ℕ) (xs : List Channel) (stored : Stores f order xs) where
    pub dues_expiring : channels_in f (dues_of f order) ≡ expiring xs
    dues_expiring = channels_passing order xs stored (λ c. is_some c.deadline) has_deadline (λ x. refl)

    pub dues_come : (now : ℕ) → channels_in f (filter (λ s. has_come_in now (f s)) (dues_of f order)) ≡ due_in now xs
    dues_come now = ap (channels_in f) (come_sorted order now) ∙ channels_passing order xs stored (is_channel_due now) (has_come_in now) (λ x. refl)

    pub dues_left : (now : ℕ) → channels_in f (filter (λ s. not (has_come_in now (f s))) (dues_of f order)) ≡ expiring (left_at now xs)
    dues_left now =
        ap (channels_in f) (filter_sorted (due_order f) (order_down f) (order_asym f) (λ s. not (has_come_in now (f s))) (filter (λ s. has_deadline (f s)) order)
        ∙ ap (sorted_by (due_order f)) (filter_two (λ s. has_deadline (f s)) (λ s. not (has_come_in now (f s))) order))
        ∙ channels_passing order xs stored (λ c. is_some c.deadline && not (is_channel_due now c)) (λ o. has_deadline o && not (has_come_in now o)) (λ x. refl)
        ∙ ap (sorted_by channel_due_before) (sym (filter_turned (λ c. not (is_channel_due now c)) (λ c. is_some c.deadline) xs))
      where
        filter_two : {A : Type 0} (p r : A → Bool) (ys : List A) → filter r (filter p ys) ≡ filter (λ y. p y && r y) ys
        filter_two p r [] = refl
        filter_two p r (y ∷ ys) = let ih = filter_two p r ys in grind arith

        filter_turned : {A : Type 0} (p r : A → Bool) (ys : List A) → filter r (filter p ys) ≡ filter (λ y. r y && p y) ys
        filter_turned p r [] = refl
        filter_turned p r (y ∷ ys) = let ih = filter_turned p r ys in grind arith

-- the first of those that were not taken

module _ (f : ℕ → Option Channel) (dues : List ℕ) (at : ℕ) where
  pub none_behind : at ≡ length dues → first_deadline (channels_in f (drop at dues)) ≡ None
  none_behind end = ap (λ (l : List ℕ). first_deadline (channels_in f l)) (ap (λ (n : ℕ). drop n dues) end ∙ no_more dues)
    where
      no_more : (ts : List ℕ) → drop (length ts) ts ≡ []
      no_more [] = refl
      no_more (t ∷ ts) = no_more ts

  pub first_is : (slot : ℕ) (c : Channel) → slice_get dues at ≡ Some slot → f slot ≡ Some c → first_deadline (channels_in f (drop at dues)) ≡ c.deadline
  first_is slot c is has = ap (λ (l : List ℕ). first_deadline (channels_in f l)) (drop_next dues at slot is) ∙ ap first_deadline (in_front f slot c (drop (at + 1) dues) has)

-- no slot is empty where all expire
pub has_one : (f : ℕ → Option Channel) (dues : List ℕ) (at slot : ℕ) → slice_get dues at ≡ Some slot → list_all (λ s. has_deadline (f s)) dues ≡ true → IsSome (f slot)
has_one f dues at slot is all = some (f slot) (all_at (λ s. has_deadline (f s)) dues at slot is all)
  where
    some : (o : Option Channel) → has_deadline o ≡ true → IsSome o
    some None e = absurd (cc)
    some (Some c) e = refl

pub none_there : {P : Type 0} (f : ℕ → Option Channel) (dues : List ℕ) (at slot : ℕ) → slice_get dues at ≡ Some slot → list_all (λ s. has_deadline (f s)) dues ≡ true → f slot ≡ None → P
none_there f dues at slot is all none =
    let some = all_at (λ s. has_deadline (f s)) dues at slot is all in
    let fails_too = ap has_deadline none in
    absurd (cc)
