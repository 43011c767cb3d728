-- Places of channels that are out, and of those that are left.
use Rattle.std.proofs.Common.{◌≡◌, ◌<◌, ◌≤◌, ◌+◌, ◌-◌, ◌∙◌, ℕ, zero, suc, Bool, true, false, not, refl, sym, ap, subst, List, [], ◌∷◌, ◌++◌, length, map, take, drop, get_or, arith}
use Rattle.std.specs.Prelude.{◌||◌, Option, Some, None, filter, nat_lt, slice_get, slice_index, if◌then◌else◌}
use Rattle.std.specs.List.{list_all}
use Rattle.std.proofs.lemmas.Bool.Decides.{nat_tests}
use Rattle.byte_text.specs.ListLaws.{drop_next}
use Rattle.byte_text.specs.ByteOrder.{other_before, same_refl}
use Rattle.ordered_lists.specs.Lists.{ascends, insert_by, sorted_by}
use Rattle.ordered_lists.specs.Reading.{all-weaker, all_at, both_of}
use Rattle.ordered_lists.specs.Slots.{Stores, has_at, stored_at}
use Rattle.run_list.specs.Runs.{is_cut}
use Rattle.ordered_lists.specs.Sorting.{insert_by-first}
use Rattle.world_data.specs.declared.channels.Channel.{Channel}
use Rattle.world_data.specs.Expiry.{is_channel_due}
use Rattle.world_data.specs.Worlds.{are_channels, channel_before, is_named}
use Rattle.channel_hub.specs.DueOrder.{dues_of, due_order, has_come_in}
use Rattle.channel_hub.specs.DuePlaces.{place_among, place_in, places_from, places_out}
use Rattle.channel_hub.specs.Dues.{left_of}
use Rattle.channel_hub.proofs.DueSlots.{come_sorted, some_in}
use Rattle.channel_hub.proofs.Inserting.{cut_by, fails, goes_here, goes_on, insert_two, passes, stands_sorted}

-- numbers in order

lt_down : (x y c : ℕ) → nat_lt y x ≡ false → nat_lt y c ≡ true → nat_lt x c ≡ true
lt_down x y c p q = grind (arith, nat_tests)

lt_asym : (x y : ℕ) → nat_lt x y ≡ true → nat_lt y x ≡ false
lt_asym x y p = grind (arith, nat_tests)

-- numbers may be put in one before the other or after it
insert_numbers : (x y : ℕ) (zs : List ℕ) → insert_by nat_lt x (insert_by nat_lt y zs) ≡ insert_by nat_lt y (insert_by nat_lt x zs)
insert_numbers x y zs = by_order (nat_lt x y || nat_lt y x) refl
  where
    by_order : (b : Bool) → (nat_lt x y || nat_lt y x) ≡ b → insert_by nat_lt x (insert_by nat_lt y zs) ≡ insert_by nat_lt y (insert_by nat_lt x zs)
    by_order true e = insert_two nat_lt lt_down lt_asym x y zs e
    by_order false e =
        let same : x ≡ y = grind (arith, nat_tests) in
        ap (λ (n : ℕ). insert_by nat_lt n (insert_by nat_lt y zs)) same ∙ ap (λ (n : ℕ). insert_by nat_lt y (insert_by nat_lt n zs)) (sym same)

module _ {A : Type 0} (lt : A → A → Bool) (h : A → ℕ) where
  sorted_insert : (x : A) (ys : List A) → sorted_by nat_lt (map h (insert_by lt x ys)) ≡ insert_by nat_lt (h x) (sorted_by nat_lt (map h ys))
  sorted_insert x [] = refl
  sorted_insert x (y ∷ ys) = by_test (lt y x) refl (sorted_insert x ys)
    where
      by_test : (b : Bool) → lt y x ≡ b → sorted_by nat_lt (map h (insert_by lt x ys)) ≡ insert_by nat_lt (h x) (sorted_by nat_lt (map h ys))
          → sorted_by nat_lt (map h (insert_by lt x (y ∷ ys))) ≡ insert_by nat_lt (h x) (sorted_by nat_lt (map h (y ∷ ys)))
      by_test true e ih =
          ap (λ (l : List A). sorted_by nat_lt (map h l)) (goes_on lt x y ys e) ∙ ap (insert_by nat_lt (h y)) ih ∙ insert_numbers (h y) (h x) (sorted_by nat_lt (map h ys))
      by_test false e ih = ap (λ (l : List A). sorted_by nat_lt (map h l)) (goes_here lt x y ys e)

  -- numbers that are put in order may come in any
  pub sorted_anyhow : (xs : List A) → sorted_by nat_lt (map h (sorted_by lt xs)) ≡ sorted_by nat_lt (map h xs)
  sorted_anyhow [] = refl
  sorted_anyhow (x ∷ xs) = sorted_insert x (sorted_by lt xs) ∙ ap (insert_by nat_lt (h x)) (sorted_anyhow xs)

sorted_already : (ns : List ℕ) → ascends nat_lt ns ≡ true → sorted_by nat_lt ns ≡ ns
sorted_already [] asc = refl
sorted_already (n ∷ ns) asc =
    let p = both_of (list_all (nat_lt n) ns) (ascends nat_lt ns) asc in
    ap (insert_by nat_lt n) (sorted_already ns p.1) ∙ insert_by-first nat_lt n ns (all-weaker (nat_lt n) (λ m. not (nat_lt m n)) ns (λ m e. rw (lt_asym n m e) refl) p.0)

-- places of those that pass

module _ (p : Channel → Bool) where
  place_first : (n : ℕ) (c : Channel) (cs : List Channel) → p c ≡ true → places_from n p (c ∷ cs) ≡ n ∷ places_from (n + 1) p cs
  place_first n c cs e = rw e refl

  place_none : (n : ℕ) (c : Channel) (cs : List Channel) → p c ≡ false → places_from n p (c ∷ cs) ≡ places_from (n + 1) p cs
  place_none n c cs e = rw e refl

  all_from : (m n : ℕ) (cs : List Channel) → m < n → list_all (nat_lt m) (places_from n p cs) ≡ true
  all_from m n [] less = refl
  all_from m n (c ∷ cs) less = by_test (p c) (all_from m (n + 1) cs (omega (arith, less)))
    where
      by_test : (b : Bool) → list_all (nat_lt m) (places_from (n + 1) p cs) ≡ true → list_all (nat_lt m) (if b then n ∷ places_from (n + 1) p cs else places_from (n + 1) p cs) ≡ true
      by_test true ih = let here : nat_lt m n ≡ true = grind (arith, nat_tests) in rw here ih
      by_test false ih = ih

  places_ascend : (n : ℕ) (cs : List Channel) → ascends nat_lt (places_from n p cs) ≡ true
  places_ascend n [] = refl
  places_ascend n (c ∷ cs) = by_test (p c) (places_ascend (n + 1) cs)
    where
      by_test : (b : Bool) → ascends nat_lt (places_from (n + 1) p cs) ≡ true → ascends nat_lt (if b then n ∷ places_from (n + 1) p cs else places_from (n + 1) p cs) ≡ true
      by_test true ih = rw (all_from n (n + 1) cs (omega arith)) ih
      by_test false ih = ih

  far_places : (n : ℕ) (cs : List Channel) (k : ℕ) → k < length (places_from n p cs) → n + k ≤ get_or (places_from n p cs) k 0
  far_places n [] k lt = absurd (omega (arith, lt))
  far_places n (c ∷ cs) k lt = by_test (p c) (λ j less. far_places (n + 1) cs j less) k lt
    where
      by_test : (b : Bool) → ((j : ℕ) → j < length (places_from (n + 1) p cs) → (n + 1) + j ≤ get_or (places_from (n + 1) p cs) j 0)
          → (j : ℕ) → j < length (if b then n ∷ places_from (n + 1) p cs else places_from (n + 1) p cs) → n + j ≤ get_or (if b then n ∷ places_from (n + 1) p cs else places_from (n + 1) p cs) j 0
      by_test true ih zero less = omega arith
      by_test true ih (suc j) less = let more = ih j (omega (arith, less)) in omega (arith, more)
      by_test false ih j less = let more = ih j less in omega (arith, more)

  -- those that pass, and the others
  places_count : (n : ℕ) (cs : List Channel) → length (filter (λ c. not (p c)) cs) + length (places_from n p cs) ≡ length cs
  places_count n [] = refl
  places_count n (c ∷ cs) = by_test (p c) (places_count (n + 1) cs)
    where
      by_test : (b : Bool) → length (filter (λ c. not (p c)) cs) + length (places_from (n + 1) p cs) ≡ length cs
          → length (if not b then c ∷ filter (λ c. not (p c)) cs else filter (λ c. not (p c)) cs) + length (if b then n ∷ places_from (n + 1) p cs else places_from (n + 1) p cs) ≡ length (c ∷ cs)
      by_test true ih = omega (arith, ih)
      by_test false ih = omega (arith, ih)

  -- what stands at a place among the others stands so much farther behind among all
  abbrev IsFront : ℕ → List ℕ → ℕ → ℕ → Type 0
  IsFront n places i t = 0 < t → get_or places (t - 1) 0 < n + i + t

  abbrev IsBack : ℕ → List ℕ → ℕ → ℕ → Type 0
  IsBack n places i t = t < length places → n + i + t < get_or places t 0

  next_place : (cs : List Channel) (c : Channel) (i t : ℕ) → slice_get (c ∷ cs) (suc i + t) ≡ slice_get cs (i + t)
  next_place cs c i t = let one : suc i + t ≡ suc (i + t) = omega arith in ap (slice_get (c ∷ cs)) one

  next_gone : (cs : List Channel) (c : Channel) (i t : ℕ) → slice_get (c ∷ cs) (i + suc t) ≡ slice_get cs (i + t)
  next_gone cs c i t = let one : i + suc t ≡ suc (i + t) = omega arith in ap (slice_get (c ∷ cs)) one

  pub beside : (n : ℕ) (cs : List Channel) (i t : ℕ) → t ≤ length (places_from n p cs) → IsFront n (places_from n p cs) i t → IsBack n (places_from n p cs) i t
      → slice_get (filter (λ c. not (p c)) cs) i ≡ slice_get cs (i + t)
  beside n [] i t le front back = refl
  beside n (c ∷ cs) i t le front back =
      by_test (p c) refl (beside (n + 1) cs) i t le front back
    where
      gone_on : (i t : ℕ) → IsFront n (n ∷ places_from (n + 1) p cs) i (suc t) → IsFront (n + 1) (places_from (n + 1) p cs) i t
      gone_on i zero front = λ some. absurd (omega (arith, some))
      gone_on i (suc t) front = λ some.
          let less = front (omega arith) in
          let here : get_or (n ∷ places_from (n + 1) p cs) (suc (suc t) - 1) 0 ≡ get_or (places_from (n + 1) p cs) t 0 =
          (let one : suc (suc t) - 1 ≡ suc t = omega arith in ap (λ (k : ℕ). get_or (n ∷ places_from (n + 1) p cs) k 0) one) in
          let there : get_or (places_from (n + 1) p cs) (suc t - 1) 0 ≡ get_or (places_from (n + 1) p cs) t 0 =
          (let one : suc t - 1 ≡ t = omega arith in ap (λ (k : ℕ). get_or (places_from (n + 1) p cs) k 0) one) in
          omega (arith, less, here, there)

      by_test : (b : Bool) → p c ≡ b
          → ((i t : ℕ) → t ≤ length (places_from (n + 1) p cs) → IsFront (n + 1) (places_from (n + 1) p cs) i t → IsBack (n + 1) (places_from (n + 1) p cs) i t
          → slice_get (filter (λ d. not (p d)) cs) i ≡ slice_get cs (i + t))
          → (i t : ℕ) → t ≤ length (places_from n p (c ∷ cs)) → IsFront n (places_from n p (c ∷ cs)) i t → IsBack n (places_from n p (c ∷ cs)) i t
          → slice_get (filter (λ d. not (p d)) (c ∷ cs)) i ≡ slice_get (c ∷ cs) (i + t)
      by_test true e ih i zero le front back =
          let ahead : IsBack n (n ∷ places_from (n + 1) p cs) i 0 = rw e at back in
          absurd (let less = ahead (omega arith) in omega (arith, less))
      by_test true e ih i (suc t) le front back =
          let few : suc t ≤ length (n ∷ places_from (n + 1) p cs) = rw e at le in
          let behind : IsFront n (n ∷ places_from (n + 1) p cs) i (suc t) = rw e at front in
          let ahead : IsBack n (n ∷ places_from (n + 1) p cs) i (suc t) = rw e at back in
          let out : not (p c) ≡ false = rw e refl in
          ap (λ (l : List Channel). slice_get l i) (fails (λ d. not (p d)) c cs out)
          ∙ ih i t (omega (arith, few)) (gone_on i t behind) (λ some. let less = ahead (omega (arith, some)) in omega (arith, less))
          ∙ sym (next_gone cs c i t)
      by_test false e ih zero zero le front back =
          let stays : not (p c) ≡ true = rw e refl in
          ap (λ (l : List Channel). slice_get l 0) (passes (λ d. not (p d)) c cs stays)
      by_test false e ih zero (suc t) le front back =
          let few : suc t ≤ length (places_from (n + 1) p cs) = rw e at le in
          let behind : IsFront n (places_from (n + 1) p cs) 0 (suc t) = rw e at front in
          let less = behind (omega arith) in
          let far = far_places (n + 1) cs t (omega (arith, few)) in
          let there : get_or (places_from (n + 1) p cs) (suc t - 1) 0 ≡ get_or (places_from (n + 1) p cs) t 0 =
          (let one : suc t - 1 ≡ t = omega arith in ap (λ (k : ℕ). get_or (places_from (n + 1) p cs) k 0) one) in
          absurd (omega (arith, less, far, there))
      by_test false e ih (suc i) t le front back =
          let few : t ≤ length (places_from (n + 1) p cs) = rw e at le in
          let behind : IsFront n (places_from (n + 1) p cs) (suc i) t = rw e at front in
          let ahead : IsBack n (places_from (n + 1) p cs) (suc i) t = rw e at back in
          let stays : not (p c) ≡ true = rw e refl in
          ap (λ (l : List Channel). slice_get l (suc i)) (passes (λ d. not (p d)) c cs stays)
          ∙ ih i t few (λ some. let less = behind some in omega (arith, less)) (λ some. let less = ahead some in omega (arith, less))
          ∙ sym (next_place cs c i t)

-- those that are out, and those that are left

pub left_count : (out : Option ℕ) (cs : List Channel) → length (left_of out cs) + length (places_out out cs) ≡ length cs
left_count None cs = omega arith
left_count (Some now) cs = places_count (is_channel_due now) 0 cs

pub left_beside : (out : Option ℕ) (cs : List Channel) (i t : ℕ) → t ≤ length (places_out out cs) → (0 < t → slice_index (places_out out cs) (t - 1) < i + t)
    → (t < length (places_out out cs) → i + t < slice_index (places_out out cs) t) → slice_get cs (i + t) ≡ slice_get (left_of out cs) i
left_beside None cs i t le front back = let same : i + t ≡ i = omega (arith, le) in ap (slice_get cs) same
left_beside (Some now) cs i t le front back = sym (beside (is_channel_due now) 0 cs i t le (λ some. let less = front some in omega (arith, less)) (λ some. let less = back some in omega (arith, less)))

-- the place of a channel

pub place_is : (cs : List Channel) (at : ℕ) (c : Channel) → are_channels cs ≡ true → slice_get cs at ≡ Some c → place_in cs c ≡ at
place_is [] at c asc is = absurd (cc)
place_is (d ∷ ds) zero c asc is =
    let it : d ≡ c = cc in
    let named : is_named c.name d ≡ true = ap (λ (e : Channel). is_named c.name e) it ∙ same_refl c.name in
    rw named refl
place_is (d ∷ ds) (suc at) c asc is =
    let p = both_of (list_all (channel_before d) ds) (are_channels ds) asc in
    let other : is_named c.name d ≡ false = other_before d.name c.name (all_at (channel_before d) ds at c is p.0) in
    rw other (let ih = place_is ds at c p.1 is in omega (arith, ih))

module _ (f : ℕ → Option Channel) (p : Channel → Bool) (q : Option Channel → Bool) (each : (x : Channel) → q (Some x) ≡ p x) where
  places_numbered : (h : ℕ → ℕ) (n : ℕ) (ts : List ℕ) (ds : List Channel) → Stores f ts ds → ((k s : ℕ) → slice_get ts k ≡ Some s → h s ≡ n + k)
      → map h (filter (λ s. q (f s)) ts) ≡ places_from n p ds
  places_numbered h n [] [] e is = refl
  places_numbered h n [] (d ∷ ds) e is = absurd (cc)
  places_numbered h n (t ∷ ts) [] e is = absurd (cc)
  places_numbered h n (t ∷ ts) (d ∷ ds) e is =
      let here : f t ≡ Some d = cc in
      let rest : Stores f ts ds = cc in
      let test : q (f t) ≡ p d = ap q here ∙ each d in
      let first : h t ≡ n = is zero t refl ∙ plus_none n in
      by_test (p d) refl test first (places_numbered h (n + 1) ts ds rest (λ k s at. is (suc k) s at ∙ one_more n k))
    where
      plus_none : (n : ℕ) → n + 0 ≡ n
      plus_none n = omega arith

      one_more : (n k : ℕ) → n + suc k ≡ (n + 1) + k
      one_more n k = omega arith

      by_test : (b : Bool) → p d ≡ b → q (f t) ≡ p d → h t ≡ n → map h (filter (λ s. q (f s)) ts) ≡ places_from (n + 1) p ds
          → map h (filter (λ s. q (f s)) (t ∷ ts)) ≡ places_from n p (d ∷ ds)
      by_test true b test first ih =
          ap (map h) (passes (λ s. q (f s)) t ts (test ∙ b)) ∙ ap (λ (m : ℕ). m ∷ map h (filter (λ s. q (f s)) ts)) first ∙ ap (λ (l : List ℕ). n ∷ l) ih
          ∙ sym (place_first p n d ds b)
      by_test false b test first ih = ap (map h) (fails (λ s. q (f s)) t ts (test ∙ b)) ∙ ih ∙ sym (place_none p n d ds b)

-- the places of those that are due, told from their slots
module _ (f : ℕ → Option Channel) (order : List ℕ) (xs : List Channel) (stored : Stores f order xs) (asc : are_channels xs ≡ true) where
  abbrev place_of : ℕ → ℕ
  place_of s = place_among xs (f s)

  placed_at : (k s : ℕ) → slice_get order k ≡ Some s → place_of s ≡ 0 + k
  placed_at k s is =
      let one = some_in (f s) (has_at f order xs k s stored is) in
      let there : slice_get xs k ≡ Some one.0 = sym (stored_at f order xs k s stored is) ∙ one.1 in
      ap (place_among xs) one.1 ∙ place_is xs k one.0 asc there ∙ plus_none k
    where
      plus_none : (n : ℕ) → n ≡ 0 + n
      plus_none n = omega arith

  pub places_due : (now : ℕ) → sorted_by nat_lt (map place_of (filter (λ s. has_come_in now (f s)) (dues_of f order))) ≡ places_out (Some now) xs
  places_due now =
      ap (λ (l : List ℕ). sorted_by nat_lt (map place_of l)) (come_sorted f order now)
      ∙ sorted_anyhow (due_order f) place_of (filter (λ s. has_come_in now (f s)) order)
      ∙ ap (sorted_by nat_lt) (places_numbered f (is_channel_due now) (has_come_in now) (λ x. refl) place_of 0 order xs stored placed_at)
      ∙ sorted_already (places_from 0 (is_channel_due now) xs) (places_ascend (is_channel_due now) 0 xs)

pub numbers_stand : (ns : List ℕ) → ascends (λ c d. not (nat_lt d c)) (sorted_by nat_lt ns) ≡ true
numbers_stand ns = stands_sorted nat_lt lt_down lt_asym ns

pub numbers_cut : (n : ℕ) (ns : List ℕ) → ascends (λ c d. not (nat_lt d c)) ns ≡ true → is_cut (λ m. nat_lt m n) ns ≡ true
numbers_cut n ns up = cut_by nat_lt (λ m. true) (λ m. nat_lt m n) (λ x y r. lt_down x y n) ns (all_true ns) up
  where
    all_true : (ms : List ℕ) → list_all (λ m. true) ms ≡ true
    all_true [] = refl
    all_true (m ∷ ms) = all_true ms

-- none is out where no moment is told
pub none_out : (out : Option ℕ) (gone : List ℕ) (old new : List Channel) → out ≡ None → gone ≡ places_out out old → gone ≡ places_out out new
none_out out gone old new none is = subst (λ (o : Option ℕ). gone ≡ places_out o new) (sym none) (subst (λ (o : Option ℕ). gone ≡ places_out o old) none is)

-- parts of lists

pub drop_taken : {A : Type 0} (n : ℕ) (xs : List A) → drop n (take n xs) ≡ []
drop_taken zero [] = refl
drop_taken zero (x ∷ xs) = refl
drop_taken (suc n) [] = refl
drop_taken (suc n) (x ∷ xs) = drop_taken n xs

pub taken_at : {A : Type 0} (xs : List A) (n k : ℕ) (d : A) → k < n → k < length xs → slice_get (take n xs) k ≡ Some (get_or xs k d)
taken_at [] n k d less within = absurd (omega (arith, within))
taken_at (x ∷ xs) zero k d less within = absurd (omega (arith, less))
taken_at (x ∷ xs) (suc n) zero d less within = refl
taken_at (x ∷ xs) (suc n) (suc k) d less within = taken_at xs n k d (omega (arith, less)) (omega (arith, within))

pub drop_back : {A : Type 0} (xs : List A) (n : ℕ) (x : A) → 0 < n → slice_get xs (n - 1) ≡ Some x → drop (n - 1) xs ≡ x ∷ drop n xs
drop_back {A = A} xs n x some is = let one : (n - 1) + 1 ≡ n = omega (arith, some) in drop_next xs (n - 1) x is ∙ ap (λ (m : ℕ). x ∷ drop m xs) one

pub cut_all : (ns : List ℕ) (n : ℕ) → n ≡ length ns → take 0 ns ++ drop n ns ≡ []
cut_all ns n is = ap (λ (m : ℕ). take 0 ns ++ drop m ns) is ∙ all_cut ns
  where
    no_more : (ms : List ℕ) → drop (length ms) ms ≡ []
    no_more [] = refl
    no_more (m ∷ ms) = no_more ms

    all_cut : (ms : List ℕ) → take 0 ms ++ drop (length ms) ms ≡ []
    all_cut [] = refl
    all_cut (m ∷ ms) = no_more ms
