-- The channels in the slots that the index gives, in byte order of their names, are those that a change may concern.
use Rattle.std.proofs.Common.{◌≡◌, ◌≤◌, ◌+◌, ℕ, Bool, true, false, cond, refl, sym, ap, ◌∙◌, subst, List, [], ◌∷◌, length, map, IsPermutation, arith}
use Rattle.std.specs.Prelude.{Option, Some, None, filter, filter_map, find, is_some, nat_eq, option_map, ◌||◌}
use Rattle.std.specs.List.{All, cons_option, list_all, list_any, sum_by}
use Rattle.std.specs.List.Sorted.{IsSortedByKey}
use Rattle.std.specs.Ordering.{nat_cmp, is_lt}
use Rattle.std.specs.Cmp.Lexicographic.{slice_cmp}
use Rattle.std.proofs.lemmas.Bool.Decides.{nat_tests}
use Rattle.std.proofs.lemmas.List.Elements.{All-cons, All-head, All-nil, All-tail}
use Rattle.std.proofs.lemmas.List.Sorted.{All-permutation, length_permutation, sum_by-IsPermutation}
use Rattle.std.proofs.lemmas.List.Sums.{sum_by-cons}
use Rattle.byte_text.specs.Names.{Bytes, before}
use Rattle.byte_text.specs.ByteOrder.{same_refl, other_before}
use Rattle.planar_geom.specs.Points.{Bounds}
use Rattle.ordered_lists.specs.Lists.{ascends}
use Rattle.ordered_lists.specs.Reading.{both_of, all-filter}
use Rattle.world_data.specs.declared.channels.Channel.{Channel}
use Rattle.world_data.specs.Worlds.{are_channels, channel_before, is_named}
use Rattle.fence_index.specs.Candidates.{is_named as is_candidate, round_of}
use Rattle.fence_index.specs.Marks.{mark_of}
use Rattle.ordered_lists.specs.Slots.{Stores}
use Rattle.channel_hub.specs.Hubs.{may_concern}
use Rattle.channel_hub.proofs.NamesInOrder.{ascending_rise, same_names, sorted_rise}
use Rattle.channel_hub.proofs.Sorted.{sorted_map}

-- sums over what is in slots

abbrev weight_if : {A : Type 0} → (A → ℕ) → Option A → ℕ
weight_if w None = 0
weight_if w (Some x) = w x

module _ {A : Type 0} (w : A → ℕ) (f : ℕ → Option A) where
  sum_there : (ns : List ℕ) → sum_by w (filter_map f ns) ≡ sum_by (λ n. weight_if w (f n)) ns
  sum_there [] = refl
  sum_there (n ∷ ns) = by_case (f n) refl (sum_by-cons (λ n. weight_if w (f n)) n ns) (sum_there ns)
    where
      by_case : (o : Option A) → f n ≡ o → sum_by (λ n. weight_if w (f n)) (n ∷ ns) ≡ weight_if w (f n) + sum_by (λ n. weight_if w (f n)) ns → sum_by w (filter_map f ns) ≡ sum_by (λ n. weight_if w (f n)) ns
          → sum_by w (filter_map f (n ∷ ns)) ≡ sum_by (λ n. weight_if w (f n)) (n ∷ ns)
      by_case None e s ih =
          let none : weight_if w (f n) ≡ 0 = rw e refl in
          let shape : sum_by w (filter_map f (n ∷ ns)) ≡ sum_by w (filter_map f ns) = rw e refl in
          omega (arith, s, ih, none, shape)
      by_case (Some x) e s ih =
          let one : weight_if w (f n) ≡ w x = rw e refl in
          let shape : sum_by w (filter_map f (n ∷ ns)) ≡ sum_by w (x ∷ filter_map f ns) = rw e refl in
          let c = sum_by-cons w x (filter_map f ns) in
          omega (arith, s, ih, one, shape, c)

sum_of_map : {A B : Type 0} (h : A → B) (w : B → ℕ) (xs : List A) → sum_by w (map h xs) ≡ sum_by (λ x. w (h x)) xs
sum_of_map h w [] = refl
sum_of_map h w (x ∷ xs) =
    let a = sum_by-cons w (h x) (map h xs) in
    let b = sum_by-cons (λ x. w (h x)) x xs in
    omega (arith, a, b, sum_of_map h w xs)

-- no more items than slots
at_most_as_many : {A : Type 0} (f : ℕ → Option A) (ns : List ℕ) → length (filter_map f ns) ≤ length ns
at_most_as_many f [] = omega arith
at_most_as_many {A = A} f (n ∷ ns) = by_case (f n) (at_most_as_many f ns)
  where
    by_case : (o : Option A) → length (filter_map f ns) ≤ length ns → length (cons_option o (filter_map f ns)) ≤ length (n ∷ ns)
    by_case None le = omega (arith, le)
    by_case (Some x) le = omega (arith, le)

-- numbers that are among others

sum_none : (q : ℕ → Bool) (ns : List ℕ) → list_all q ns ≡ true → sum_by (λ n. cond (q n) 0 1) ns ≡ 0
sum_none q [] all = refl
sum_none q (n ∷ ns) all =
    let p = both_of (q n) (list_all q ns) all in
    let here : cond {A = ℕ} (q n) 0 1 ≡ 0 = rw p.0 refl in
    let s = sum_by-cons (λ n. cond {A = ℕ} (q n) 0 1) n ns in
    omega (arith, here, s, sum_none q ns p.1)

none_sum : (q : ℕ → Bool) (ns : List ℕ) → sum_by (λ n. cond (q n) 0 1) ns ≡ 0 → list_all q ns ≡ true
none_sum q [] none = refl
none_sum q (n ∷ ns) none = by_test (q n) refl (sum_by-cons (λ n. cond {A = ℕ} (q n) 0 1) n ns) (none_sum q ns)
  where
    by_test : (b : Bool) → q n ≡ b → sum_by (λ n. cond {A = ℕ} (q n) 0 1) (n ∷ ns) ≡ cond (q n) 0 1 + sum_by (λ n. cond {A = ℕ} (q n) 0 1) ns
        → (sum_by (λ n. cond {A = ℕ} (q n) 0 1) ns ≡ 0 → list_all q ns ≡ true) → list_all q (n ∷ ns) ≡ true
    by_test true e s ih =
        let here : cond {A = ℕ} (q n) 0 1 ≡ 0 = rw e refl in
        rw (e, ih (omega (arith, s, here, none))) refl
    by_test false e s ih =
        let here : cond {A = ℕ} (q n) 0 1 ≡ 1 = rw e refl in
        absurd (omega (arith, s, here, none))

same_number : (n : ℕ) → nat_eq n n ≡ true
same_number n = grind (arith, nat_tests)

all_more : (k : ℕ) (ks ns : List ℕ) → list_all (λ n. list_any (nat_eq n) ks) ns ≡ true → list_all (λ n. list_any (nat_eq n) (k ∷ ks)) ns ≡ true
all_more k ks [] all = refl
all_more k ks (n ∷ ns) all =
    let p = both_of (list_any (nat_eq n) ks) (list_all (λ n. list_any (nat_eq n) ks) ns) all in
    let here : list_any (nat_eq n) (k ∷ ks) ≡ true = either (nat_eq n k) (list_any (nat_eq n) ks) p.0 in
    rw (here, all_more k ks ns p.1) refl
  where
    either : (a b : Bool) → b ≡ true → (a || b) ≡ true
    either a b e = grind arith

each_among : (ks : List ℕ) → list_all (λ n. list_any (nat_eq n) ks) ks ≡ true
each_among [] = refl
each_among (k ∷ ks) =
    let here : list_any (nat_eq k) (k ∷ ks) ≡ true = rw (same_number k) refl in
    rw (here, all_more k ks ks (each_among ks)) refl

-- those that pass a test, in slots

module _ {A : Type 0} (f : ℕ → Option A) (test : A → Bool) (q : Option A → Bool) (each : (x : A) → q (Some x) ≡ test x) where
  pub passing : (ks : List ℕ) (xs : List A) → Stores f ks xs → filter_map f (filter (λ k. q (f k)) ks) ≡ filter test xs
  passing [] [] e = refl
  passing [] (x ∷ xs) e = absurd (cc)
  passing (k ∷ ks) [] e = absurd (cc)
  passing (k ∷ ks) (x ∷ xs) e =
      let here : f k ≡ Some x = cc in
      let rest : Stores f ks xs = cc in
      by_test (test x) refl here (passing ks xs rest)
    where
      by_test : (b : Bool) → test x ≡ b → f k ≡ Some x → filter_map f (filter (λ k. q (f k)) ks) ≡ filter test xs → filter_map f (filter (λ k. q (f k)) (k ∷ ks)) ≡ filter test (x ∷ xs)
      by_test true t here ih =
          let passes : q (f k) ≡ true = ap q here ∙ each x ∙ t in
          rw (passes, t, here) (ap (λ (l : List A). x ∷ l) ih)
      by_test false t here ih =
          let fails : q (f k) ≡ false = ap q here ∙ each x ∙ t in
          rw (fails, t) ih

-- each channel is found by its own name

-- the one of this name is the channel itself
abbrev IsOwn : List Channel → Channel → Type 0
IsOwn xs c = find (is_named c.name) xs ≡ Some c

found_passes : (q t : Channel → Bool) (xs : List Channel) (c : Channel) → find t xs ≡ Some c → list_all q xs ≡ true → q c ≡ true
found_passes q t [] c is all = absurd (cc)
found_passes q t (x ∷ xs) c is all = by_test (t x) refl (both_of (q x) (list_all q xs) all) (found_passes q t xs c)
  where
    by_test : (b : Bool) → t x ≡ b → (q x ≡ true) × (list_all q xs ≡ true) → (find t xs ≡ Some c → list_all q xs ≡ true → q c ≡ true) → q c ≡ true
    by_test true e p ih = let it : x ≡ c = cc (rw e at is) in subst (λ (y : Channel). q y ≡ true) it p.0
    by_test false e p ih = ih (rw e at is) p.1

found_own : (f : ℕ → Option Channel) (ks : List ℕ) (xs : List Channel) → Stores f ks xs → are_channels xs ≡ true → (n : ℕ) (c : Channel) → list_any (nat_eq n) ks ≡ true → f n ≡ Some c → IsOwn xs c
found_own f [] xs e asc n c among has = absurd (cc)
found_own f (k ∷ ks) [] e asc n c among has = absurd (cc)
found_own f (k ∷ ks) (x ∷ xs) e asc n c among has =
    let here : f k ≡ Some x = cc in
    let rest : Stores f ks xs = cc in
    let p = both_of (list_all (channel_before x) xs) (are_channels xs) asc in
    by_test (nat_eq n k) refl here p.0 (found_own f ks xs rest p.1 n c)
  where
    second : (a b : Bool) → (a || b) ≡ true → a ≡ false → b ≡ true
    second a b e f = grind arith

    by_test : (b : Bool) → nat_eq n k ≡ b → f k ≡ Some x → list_all (channel_before x) xs ≡ true → (list_any (nat_eq n) ks ≡ true → f n ≡ Some c → IsOwn xs c) → IsOwn (x ∷ xs) c
    by_test true t here all ih =
        let same : n ≡ k = grind (arith, nat_tests) in
        let both : Some x ≡ Some c = sym here ∙ ap f (sym same) ∙ has in
        let it : x ≡ c = cc in
        let own : is_named c.name x ≡ true = subst (λ (y : Channel). is_named y.name x ≡ true) it (same_refl x.name) in
        rw own both
    by_test false t here all ih =
        let there = ih (second (nat_eq n k) (list_any (nat_eq n) ks) among t) has in
        let later : channel_before x c ≡ true = found_passes (channel_before x) (is_named c.name) xs c there all in
        let other : is_named c.name x ≡ false = other_before x.name c.name later in
        rw other there

all_own : (f : ℕ → Option Channel) (ks : List ℕ) (xs : List Channel) → Stores f ks xs → are_channels xs ≡ true → (ns : List ℕ) → list_all (λ n. list_any (nat_eq n) ks) ns ≡ true → All (IsOwn xs) (filter_map f ns)
all_own f ks xs e asc [] all = All-nil (IsOwn xs)
all_own f ks xs e asc (n ∷ ns) all =
    let p = both_of (list_any (nat_eq n) ks) (list_all (λ n. list_any (nat_eq n) ks) ns) all in
    by_case (f n) (λ c has. found_own f ks xs e asc n c p.0 has) (all_own f ks xs e asc ns p.1)
  where
    by_case : (o : Option Channel) → ((c : Channel) → o ≡ Some c → IsOwn xs c) → All (IsOwn xs) (filter_map f ns) → All (IsOwn xs) (cons_option o (filter_map f ns))
    by_case None own rest = rest
    by_case (Some c) own rest = All-cons (IsOwn xs) c (filter_map f ns) (own c refl) rest

-- so channels are known by their names
known : (xs cs ds : List Channel) → All (IsOwn xs) cs → All (IsOwn xs) ds → map (λ c. c.name) cs ≡ map (λ c. c.name) ds → cs ≡ ds
known xs [] [] own own' names = refl
known xs [] (d ∷ ds) own own' names = absurd (cc)
known xs (c ∷ cs) [] own own' names = absurd (cc)
known xs (c ∷ cs) (d ∷ ds) own own' names =
    let first : c.name ≡ d.name = cc in
    let rest : map (λ c. c.name) cs ≡ map (λ c. c.name) ds = cc in
    let here : Some c ≡ Some d = sym (All-head (IsOwn xs) c cs own) ∙ ap (λ (n : Bytes). find (is_named n) xs) first ∙ All-head (IsOwn xs) d ds own' in
    let it : c ≡ d = cc in
    rw (it, known xs cs ds (All-tail (IsOwn xs) c cs own) (All-tail (IsOwn xs) d ds own') rest) refl

-- channels that ascend have names that ascend
names_ascend : (test : Channel → Bool) (xs : List Channel) → are_channels xs ≡ true → ascends before (map (λ c. c.name) (filter test xs)) ≡ true
names_ascend test [] asc = refl
names_ascend test (x ∷ xs) asc =
    let p = both_of (list_all (channel_before x) xs) (are_channels xs) asc in
    by_test (test x) refl (later xs p.0) (names_ascend test xs p.1)
  where
    later : (ys : List Channel) → list_all (channel_before x) ys ≡ true → list_all (before x.name) (map (λ c. c.name) (filter test ys)) ≡ true
    later [] all = refl
    later (y ∷ ys) all = let ih = later ys in grind arith

    by_test : (b : Bool) → test x ≡ b → list_all (before x.name) (map (λ c. c.name) (filter test xs)) ≡ true → ascends before (map (λ c. c.name) (filter test xs)) ≡ true
        → ascends before (map (λ c. c.name) (filter test (x ∷ xs))) ≡ true
    by_test true e all rest = rw (e, all) rest
    by_test false e all rest = rw e rest

module _ (f : ℕ → Option Channel) (ks : List ℕ) (xs : List Channel) (stored : Stores f ks xs) (asc : are_channels xs ≡ true) (key : Bytes) (old new : Option Bounds) where
  abbrev q : Option Channel → Bool
  q o = is_candidate key (round_of old new) (is_some new) (option_map mark_of o)

  abbrev named : List ℕ
  named = filter (λ k. q (f k)) ks

  module _ (ns : List ℕ) (sums : (v : ℕ → ℕ) → sum_by v ns ≡ sum_by v named) (sorted : List Channel) (moved : IsPermutation (filter_map f ns) sorted) (up : IsSortedByKey (λ (c : Channel). c.name) (slice_cmp nat_cmp) sorted) where
    same_channels : (w : Channel → ℕ) → sum_by w sorted ≡ sum_by w (filter (may_concern key old new) xs)
    same_channels w =
        sum_by-IsPermutation w (filter_map f ns) sorted moved
        ∙ sum_there w f ns ∙ sums (λ n. weight_if w (f n)) ∙ sym (sum_there w f named)
        ∙ ap (sum_by w) (passing f (may_concern key old new) q (λ c. refl) ks xs stored)

    same_sums : (w : Bytes → ℕ) → sum_by w (map (λ c. c.name) sorted) ≡ sum_by w (map (λ c. c.name) (filter (may_concern key old new) xs))
    same_sums w =
        sum_of_map (λ (c : Channel). c.name) w sorted ∙ same_channels (λ c. w c.name) ∙ sym (sum_of_map (λ (c : Channel). c.name) w (filter (may_concern key old new) xs))

    among : list_all (λ n. list_any (nat_eq n) ks) ns ≡ true
    among =
        let in_named = all-filter (λ n. list_any (nat_eq n) ks) (λ k. q (f k)) ks (each_among ks) in
        none_sum (λ n. list_any (nat_eq n) ks) ns (sums (λ n. cond (list_any (nat_eq n) ks) 0 1) ∙ sum_none (λ n. list_any (nat_eq n) ks) named in_named)

    pub concerned_are : sorted ≡ filter (may_concern key old new) xs
    concerned_are =
        let whole = passing f (may_concern key old new) q (λ c. refl) ks xs stored in
        let own = All-permutation (IsOwn xs) (filter_map f ns) sorted moved (all_own f ks xs stored asc ns among) in
        let in_named = all-filter (λ n. list_any (nat_eq n) ks) (λ k. q (f k)) ks (each_among ks) in
        let own' = subst (All (IsOwn xs)) whole (all_own f ks xs stored asc named in_named) in
        let names = same_names (map (λ (c : Channel). c.name) sorted) (map (λ (c : Channel). c.name) (filter (may_concern key old new) xs))
        (sorted_rise (map (λ (c : Channel). c.name) sorted) (sorted_map (λ (c : Channel). c.name) (λ x y. is_lt (slice_cmp nat_cmp x y)) sorted up))
        (ascending_rise (map (λ (c : Channel). c.name) (filter (may_concern key old new) xs)) (names_ascend (may_concern key old new) xs asc)) same_sums in
        known xs sorted (filter (may_concern key old new) xs) own own' names

-- no more channels than slots
pub no_more : (f : ℕ → Option Channel) (ns : List ℕ) (sorted : List Channel) → IsPermutation (filter_map f ns) sorted → length sorted ≤ length ns
no_more f ns sorted moved =
    let a = length_permutation (filter_map f ns) sorted moved in
    let b = at_most_as_many f ns in
    omega (arith, a, b)
