-- Names that lead to slots, as a channel comes, goes, or takes the place of another of its name.
use Rattle.std.proofs.Common.{◌≡◌, ◌≢◌, ℕ, zero, suc, Bool, true, false, not, refl, sym, ap, ◌∙◌, subst, List, [], ◌∷◌, arith}
use Rattle.std.specs.Prelude.{Option, Some, None, IsSome, filter, find, nat_eq, slice_get, if◌then◌else◌}
use Rattle.std.specs.List.{list_all, insert, remove}
use Rattle.std.proofs.lemmas.Bool.Decides.{nat_tests}
use Rattle.byte_text.specs.ByteOrder.{other_before, other_behind, same_equal, same_refl}
use Rattle.byte_text.specs.Names.{Bytes, before, same}
use Rattle.ordered_lists.specs.Lists.{IsHeld, ascends}
use Rattle.ordered_lists.specs.NameOrder.{name_ties}
use Rattle.ordered_lists.specs.Reading.{all_at, both_of}
use Rattle.ordered_lists.specs.Slots.{Stores, are_other, differs, stored_at}
use Rattle.world_data.specs.declared.channels.Channel.{Channel}
use Rattle.world_data.specs.Worlds.{are_channels, channel_before, is_named}
use Rattle.channel_hub.specs.Named.{has_name, slot_of}

-- the channel in a slot, where there is one
abbrev pub in_slot : (ℕ → Option Channel) → Option ℕ → Option Channel
in_slot f None = None
in_slot f (Some s) = f s

-- what the slot of a name has is the channel of this name
pub read_by_name : (f : ℕ → Option Channel) (order : List ℕ) (xs : List Channel) → Stores f order xs → (name : Bytes) → in_slot f (slot_of f order name) ≡ find (is_named name) xs
read_by_name f [] [] e name = refl
read_by_name f [] (x ∷ xs) e name = absurd (cc)
read_by_name f (s ∷ order) [] e name = absurd (cc)
read_by_name f (s ∷ order) (x ∷ xs) e name =
    let here : f s ≡ Some x = cc in
    let rest : Stores f order xs = cc in
    by_name (is_named name x) refl here (read_by_name f order xs rest name)
  where
    by_name : (b : Bool) → is_named name x ≡ b → f s ≡ Some x → in_slot f (slot_of f order name) ≡ find (is_named name) xs → in_slot f (slot_of f (s ∷ order) name) ≡ find (is_named name) (x ∷ xs)
    by_name true n here ih =
        let passes : has_name name (f s) ≡ true = ap (has_name name) here ∙ n in
        rw (passes, n) here
    by_name false n here ih =
        let fails : has_name name (f s) ≡ false = ap (has_name name) here ∙ n in
        rw (fails, n) ih

-- a slot that is found has a channel of the name
pub has_it : (f : ℕ → Option Channel) (order : List ℕ) (name : Bytes) (s : ℕ) → slot_of f order name ≡ Some s → has_name name (f s) ≡ true
has_it f [] name s is = absurd (cc)
has_it f (t ∷ order) name s is = by_test (has_name name (f t)) refl (has_it f order name s)
  where
    by_test : (b : Bool) → has_name name (f t) ≡ b → (slot_of f order name ≡ Some s → has_name name (f s) ≡ true) → has_name name (f s) ≡ true
    by_test true e ih =
        let it : Some t ≡ Some s = rw e at is in
        let same : t ≡ s = cc in
        ap (λ (n : ℕ). has_name name (f n)) (sym same) ∙ e
    by_test false e ih = ih (rw e at is)

some_there : (name : Bytes) (o : Option Channel) → has_name name o ≡ true → IsSome o
some_there name None e = absurd (cc)
some_there name (Some c) e = refl

pub is_there : (f : ℕ → Option Channel) (order : List ℕ) (name : Bytes) (s : ℕ) → slot_of f order name ≡ Some s → IsSome (f s)
is_there f order name s is = some_there name (f s) (has_it f order name s is)

pub name_there : (f : ℕ → Option Channel) (order : List ℕ) (name : Bytes) (s : ℕ) (c : Channel) → slot_of f order name ≡ Some s → f s ≡ Some c → c.name ≡ name
name_there f order name s c is has = same_equal c.name name (ap (has_name name) (sym has) ∙ has_it f order name s is)

module _ (f : ℕ → Option Channel) (order : List ℕ) (xs : List Channel) (stored : Stores f order xs) (name : Bytes) where
  pub found_by_name : (s : ℕ) → slot_of f order name ≡ Some s → find (is_named name) xs ≡ f s
  found_by_name s is = sym (read_by_name f order xs stored name) ∙ ap (in_slot f) is

  pub lacking_by_name : slot_of f order name ≡ None → find (is_named name) xs ≡ None
  lacking_by_name none = sym (read_by_name f order xs stored name) ∙ ap (in_slot f) none

-- where no channel has the name, none goes
pub all_left : (name : Bytes) (xs : List Channel) → find (is_named name) xs ≡ None → filter (λ (c : Channel). not (is_named name c)) xs ≡ xs
all_left name [] none = refl
all_left name (x ∷ xs) none = by_test (is_named name x) refl (all_left name xs)
  where
    by_test : (b : Bool) → is_named name x ≡ b → (find (is_named name) xs ≡ None → filter (λ (c : Channel). not (is_named name c)) xs ≡ xs) → filter (λ (c : Channel). not (is_named name c)) (x ∷ xs) ≡ x ∷ xs
    by_test true e ih = let found : Some x ≡ None = rw e at none in absurd (cc)
    by_test false e ih = rw e (ap (λ (l : List Channel). x ∷ l) (ih (rw e at none)))

-- a name that no channel has leads to no slot
no_slot : (f : ℕ → Option Channel) (order : List ℕ) (xs : List Channel) → Stores f order xs → (name : Bytes) → list_all (λ (c : Channel). not (is_named name c)) xs ≡ true → slot_of f order name ≡ None
no_slot f [] [] e name all = refl
no_slot f [] (x ∷ xs) e name all = absurd (cc)
no_slot f (s ∷ order) [] e name all = absurd (cc)
no_slot f (s ∷ order) (x ∷ xs) e name all =
    let here : f s ≡ Some x = cc in
    let rest : Stores f order xs = cc in
    let p = both_of (not (is_named name x)) (list_all (λ (c : Channel). not (is_named name c)) xs) all in
    let fails : has_name name (f s) ≡ false = ap (has_name name) here ∙ not_true (is_named name x) p.0 in
    rw fails (no_slot f order xs rest name p.1)
  where
    not_true : (b : Bool) → not b ≡ true → b ≡ false
    not_true b e = grind arith

none_later : (c : Channel) (name : Bytes) → c.name ≡ name → (xs : List Channel) → list_all (channel_before c) xs ≡ true → list_all (λ (d : Channel). not (is_named name d)) xs ≡ true
none_later c name one [] all = refl
none_later c name one (x ∷ xs) all =
    let p = both_of (channel_before c x) (list_all (channel_before c) xs) all in
    let behind : before name x.name ≡ true = subst (λ (n : Bytes). before n x.name ≡ true) one p.0 in
    rw (other_behind x.name name behind, none_later c name one xs p.1) refl

-- where the channel of a slot that was found stands

front_named : (x c : Channel) (name : Bytes) → channel_before x c ≡ true → c.name ≡ name → before x.name name ≡ true
front_named x c name lt is = subst (λ (n : Bytes). before x.name n ≡ true) is lt

abbrev IsSeat : List ℕ → List Channel → Bytes → ℕ → ℕ → Type 0
IsSeat order xs name s at = (slice_get order at ≡ Some s) × IsHeld (λ (d : Channel). before d.name name) (λ d. before name d.name) xs at

pub seat_by_name : (f : ℕ → Option Channel) (order : List ℕ) (xs : List Channel) → Stores f order xs → are_channels xs ≡ true → (name : Bytes) (s : ℕ) → slot_of f order name ≡ Some s → (at : ℕ) × IsSeat order xs name s at
seat_by_name f [] [] e asc name s is = absurd (cc)
seat_by_name f [] (x ∷ xs) e asc name s is = absurd (cc)
seat_by_name f (t ∷ order) [] e asc name s is = absurd (cc)
seat_by_name f (t ∷ order) (x ∷ xs) e asc name s is =
    let here : f t ≡ Some x = cc in
    let rest : Stores f order xs = cc in
    let p = both_of (list_all (channel_before x) xs) (are_channels xs) asc in
    by_name (is_named name x) refl here rest p.0 (seat_by_name f order xs rest p.1 name s)
  where
    by_name : (b : Bool) → is_named name x ≡ b → f t ≡ Some x → Stores f order xs → list_all (channel_before x) xs ≡ true → (slot_of f order name ≡ Some s → (at : ℕ) × IsSeat order xs name s at) → (at : ℕ) × IsSeat (t ∷ order) (x ∷ xs) name s at
    by_name true n here rest later ih =
        let passes : has_name name (f t) ≡ true = ap (has_name name) here ∙ n in
        let it : Some t ≡ Some s = rw passes at is in
        (0, (it, record { front = refl; within = omega arith; tie = name_ties (λ (c : Channel). c.name) name x n }))
    by_name false n here rest later ih =
        let fails : has_name name (f t) ≡ false = ap (has_name name) here ∙ n in
        let there : slot_of f order name ≡ Some s = rw fails at is in
        let seat = ih there in
        let held = seat.1.1 in
        let in_front : before x.name name ≡ true = ahead (f s) refl rest later there seat.0 seat.1.0 in
        (suc seat.0, (seat.1.0, record { front = rw (in_front, held.front) refl; within = omega (arith, held.within); tie = held.tie }))
      where
        ahead : (o : Option Channel) → f s ≡ o → Stores f order xs → list_all (channel_before x) xs ≡ true → slot_of f order name ≡ Some s → (at : ℕ) → slice_get order at ≡ Some s → before x.name name ≡ true
        ahead None none rest later there at stands = let some = is_there f order name s there in absurd (cc)
        ahead (Some c) has rest later there at stands =
            let c_at : slice_get xs at ≡ Some c = sym (stored_at f order xs at s rest stands) ∙ has in
            front_named x c name (all_at (channel_before x) xs at c c_at later) (name_there f order name s c there has)

-- what a slot has changes

module _ (f g : ℕ → Option Channel) (slot : ℕ) (others : (other : ℕ) → other ≢ slot → g other ≡ f other) where
  other_test : (s : ℕ) (name : Bytes) → are_other slot s ≡ true → has_name name (g s) ≡ has_name name (f s)
  other_test s name other = ap (has_name name) (others s (differs slot s other))

  same_slots : (order : List ℕ) (name : Bytes) → list_all (are_other slot) order ≡ true → slot_of g order name ≡ slot_of f order name
  same_slots [] name all = refl
  same_slots (s ∷ order) name all =
      let p = both_of (are_other slot s) (list_all (are_other slot) order) all in
      rw (other_test s name p.0, same_slots order name p.1) refl

  -- the names stay where the channel in the slot has the name of the one before it
  pub slots_set : (c d : Channel) → f slot ≡ Some c → g slot ≡ Some d → c.name ≡ d.name → (order : List ℕ) (name : Bytes) → slot_of g order name ≡ slot_of f order name
  slots_set c d has gets one [] name = refl
  slots_set c d has gets one (s ∷ order) name = rw (test (nat_eq slot s) refl, slots_set c d has gets one order name) refl
    where
      test : (b : Bool) → nat_eq slot s ≡ b → has_name name (g s) ≡ has_name name (f s)
      test false e = let other : are_other slot s ≡ true = ap not e in other_test s name other
      test true e =
          let it : slot ≡ s = grind (arith, nat_tests) in
          subst (λ (n : ℕ). has_name name (g n) ≡ has_name name (f n)) it
          (ap (has_name name) gets ∙ ap (λ (n : Bytes). same n name) (sym one) ∙ ap (has_name name) (sym has))

  -- one more
  pub slots_insert : (c : Channel) → g slot ≡ Some c → (order : List ℕ) → list_all (are_other slot) order ≡ true → slot_of f order c.name ≡ None → (at : ℕ) (name : Bytes)
      → slot_of g (insert order at slot) name ≡ (if same c.name name then Some slot else slot_of f order name)
  slots_insert c gets [] all none zero name = rw gets refl
  slots_insert c gets [] all none (suc at) name = rw gets refl
  slots_insert c gets (s ∷ order) all none zero name = rw (gets, same_slots (s ∷ order) name all) refl
  slots_insert c gets (s ∷ order) all none (suc at) name =
      let p = both_of (are_other slot s) (list_all (are_other slot) order) all in
      by_tests (has_name name (f s)) refl (same c.name name) refl (has_name c.name (f s)) refl (other_test s name p.0) (slots_insert c gets order p.1)
    where
      by_tests : (a : Bool) → has_name name (f s) ≡ a → (b : Bool) → same c.name name ≡ b → (d : Bool) → has_name c.name (f s) ≡ d → has_name name (g s) ≡ has_name name (f s)
          → (slot_of f order c.name ≡ None → (i : ℕ) (n : Bytes) → slot_of g (insert order i slot) n ≡ (if same c.name n then Some slot else slot_of f order n))
          → slot_of g (insert (s ∷ order) (suc at) slot) name ≡ (if same c.name name then Some slot else slot_of f (s ∷ order) name)
      by_tests a e b h true k there ih = let taken : Some s ≡ None = rw k at none in absurd (cc)
      by_tests true e true h false k there ih =
          let one : c.name ≡ name = same_equal c.name name h in
          let both : has_name name (f s) ≡ false = subst (λ (n : Bytes). has_name n (f s) ≡ false) one k in
          absurd (cc)
      by_tests true e false h false k there ih = rw (there ∙ e, h, e) refl
      by_tests false e b h false k there ih = rw (there ∙ e, e) (ih (rw k at none) at name)

  -- one less
  pub slots_remove : (c : Channel) → f slot ≡ Some c → (order : List ℕ) (xs : List Channel) → Stores f order xs → ascends are_other order ≡ true → are_channels xs ≡ true → (at : ℕ) → slice_get order at ≡ Some slot → (name : Bytes)
      → slot_of g (remove order at) name ≡ (if same c.name name then None else slot_of f order name)
  slots_remove c has [] xs e apart asc zero is name = absurd (cc)
  slots_remove c has [] xs e apart asc (suc at) is name = absurd (cc)
  slots_remove c has (s ∷ order) [] e apart asc at is name = absurd (cc)
  slots_remove c has (s ∷ order) (x ∷ xs) e apart asc zero is name =
      let it : s ≡ slot = cc in
      let here : f s ≡ Some x = cc in
      let rest : Stores f order xs = cc in
      let one : Some x ≡ Some c = sym here ∙ ap f it ∙ has in
      let same_one : x ≡ c = cc in
      let p = both_of (list_all (are_other s) order) (ascends are_other order) apart in
      let q = both_of (list_all (channel_before x) xs) (are_channels xs) asc in
      let kept = same_slots order name (subst (λ (n : ℕ). list_all (are_other n) order ≡ true) it p.0) in
      let test : has_name name (f s) ≡ same c.name name = ap (has_name name) (here ∙ one) in
      kept ∙ by_name (same c.name name) refl test (subst (λ (y : Channel). list_all (channel_before y) xs ≡ true) same_one q.0) rest
    where
      by_name : (b : Bool) → same c.name name ≡ b → has_name name (f s) ≡ same c.name name → list_all (channel_before c) xs ≡ true → Stores f order xs
          → slot_of f order name ≡ (if same c.name name then None else slot_of f (s ∷ order) name)
      by_name true n test later rest =
          let one = same_equal c.name name n in
          rw n (no_slot f order xs rest name (none_later c name one xs later))
      by_name false n test later rest = rw (n, test ∙ n) refl
  slots_remove c has (s ∷ order) (x ∷ xs) e apart asc (suc at) is name =
      let here : f s ≡ Some x = cc in
      let rest : Stores f order xs = cc in
      let p = both_of (list_all (are_other s) order) (ascends are_other order) apart in
      let q = both_of (list_all (channel_before x) xs) (are_channels xs) asc in
      let other : are_other slot s ≡ true = turned s slot (all_at (are_other s) order at slot is p.0) in
      let c_at : slice_get xs at ≡ Some c = sym (stored_at f order xs at slot rest is) ∙ has in
      let behind : channel_before x c ≡ true = all_at (channel_before x) xs at c c_at q.0 in
      by_tests (same x.name name) refl (same c.name name) refl here behind (other_test s name other) (slots_remove c has order xs rest p.1 q.1 at is name)
    where
      turned : (a b : ℕ) → are_other a b ≡ true → are_other b a ≡ true
      turned a b o = grind (arith, nat_tests)

      by_tests : (a : Bool) → same x.name name ≡ a → (b : Bool) → same c.name name ≡ b → f s ≡ Some x → channel_before x c ≡ true → has_name name (g s) ≡ has_name name (f s)
          → slot_of g (remove order at) name ≡ (if same c.name name then None else slot_of f order name)
          → slot_of g (remove (s ∷ order) (suc at)) name ≡ (if same c.name name then None else slot_of f (s ∷ order) name)
      by_tests true k true h here behind there ih =
          let one : x.name ≡ c.name = same_equal x.name name k ∙ sym (same_equal c.name name h) in
          let two : same x.name c.name ≡ true = subst (λ (n : Bytes). same x.name n ≡ true) one (same_refl x.name) in
          let other = other_before x.name c.name behind in
          absurd (cc)
      by_tests true k false h here behind there ih =
          let passes : has_name name (f s) ≡ true = ap (has_name name) here ∙ k in
          rw (there ∙ passes, h, passes) refl
      by_tests false k b h here behind there ih =
          let fails : has_name name (f s) ≡ false = ap (has_name name) here ∙ k in
          rw (there ∙ fails, fails) ih
