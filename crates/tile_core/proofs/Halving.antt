-- A session is found among rising numbers by halving.
use Rattle.std.proofs.Common.{◌≡◌, ◌≢◌, ℕ, zero, suc, ◌<◌, ◌≤◌, Bool, true, false, refl, sym, ap, ◌∙◌, subst, List, [], ◌∷◌, length, arith}
use Rattle.std.specs.Prelude.{Some, slice_get, get_or, nat_lt}
use Rattle.std.specs.List.{list_all}
use Rattle.std.proofs.lemmas.Bool.Decides.{nat_tests}
use Rattle.std.proofs.lemmas.Option.{slice_get_within}
use Rattle.std.specs.List.Sorted.{IsPartitionedBy}
use Rattle.ordered_lists.specs.Reading.{all_at, all_get, got_at}
use Rattle.session_table.specs.Sessions.{State}
use Rattle.tile_core.specs.Sessions.{Rises, number_before, are_rising}

first_of : (x : State) (xs : List State) → are_rising (x ∷ xs) ≡ true → list_all (number_before x) xs ≡ true
first_of x xs r = grind arith

rest_of : (x : State) (xs : List State) → are_rising (x ∷ xs) ≡ true → are_rising xs ≡ true
rest_of x xs r = grind arith

-- those of lesser numbers stand in front
pub parted : (n : ℕ) (xs : List State) → are_rising xs ≡ true → IsPartitionedBy (λ s. nat_lt s.number n) xs
parted n [] r i j d le lt h = absurd (omega arith)
parted n (x ∷ xs) r zero zero d le lt h = h
parted n (x ∷ xs) r zero (suc j) d le lt h =
    let less : number_before x (get_or xs j d) ≡ true = all_get (number_before x) xs j d (omega arith) (first_of x xs r) in
    grind (arith, nat_tests)
parted n (x ∷ xs) r (suc i) zero d le lt h = absurd (omega arith)
parted n (x ∷ xs) r (suc i) (suc j) d le lt h = parted n xs (rest_of x xs r) i j d (omega arith) (omega arith) h

-- a later session has a greater number
later : (xs : List State) (i k : ℕ) (x s : State) → are_rising xs ≡ true → slice_get xs i ≡ Some x → slice_get xs k ≡ Some s → i < k → x.number < s.number
later [] i k x s r a b lt = absurd (cc)
later (y ∷ ys) zero zero x s r a b lt = absurd (omega (arith, lt))
later (y ∷ ys) zero (suc k) x s r a b lt =
    let is : y ≡ x = cc in
    let less : number_before y s ≡ true = all_at (number_before y) ys k s b (first_of y ys r) in
    subst (λ (t : State). t.number < s.number) is (grind (arith, nat_tests))
later (y ∷ ys) (suc i) zero x s r a b lt = absurd (omega (arith, lt))
later (y ∷ ys) (suc i) (suc k) x s r a b lt = later ys i k x s (rest_of y ys r) a b (omega (arith, lt))

module _ (xs : List State) (n at : ℕ) (k : ℕ) (s : State) (here : slice_get xs k ≡ Some s) where
  -- one in front has a lesser number
  pub lesser : ((j : ℕ) (d : State) → 0 ≤ j → j < at → nat_lt (get_or xs j d).number n ≡ true) → k < at → s.number ≢ n
  lesser front lt e =
      let t : nat_lt s.number n ≡ true = subst (λ (u : State). nat_lt u.number n ≡ true) (got_at xs k s s here) (front k s (omega arith) lt) in
      absurd (let f : nat_lt s.number n ≡ false = grind (arith, nat_tests) in cc)

  -- all are in front
  pub all_lesser : ((j : ℕ) (d : State) → 0 ≤ j → j < at → nat_lt (get_or xs j d).number n ≡ true) → at ≡ length xs → s.number ≢ n
  all_lesser front end = let lt = slice_get_within xs k s here in lesser front (omega (arith, lt, end))

  -- the first one that is not in front has another number, and so has each behind it
  pub other : are_rising xs ≡ true → ((j : ℕ) (d : State) → 0 ≤ j → j < at → nat_lt (get_or xs j d).number n ≡ true)
      → (x : State) → slice_get xs at ≡ Some x → nat_lt x.number n ≡ false → x.number ≢ n → s.number ≢ n
  other r front x there fails ne = by (nat_lt k at) refl (nat_lt at k) refl
    where
      by : (a : Bool) → nat_lt k at ≡ a → (b : Bool) → nat_lt at k ≡ b → s.number ≢ n
      by true p b q e = lesser front (grind (arith, nat_tests)) e
      by false p true q e =
          let lt : at < k = grind (arith, nat_tests) in
          let less = later xs at k x s r there here lt in
          let le : n ≤ x.number = grind (arith, nat_tests) in
          absurd (omega (arith, less, le, e))
      by false p false q e =
          let same : at ≡ k = grind (arith, nat_tests) in
          let is : Some x ≡ Some s = sym there ∙ ap (slice_get xs) same ∙ here in
          let it : x ≡ s = cc in
          ne (ap (λ (t : State). t.number) it ∙ e)

-- rising numbers, from above a number to another
pub rising : (low d : ℕ) (xs : List State) → Rises low d xs → are_rising xs ≡ true
rising low d [] r = refl
rising low d (x ∷ xs) r = let rest = rising x.number d xs r.1 in let all = all_above x.number d xs r.1 in grind arith
  where
    all_above : (m e : ℕ) (ys : List State) → Rises m e ys → list_all (λ (t : State). nat_lt m t.number) ys ≡ true
    all_above m e [] q = refl
    all_above m e (y ∷ ys) q =
        let here : nat_lt m y.number ≡ true = (let l : m < y.number = q.0 in grind (arith, nat_tests)) in
        let rest = all_above m e ys (lower m y.number e ys (omega (arith, q.0)) q.1) in
        rw here rest
      where
        lower : (a b f : ℕ) (zs : List State) → a ≤ b → Rises b f zs → Rises a f zs
        lower a b f [] le w = omega (arith, le, w)
        lower a b f (z ∷ zs) le w = (let l : b < z.number = w.0 in omega (arith, l, le), w.1)
