-- The sessions that a call changed are named.
use Rattle.std.proofs.Common.{◌≡◌, ◌≢◌, ℕ, zero, suc, ◌+◌, ◌<◌, ◌≤◌, Bool, true, false, true≢false, refl, sym, ap, ◌∙◌, subst, inl, inr, List, [], ◌∷◌, ◌++◌, length, length-append, arith}
use Rattle.std.specs.Prelude.{Some, map, find, filter, slice_get, slice_set, ◌==◌, ◌⊎◌, nat_lt, if◌then◌else◌}
use Rattle.std.proofs.lemmas.Bool.Decides.{nat_tests}
use Rattle.std.proofs.lemmas.Option.{same_Some}
use Rattle.world_model.specs.Halls as halls
use Rattle.world_model.specs.Halls.{placed_each}
use Rattle.delivery_model.specs.Placing.{each_number}
use Rattle.session_table.specs.Fans.{AreBare, ArePlaced}
use Rattle.session_table.specs.Sessions.{State, session_of}
use Rattle.tile_core.specs.Answered.{is_named, AreNamed, AreRoomy, StayNamed}

-- one more is named
abbrev pub with_name : List ℕ → ℕ → List ℕ
with_name named n = if is_named named n then named else named ++ n ∷ []

named_last : (named : List ℕ) (n : ℕ) → is_named (named ++ n ∷ []) n ≡ true
named_last [] n = grind (arith, nat_tests)
named_last (m ∷ named) n = let ih = named_last named n in grind arith

pub is_it : (named : List ℕ) (n : ℕ) → is_named (with_name named n) n ≡ true
is_it named n = by (is_named named n) refl
  where
    by : (b : Bool) → is_named named n ≡ b → is_named (if b then named else named ++ n ∷ []) n ≡ true
    by true e = e
    by false e = named_last named n

stays_more : (named : List ℕ) (n k : ℕ) → is_named named k ≡ true → is_named (named ++ n ∷ []) k ≡ true
stays_more [] n k e = absurd (cc)
stays_more (m ∷ named) n k e = let ih = stays_more named n k in grind arith

pub stay : (named : List ℕ) (n : ℕ) → StayNamed named (with_name named n)
stay named n k e = by (is_named named n)
  where
    by : (b : Bool) → is_named (if b then named else named ++ n ∷ []) k ≡ true
    by true = e
    by false = stays_more named n k e

-- a session of another number stays as it is
same_other : (xs : List State) (i : ℕ) (s v : State) (k : ℕ) → slice_get xs i ≡ Some s → v.number ≡ s.number → k ≢ s.number → find (halls.is_session k) (map session_of (slice_set xs i v)) ≡ find (halls.is_session k) (map session_of xs)
same_other [] i s v k at e ne = absurd (cc)
same_other (y ∷ ys) zero s v k at e ne =
    let is : y ≡ s = cc in
    let a : (v.number == k) ≡ false = grind (arith, nat_tests) in
    let num : y.number ≡ s.number = ap (λ (t : State). t.number) is in
    let b : (y.number == k) ≡ false = grind (arith, nat_tests) in
    rw (a, b) refl
same_other (y ∷ ys) (suc i) s v k at e ne = by (y.number == k) (same_other ys i s v k at e ne)
  where
    by : (b : Bool) → find (halls.is_session k) (map session_of (slice_set ys i v)) ≡ find (halls.is_session k) (map session_of ys) → (if b then Some (session_of y) else find (halls.is_session k) (map session_of (slice_set ys i v))) ≡ (if b then Some (session_of y) else find (halls.is_session k) (map session_of ys))
    by true ih = refl
    by false ih = ih

-- those that are named
abbrev some : List ℕ → List State → List halls.Session
some named xs = filter (λ s. is_named named s.number) (map session_of xs)

-- more names name as many sessions at least, and one more where one of them was not named
no_fewer : (named more : List ℕ) → StayNamed named more → (xs : List State) → length (some named xs) ≤ length (some more xs)
no_fewer named more kept [] = omega arith
no_fewer named more kept (x ∷ xs) = by (is_named named x.number) refl (is_named more x.number) refl (no_fewer named more kept xs)
  where
    by : (a : Bool) → is_named named x.number ≡ a → (b : Bool) → is_named more x.number ≡ b → length (some named xs) ≤ length (some more xs)
        → length (if a then session_of x ∷ some named xs else some named xs) ≤ length (if b then session_of x ∷ some more xs else some more xs)
    by true p true q le = omega (arith, le)
    by true p false q le = absurd (let r = kept x.number p in cc)
    by false p true q le = omega (arith, le)
    by false p false q le = le

one_more : (named more : List ℕ) → StayNamed named more → (xs : List State) (i : ℕ) (s : State) → slice_get xs i ≡ Some s → is_named named s.number ≡ false → is_named more s.number ≡ true → length (some named xs) < length (some more xs)
one_more named more kept [] i s at was is = absurd (cc)
one_more named more kept (x ∷ xs) zero s at was is =
    let same : x ≡ s = cc in
    let p : is_named named x.number ≡ false = subst (λ (t : State). is_named named t.number ≡ false) (sym same) was in
    let q : is_named more x.number ≡ true = subst (λ (t : State). is_named more t.number ≡ true) (sym same) is in
    rw (p, q) (let le = no_fewer named more kept xs in omega (arith, le))
one_more named more kept (x ∷ xs) (suc i) s at was is = by (is_named named x.number) refl (is_named more x.number) refl (one_more named more kept xs i s at was is)
  where
    by : (a : Bool) → is_named named x.number ≡ a → (b : Bool) → is_named more x.number ≡ b → length (some named xs) < length (some more xs)
        → length (if a then session_of x ∷ some named xs else some named xs) < length (if b then session_of x ∷ some more xs else some more xs)
    by true p true q le = omega (arith, le)
    by true p false q le = absurd (let r = kept x.number p in cc)
    by false p true q le = omega (arith, le)
    by false p false q le = le

at_most : (named : List ℕ) (xs : List State) → length (some named xs) ≤ length xs
at_most named [] = omega arith
at_most named (x ∷ xs) = by (is_named named x.number) (at_most named xs)
  where
    by : (b : Bool) → length (some named xs) ≤ length xs → length (if b then session_of x ∷ some named xs else some named xs) ≤ suc (length xs)
    by true le = omega (arith, le)
    by false le = omega (arith, le)

-- there is room for one that is not named
pub room_for_one : (named : List ℕ) (sessions : List State) → AreRoomy named sessions → (i : ℕ) (s : State) → slice_get sessions i ≡ Some s → is_named named s.number ≡ false → length named < length sessions
room_for_one named sessions room i s at was =
    let more = with_name named s.number in
    let lt = one_more named more (stay named s.number) sessions i s at was (is_it named s.number) in
    omega (arith, lt, room, at_most more sessions)

-- and room for the others is left
pub still_roomy : (named : List ℕ) (sessions : List State) → AreRoomy named sessions → (i : ℕ) (s : State) → slice_get sessions i ≡ Some s → AreRoomy (with_name named s.number) sessions
still_roomy named sessions room i s at = by (is_named named s.number) refl
  where
    long : length (named ++ s.number ∷ []) ≡ length named + 1
    long = length-append named (s.number ∷ [])

    by : (b : Bool) → is_named named s.number ≡ b → length (if b then named else named ++ s.number ∷ []) ≤ length (some (if b then named else named ++ s.number ∷ []) sessions)
    by true e = room
    by false e =
        let lt = one_more named (named ++ s.number ∷ []) (λ k was. stays_more named s.number k was) sessions i s at e (named_last named s.number) in
        omega (arith, lt, room, long)

-- names stay room for the sessions that have the same numbers
pub roomy_as : (named : List ℕ) (old new : List State) → map (λ (s : State). s.number) new ≡ map (λ (s : State). s.number) old → AreRoomy named old → AreRoomy named new
roomy_as named old new same room = subst (λ (k : ℕ). length named ≤ k) (counts old new (sym same)) room
  where
    counts : (xs ys : List State) → map (λ (s : State). s.number) xs ≡ map (λ (s : State). s.number) ys → length (some named xs) ≡ length (some named ys)
    counts [] [] e = refl
    counts [] (y ∷ ys) e = absurd (cc)
    counts (x ∷ xs) [] e = absurd (cc)
    counts (x ∷ xs) (y ∷ ys) e =
        let first : x.number ≡ y.number = cc in
        let rest : map (λ (s : State). s.number) xs ≡ map (λ (s : State). s.number) ys = cc in
        ap (λ (b : Bool). length (if b then session_of x ∷ some named xs else some named xs)) (ap (is_named named) first) ∙ by (is_named named y.number) (counts xs ys rest)
      where
        by : (b : Bool) → length (some named xs) ≡ length (some named ys) → length (if b then session_of x ∷ some named xs else some named xs) ≡ length (if b then session_of y ∷ some named ys else some named ys)
        by true ih = ap suc ih
        by false ih = ih

-- those that are not named stay as they were when all that is staged is placed
pub unnamed_same : (named : List ℕ) (old new : List State) (k : ℕ) → ArePlaced old new → AreNamed named old → is_named named k ≡ false → find (halls.is_session k) (map session_of new) ≡ find (halls.is_session k) (map session_of old)
unnamed_same named [] [] k p all e = refl
unnamed_same named [] (t ∷ new) k p all e = absurd p
unnamed_same named (s ∷ old) [] k p all e = absurd p
unnamed_same named (s ∷ old) (t ∷ new) k p all e = by (s.number == k) refl (unnamed_same named old new k p.1 all.1 e)
  where
    number : t.number ≡ s.number
    number = ap (λ (h : halls.Session). h.number) p.0.same ∙ each_number (session_of s) s.mail.staged

    by : (b : Bool) → (s.number == k) ≡ b → find (halls.is_session k) (map session_of new) ≡ find (halls.is_session k) (map session_of old)
        → find (halls.is_session k) (map session_of (t ∷ new)) ≡ find (halls.is_session k) (map session_of (s ∷ old))
    by true q ih =
        let there : (t.number == k) ≡ true = ap (λ (n : ℕ). n == k) number ∙ q in
        let is : s.number ≡ k = grind (arith, nat_tests) in
        rw (q, there) (ap (λ (h : halls.Session). Some h) (p.0.same ∙ ap (placed_each (session_of s)) (silent is all.0)))
      where
        silent : s.number ≡ k → (s.mail.staged ≡ []) ⊎ (is_named named s.number ≡ true) → s.mail.staged ≡ []
        silent is (inl none) = none
        silent is (inr told) = absurd (true≢false (sym told ∙ ap (is_named named) is ∙ e))
    by false q ih =
        let there : (t.number == k) ≡ false = ap (λ (n : ℕ). n == k) number ∙ q in
        rw (q, there) ih

-- more names name as many
pub named_more : (named more : List ℕ) (sessions : List State) → StayNamed named more → AreNamed named sessions → AreNamed more sessions
named_more named more [] stay all = tt
named_more named more (s ∷ sessions) stay all = (by all.0, named_more named more sessions stay all.1)
  where
    by : (s.mail.staged ≡ []) ⊎ (is_named named s.number ≡ true) → (s.mail.staged ≡ []) ⊎ (is_named more s.number ≡ true)
    by (inl none) = inl none
    by (inr told) = inr (stay s.number told)

-- so each session that another hall has is named, where all that is staged is placed, and one that is named may be changed
module _ (named : List ℕ) (ss mid new : List State) (same : map session_of mid ≡ map session_of ss) (placed_ : ArePlaced mid new) (told : AreNamed named mid) (k : ℕ) where
  pub placed_named : is_named named k ≡ false → find (halls.is_session k) (map session_of new) ≡ find (halls.is_session k) (map session_of ss)
  placed_named e = unnamed_same named mid new k placed_ told e ∙ ap (find (halls.is_session k)) same

  pub changed_named : (i : ℕ) (t v : State) → slice_get new i ≡ Some t → v.number ≡ t.number → is_named named t.number ≡ true → is_named named k ≡ false
      → find (halls.is_session k) (map session_of (slice_set new i v)) ≡ find (halls.is_session k) (map session_of ss)
  changed_named i t v at numbered it e = same_other new i t v k at numbered other ∙ placed_named e
    where
      other : k ≢ t.number
      other is = true≢false (sym it ∙ ap (is_named named) (sym is) ∙ e)

-- named one after another

pub named_next : (named more : List ℕ) (sessions : List State) (i : ℕ) (s : State) → slice_get sessions i ≡ Some s → StayNamed named more
    → ((k : ℕ) (t : State) → k < i → slice_get sessions k ≡ Some t → (t.mail.staged ≡ []) ⊎ (is_named named t.number ≡ true))
    → (s.mail.staged ≡ []) ⊎ (is_named more s.number ≡ true)
    → (k : ℕ) (t : State) → k < i + 1 → slice_get sessions k ≡ Some t → (t.mail.staged ≡ []) ⊎ (is_named more t.number ≡ true)
named_next named more sessions i s at kept before here k t lt there = by (nat_lt k i) refl
  where
    by : (b : Bool) → nat_lt k i ≡ b → (t.mail.staged ≡ []) ⊎ (is_named more t.number ≡ true)
    by true e = elim (before k t (grind (arith, nat_tests)) there) [ inl none ↦ inl none | inr told ↦ inr (kept t.number told) ]
    by false e =
        let le : i ≤ k = grind (arith, nat_tests) in
        let is : k ≡ i = omega (arith, lt, le) in
        let same : s ≡ t = same_Some s t (sym at ∙ ap (slice_get sessions) (sym is) ∙ there) in
        subst (λ (u : State). (u.mail.staged ≡ []) ⊎ (is_named more u.number ≡ true)) same here

pub named_all : (named : List ℕ) (sessions : List State) → ((k : ℕ) (t : State) → slice_get sessions k ≡ Some t → (t.mail.staged ≡ []) ⊎ (is_named named t.number ≡ true)) → AreNamed named sessions
named_all named [] all = tt
named_all named (s ∷ sessions) all = (all zero s refl, named_all named sessions (λ k t at. all (suc k) t at))

-- where nothing is staged, nobody is to be named
pub none_told : (named : List ℕ) (sessions : List State) → AreBare sessions → AreNamed named sessions
none_told named [] bare = tt
none_told named (s ∷ sessions) bare = (inl bare.0, none_told named sessions bare.1)
