-- The sessions that are present, found and changed by their numbers.
use Rattle.std.proofs.Common.{◌≡◌, ◌≢◌, ℕ, zero, suc, ◌+◌, ◌<◌, ◌≤◌, true, false, refl, sym, ap, ◌∙◌, subst, List, [], ◌∷◌, ◌++◌, length, arith}
use Rattle.std.specs.Prelude.{Some, None, map, find, filter, not, slice_get, slice_set, remove, if◌then◌else◌}
use Rattle.std.proofs.lemmas.Bool.Decides.{nat_tests}
use Rattle.world_model.specs.Halls as halls
use Rattle.session_table.specs.Sessions.{State, session_of}
use Rattle.tile_core.specs.Sessions.{Rises, AreOthers}

is_it : (n : ℕ) (s : State) → s.number ≡ n → halls.is_session n (session_of s) ≡ true
is_it n s e = grind (arith, nat_tests)

is_other : (n : ℕ) (s : State) → s.number ≢ n → halls.is_session n (session_of s) ≡ false
is_other n s ne = grind (arith, nat_tests)

-- numbers behind are greater
above : (low d : ℕ) (xs : List State) (i : ℕ) (s : State) → Rises low d xs → slice_get xs i ≡ Some s → low < s.number
above low d [] i s r at = absurd (cc)
above low d (y ∷ ys) zero s r at = let is : y ≡ s = cc in subst (λ (t : State). low < t.number) is r.0
above low d (y ∷ ys) (suc i) s r at = let h : y.number < s.number = above y.number d ys i s r.1 at in let l : low < y.number = r.0 in omega (arith, h, l)

-- the front of the list has another number than what stands behind it
front : (low d : ℕ) (y : State) (ys : List State) (i n : ℕ) (s : State) → Rises low d (y ∷ ys) → slice_get ys i ≡ Some s → s.number ≡ n → halls.is_session n (session_of y) ≡ false
front low d y ys i n s r at e = let h : y.number < s.number = above y.number d ys i s r.1 at in let ne : y.number ≢ n = λ f. absurd (omega (arith, h, e, f)) in is_other n y ne

pub found : (low d : ℕ) (xs : List State) (i n : ℕ) (s : State) → Rises low d xs → slice_get xs i ≡ Some s → s.number ≡ n → find (halls.is_session n) (map session_of xs) ≡ Some (session_of s)
found low d [] i n s r at e = absurd (cc)
found low d (y ∷ ys) zero n s r at e = let is : y ≡ s = cc in let t = is_it n y (ap (λ (u : State). u.number) is ∙ e) in rw t (ap (λ (u : State). Some (session_of u)) is)
found low d (y ∷ ys) (suc i) n s r at e = let t = front low d y ys i n s r at e in rw t (found y.number d ys i n s r.1 at e)

pub none_found : (xs : List State) (n : ℕ) → AreOthers n xs → find (halls.is_session n) (map session_of xs) ≡ None
none_found [] n o = refl
none_found (y ∷ ys) n o = let t = is_other n y (o 0 y refl) in rw t (none_found ys n (λ k s at. o (suc k) s at))

pub none_removed : (xs : List State) (n : ℕ) → AreOthers n xs → filter (λ s. not (halls.is_session n s)) (map session_of xs) ≡ map session_of xs
none_removed [] n o = refl
none_removed (y ∷ ys) n o = let t = is_other n y (o 0 y refl) in rw t (ap (λ (zs : List halls.Session). session_of y ∷ zs) (none_removed ys n (λ k s at. o (suc k) s at)))

-- behind a session all have other numbers than it
others : (d : ℕ) (y : State) (ys : List State) → Rises y.number d ys → AreOthers y.number ys
others d y ys r k s at e = let h : y.number < s.number = above y.number d ys k s r at in absurd (omega (arith, h, e))

pub unchanged : (f : halls.Session → halls.Session) (xs : List State) (n : ℕ) → AreOthers n xs → map (λ s. if halls.is_session n s then f s else s) (map session_of xs) ≡ map session_of xs
unchanged f [] n o = refl
unchanged f (y ∷ ys) n o = let t = is_other n y (o 0 y refl) in rw t (ap (λ (zs : List halls.Session). session_of y ∷ zs) (unchanged f ys n (λ k s at. o (suc k) s at)))

-- the session of a number is changed alone
pub changed : (f : halls.Session → halls.Session) (low d : ℕ) (xs : List State) (i n : ℕ) (s v : State) → Rises low d xs → slice_get xs i ≡ Some s → s.number ≡ n → f (session_of s) ≡ session_of v
    → map (λ t. if halls.is_session n t then f t else t) (map session_of xs) ≡ map session_of (slice_set xs i v)
changed f low d [] i n s v r at e c = absurd (cc)
changed f low d (y ∷ ys) zero n s v r at e c =
    let is : y ≡ s = cc in
    let num : y.number ≡ n = ap (λ (u : State). u.number) is ∙ e in
    let t = is_it n y num in
    let rest = unchanged f ys n (subst (λ m. AreOthers m ys) num (others d y ys r.1)) in
    let here : f (session_of y) ≡ session_of v = ap (λ (u : State). f (session_of u)) is ∙ c in
    rw t (ap (λ (z : halls.Session). z ∷ map (λ t. if halls.is_session n t then f t else t) (map session_of ys)) here ∙ ap (λ (zs : List halls.Session). session_of v ∷ zs) rest)
changed f low d (y ∷ ys) (suc i) n s v r at e c =
    let t = front low d y ys i n s r at e in
    rw t (ap (λ (zs : List halls.Session). session_of y ∷ zs) (changed f y.number d ys i n s v r.1 at e c))

-- the session of a number is taken out alone
pub removed : (low d : ℕ) (xs : List State) (i n : ℕ) (s : State) → Rises low d xs → slice_get xs i ≡ Some s → s.number ≡ n
    → filter (λ t. not (halls.is_session n t)) (map session_of xs) ≡ map session_of (remove xs i)
removed low d [] i n s r at e = absurd (cc)
removed low d (y ∷ ys) zero n s r at e =
    let is : y ≡ s = cc in
    let num : y.number ≡ n = ap (λ (u : State). u.number) is ∙ e in
    let t = is_it n y num in
    rw t (none_removed ys n (subst (λ m. AreOthers m ys) num (others d y ys r.1)))
removed low d (y ∷ ys) (suc i) n s r at e =
    let t = front low d y ys i n s r at e in
    rw t (ap (λ (zs : List halls.Session). session_of y ∷ zs) (removed y.number d ys i n s r.1 at e))

pub rises_set : (low d : ℕ) (xs : List State) (i : ℕ) (s v : State) → Rises low d xs → slice_get xs i ≡ Some s → v.number ≡ s.number → Rises low d (slice_set xs i v)
rises_set low d [] i s v r at e = absurd (cc)
rises_set low d (y ∷ ys) zero s v r at e =
    let is : y ≡ s = cc in
    let num : y.number ≡ v.number = ap (λ (u : State). u.number) is ∙ sym e in
    (subst (λ m. low < m) num r.0, subst (λ m. Rises m d ys) num r.1)
rises_set low d (y ∷ ys) (suc i) s v r at e = (r.0, rises_set y.number d ys i s v r.1 at e)

-- a lower bound may be lower
lower : (low below d : ℕ) (xs : List State) → below ≤ low → Rises low d xs → Rises below d xs
lower low below d [] le r = omega (arith, r)
lower low below d (y ∷ ys) le r = (let l : low < y.number = r.0 in omega (arith, l), r.1)

pub rises_remove : (low d : ℕ) (xs : List State) (i : ℕ) → i < length xs → Rises low d xs → Rises low d (remove xs i)
rises_remove low d [] i le r = absurd (omega (arith, le))
rises_remove low d (y ∷ ys) zero le r = let l : low < y.number = r.0 in lower y.number low d ys (omega (arith, l)) r.1
rises_remove low d (y ∷ ys) (suc i) le r = (r.0, rises_remove y.number d ys i (omega (arith, le)) r.1)

pub rises_more : (low d : ℕ) (xs : List State) (v : State) → Rises low d xs → v.number ≡ d + 1 → Rises low (d + 1) (xs ++ v ∷ [])
rises_more low d [] v r e = let le : low ≤ d = r in (omega (arith, le, e), omega (arith, e))
rises_more low d (y ∷ ys) v r e = (r.0, rises_more y.number d ys v r.1 e)

pub one_more : (xs : List State) (v : State) → map session_of (xs ++ v ∷ []) ≡ map session_of xs ++ session_of v ∷ []
one_more [] v = refl
one_more (x ∷ xs) v = ap (λ (zs : List halls.Session). session_of x ∷ zs) (one_more xs v)

pub as_many : (xs : List State) → length (map session_of xs) ≡ length xs
as_many [] = refl
as_many (x ∷ xs) = ap suc (as_many xs)

-- what is set at a place stands there, and what is set last counts

pub get_set : (xs : List State) (i : ℕ) (s v : State) → slice_get xs i ≡ Some s → slice_get (slice_set xs i v) i ≡ Some v
get_set [] i s v at = absurd (cc)
get_set (y ∷ ys) zero s v at = refl
get_set (y ∷ ys) (suc i) s v at = get_set ys i s v at

pub set_twice : (xs : List State) (i : ℕ) (u v : State) → slice_set (slice_set xs i u) i v ≡ slice_set xs i v
set_twice [] i u v = refl
set_twice (y ∷ ys) zero u v = refl
set_twice (y ∷ ys) (suc i) u v = ap (λ (zs : List State). y ∷ zs) (set_twice ys i u v)
