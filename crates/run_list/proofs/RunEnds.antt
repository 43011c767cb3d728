-- How many numbers stand before the ends of runs.
use Rattle.std.proofs.Common.{◌≡◌, ◌<◌, ◌≤◌, ◌+◌, ◌-◌, ◌≢◌, ℕ, zero, suc, refl, sym, ap, ◌∙◌, List, [], ◌∷◌, ◌++◌, length, take, drop, set, get_or, length-append, add-one, subst, arith, inl, inr}
use Rattle.std.specs.List.{insert, remove}
use Rattle.std.proofs.lemmas.Bool.{cases_lt}
use Rattle.std.proofs.lemmas.List.{take-take, take-append-le, take-set-le, length-take-le, length-set, get_or-set_other, get_or_default, set-get_or}
use Rattle.std.proofs.lemmas.List.Edits.{length-insert}
use Rattle.std.proofs.lemmas.Grind.{get_or-set_at}
use Rattle.run_list.specs.Runs.{flat, start, AreEnds, AreFilled, IsShifted, IsAt}
use Rattle.run_list.proofs.Flats.{flat-at, flat-cut, start-more, start-most, start-all}

-- as many stand before a run where the runs before it are the same
pub start-same : (a b : List (List ℕ)) (n k : ℕ) → k ≤ n → take n a ≡ take n b → start a k ≡ start b k
start-same a b n k le same =
    ap (λ z. length (flat z)) (sym (take-take k n a le) ∙ ap (λ z. take k z) same ∙ take-take k n b le)

-- the front of a list is that of a longer front, with anything behind it
front-of : (xs ys : List (List ℕ)) (k m : ℕ) → k ≤ m → m ≤ length xs → take k (take m xs ++ ys) ≡ take k xs
front-of xs ys k m le in' =
    let len = length-take-le m xs in' in
    take-append-le k (take m xs) ys (omega (arith, len, le)) ∙ take-take k m xs le

pub front-removed : (xs : List (List ℕ)) (k m : ℕ) → k ≤ m → m ≤ length xs → take k (remove xs m) ≡ take k xs
front-removed xs k m le in' = front-of xs (drop (suc m) xs) k m le in'

pub front-inserted : (xs : List (List ℕ)) (x : List ℕ) (k m : ℕ) → k ≤ m → m ≤ length xs → take k (insert xs m x) ≡ take k xs
front-inserted xs x k m le in' = front-of xs (x ∷ drop m xs) k m le in'

-- the ends in front of a change are what they were
pub kept-ends : (rs new : List (List ℕ)) (es : List ℕ) (k : ℕ) → AreEnds rs es → k ≤ length rs → take k new ≡ take k rs → (j d : ℕ) → j < k → get_or es j d ≡ start new (j + 1)
kept-ends rs new es k ends within same j d lt =
    ends.each j d (omega (arith, lt, within)) ∙ sym (start-same new rs k (j + 1) (omega (arith, lt)) same)

-- a run takes the place of another
start-behind : (rs : List (List ℕ)) (k j : ℕ) (v d : List ℕ) → k < j → k < length rs → start (set rs k v) j + length (get_or rs k d) ≡ start rs j + length v
start-behind [] k j v d lt in' = absurd (omega (arith, in'))
start-behind (r ∷ rs) k zero v d lt in' = absurd (omega (arith, lt))
start-behind (r ∷ rs) zero (suc j) v d lt in' = omega (arith, length-append v (flat (take j rs)), length-append r (flat (take j rs)))
start-behind (r ∷ rs) (suc k) (suc j) v d lt in' =
    let ih = start-behind rs k j v d (omega (arith, lt)) (omega (arith, in')) in
    omega (arith, ih, length-append r (flat (take j (set rs k v))), length-append r (flat (take j rs)))

start-front : (rs : List (List ℕ)) (k j : ℕ) (v : List ℕ) → j ≤ k → start (set rs k v) j ≡ start rs j
start-front rs k j v le = ap (λ z. length (flat z)) (take-set-le j rs k v le)

-- a run has more numbers, or fewer, and so has each end from it on
pub shifted : (less more : ℕ) (rs : List (List ℕ)) (k : ℕ) (r v : List ℕ) (es new : List ℕ) → AreEnds rs es → k < length rs → r ≡ get_or rs k r → length v + less ≡ length r + more → IsShifted less more es new k (length es) → AreEnds (set rs k v) new
shifted less more rs k r v es new ends lt is len shift =
    let count = ends.count in
    let same = length-set rs k v in
    let read = ap length is in
    let kept = shift.count in
    record {
      count = omega (arith, count, same, kept);
      each = λ j d in'. elim (cases_lt j k) [
        | inl low ↦ shift.front j d low ∙ ends.each j d (omega (arith, in', same)) ∙ sym (start-front rs k (j + 1) v (omega (arith, low)))
        | inr high ↦
            let here = shift.moved j d high (omega (arith, in', same, count)) (omega (arith, in', same, count)) in
            let was = ends.each j d (omega (arith, in', same)) in
            let now = start-behind rs k (j + 1) v r (omega (arith, high)) lt in
            omega (arith, here, was, now, len, read)
      ];
    }

-- one number more is shifted
pub shift-step : (less more : ℕ) (old cur : List ℕ) (from k v : ℕ) → IsShifted less more old cur from k → from ≤ k → k < length old → v + less ≡ get_or cur k 0 + more → IsShifted less more old (set cur k v) from (k + 1)
shift-step less more old cur from k v h order in' here =
    let same = length-set cur k v in
    let count = h.count in
    record {
      count = omega (arith, same, count);
      front = λ j d lt. let ne : j ≢ k = omega (arith, lt, order) in get_or-set_other cur k j v d ne ∙ h.front j d lt;
      moved = λ j d le lt within. elim (cases_lt j k) [
        | inl low ↦ let ne : j ≢ k = omega (arith, low) in ap (λ n. n + less) (get_or-set_other cur k j v d ne) ∙ h.moved j d le low within
        | inr high ↦
            let at : j ≡ k = omega (arith, lt, high) in
            let now = get_or-set_at cur k j v d at (omega (arith, in', count)) in
            let was = h.rest k 0 (omega arith) in
            let read = get_or_default old k 0 d in' in
            let place = ap (λ n. get_or old n d) at in
            omega (arith, now, here, was, read, place)
      ];
      rest = λ j d le. let ne : j ≢ k = omega (arith, le) in get_or-set_other cur k j v d ne ∙ h.rest j d (omega (arith, le));
    }

-- no end is behind that of the list
pub end-most : (rs : List (List ℕ)) (es : List ℕ) (j d n : ℕ) → AreEnds rs es → length (flat rs) ≤ n → j < length es → get_or es j d ≤ n
end-most rs es j d n ends most in' =
    let count = ends.count in
    let each = ends.each j d (omega (arith, in', count)) in
    let all = start-most rs (j + 1) in
    omega (arith, each, all, most)

start-grows : (rs : List (List ℕ)) (i j : ℕ) → i ≤ j → start rs i ≤ start rs j
start-grows [] zero zero le = omega arith
start-grows [] zero (suc j) le = omega arith
start-grows [] (suc i) zero le = omega arith
start-grows [] (suc i) (suc j) le = omega arith
start-grows (r ∷ rs) zero zero le = omega arith
start-grows (r ∷ rs) zero (suc j) le = omega arith
start-grows (r ∷ rs) (suc i) zero le = absurd (omega (arith, le))
start-grows (r ∷ rs) (suc i) (suc j) le =
    let ih = start-grows rs i j (omega (arith, le)) in
    omega (arith, ih, length-append r (flat (take i rs)), length-append r (flat (take j rs)))

-- something stands before the end of a run that is not empty, and before each end behind it
pub end-some : (rs : List (List ℕ)) (es : List ℕ) (k j d : ℕ) (r : List ℕ) → AreEnds rs es → k < length rs → r ≡ get_or rs k r → 0 < length r → k ≤ j → j < length es → 0 < get_or es j d
end-some rs es k j d r ends lt is some le in' =
    let count = ends.count in
    let each = ends.each j d (omega (arith, in', count)) in
    let grows = start-grows rs (k + 1) (j + 1) (omega (arith, le)) in
    let more = start-more rs k r lt in
    let read = ap length is in
    omega (arith, each, grows, more, read, some)

-- how many numbers stand before a run, read from the ends
pub before-is : (rs : List (List ℕ)) (es : List ℕ) (k b : ℕ) → AreEnds rs es → k ≤ length rs → (k ≡ 0 → b ≡ 0) → (0 < k → b ≡ get_or es (k - 1) 0) → b ≡ start rs k
before-is rs es zero b ends le none some = none refl ∙ nothing rs
  where
    nothing : (rs : List (List ℕ)) → 0 ≡ start rs 0
    nothing [] = refl
    nothing (r ∷ rs) = refl
before-is rs es (suc k) b ends le none some =
    let back : suc k - 1 ≡ k = omega arith in
    let one : k + 1 ≡ suc k = omega arith in
    some (omega arith) ∙ ap (λ n. get_or es n 0) back ∙ ends.each k 0 (omega (arith, le)) ∙ ap (λ n. start rs n) one

-- no number comes by taking out a run
pub without-most : (rs : List (List ℕ)) (k : ℕ) (v : List ℕ) → k < length rs → length (flat (remove (set rs k v) k)) ≤ length (flat rs)
without-most [] k v lt = absurd (omega (arith, lt))
without-most (r ∷ rs) zero v lt = omega (arith, length-append r (flat rs))
without-most (r ∷ rs) (suc k) v lt =
    let ih = without-most rs k v (omega (arith, lt)) in
    omega (arith, ih, length-append r (flat (remove (set rs k v) k)), length-append r (flat rs))

pub dropped-most : (rs : List (List ℕ)) (k : ℕ) → k < length rs → length (flat (remove rs k)) ≤ length (flat rs)
dropped-most rs k lt = subst (λ (z : List (List ℕ)). length (flat (remove z k)) ≤ length (flat rs)) (set-get_or rs k []) (without-most rs k (get_or rs k []) lt)

-- one number comes where a run is cut in two for it
pub cut-count : (rs : List (List ℕ)) (k at x : ℕ) (r low high : List ℕ) → k < length rs → r ≡ get_or rs k r → at ≤ length r → low ++ high ≡ insert r at x → length (flat (insert (set rs k low) (k + 1) high)) ≡ length (flat rs) + 1
cut-count rs k at x r low high lt is le made =
    let a = flat (take k rs) in
    let b = flat (drop (suc k) rs) in
    let m = get_or rs k r in
    let cut = ap length (ap (λ n. flat (insert (set rs k low) n high)) (add-one k) ∙ flat-cut rs k low high lt) in
    let whole = ap length (flat-at rs k r lt) in
    let added = ap length made in
    let more = length-insert r at x le in
    let read = ap length is in
    omega (arith, cut, whole, added, more, read, length-append a ((low ++ high) ++ b), length-append (low ++ high) b, length-append a (m ++ b), length-append m b)

-- what holds of a first run of one number
pub record IsFirst (rs : List (List ℕ)) (es : List ℕ) : Type 0 where
  pub filled : AreFilled rs
  pub ends : AreEnds rs es
  pub count : 1 ≡ length (flat rs)

pub first-run : (rs new : List (List ℕ)) (run made : List ℕ) (es marks : List ℕ) (x : ℕ) → AreEnds rs es → length rs ≡ 0 → run ≡ [] → made ≡ insert run 0 x → new ≡ rs ++ made ∷ [] → marks ≡ es ++ 1 ∷ [] → IsFirst new marks
first-run [] new run made [] marks x ends none empty is added marked = rw (added, marked, is, empty) (record { filled = filled x; ends = record { count = refl; each = each x }; count = refl })
  where
    filled : (x k : ℕ) (d : List ℕ) → k < 1 → 0 < length (get_or ((x ∷ []) ∷ []) k d)
    filled x zero d lt = omega arith
    filled x (suc k) d lt = absurd (omega (arith, lt))

    each : (x k d : ℕ) → k < 1 → get_or (1 ∷ []) k d ≡ start ((x ∷ []) ∷ []) (k + 1)
    each x zero d lt = refl
    each x (suc k) d lt = absurd (omega (arith, lt))
first-run [] new run made (e ∷ es) marks x ends none empty is added marked = let count = ends.count in absurd (omega (arith, count))
first-run (r ∷ rs) new run made es marks x ends none empty is added marked = absurd (omega (arith, none))

-- a place is found by the ends of the runs
pub found-at : (rs : List (List ℕ)) (es : List ℕ) (i k b : ℕ) → AreEnds rs es → i < length (flat rs) → k ≤ length es → (0 < k → get_or es (k - 1) 0 ≤ i) → (k < length es → i < get_or es k 0) → (k ≡ 0 → b ≡ 0) → (0 < k → b ≡ get_or es (k - 1) 0) → IsAt rs i k (i - b)
found-at rs es i zero b ends lt within front behind none some = first rs es i b ends lt (none refl) behind
  where
    first : (rs : List (List ℕ)) (es : List ℕ) (i b : ℕ) → AreEnds rs es → i < length (flat rs) → b ≡ 0 → (0 < length es → i < get_or es 0 0) → IsAt rs i 0 (i - b)
    first [] es i b ends lt none behind = absurd (omega (arith, lt))
    first (r ∷ rs) es i b ends lt none behind =
        let more = start-more (r ∷ rs) 0 [] (omega arith) in
        let each = ends.each 0 0 (omega arith) in
        let count = ends.count in
        let less = behind (omega (arith, count)) in
        record { within = omega arith; inside = omega (arith, more, each, less, none); is = omega (arith, none) }
found-at rs es i (suc k) b ends lt within front behind none some =
    let back : suc k - 1 ≡ k = omega arith in
    let one : k + 1 ≡ suc k = omega arith in
    let count = ends.count in
    let begin = ends.each k 0 (omega (arith, count, within)) in
    let b-is = some (omega arith) in
    let low = front (omega arith) in
    let back-is = ap (λ n. get_or es n 0) back in
    let one-is = ap (λ n. start rs n) one in
    let start-is : start rs (suc k) ≡ b = omega (arith, begin, b-is, back-is, one-is) in
    let le : b ≤ i = omega (arith, b-is, low) in
    let all = start-all rs in
    let lt' : suc k < length rs = elim (cases_lt (suc k) (length rs)) [ inl q ↦ q | inr q ↦ absurd (let e : suc k ≡ length rs = omega (arith, q, within, count) in let f = ap (λ n. start rs n) e in omega (arith, f, all, start-is, le, lt)) ] in
    let more = start-more rs (suc k) [] lt' in
    let each = ends.each (suc k) 0 lt' in
    let less = behind (omega (arith, count, lt')) in
    record { within = lt'; inside = omega (arith, more, each, less, start-is, le); is = omega (arith, start-is, le) }
