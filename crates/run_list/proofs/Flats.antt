-- A list held as runs: an edit of one run is an edit of the list.
use Rattle.std.proofs.Common.{◌≡◌, ◌<◌, ◌≤◌, ◌+◌, ◌-◌, ℕ, zero, suc, refl, sym, ap, ◌∙◌, List, [], ◌∷◌, ◌++◌, length, take, drop, set, get_or, append_assoc, length-append, add-one, arith}
use Rattle.std.specs.List.{insert, remove}
use Rattle.std.proofs.lemmas.List.{get_or-append-add, get_or_append_left, take_all, take-append-drop, length-take, length-drop, get_or_default, get_or-set_same, nil_from_length, get_or_push, drop-drop, drop_at, drop-append-le, take_at, take_rest}
use Rattle.std.proofs.lemmas.List.Elements.{All-push, All-append, All-take, All-drop, All-set}
use Rattle.std.proofs.lemmas.List.Edits.{insert-append_left, insert-append_right, remove-append_left, remove-append_right, get_or-remove_below, length-remove}
use Rattle.run_list.specs.Runs.{flat, start, AreFilled, AreEmpty, IsGap}

pub flat-append : (xs ys : List (List ℕ)) → flat (xs ++ ys) ≡ flat xs ++ flat ys
flat-append [] ys = refl
flat-append (x ∷ xs) ys = ap (λ z. x ++ z) (flat-append xs ys) ∙ sym (append_assoc x (flat xs) (flat ys))

pub flat-at : (rs : List (List ℕ)) (k : ℕ) (d : List ℕ) → k < length rs → flat rs ≡ flat (take k rs) ++ (get_or rs k d ++ flat (drop (suc k) rs))
flat-at [] k d lt = absurd (omega arith)
flat-at (r ∷ rs) zero d lt = refl
flat-at (r ∷ rs) (suc k) d lt = ap (λ z. r ++ z) (flat-at rs k d (omega arith)) ∙ sym (append_assoc r (flat (take k rs)) (get_or rs k d ++ flat (drop (suc k) rs)))

pub flat-set : (rs : List (List ℕ)) (k : ℕ) (v : List ℕ) → k < length rs → flat (set rs k v) ≡ flat (take k rs) ++ (v ++ flat (drop (suc k) rs))
flat-set [] k v lt = absurd (omega arith)
flat-set (r ∷ rs) zero v lt = refl
flat-set (r ∷ rs) (suc k) v lt = ap (λ z. r ++ z) (flat-set rs k v (omega arith)) ∙ sym (append_assoc r (flat (take k rs)) (v ++ flat (drop (suc k) rs)))

-- a run is cut in two
pub flat-cut : (rs : List (List ℕ)) (k : ℕ) (low high : List ℕ) → k < length rs → flat (insert (set rs k low) (suc k) high) ≡ flat (take k rs) ++ ((low ++ high) ++ flat (drop (suc k) rs))
flat-cut [] k low high lt = absurd (omega arith)
flat-cut (r ∷ rs) zero low high lt = sym (append_assoc low high (flat rs))
flat-cut (r ∷ rs) (suc k) low high lt = ap (λ z. r ++ z) (flat-cut rs k low high (omega arith)) ∙ sym (append_assoc r (flat (take k rs)) ((low ++ high) ++ flat (drop (suc k) rs)))

-- a run is taken out
pub flat-without : (rs : List (List ℕ)) (k : ℕ) (v : List ℕ) → k < length rs → flat (remove (set rs k v) k) ≡ flat (take k rs) ++ flat (drop (suc k) rs)
flat-without [] k v lt = absurd (omega arith)
flat-without (r ∷ rs) zero v lt = refl
flat-without (r ∷ rs) (suc k) v lt = ap (λ z. r ++ z) (flat-without rs k v (omega arith)) ∙ sym (append_assoc r (flat (take k rs)) (flat (drop (suc k) rs)))

back : (m n : ℕ) → m + n - m ≡ n
back m n = omega arith

insert-mid : (a r b : List ℕ) (at x : ℕ) → at ≤ length r → insert (a ++ (r ++ b)) (length a + at) x ≡ a ++ (insert r at x ++ b)
insert-mid a r b at x le =
    insert-append_right a (r ++ b) (length a) (length a + at) x refl (omega arith)
    ∙ ap (λ n. a ++ insert (r ++ b) n x) (back (length a) at)
    ∙ ap (λ z. a ++ z) (insert-append_left r b at x le)

remove-mid : (a r b : List ℕ) (at : ℕ) → at < length r → remove (a ++ (r ++ b)) (length a + at) ≡ a ++ (remove r at ++ b)
remove-mid a r b at lt =
    remove-append_right a (r ++ b) (length a) (length a + at) refl (omega arith)
    ∙ ap (λ n. a ++ remove (r ++ b) n) (back (length a) at)
    ∙ ap (λ z. a ++ z) (remove-append_left r b at lt)

pub put-set : (rs : List (List ℕ)) (k at x : ℕ) (r : List ℕ) → k < length rs → r ≡ get_or rs k r → at ≤ length r → flat (set rs k (insert r at x)) ≡ insert (flat rs) (start rs k + at) x
put-set rs k at x r lt is le =
    flat-set rs k (insert r at x) lt
    ∙ sym (insert-mid (flat (take k rs)) r (flat (drop (suc k) rs)) at x le)
    ∙ ap (λ z. insert (flat (take k rs) ++ (z ++ flat (drop (suc k) rs))) (start rs k + at) x) is
    ∙ ap (λ z. insert z (start rs k + at) x) (sym (flat-at rs k r lt))

pub put-cut : (rs : List (List ℕ)) (k at x : ℕ) (r low high : List ℕ) → k < length rs → r ≡ get_or rs k r → at ≤ length r → low ++ high ≡ insert r at x → flat (insert (set rs k low) (k + 1) high) ≡ insert (flat rs) (start rs k + at) x
put-cut rs k at x r low high lt is le made =
    ap (λ n. flat (insert (set rs k low) n high)) (add-one k)
    ∙ flat-cut rs k low high lt
    ∙ ap (λ z. flat (take k rs) ++ (z ++ flat (drop (suc k) rs))) made
    ∙ sym (insert-mid (flat (take k rs)) r (flat (drop (suc k) rs)) at x le)
    ∙ ap (λ z. insert (flat (take k rs) ++ (z ++ flat (drop (suc k) rs))) (start rs k + at) x) is
    ∙ ap (λ z. insert z (start rs k + at) x) (sym (flat-at rs k r lt))

pub take-set : (rs : List (List ℕ)) (k at : ℕ) (r : List ℕ) → k < length rs → r ≡ get_or rs k r → at < length r → flat (set rs k (remove r at)) ≡ remove (flat rs) (start rs k + at)
take-set rs k at r lt is in' =
    flat-set rs k (remove r at) lt
    ∙ sym (remove-mid (flat (take k rs)) r (flat (drop (suc k) rs)) at in')
    ∙ ap (λ z. remove (flat (take k rs) ++ (z ++ flat (drop (suc k) rs))) (start rs k + at)) is
    ∙ ap (λ z. remove z (start rs k + at)) (sym (flat-at rs k r lt))

pub take-last : (rs : List (List ℕ)) (k at : ℕ) (r left : List ℕ) → k < length rs → r ≡ get_or rs k r → at < length r → left ≡ remove r at → length left ≡ 0 → flat (remove (set rs k left) k) ≡ remove (flat rs) (start rs k + at)
take-last rs k at r left lt is in' made none =
    flat-without rs k left lt
    ∙ ap (λ z. flat (take k rs) ++ (z ++ flat (drop (suc k) rs))) (sym (nil left none) ∙ made)
    ∙ sym (remove-mid (flat (take k rs)) r (flat (drop (suc k) rs)) at in')
    ∙ ap (λ z. remove (flat (take k rs) ++ (z ++ flat (drop (suc k) rs))) (start rs k + at)) is
    ∙ ap (λ z. remove z (start rs k + at)) (sym (flat-at rs k r lt))
  where
    nil : (xs : List ℕ) → length xs ≡ 0 → xs ≡ []
    nil [] e = refl
    nil (x ∷ xs) e = absurd (omega arith)

pub read-at : (rs : List (List ℕ)) (k at d : ℕ) (r : List ℕ) → k < length rs → r ≡ get_or rs k r → at < length r → get_or r at d ≡ get_or (flat rs) (start rs k + at) d
read-at rs k at d r lt is in' =
    sym (get_or_append_left r (flat (drop (suc k) rs)) d at in')
    ∙ sym (get_or-append-add (flat (take k rs)) (r ++ flat (drop (suc k) rs)) at d)
    ∙ ap (λ z. get_or (flat (take k rs) ++ (z ++ flat (drop (suc k) rs))) (start rs k + at) d) is
    ∙ ap (λ z. get_or z (start rs k + at) d) (sym (flat-at rs k r lt))

-- one run more stands before the next run
start-suc : (rs : List (List ℕ)) (k : ℕ) (d : List ℕ) → k < length rs → start rs (suc k) ≡ start rs k + length (get_or rs k d)
start-suc [] k d lt = absurd (omega arith)
start-suc (r ∷ rs) zero d lt = omega (arith, length-append r [])
start-suc (r ∷ rs) (suc k) d lt = let ih = start-suc rs k d (omega arith) in omega (arith, length-append r (flat (take (suc k) rs)), length-append r (flat (take k rs)))

pub start-more : (rs : List (List ℕ)) (k : ℕ) (d : List ℕ) → k < length rs → start rs (k + 1) ≡ start rs k + length (get_or rs k d)
start-more rs k d lt = ap (λ n. start rs n) (add-one k) ∙ start-suc rs k d lt

-- no more stand before a run than there are
pub start-most : (rs : List (List ℕ)) (k : ℕ) → start rs k ≤ length (flat rs)
start-most [] zero = omega arith
start-most [] (suc k) = omega arith
start-most (r ∷ rs) zero = omega arith
start-most (r ∷ rs) (suc k) = let ih = start-most rs k in omega (arith, length-append r (flat (take k rs)), length-append r (flat rs))

pub start-all : (rs : List (List ℕ)) → start rs (length rs) ≡ length (flat rs)
start-all rs = ap (λ z. length (flat z)) (take_all (length rs) rs (omega arith))

-- a number put in before or behind the place where a list is cut
pub insert-low : (xs : List ℕ) (h i x : ℕ) → i ≤ h → h ≤ length xs → insert (take h xs) i x ++ drop h xs ≡ insert xs i x
insert-low xs h i x le within =
    sym (insert-append_left (take h xs) (drop h xs) i x (rw (length-take) (omega arith)))
    ∙ ap (λ z. insert z i x) (take-append-drop h xs)

pub insert-high : (xs : List ℕ) (h i x : ℕ) → h ≤ i → h ≤ length xs → take h xs ++ insert (drop h xs) (i - h) x ≡ insert xs i x
insert-high xs h i x le within =
    sym (insert-append_right (take h xs) (drop h xs) h i x (rw (length-take) (omega arith)) le)
    ∙ ap (λ z. insert z i x) (take-append-drop h xs)

-- a run that is read
pub run-is : (rs : List (List ℕ)) (k : ℕ) (r : List ℕ) → k < length rs → r ≡ get_or rs k r → r ≡ get_or rs k []
run-is rs k r lt is = is ∙ get_or_default rs k r [] lt

pub emptied : (rs : List (List ℕ)) (k : ℕ) (left x : List ℕ) → k < length rs → x ≡ get_or (set rs k left) k x → length left ≡ 0 → x ≡ []
emptied rs k left x lt is none = is ∙ get_or-set_same rs k left x lt ∙ nil_from_length left none

pub all-emptied : (xs : List (List ℕ)) (x : List ℕ) → AreEmpty xs → x ≡ [] → AreEmpty (xs ++ x ∷ [])
all-emptied xs x all none = All-push (λ r. r ≡ []) xs x all none

pub all-left : (xs : List (List ℕ)) (x : List ℕ) (ys : List (List ℕ)) → ys ≡ xs ++ x ∷ [] → AreEmpty ys → AreEmpty xs
all-left xs x ys e all = λ k d lt. sym (get_or_append_left xs (x ∷ []) d k lt) ∙ ap (λ z. get_or z k d) (sym e) ∙ all k d (omega (arith, length-append xs (x ∷ []), ap length e))

pub all-last : (xs : List (List ℕ)) (x : List ℕ) (ys : List (List ℕ)) → ys ≡ xs ++ x ∷ [] → AreEmpty ys → x ≡ []
all-last xs x ys e all =
    sym (get_or_push xs x [] (length xs) refl) ∙ ap (λ z. get_or z (length xs) []) (sym e) ∙ all (length xs) [] (omega (arith, length-append xs (x ∷ []), ap length e))

pub rest-at : (rs : List (List ℕ)) (k at : ℕ) (r : List ℕ) → k < length rs → r ≡ get_or rs k r → at < length r → take (length (drop at r)) (drop (start rs k + at) (flat rs)) ≡ drop at r
rest-at rs k at r lt is in' =
    let whole = flat-at rs k r lt ∙ ap (λ z. flat (take k rs) ++ (z ++ flat (drop (suc k) rs))) (sym is) in
    let front : drop (start rs k + at) (flat rs) ≡ drop at r ++ flat (drop (suc k) rs) =
    ap (λ z. drop (start rs k + at) z) whole
    ∙ sym (drop-drop at (start rs k) (flat (take k rs) ++ (r ++ flat (drop (suc k) rs))))
    ∙ ap (λ z. drop at z) (drop_at (flat (take k rs)) (r ++ flat (drop (suc k) rs)) (start rs k) refl)
    ∙ drop-append-le at r (flat (drop (suc k) rs)) (omega arith) in
    ap (λ z. take (length (drop at r)) z) front ∙ take_at (drop at r) (flat (drop (suc k) rs)) (length (drop at r)) refl

pub rest-read : (rs : List (List ℕ)) (k at : ℕ) (r : List ℕ) → k < length rs → r ≡ get_or rs k r → at < length r → take (length r - at) (drop at r) ≡ take (length (take (length r - at) (drop at r))) (drop (start rs k + at) (flat rs))
rest-read rs k at r lt is in' =
    let e = take_rest r at in
    e ∙ sym (rest-at rs k at r lt is in') ∙ ap (λ z. take (length z) (drop (start rs k + at) (flat rs))) (sym e)

-- the end of the last run is the end of the list
pub end-gap : (rs : List (List ℕ)) (i n : ℕ) (r : List ℕ) → 0 < length rs → r ≡ get_or rs (length rs - 1) r → n ≡ length r → i ≡ length (flat rs) → IsGap rs i (length rs - 1) n
end-gap rs i n r some is len end =
    let k = length rs - 1 in
    let lt : k < length rs = omega arith in
    let more = start-more rs k r lt in
    let next : k + 1 ≡ length rs = omega arith in
    let all = ap (λ m. start rs m) next ∙ start-all rs in
    let read = ap length is in
    record {
      within = lt;
      inside = rw (← run-is rs k r lt is) (omega arith);
      is = omega (arith, more, all, read);
    }

pub rest-within : (rs : List (List ℕ)) (k at : ℕ) (r : List ℕ) → k < length rs → r ≡ get_or rs k r → at < length r → start rs k + at + length (take (length r - at) (drop at r)) ≤ length (flat rs)
rest-within rs k at r lt is in' =
    let more = start-more rs k r lt in
    let most = start-most rs (k + 1) in
    let read = ap length is in
    omega (arith, more, most, read, length-take (length r - at) (drop at r), length-drop at r)

-- two runs side by side are joined
flat-both : (rs : List (List ℕ)) (k : ℕ) (d e : List ℕ) → suc k < length rs → flat (set (remove rs (suc k)) k (get_or rs k d ++ get_or rs (suc k) e)) ≡ flat rs
flat-both [] k d e lt = absurd (omega arith)
flat-both (r ∷ []) zero d e lt = absurd (omega arith)
flat-both (r ∷ u ∷ rs) zero d e lt = append_assoc r u (flat rs)
flat-both (r ∷ rs) (suc k) d e lt = ap (λ z. r ++ z) (flat-both rs k d e (omega arith))

pub flat-joined : (rs : List (List ℕ)) (k : ℕ) (r u : List ℕ) → k + 1 < length rs → r ≡ get_or (remove rs (k + 1)) k r → u ≡ get_or rs (k + 1) u → flat (set (remove rs (k + 1)) k (r ++ u)) ≡ flat rs
flat-joined rs k r u lt is next =
    let low : r ≡ get_or rs k r = is ∙ get_or-remove_below rs (k + 1) r k (omega arith) lt in
    ap (λ z. flat (set (remove rs (k + 1)) k (z ++ u))) low
    ∙ ap (λ z. flat (set (remove rs (k + 1)) k (get_or rs k r ++ z))) next
    ∙ ap (λ n. flat (set (remove rs n) k (get_or rs k r ++ get_or rs n u))) (add-one k)
    ∙ flat-both rs k r u (omega arith)

append-none : (xs : List ℕ) → xs ++ [] ≡ xs
append-none [] = refl
append-none (x ∷ xs) = ap (λ z. x ∷ z) (append-none xs)

-- numbers of a run are moved to the one before it
pub flat-topped : (rs : List (List ℕ)) (k : ℕ) (r u low high : List ℕ) → k + 1 < length rs → r ≡ get_or (remove rs (k + 1)) k r → u ≡ get_or rs (k + 1) u → low ++ high ≡ r ++ u → flat (insert (set (remove rs (k + 1)) k low) (k + 1) high) ≡ flat rs
flat-topped rs k r u low high lt is next made =
    let left = remove rs (k + 1) in
    let within : k < length left = omega (arith, length-remove rs (k + 1) lt) in
    ap (λ n. flat (insert (set left k low) n high)) (add-one k)
    ∙ flat-cut left k low high within
    ∙ ap (λ z. flat (take k left) ++ (z ++ flat (drop (suc k) left))) made
    ∙ sym (flat-set left k (r ++ u) within)
    ∙ flat-joined rs k r u lt is next

-- all numbers of a run are moved to the one before it
pub flat-moved : (rs : List (List ℕ)) (k : ℕ) (r u low high : List ℕ) → k + 1 < length rs → r ≡ get_or (remove rs (k + 1)) k r → u ≡ get_or rs (k + 1) u → low ++ high ≡ r ++ u → length high ≡ 0 → flat (set (remove rs (k + 1)) k low) ≡ flat rs
flat-moved rs k r u low high lt is next made none =
    let all : low ≡ r ++ u = sym (append-none low) ∙ ap (λ z. low ++ z) (sym (nil_from_length high none)) ∙ made in
    ap (λ z. flat (set (remove rs (k + 1)) k z)) all ∙ flat-joined rs k r u lt is next

pub filled-joined : (rs : List (List ℕ)) (k : ℕ) (r u : List ℕ) → AreFilled rs → k + 1 < length rs → r ≡ get_or (remove rs (k + 1)) k r → AreFilled (set (remove rs (k + 1)) k (r ++ u))
filled-joined rs k r u all lt is =
    let P : List ℕ → Type 0 = λ run. 0 < length run in
    let left : AreFilled (remove rs (k + 1)) = All-append P (take (k + 1) rs) (drop (suc (k + 1)) rs) (All-take P (k + 1) rs all) (All-drop P (suc (k + 1)) rs all) in
    let within : k < length (remove rs (k + 1)) = omega (arith, length-remove rs (k + 1) lt) in
    let some = left k r within in
    let read = ap length is in
    All-set P (remove rs (k + 1)) k (r ++ u) (omega (arith, length-append r u, some, read)) left

-- a run is taken out whole
pub flat-dropped : (rs : List (List ℕ)) (k : ℕ) (d : List ℕ) → k < length rs → flat (remove rs k) ≡ take (start rs k) (flat rs) ++ drop (start rs k + length (get_or rs k d)) (flat rs)
flat-dropped rs k d lt =
    let a = flat (take k rs) in
    let r = get_or rs k d in
    let b = flat (drop (suc k) rs) in
    let whole = flat-at rs k d lt in
    let front : take (start rs k) (flat rs) ≡ a = ap (λ z. take (start rs k) z) whole ∙ take_at a (r ++ b) (start rs k) refl in
    let back : drop (start rs k + length r) (flat rs) ≡ b =
    ap (λ z. drop (start rs k + length r) z) whole
    ∙ sym (drop-drop (length r) (start rs k) (a ++ (r ++ b)))
    ∙ ap (λ z. drop (length r) z) (drop_at a (r ++ b) (start rs k) refl)
    ∙ drop_at r b (length r) refl in
    flat-append (take k rs) (drop (suc k) rs) ∙ ap (λ z. z ++ b) (sym front) ∙ ap (λ z. take (start rs k) (flat rs) ++ z) (sym back)

pub filled-dropped : (rs : List (List ℕ)) (k : ℕ) → AreFilled rs → AreFilled (remove rs k)
filled-dropped rs k all =
    let P : List ℕ → Type 0 = λ run. 0 < length run in
    All-append P (take k rs) (drop (suc k) rs) (All-take P k rs all) (All-drop P (suc k) rs all)

-- a stretch that is taken out from its front
pub stretch-more : (init cur : List ℕ) (i j left r : ℕ) → i + left ≤ j → j ≤ length init → r ≤ left → cur ≡ take i init ++ drop (j - left) init → take i cur ++ drop (i + r) cur ≡ take i init ++ drop (j - (left - r)) init
stretch-more init cur i j left r order within most is =
    let a = take i init in
    let b = drop (j - left) init in
    let len : length a ≡ i = length-take i init ∙ omega arith in
    let front : take i cur ≡ a = ap (λ z. take i z) is ∙ take_at a b i len in
    let n : j - left + r ≡ j - (left - r) = omega arith in
    let back : drop (i + r) cur ≡ drop (j - (left - r)) init =
    ap (λ z. drop (i + r) z) is
    ∙ sym (drop-drop r i (a ++ b))
    ∙ ap (λ z. drop r z) (drop_at a b i len)
    ∙ drop-drop r (j - left) init
    ∙ ap (λ m. drop m init) n in
    ap (λ z. z ++ drop (i + r) cur) front ∙ ap (λ z. a ++ z) back

-- the first number of a list
pub flat-first : (rs new : List (List ℕ)) (run made : List ℕ) (i x : ℕ) → length rs ≡ 0 → run ≡ [] → made ≡ insert run 0 x → new ≡ rs ++ made ∷ [] → i ≤ length (flat rs) → flat new ≡ insert (flat rs) i x
flat-first [] new run made zero x none empty is added le = rw (added, is, empty) refl
flat-first [] new run made (suc i) x none empty is added le = absurd (omega (arith, le))
flat-first (r ∷ rs) new run made i x none empty is added le = absurd (omega (arith, none))
