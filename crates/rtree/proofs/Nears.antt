-- What a walk by distance has met, and what it gives.
use Rattle.std.proofs.Common.{◌≡◌, ℕ, ◌+◌, ◌<◌, ◌≤◌, ◌∙◌, refl, sym, ap, subst, Option, Some, None, List, [], ◌∷◌, ◌++◌, length, take, get_or, append_assoc, append-nil, length-append, All, arith, Bor, true, Result, Ok, Err}
use Rattle.std.specs.Result.{is_ok, OnOk}
use Rattle.std.specs.List.Sorted.{IsPermutation}
use Rattle.std.specs.BinaryHeap.{IsHeap}
use Rattle.std.proofs.lemmas.List.{take_more, map-append}
use Rattle.std.proofs.lemmas.List.Elements.{All-nil, All-cons, All-head, All-tail, All-append, All-weaker}
use Rattle.std.proofs.lemmas.List.Sorted.{All-permutation, length_permutation, sum_by_pushed, sum_by_popped, IsPermutation-refl, IsPermutation-trans, IsPermutation-append_left, IsPermutation-append_right, IsPermutation-append_comm, IsPermutation-pop_more}
use Rattle.planar_geom.specs.Points.{Point, box_dist2}
use Rattle.rtree.specs.declared.nodes.Slot.{Slot}
use Rattle.rtree.specs.declared.waiting.Met.{Met}
use Rattle.rtree.specs.declared.waiting.Met.TheVariants.{One, Below}
use Rattle.rtree.specs.declared.waiting.Waiting.{Waiting}
use Rattle.rtree.specs.Pairs.{Pair, IsInside, ids}
use Rattle.rtree.specs.Subtrees.{Subtree, entries_at, nodes_of}
use Rattle.rtree.specs.Slots.{slot_entries, all_entries, all_nodes, IsSlot}
use Rattle.rtree.specs.Near.{nearest_first, met_pairs, met_nodes, pairs_of, nodes_in, IsNear, IsQueue, IsTop, IsDue, IsUndue, IsGiving, IsAnswer, IsCutOff}
use Rattle.rtree.proofs.Insides.{nearer-outer}
use Rattle.rtree.proofs.Slots.{entries_more, nodes-append}
use Rattle.rtree.proofs.Swaps.{flat_map-permutation}

-- a call that did not fail keeps what it promises
pub kept_promise : {T E : Type 0} (r : Result T E) (P : Type 0) → is_ok r ≡ true → OnOk r P → P
kept_promise (Ok x) P h k = k
kept_promise (Err e) P h k = absurd cc

-- some pairs at distance d were given, and the others are no nearer
pub record IsPartly (d : ℕ) (from : Point) (old now : List Pair) (before after : List ℕ) : Type 0 where
  pub giving : IsGiving d from old now before after
  pub some : 1 ≤ length giving.given

-- what was given so far: nothing, or some pairs at a distance
abbrev pub IsFound : Option ℕ → Point → List Pair → List Pair → List ℕ → List ℕ → Type 0
IsFound None from old now before after = IsPermutation old now × (after ≡ before)
IsFound (Some d) from old now before after = IsPartly d from old now before after

-- the same where what is left stands in another order
pub found_moved : (found : Option ℕ) (from : Point) (old now new : List Pair) (before after : List ℕ) → IsPermutation now new → IsFound found from old now before after → IsFound found from old new before after
found_moved None from old now new before after h f = (IsPermutation-trans old now new f.0 h, f.1)
found_moved (Some d) from old now new before after h f =
    let g = f.giving in record {
      giving = record {
        given = g.given;
        whole = IsPermutation-trans old (g.given ++ now) (g.given ++ new) g.whole (IsPermutation-append_right g.given now new h);
        alike = g.alike;
        no_nearer = All-permutation (λ p. d ≤ box_dist2 from p.bounds) now new h g.no_nearer;
        put = g.put;
      };
      some = f.some;
    }

-- one more pair is given, of those nearest
pub found_one : (found : Option ℕ) (from : Point) (old now rest : List Pair) (p : Pair) (n : ℕ) (before after more : List ℕ) → IsFound found from old now before after → IsPermutation now (p ∷ rest) → n ≡ box_dist2 from p.bounds → IsDue found n → All (λ q. n ≤ box_dist2 from q.bounds) rest → more ≡ after ++ p.id ∷ [] → IsFound (Some n) from old rest before more
found_one None from old now rest p n before after more f taken there due least put = record {
  giving = record {
    given = p ∷ [];
    whole = IsPermutation-trans old now (p ∷ rest) f.0 taken;
    alike = All-cons (λ q. box_dist2 from q.bounds ≡ n) p [] (sym there) (All-nil (λ q. box_dist2 from q.bounds ≡ n));
    no_nearer = least;
    put = put ∙ ap (λ x. x ++ p.id ∷ []) f.1;
  };
  some = omega arith;
}
found_one (Some d) from old now rest p n before after more f taken there due least put =
    let g = f.giving in
    let far : d ≤ box_dist2 from p.bounds = All-head (λ q. d ≤ box_dist2 from q.bounds) p rest (All-permutation (λ q. d ≤ box_dist2 from q.bounds) now (p ∷ rest) taken g.no_nearer) in
    let same : d ≡ n = omega (arith, far, due, there) in
    let alike : All (λ q. box_dist2 from q.bounds ≡ n) g.given = subst (λ k. All (λ q. box_dist2 from q.bounds ≡ k) g.given) same g.alike in
    let long : length (g.given ++ p ∷ []) ≡ length g.given + 1 = length-append g.given (p ∷ []) in record {
      giving = record {
        given = g.given ++ p ∷ [];
        whole = IsPermutation-pop_more old g.given now rest p g.whole taken;
        alike = All-append (λ q. box_dist2 from q.bounds ≡ n) g.given (p ∷ []) alike (All-cons (λ q. box_dist2 from q.bounds ≡ n) p [] (sym there) (All-nil (λ q. box_dist2 from q.bounds ≡ n)));
        no_nearer = least;
        put = put ∙ (ap (λ x. x ++ p.id ∷ []) g.put ∙ (append_assoc before (ids g.given) (p.id ∷ []) ∙ ap (λ x. before ++ x) (sym (map-append (λ (q : Pair). q.id) g.given (p ∷ [])))));
      };
      some = omega (arith, long);
    }

-- a bound on the distances of what waits is one on those of its pairs
pub far : (R : ℕ → Type 0) → ((m k : ℕ) → R m → m ≤ k → R k) → (from : Point) (ws : List Waiting) → All (λ w. R w.distance) ws → All (IsNear from) ws → All (λ p. R (box_dist2 from p.bounds)) (pairs_of ws)
far R up from [] h k = All-nil (λ p. R (box_dist2 from p.bounds))
far R up from (w ∷ ws) h k =
    let P : Pair → Type 0 = λ p. R (box_dist2 from p.bounds) in
    let here : R w.distance = All-head (λ (v : Waiting). R v.distance) w ws h in
    let near = All-head (IsNear from) w ws k in
    All-append P (met_pairs w.met) (pairs_of ws) (All-weaker (λ p. w.distance ≤ box_dist2 from p.bounds) P (λ p l. up w.distance (box_dist2 from p.bounds) here l) (met_pairs w.met) near.least) (far R up from ws (All-tail (λ (v : Waiting). R v.distance) w ws h) (All-tail (IsNear from) w ws k))

none_left : (old : List Pair) → IsPermutation old [] → old ≡ []
none_left [] h = refl
none_left (p ∷ ps) h = absurd (omega (arith, length_permutation (p ∷ ps) [] h))

-- where nothing more is due, what was found is the answer
pub found_all : (found : Option ℕ) (from : Point) (old : List Pair) (ws left : List Waiting) (before after : List ℕ) → IsFound found from old (pairs_of ws) before after → All (IsNear from) ws → IsUndue found ws left → IsAnswer found from old (pairs_of left) before after
found_all None from old ws left before after f near h =
    let e : pairs_of ws ≡ [] = ap pairs_of h.0 in
    (none_left old (subst (IsPermutation old) e f.0), ap pairs_of h.1 ∙ e, f.1)
found_all (Some d) from old ws left before after f near h =
    let same : pairs_of ws ≡ pairs_of left = sym (ap pairs_of h.1) in
    let moved : IsPartly d from old (pairs_of left) before after = subst (λ x. IsPartly d from old x before after) same f in record {
      giving = moved.giving;
      some = moved.some;
      farther = subst (All (λ p. d < box_dist2 from p.bounds)) same (far (λ n. d < n) (λ m k l e. omega (arith, l, e)) from ws h.0 near);
    }

-- where the walk is cut off, what was found was given
pub found_part : (found : Option ℕ) (from : Point) (old now : List Pair) (before after : List ℕ) → IsFound found from old now before after → IsCutOff from old before after
found_part None from old now before after f = record {
  distance = 0;
  others = now;
  giving = record {
    given = [];
    whole = f.0;
    alike = All-nil (λ p. box_dist2 from p.bounds ≡ 0);
    no_nearer = λ k d h. omega arith;
    put = f.1 ∙ sym (append-nil before);
  };
}
found_part (Some d) from old now before after f = record { distance = d; others = now; giving = f.giving }

pub nothing_found : (from : Point) (old : List Pair) (before : List ℕ) → IsFound None from old old before before
nothing_found from old before = (IsPermutation-refl old, refl)

-- the queue with one more
pub queue_more : (from : Point) (w : Waiting) (old new : List Waiting) → IsQueue from old → IsNear from w → IsPermutation (w ∷ old) new → (IsHeap nearest_first old → IsHeap nearest_first new) → IsQueue from new
queue_more from w old new q near more keeps = record {
  heap = keeps q.heap;
  near = All-permutation (IsNear from) (w ∷ old) new more (All-cons (IsNear from) w old near q.near);
}

-- the queue without its first
pub queue_less : (found : Option ℕ) (from : Point) (w : Waiting) (old new : List Waiting) → IsQueue from old → IsTop found w old new → IsQueue from new × IsNear from w
queue_less found from w old new q top =
    let all = All-permutation (IsNear from) old (w ∷ new) top.taken q.near in
    (record { heap = top.heap; near = All-tail (IsNear from) w new all }, All-head (IsNear from) w new all)

-- the pairs of what waits, in another order
pub pairs_moved : (xs ys : List Waiting) → IsPermutation xs ys → IsPermutation (pairs_of xs) (pairs_of ys)
pairs_moved xs ys h = flat_map-permutation (λ (w : Waiting). met_pairs w.met) xs ys h

-- what was taken out and the others have the pairs of all
pub pairs_popped : (w : Waiting) (m : Met) (old new : List Waiting) → w.met ≡ m → IsPermutation old (w ∷ new) → IsPermutation (pairs_of old) (met_pairs m ++ pairs_of new)
pairs_popped w m old new is taken = subst (λ n. IsPermutation (pairs_of old) (met_pairs n ++ pairs_of new)) is (pairs_moved old (w ∷ new) taken)

pub nodes_pushed : (w : Waiting) (xs ys : List Waiting) → IsPermutation (w ∷ xs) ys → nodes_in ys ≡ met_nodes w.met + nodes_in xs
nodes_pushed w xs ys h = sum_by_pushed (λ (v : Waiting). met_nodes v.met) w xs ys h

pub nodes_popped : (w : Waiting) (xs ys : List Waiting) → IsPermutation xs (w ∷ ys) → nodes_in ys + met_nodes w.met ≡ nodes_in xs
nodes_popped w xs ys h = sum_by_popped (λ (v : Waiting). met_nodes v.met) w xs ys h

pub nodes_more : (slots : List Slot) (i : ℕ) (s : Slot) → i < length slots → s ≡ get_or slots i s → all_nodes (take (i + 1) slots) ≡ all_nodes (take i slots) + nodes_of s.below
nodes_more slots i s within read =
    let e : all_nodes (take (i + 1) slots) ≡ all_nodes (take i slots) + all_nodes (get_or slots i s ∷ []) = ap all_nodes (take_more slots i s within) ∙ nodes-append (take i slots) (get_or slots i s ∷ []) in
    let one : all_nodes (get_or slots i s ∷ []) ≡ nodes_of s.below + 0 = ap (λ (t : Slot). nodes_of t.below + 0) (sym read) in
    omega (arith, e, one)

-- one more slot was put among what waits
pub opened_more : (slots : List Slot) (i : ℕ) (s : Slot) (w : Waiting) (start : List Pair) (old new : List Waiting) → i < length slots → s ≡ get_or slots i s → met_pairs w.met ≡ slot_entries s → IsPermutation (w ∷ old) new → IsPermutation (all_entries (take i slots) ++ start) (pairs_of old) → IsPermutation (all_entries (take (i + 1) slots) ++ start) (pairs_of new)
opened_more slots i s w start old new within read is more so_far =
    let a = all_entries (take i slots) in
    let b = slot_entries s in
    let one : IsPermutation ((a ++ b) ++ start) ((b ++ a) ++ start) = IsPermutation-append_left start (a ++ b) (b ++ a) (IsPermutation-append_comm a b) in
    let two : IsPermutation ((a ++ b) ++ start) (b ++ (a ++ start)) = subst (IsPermutation ((a ++ b) ++ start)) (append_assoc b a start) one in
    let three : IsPermutation (b ++ (a ++ start)) (b ++ pairs_of old) = IsPermutation-append_right b (a ++ start) (pairs_of old) so_far in
    let four : IsPermutation (b ++ pairs_of old) (pairs_of new) = subst (λ x. IsPermutation (x ++ pairs_of old) (pairs_of new)) is (pairs_moved (w ∷ old) new more) in
    subst (λ x. IsPermutation (x ++ start) (pairs_of new)) (sym (entries_more slots i s within read)) (IsPermutation-trans _ _ _ two (IsPermutation-trans _ _ _ three four))

covered : (from : Point) (h : ℕ) (s : Slot) → IsSlot h s → All (λ p. box_dist2 from s.bounds ≤ box_dist2 from p.bounds) (slot_entries s)
covered from h s slot =
    All-weaker (λ p. IsInside s.bounds p.bounds) (λ p. box_dist2 from s.bounds ≤ box_dist2 from p.bounds) (λ p inside. nearer-outer from s.bounds p.bounds inside) (slot_entries s) slot.summed.covers

same_one : (one other : Bor Pair) → One one ≡ One other → one ≡ other
same_one one other e = cc

-- an entry is as far as the box of its slot
pub near_one : (from : Point) (h : ℕ) (s : Slot) (one : Bor Pair) → IsSlot h s → s.below ≡ None → one.now ≡ s.first → IsNear from (record { distance = box_dist2 from s.bounds; met = One one })
near_one from h s one slot none is =
    let only : slot_entries s ≡ one.now ∷ [] = ap (entries_at s.first) none ∙ ap (λ (q : Pair). q ∷ []) (sym is) in record {
      least = subst (All (λ p. box_dist2 from s.bounds ≤ box_dist2 from p.bounds)) only (covered from h s slot);
      exact = λ other e. let first : s.first ≡ other.now = sym is ∙ ap (λ (b : Bor Pair). b.now) (same_one one other e) in ap (box_dist2 from) (slot.summed.exact none ∙ ap (λ (q : Pair). q.bounds) first);
    }

-- the entries below a node are no nearer than the box of its slot
pub near_below : (from : Point) (h : ℕ) (s : Slot) (n : Bor Subtree) → IsSlot h s → s.below ≡ Some n.now → IsNear from (record { distance = box_dist2 from s.bounds; met = Below n })
near_below from h s n slot some = record {
  least = subst (All (λ p. box_dist2 from s.bounds ≤ box_dist2 from p.bounds)) (ap (entries_at s.first) some) (covered from h s slot);
  exact = λ p e. absurd cc;
}

-- an empty queue
pub queue_none : (from : Point) (ws : List Waiting) → IsHeap nearest_first ws → ws ≡ [] → IsQueue from ws
queue_none from ws h e = record { heap = h; near = subst (All (IsNear from)) (sym e) (All-nil (IsNear from)) }

-- nothing is nearer than no distance
pub near_root : (from : Point) (n : Bor Subtree) → IsNear from (record { distance = 0; met = Below n })
near_root from n = record {
  least = λ k d h. omega arith;
  exact = λ p e. absurd cc;
}

pub only_one : (w : Waiting) (ws : List Waiting) → IsPermutation (w ∷ []) ws → ws ≡ w ∷ []
only_one w [] h = absurd (omega (arith, length_permutation (w ∷ []) [] h))
only_one w (v ∷ []) h =
    let same : v ≡ w = All-head (λ (u : Waiting). u ≡ w) v [] (All-permutation (λ u. u ≡ w) (w ∷ []) (v ∷ []) h (All-cons (λ (u : Waiting). u ≡ w) w [] refl (All-nil (λ (u : Waiting). u ≡ w)))) in
    ap (λ u. u ∷ []) same
only_one w (v ∷ u ∷ us) h = absurd (omega (arith, length_permutation (w ∷ []) (v ∷ u ∷ us) h))
