-- A step that changes one word, the slot of its number and one view, and what it has to show to keep the rule.
use Rattle.std.proofs.Common.{◌≡◌, ◌≢◌, ◌⊎◌, ℕ, ◌<◌, ◌≤◌, Bool, true, List, ◌++◌, length, set, get_or, length-append, length-set, refl, sym, ap, ◌∙◌, subst, inl, inr, ⊎_elim, arith}
use Rattle.std.specs.Prelude.{Option, Some, slice_get}
use Rattle.std.proofs.lemmas.List.{get_or-set_other}
use mathlib.Core.Option.{Option as Maybe, none, some}
use mathlib.Core.List.{IsPrefix}
use mathlib.Core.Logic.{dite}
use native.Mathlib.Decide.{ℕ_discrete}
use lib.ListN.{get_elem?}
use Rattle.atomic_table.specs.Table.{State}
use Rattle.atomic_table.proofs.Lists.{set_here, set_else}
use Rattle.turn_lock.specs.declared.seat.View.{View}
use Rattle.turn_lock.specs.declared.seat.Held.{Held}
use Rattle.turn_lock.specs.declared.seat.Held.TheVariants.{Value, Asked}
use Rattle.turn_lock.specs.declared.seat.Hand.TheVariants.{Holds}
use Rattle.turn_lock.specs.declared.seat.Post.TheVariants.{Claims, Posts}
use Rattle.turn_lock.specs.Places.{IsAmong}
use Rattle.turn_lock.specs.Seats.{OwnsKept, OwnPlaces, places_behind}
use Rattle.turn_lock.specs.Rule.{IsPosted, IsPlace, Story, Fits, Place, HasLock, Has, OneHistory}
use Rattle.turn_lock.proofs.Cases.{put_from, put_before}
use Rattle.turn_lock.proofs.Views.{there, one_there, set_each_at}
use Rattle.turn_lock.proofs.Beginnings.{prefix_more, prefix_length, prefix_get, entry_within}
use Rattle.turn_lock.proofs.Ordered.{range_within}

-- a number of a work's entries is one of the history's
made_within : {E : Type 0} (before es log : List E) (k : ℕ) → IsPrefix (before ++ es) log → IsAmong k (places_behind before es) → k < length log
made_within before es log k begins among =
    let high = (range_within k (length before) (length es) among).1 in
    omega (arith, high, length-append before es, prefix_length (before ++ es) log begins)

-- the words and the slots differ at one number at most
pub record OneChanged {S : Type 0} (i : ℕ) (ws ws' : List ℕ) (hs hs' : List (Maybe S)) : Type 0 where
  pub words : length ws' ≡ length ws
  pub homes : length hs' ≡ length hs
  pub word_else : (q : ℕ) → q ≢ i → get_or ws' q 0 ≡ get_or ws q 0
  pub home_else : (q : ℕ) → q ≢ i → get_elem? hs' q ≡ get_elem? hs q

module _ {S : Type 0} where
  pub none_changed : (i : ℕ) (ws : List ℕ) (hs : List (Maybe S)) → OneChanged i ws ws hs hs
  none_changed i ws hs = record { words = refl; homes = refl; word_else = λ q ne. refl; home_else = λ q ne. refl }

  pub word_changed : (i n : ℕ) (ws : List ℕ) (hs : List (Maybe S)) → OneChanged i ws (set ws i n) hs hs
  word_changed i n ws hs = record { words = length-set ws i n; homes = refl; word_else = λ q ne. get_or-set_other ws i q n 0 ne; home_else = λ q ne. refl }

  pub both_changed : (i n : ℕ) (h : Maybe S) (ws : List ℕ) (hs : List (Maybe S)) → OneChanged i ws (set ws i n) hs (set hs i h)
  both_changed i n h ws hs = record { words = length-set ws i n; homes = length-set hs i h; word_else = λ q ne. get_or-set_other ws i q n 0 ne; home_else = λ q ne. set_else hs i q h ne }

-- a story follows another: the history has the same beginning, and of the places one at most has another seat and other entries
pub record Follows {E : Type 0} (i : ℕ) (g g' : Story E) : Type 0 where
  pub size : g'.size ≡ g.size
  pub grows : (l : List E) → IsPrefix l g.log → IsPrefix l g'.log
  pub owner : (k : ℕ) → k < length g.log → g'.owner k ≡ g.owner k
  pub chief : g'.chief ≡ g.chief
  pub poster : (q : ℕ) → q ≢ i → g'.poster q ≡ g.poster q
  pub numbers : (q : ℕ) → q ≢ i → g'.numbers q ≡ g.numbers q

module _ {E : Type 0} where
  -- the same history, with these seats at the places and at the lock
  abbrev pub with_seats : Story E → (ℕ → ℕ) → ℕ → Story E
  with_seats g poster holder = record { size = g.size; log = g.log; owner = g.owner; poster = poster; numbers = g.numbers; holder = holder; chief = g.chief }

  -- the history with more entries, of this seat
  abbrev pub with_more : Story E → List E → ℕ → (ℕ → List ℕ) → Story E
  with_more g es j numbers = record { size = g.size; log = g.log ++ es; owner = put_from g.owner (length g.log) j; poster = g.poster; numbers = numbers; holder = g.holder; chief = g.chief }

  pub follows_seats : (g : Story E) (i : ℕ) (poster : ℕ → ℕ) (holder : ℕ) → ((q : ℕ) → q ≢ i → poster q ≡ g.poster q) → Follows i g (with_seats g poster holder)
  follows_seats g i poster holder same = record { size = refl; grows = λ l p. p; owner = λ k lt. refl; chief = refl; poster = same; numbers = λ q ne. refl }

  pub follows_more : (g : Story E) (i : ℕ) (es : List E) (j : ℕ) (numbers : ℕ → List ℕ) → ((q : ℕ) → q ≢ i → numbers q ≡ g.numbers q) → Follows i g (with_more g es j numbers)
  follows_more g i es j numbers same = record { size = refl; grows = λ l p. prefix_more l g.log es p; owner = λ k lt. put_before g.owner (length g.log) j k lt; chief = refl; poster = λ q ne. refl; numbers = same }

module _ {T O E W A : Type 0} (stands : T → List E → Type 0) (kept : E → Bool) (entries : W → A → T → List E) (gives : W → T → A → T → Type 0) where
  pub record Move (s : State (Option (Held T W A)) (View O E W)) (g g' : Story E) (i id : ℕ) (v w : View O E W) (ws : List ℕ) (hs : List (Maybe (Option (Held T W A)))) : Type 0 where
    pub at : get_elem? s.views id ≡ some v
    pub table : OneChanged i s.words ws s.homes hs
    pub story : Follows i g g'
    pub holder : get_or s.words 0 0 ≡ 0 → g'.holder ≡ g.holder
    -- of the other seat that has the lock, of one that has the place i, and of one that has its work
    pub lock : (j : ℕ) → j ≢ id → j ≡ g.holder → get_or s.words 0 0 ≡ 0 → (g'.log ≡ g.log) × (get_or ws 0 0 ≡ 0) × (get_elem? hs 0 ≡ get_elem? s.homes 0)
    pub others : (j : ℕ) → j ≢ id → 0 < i → g.poster i ≡ j → 1 ≤ get_or s.words i 0
        → (g'.poster i ≡ j) × (get_or s.words i 0 ≡ 1 → get_or ws i 0 ≡ 1) × (2 ≤ get_or s.words i 0 → 2 ≤ get_or ws i 0) × (get_or s.words i 0 ≡ 6 → (get_or ws i 0 ≡ 6) × (g'.numbers i ≡ g.numbers i))
    pub serves : (j : ℕ) → j ≢ id → 0 < i → j ≡ g.holder → get_or s.words 0 0 ≡ 0 → IsPosted (get_or s.words i 0) → get_elem? s.homes i ≡ some none → IsPosted (get_or ws i 0) × (get_elem? hs i ≡ some none)
    -- of the seat itself
    pub mine : Fits kept entries gives g' (λ p. get_or ws p 0) (λ p. get_elem? hs p) id w
    pub posted : (q : ℕ) (x : W) → q ≢ i → v.post ≡ Posts q x → (w.post ≡ Posts q x) × (w.known.seen ≡ v.known.seen)
    pub claim : (q : ℕ) → q ≢ i → v.post ≡ Claims q → w.post ≡ Claims q
    pub hand : (q : ℕ) (x : W) → q ≢ i → v.hand ≡ Holds q x → w.hand ≡ Holds q x
    pub owns : (k : ℕ) → IsAmong k v.known.mine → IsAmong k w.known.mine
    pub takes : (x : W) → 0 < i → v.post ≡ Posts i x → get_or s.words i 0 ≡ 6 → (k : ℕ) → IsAmong k (g.numbers i) → IsAmong k w.known.mine
    -- of the place, the value and the new entries
    pub place : 0 < i → i < g.size → Place stands entries gives g' (λ p. get_or ws p 0) (λ p. get_elem? hs p) (set s.views id w) i
    pub value : get_or ws 0 0 ≡ 1 → (x : T) × (get_elem? hs 0 ≡ some (some (Some (Value x)))) × stands x g'.log
    pub keeps : get_or ws 0 0 ≡ 0 → (get_or s.words 0 0 ≡ 0) ⊎ ((g'.holder ≡ id) × HasLock g'.log w)
    pub still : HasLock g.log v → get_or ws 0 0 ≡ 0 → HasLock g'.log w
    pub first : (k : ℕ) (e : E) → slice_get g'.log k ≡ Some e → kept e ≡ true
        → (slice_get g.log k ≡ Some e) ⊎ ((u : View O E W) × (get_elem? (set s.views id w) g'.chief ≡ some u) × Has g' (λ p. get_or ws p 0) u k)

  fits_else : (s : State (Option (Held T W A)) (View O E W)) (g g' : Story E) (i id : ℕ) (v w : View O E W) (ws : List ℕ) (hs : List (Maybe (Option (Held T W A)))) → Move s g g' i id v w ws hs
      → (j : ℕ) (u : View O E W) → j ≢ id → Fits kept entries gives g (λ p. get_or s.words p 0) (λ p. get_elem? s.homes p) j u → Fits kept entries gives g' (λ p. get_or ws p 0) (λ p. get_elem? hs p) j u
  fits_else s g g' i id v w ws hs m j u ne f = record {
    seen = m.story.grows u.known.seen f.seen;
    merged = m.story.grows u.merged f.merged;
    mine = λ k a. let b = f.mine k a in let l = prefix_length u.known.seen g.log f.seen in let c : k < length u.known.seen = b.0 in (b.0, m.story.owner k (omega (arith, c, l)) ∙ b.1);
    ascends = f.ascends;
    first = λ e. f.first e ∙ sym m.story.chief;
    opens = λ e. let b = f.opens e in let c = m.lock j ne b.1 b.2 in (c.0 ∙ b.0, b.1 ∙ sym (m.holder b.2), c.1, c.2 ∙ b.3);
    works = λ H e. let b = f.works H e in let c = m.lock j ne b.1 b.2 in (b.0 ∙ sym c.0, b.1 ∙ sym (m.holder b.2), c.1);
    hand = λ p x e. let b = f.hand p x e in let c = m.lock j ne b.0 b.1 in
        let here : IsPosted (get_or ws p 0) × (get_elem? hs p ≡ some none) = dite (ℕ_discrete p i)
        (λ is. subst (λ (z : ℕ). IsPosted (get_or ws z 0) × (get_elem? hs z ≡ some none)) (sym is)
        (m.serves j ne (subst (λ (z : ℕ). 0 < z) is b.2.0) b.0 b.1 (subst (λ (z : ℕ). IsPosted (get_or s.words z 0)) is b.3) (subst (λ (z : ℕ). get_elem? s.homes z ≡ some none) is b.4)))
        (λ no. (subst IsPosted (sym (m.table.word_else p no)) b.3, m.table.home_else p no ∙ b.4)) in
        (b.0 ∙ sym (m.holder b.1), c.1, subst (λ (z : ℕ). IsPlace z p) (sym m.story.size) b.2, here.0, here.1);
    claims = λ p e. let b = f.claims p e in
        let here : (g'.poster p ≡ j) × (get_or ws p 0 ≡ 1) = dite (ℕ_discrete p i)
        (λ is. let one : get_or s.words i 0 ≡ 1 = subst (λ (z : ℕ). get_or s.words z 0 ≡ 1) is b.2 in
        let c = m.others j ne (subst (λ (z : ℕ). 0 < z) is b.0.0) (subst (λ (z : ℕ). g.poster z ≡ j) is b.1) (omega (arith, one)) in
        subst (λ (z : ℕ). (g'.poster z ≡ j) × (get_or ws z 0 ≡ 1)) (sym is) (c.0, c.1 one))
        (λ no. (m.story.poster p no ∙ b.1, m.table.word_else p no ∙ b.2)) in
        (subst (λ (z : ℕ). IsPlace z p) (sym m.story.size) b.0, here.0, here.1);
    posts = λ p x e. let b = f.posts p x e in
        let here : (g'.poster p ≡ j) × (2 ≤ get_or ws p 0) = dite (ℕ_discrete p i)
        (λ is. let two : 2 ≤ get_or s.words i 0 = subst (λ (z : ℕ). 2 ≤ get_or s.words z 0) is b.2 in
        let c = m.others j ne (subst (λ (z : ℕ). 0 < z) is b.0.0) (subst (λ (z : ℕ). g.poster z ≡ j) is b.1) (omega (arith, two)) in
        subst (λ (z : ℕ). (g'.poster z ≡ j) × (2 ≤ get_or ws z 0)) (sym is) (c.0, c.2 two))
        (λ no. (m.story.poster p no ∙ b.1, subst (λ (z : ℕ). 2 ≤ z) (sym (m.table.word_else p no)) b.2)) in
        (subst (λ (z : ℕ). IsPlace z p) (sym m.story.size) b.0, here.0, here.1, b.3);
  }

  -- a view at some place, after the step
  pub view_after : (s : State (Option (Held T W A)) (View O E W)) (id : ℕ) (v w : View O E W) → get_elem? s.views id ≡ some v → (Q : View O E W → Type 0) → (j : ℕ) (u : View O E W) → get_elem? s.views j ≡ some u → (j ≢ id → Q u) → (u ≡ v → Q w)
      → (z : View O E W) × (get_elem? (set s.views id w) j ≡ some z) × Q z
  view_after s id v w at Q j u there_is other self = dite (ℕ_discrete j id)
      (λ is. (w, subst (λ (z : ℕ). get_elem? (set s.views id w) z ≡ some w) (sym is) (set_here s.views id w (there s.views id v at)), self (one_there s.views j id u v is there_is at)))
      (λ no. (u, set_else s.views id j w no ∙ there_is, other no))

  place_else : (s : State (Option (Held T W A)) (View O E W)) (g g' : Story E) (i id : ℕ) (v w : View O E W) (ws : List ℕ) (hs : List (Maybe (Option (Held T W A)))) → Move s g g' i id v w ws hs
      → ((j : ℕ) (u : View O E W) → get_elem? s.views j ≡ some u → Fits kept entries gives g (λ p. get_or s.words p 0) (λ p. get_elem? s.homes p) j u)
      → (q : ℕ) → q ≢ i → Place stands entries gives g (λ p. get_or s.words p 0) (λ p. get_elem? s.homes p) s.views q → Place stands entries gives g' (λ p. get_or ws p 0) (λ p. get_elem? hs p) (set s.views id w) q
  place_else s g g' i id v w ws hs m each q ne f =
      let poster_is : g'.poster q ≡ g.poster q = m.story.poster q ne in
      let waits : (u : View O E W) (x : W) → get_elem? s.views (g.poster q) ≡ some u → u.post ≡ Posts q x → (z : View O E W) × (get_elem? (set s.views id w) (g'.poster q) ≡ some z) × ((z.post ≡ Posts q x) × (z.known.seen ≡ u.known.seen)) =
      λ u x at posts. subst (λ (j : ℕ). (z : View O E W) × (get_elem? (set s.views id w) j ≡ some z) × ((z.post ≡ Posts q x) × (z.known.seen ≡ u.known.seen))) (sym poster_is)
      (view_after s id v w m.at (λ (z : View O E W). (z.post ≡ Posts q x) × (z.known.seen ≡ u.known.seen)) (g.poster q) u at (λ _. (posts, refl))
      (λ is. let h = m.posted q x ne (subst (λ (z : View O E W). z.post ≡ Posts q x) is posts) in (h.0, h.1 ∙ ap (λ (z : View O E W). z.known.seen) (sym is)))) in
      record {
        empty = λ e. m.table.home_else q ne ∙ f.empty (sym (m.table.word_else q ne) ∙ e);
        claimed = λ e. let h = f.claimed (sym (m.table.word_else q ne) ∙ e) in
            subst (λ (j : ℕ). (z : View O E W) × (get_elem? (set s.views id w) j ≡ some z) × (z.post ≡ Claims q)) (sym poster_is)
            (view_after s id v w m.at (λ (z : View O E W). z.post ≡ Claims q) (g.poster q) h.0 h.1 (λ _. h.2) (λ is. m.claim q ne (subst (λ (z : View O E W). z.post ≡ Claims q) is h.2)));
        posted = λ e. let h = f.posted (subst IsPosted (m.table.word_else q ne) e) in let z = waits h.0 h.1 h.2 h.3 in (
          z.0,
          h.1,
          z.1,
          z.2.0,
          ⊎_elim (λ (a : get_elem? s.homes q ≡ some (some (Some (Asked h.1)))). inl (m.table.home_else q ne ∙ a))
              (λ (a : (u : View O E W) × (get_elem? s.views g.holder ≡ some u) × (u.hand ≡ Holds q h.1)).
              let b = (each g.holder a.0 a.1).hand q h.1 a.2 in
              inr (subst (λ (j : ℕ). (u : View O E W) × (get_elem? (set s.views id w) j ≡ some u) × (u.hand ≡ Holds q h.1)) (sym (m.holder b.1))
              (view_after s id v w m.at (λ (y : View O E W). y.hand ≡ Holds q h.1) g.holder a.0 a.1 (λ _. a.2) (λ is. m.hand q h.1 ne (subst (λ (y : View O E W). y.hand ≡ Holds q h.1) is a.2)))))
              h.4,
        );
        done = λ e. let h = f.done (sym (m.table.word_else q ne) ∙ e) in let z = waits h.0 h.1 h.3 h.4 in let d = h.6 in (
          z.0,
          h.1,
          h.2,
          z.1,
          z.2.0,
          m.table.home_else q ne ∙ h.5,
          record {
            old = d.old;
            new = d.new;
            before = d.before;
            sees = subst (λ (l : List E). IsPrefix l d.before) (sym z.2.1) d.sees;
            begins = m.story.grows (d.before ++ entries h.1 h.2 d.new) d.begins;
            here = d.here ∙ sym (m.story.numbers q ne);
            stood = d.stood;
            gave = d.gave;
            stand = d.stand;
          },
          λ k among. let old : IsAmong k (g.numbers q) = subst (IsAmong k) (m.story.numbers q ne) among in
              m.story.owner k (made_within d.before (entries h.1 h.2 d.new) g.log k d.begins (subst (IsAmong k) (sym d.here) old)) ∙ (h.7 k old ∙ sym poster_is),
        );
      }

  has_after : (s : State (Option (Held T W A)) (View O E W)) (g g' : Story E) (i id : ℕ) (v w : View O E W) (ws : List ℕ) (hs : List (Maybe (Option (Held T W A)))) → Move s g g' i id v w ws hs
      → ((j : ℕ) (u : View O E W) → get_elem? s.views j ≡ some u → Fits kept entries gives g (λ p. get_or s.words p 0) (λ p. get_elem? s.homes p) j u)
      → (k : ℕ) (u : View O E W) → get_elem? s.views g.chief ≡ some u → Has g (λ p. get_or s.words p 0) u k → (z : View O E W) × (get_elem? (set s.views id w) g'.chief ≡ some z) × Has g' (λ p. get_or ws p 0) z k
  has_after s g g' i id v w ws hs m each k u at has =
      subst (λ (j : ℕ). (z : View O E W) × (get_elem? (set s.views id w) j ≡ some z) × Has g' (λ p. get_or ws p 0) z k) (sym m.story.chief)
      (view_after s id v w m.at (λ (z : View O E W). Has g' (λ p. get_or ws p 0) z k) g.chief u at
      (λ ne. ⊎_elim (λ (a : IsAmong k u.known.mine). inl a)
      (λ (a : (p : ℕ) × (x : W) × (u.post ≡ Posts p x) × (get_or s.words p 0 ≡ 6) × IsAmong k (g.numbers p)).
      let f = (each g.chief u at).posts a.0 a.1 a.2 in
      inr (dite (ℕ_discrete a.0 i)
      (λ is.
      let six : get_or s.words i 0 ≡ 6 = subst (λ (z : ℕ). get_or s.words z 0 ≡ 6) is a.3 in
      let c = (m.others g.chief ne (subst (λ (z : ℕ). 0 < z) is f.0.0) (subst (λ (z : ℕ). g.poster z ≡ g.chief) is f.1) (omega (arith, six))).3 six in
      (i, a.1, subst (λ (z : ℕ). u.post ≡ Posts z a.1) is a.2, c.0, subst (IsAmong k) (sym c.1) (subst (λ (z : ℕ). IsAmong k (g.numbers z)) is a.4)))
      (λ no. (a.0, a.1, a.2, m.table.word_else a.0 no ∙ a.3, subst (IsAmong k) (sym (m.story.numbers a.0 no)) a.4))))
      has)
      (λ same. ⊎_elim (λ (a : IsAmong k u.known.mine). inl (m.owns k (subst (λ (z : View O E W). IsAmong k z.known.mine) same a)))
      (λ (a : (p : ℕ) × (x : W) × (u.post ≡ Posts p x) × (get_or s.words p 0 ≡ 6) × IsAmong k (g.numbers p)).
      let f = (each g.chief u at).posts a.0 a.1 a.2 in
      let posts : v.post ≡ Posts a.0 a.1 = subst (λ (z : View O E W). z.post ≡ Posts a.0 a.1) same a.2 in
      dite (ℕ_discrete a.0 i)
      (λ is. inl (m.takes a.1 (subst (λ (z : ℕ). 0 < z) is f.0.0) (subst (λ (z : ℕ). v.post ≡ Posts z a.1) is posts) (subst (λ (z : ℕ). get_or s.words z 0 ≡ 6) is a.3) k
      (subst (λ (z : ℕ). IsAmong k (g.numbers z)) is a.4)))
      (λ no. inr (a.0, a.1, (m.posted a.0 a.1 no posts).0, m.table.word_else a.0 no ∙ a.3, subst (IsAmong k) (sym (m.story.numbers a.0 no)) a.4)))
      has))

  pub moved : (s : State (Option (Held T W A)) (View O E W)) (r : OneHistory stands kept entries gives s) (g' : Story E) (i id : ℕ) (v w : View O E W) (ws : List ℕ) (hs : List (Maybe (Option (Held T W A)))) → Move s r.story g' i id v w ws hs
      → OneHistory stands kept entries gives record { words = ws; homes = hs; views = set s.views id w }
  moved s r g' i id v w ws hs m = record {
    story = g';
    wide = m.table.words ∙ (r.wide ∙ sym m.story.size);
    deep = m.table.homes ∙ (r.deep ∙ sym m.story.size);
    each = set_each_at (Fits kept entries gives g' (λ p. get_or ws p 0) (λ p. get_elem? hs p)) s.views id w m.mine (λ j u ne e. fits_else s r.story g' i id v w ws hs m j u ne (r.each j u e));
    place = λ p is. let in_old : IsPlace r.story.size p = subst (λ (z : ℕ). IsPlace z p) m.story.size is in
        dite (ℕ_discrete p i)
        (λ same. subst (Place stands entries gives g' (λ p. get_or ws p 0) (λ p. get_elem? hs p) (set s.views id w)) (sym same) (m.place (subst (λ (z : ℕ). 0 < z) same in_old.0) (subst (λ (z : ℕ). z < r.story.size) same in_old.1)))
        (λ no. place_else s r.story g' i id v w ws hs m r.each p no (r.place p in_old));
    value = m.value;
    held = λ z. ⊎_elim
        (λ (was : get_or s.words 0 0 ≡ 0). let h = r.held was in
        subst (λ (j : ℕ). (u : View O E W) × (get_elem? (set s.views id w) j ≡ some u) × HasLock g'.log u) (sym (m.holder was))
        (view_after s id v w m.at (λ (u : View O E W). HasLock g'.log u) r.story.holder h.0 h.1
        (λ ne. subst (λ (l : List E). HasLock l h.0) (sym (m.lock r.story.holder ne refl was).0) h.2)
        (λ is. m.still (subst (λ (u : View O E W). HasLock r.story.log u) is h.2) z)))
        (λ (now : (g'.holder ≡ id) × HasLock g'.log w). (w, subst (λ (j : ℕ). get_elem? (set s.views id w) j ≡ some w) (sym now.0) (set_here s.views id w (there s.views id v m.at)), now.1))
        (m.keeps z);
    first = λ k e at ke. ⊎_elim
        (λ (old : slice_get r.story.log k ≡ Some e). let h = r.first k e old ke in has_after s r.story g' i id v w ws hs m r.each k h.0 h.1 h.2)
        (λ (new : (u : View O E W) × (get_elem? (set s.views id w) g'.chief ≡ some u) × Has g' (λ p. get_or ws p 0) u k). new)
        (m.first k e at ke);
  }

  -- what the first seat has seen of the kept entries is its own
  pub owns : (s : State (Option (Held T W A)) (View O E W)) (r : OneHistory stands kept entries gives s) (id : ℕ) (v : View O E W) → get_elem? s.views id ≡ some v → OwnsKept kept v.known
  owns s r id v at first k e there_is ke =
      let g = r.story in
      let f = r.each id v at in
      let h = r.first k e (prefix_get v.known.seen g.log k e f.seen there_is) ke in
      let same : h.0 ≡ v = one_there s.views g.chief id h.0 v (sym (f.first first)) h.1 at in
      ⊎_elim (λ (a : IsAmong k h.0.known.mine). subst (λ (z : View O E W). IsAmong k z.known.mine) same a)
      (λ (a : (p : ℕ) × (x : W) × (h.0.post ≡ Posts p x) × (get_or s.words p 0 ≡ 6) × IsAmong k (g.numbers p)).
      let b = f.posts a.0 a.1 (subst (λ (z : View O E W). z.post ≡ Posts a.0 a.1) same a.2) in
      let d = (r.place a.0 b.0).done a.3 in
      let u_is : d.0 ≡ v = one_there s.views (g.poster a.0) id d.0 v b.1 d.3 at in
      let seen : IsPrefix v.known.seen d.6.before = subst (λ (z : View O E W). IsPrefix z.known.seen d.6.before) u_is d.6.sees in
      let high = entry_within v.known.seen e k there_is in
      let long = prefix_length v.known.seen d.6.before seen in
      let low = (range_within k (length d.6.before) (length (entries d.1 d.2 d.6.new)) (subst (IsAmong k) (sym d.6.here) a.4)).0 in
      absurd (omega (arith, high, long, low)))
      h.2

  -- a seat's own places ascend, and it has seen what stands there
  pub has_places : (s : State (Option (Held T W A)) (View O E W)) (r : OneHistory stands kept entries gives s) (id : ℕ) (v : View O E W) → get_elem? s.views id ≡ some v → OwnPlaces v.known
  has_places s r id v at = let f = r.each id v at in record { ascend = f.ascends; are_seen = λ k a. (f.mine k a).0 }
