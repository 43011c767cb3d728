-- The kinds of step: at the word of the lock, at the seat's own place, and at a place where a work is posted.
use Rattle.std.proofs.Common.{◌≡◌, ◌≢◌, ◌⊎◌, ℕ, ◌+◌, ◌-◌, ◌<◌, ◌≤◌, Bool, true, false, List, ◌++◌, length, set, get_or, refl, sym, ap, ◌∙◌, subst, inl, inr, ⊎_elim, arith, length-append}
use Rattle.std.specs.Prelude.{Option, Some, None, slice_get}
use Rattle.std.proofs.lemmas.List.{get_or-set_same}
use mathlib.Core.Option.{Option as Maybe, none, some}
use mathlib.Core.List.{IsPrefix}
use mathlib.Core.Logic.{dite}
use native.Mathlib.Decide.{ℕ_discrete}
use lib.ListN.{get_elem?}
use Rattle.atomic_table.specs.Table.{State}
use Rattle.atomic_table.proofs.Lists.{set_here}
use Rattle.turn_lock.specs.declared.seat.View.{View}
use Rattle.turn_lock.specs.declared.seat.Held.{Held}
use Rattle.turn_lock.specs.declared.seat.Known.{Known}
use Rattle.turn_lock.specs.declared.seat.Held.TheVariants.{Value, Asked}
use Rattle.turn_lock.specs.declared.seat.Stage.{Stage}
use Rattle.turn_lock.specs.declared.seat.Stage.TheVariants.{Idle, Works}
use Rattle.turn_lock.specs.declared.seat.Hand.{Hand}
use Rattle.turn_lock.specs.declared.seat.Hand.TheVariants.{Empty, Holds}
use Rattle.turn_lock.specs.declared.seat.Post.{Post}
use Rattle.turn_lock.specs.declared.seat.Post.TheVariants.{Nowhere, Claims, Posts}
use Rattle.turn_lock.specs.Places.{IsAmong, Ascends}
use Rattle.turn_lock.specs.Turned.{NoneKept, NeverKept}
use Rattle.turn_lock.specs.Seats.{places_behind, told, at_stage, with_hand}
use Rattle.turn_lock.specs.Rule.{IsPosted, IsPlace, Story, Fits, Place, OneHistory}
use Rattle.turn_lock.proofs.Cases.{works_is, claims_is, posts_is, put_at, put_here, put_else, put_from, put_before}
use Rattle.turn_lock.proofs.Views.{there}
use Rattle.turn_lock.proofs.Beginnings.{more_entry, entry_within, entry_has, prefix_length}
use Rattle.turn_lock.proofs.Ordered.{among_either, range_within, range_has, ascends_more}
use Rattle.turn_lock.proofs.Moving.{OneChanged, both_changed, with_seats, follows_seats, moved}

not_zero : (q : ℕ) → 0 < q → q ≢ 0
not_zero q h e = omega (arith, h, e)

is_true : (b : Bool) → (b ≡ false → ⊥) → b ≡ true
is_true true h = refl
is_true false h = absurd (h refl)

true_false : true ≡ false → ⊥
true_false e = cc (e)

-- a kept entry of a history with more entries is of the history, or one of the new ones, and those are the first seat's
pub kept_more : {E : Type 0} (kept : E → Bool) (log es : List E) (first : Bool) → (first ≡ false → NoneKept kept es) → (n : ℕ) (e : E) → slice_get (log ++ es) n ≡ Some e → kept e ≡ true
    → (slice_get log n ≡ Some e) ⊎ ((first ≡ true) × IsAmong n (places_behind log es))
kept_more {E} kept log es first may n e at ke = ⊎_elim (λ (old : slice_get log n ≡ Some e). inl old)
    (λ (new : (length log ≤ n) × (slice_get es (n - length log) ≡ Some e)).
    let le : length log ≤ n = new.0 in
    let within : n - length log < length es = entry_within es e (n - length log) new.1 in
    inr (is_true first (λ off. true_false (sym ke ∙ entry_has (λ (z : E). kept z ≡ false) es e (n - length log) (may off) new.1)), range_has n (length log) (length es) le (omega (arith, le, within))))
    (more_entry log es e n at)

-- what a seat knows fits a history, whose entries are these seats'
pub record Knows {O E : Type 0} (log : List E) (owner : ℕ → ℕ) (chief j : ℕ) (k : Known O E) : Type 0 where
  pub seen : IsPrefix k.seen log
  pub mine : (n : ℕ) → IsAmong n k.mine → (n < length k.seen) × (owner n ≡ j)
  pub ascends : Ascends k.mine
  pub first : k.first ≡ true → j ≡ chief

pub knows_of : {T O E W A : Type 0} {kept : E → Bool} {entries : W → A → T → List E} {gives : W → T → A → T → Type 0} {g : Story E} {word : ℕ → ℕ} {home : ℕ → Maybe (Maybe (Option (Held T W A)))} {j : ℕ} {v : View O E W}
    → Fits kept entries gives g word home j v → Knows g.log g.owner g.chief j v.known
knows_of f = record { seen = f.seen; mine = f.mine; ascends = f.ascends; first = f.first }

module _ {O E : Type 0} where
  -- a seat's entries are its own still when the history has more entries of some seat
  pub mine_before : (log : List E) (owner : ℕ → ℕ) (chief j other : ℕ) (k : Known O E) → Knows log owner chief j k → (n : ℕ) → IsAmong n k.mine → (n < length k.seen) × (put_from owner (length log) other n ≡ j)
  mine_before log owner chief j other k f n among =
      let a = f.mine n among in
      let lt : n < length k.seen = a.0 in
      let le = prefix_length k.seen log f.seen in
      (lt, put_before owner (length log) other n (omega (arith, lt, le)) ∙ a.1)

  -- a seat that is told of entries of its own, behind all that it has seen
  pub knows_told : (log before es : List E) (owner : ℕ → ℕ) (chief j : ℕ) (k : Known O E) → IsPrefix k.seen before → IsPrefix (before ++ es) log
      → ((n : ℕ) → IsAmong n k.mine → (n < length k.seen) × (owner n ≡ j)) → Ascends k.mine → (k.first ≡ true → j ≡ chief) → ((n : ℕ) → IsAmong n (places_behind before es) → owner n ≡ j) → Knows log owner chief j (told k before es)
  knows_told log before es owner chief j k begins within old ascends first new =
      let long : length (before ++ es) ≡ length before + length es = length-append before es in
      let short : length k.seen ≤ length before = prefix_length k.seen before begins in
      record {
        seen = within;
        mine = λ n among. ⊎_elim (λ (q : IsAmong n k.mine). let a = old n q in let lt : n < length k.seen = a.0 in (omega (arith, lt, short, long), a.1))
            (λ (q : IsAmong n (places_behind before es)). let high = (range_within n (length before) (length es) q).1 in (omega (arith, high, long), new n q)) (among_either n k.mine (places_behind before es) among);
        ascends = ascends_more (length before) (length es) k.mine ascends (λ n q. let a = old n q in let lt : n < length k.seen = a.0 in omega (arith, lt, short));
        first = first;
      }

module _ {W : Type 0} where
  -- the seat waits at no place but this one
  abbrev pub IsOwn : ℕ → Post W → Type 0
  IsOwn p post = (post ≡ Nowhere) ⊎ ((post ≡ Claims p) ⊎ ((x : W) × (post ≡ Posts p x)))

  own_claims : (p q : ℕ) (post : Post W) → IsOwn p post → post ≡ Claims q → q ≡ p
  own_claims p q post (inl a) e = absurd (cc (a, e))
  own_claims p q post (inr (inl a)) e = sym (claims_is (sym a ∙ e))
  own_claims p q post (inr (inr (x, a))) e = absurd (cc (a, e))

  own_posts : (p q : ℕ) (y : W) (post : Post W) → IsOwn p post → post ≡ Posts q y → q ≡ p
  own_posts p q y post (inl a) e = absurd (cc (a, e))
  own_posts p q y post (inr (inl a)) e = absurd (cc (a, e))
  own_posts p q y post (inr (inr (x, a))) e = sym (posts_is (sym a ∙ e)).0

-- where a place is posted or done before and after, no claim changes, and each work that was posted is so still
pub claim_stays : (old new : List ℕ) (p q : ℕ) → ((k : ℕ) → k ≢ p → get_or new k 0 ≡ get_or old k 0) → 2 ≤ get_or old p 0 → get_or old q 0 ≡ 1 → get_or new q 0 ≡ 1
claim_stays old new p q else_same two one = dite (ℕ_discrete q p) (λ is. let here : get_or old p 0 ≡ 1 = subst (λ (z : ℕ). get_or old z 0 ≡ 1) is one in absurd (omega (arith, here, two))) (λ no. else_same q no ∙ one)

pub post_stays : (old new : List ℕ) (p q : ℕ) → ((k : ℕ) → k ≢ p → get_or new k 0 ≡ get_or old k 0) → 2 ≤ get_or new p 0 → 2 ≤ get_or old q 0 → 2 ≤ get_or new q 0
post_stays old new p q else_same two was = dite (ℕ_discrete q p) (λ is. subst (λ (z : ℕ). 2 ≤ get_or new z 0) (sym is) two) (λ no. subst (λ (z : ℕ). 2 ≤ z) (sym (else_same q no)) was)

-- the word of the lock and the stage of the seat that has it
abbrev pub WorksOn : {E : Type 0} → ℕ → Stage E → List E → Type 0
WorksOn n stage log = (n ≡ 0) × (stage ≡ Works log)

-- the same where the value is home again
abbrev pub Frees : {T E W A : Type 0} → (T → List E → Type 0) → ℕ → Stage E → Maybe (Option (Held T W A)) → List E → Type 0
Frees {T} stands n stage home log = (n ≡ 1) × (stage ≡ Idle) × (x : T) × (home ≡ some (Some (Value x))) × stands x log

-- a seat's place after its own step there, by its word, its slot and what the seat waits for: left empty, claimed, or with a work
abbrev pub Left : {T W A : Type 0} → ℕ → Maybe (Option (Held T W A)) → Post W → Type 0
Left n home post = (n ≡ 0) × (home ≡ some None) × (post ≡ Nowhere)

abbrev pub Claimed : {W : Type 0} → ℕ → ℕ → Post W → Type 0
Claimed p n post = (n ≡ 1) × (post ≡ Claims p)

abbrev pub Posted : {T E W A : Type 0} → (E → Bool) → (W → A → T → List E) → (W → T → A → T → Type 0) → ℕ → ℕ → Maybe (Option (Held T W A)) → Post W → Bool → Type 0
Posted {T} {E} {W} kept entries gives p n home post first = (x : W) × IsPosted n × (home ≡ some (Some (Asked x))) × (post ≡ Posts p x) × (first ≡ false → NeverKept kept entries gives x)

module _ {T O E W A : Type 0} (stands : T → List E → Type 0) (kept : E → Bool) (entries : W → A → T → List E) (gives : W → T → A → T → Type 0) where
  -- a step at the word of the lock by the seat that has the lock, or that takes it where no seat has it
  pub lock_step : (s : State (Option (Held T W A)) (View O E W)) (r : OneHistory stands kept entries gives s) (id n : ℕ) (v : View O E W) (stage : Stage E) (home : Maybe (Option (Held T W A))) → get_elem? s.views id ≡ some v → 0 < length s.homes → v.hand ≡ Empty
      → (get_or s.words 0 0 ≡ 0 → id ≡ r.story.holder) → WorksOn n stage r.story.log ⊎ Frees stands n stage home r.story.log
      → OneHistory stands kept entries gives record { words = set s.words 0 n; homes = set s.homes 0 home; views = set s.views id (at_stage v stage) }
  lock_step s r id n v stage home at some_slots empty own after =
      let g = r.story in
      let f = r.each id v at in
      let w : View O E W = at_stage v stage in
      let ws : List ℕ = set s.words 0 n in
      let hs : List (Maybe (Option (Held T W A))) = set s.homes 0 home in
      let table = both_changed 0 n home s.words s.homes in
      let we : (q : ℕ) → q ≢ 0 → get_or ws q 0 ≡ get_or s.words q 0 = table.word_else in
      let now : get_or ws 0 0 ≡ n = get_or-set_same s.words 0 n 0 (omega (arith, some_slots, r.wide, r.deep)) in
      let works : get_or ws 0 0 ≡ 0 → stage ≡ Works g.log = λ z. ⊎_elim (λ (a : WorksOn n stage g.log). a.1) (λ (a : Frees stands n stage home g.log). let one : n ≡ 1 = a.0 in absurd (omega (arith, one, now, z))) after in
      moved stands kept entries gives s r (with_seats g g.poster id) 0 id v w ws hs
      record {
        at = at;
        table = table;
        story = follows_seats g 0 g.poster id (λ q ne. refl);
        holder = own;
        lock = λ j ne h z. absurd (ne (h ∙ sym (own z)));
        others = λ j ne z ps one. absurd (omega (arith, z));
        serves = λ j ne z h held ps out. absurd (omega (arith, z));
        mine = record {
          seen = f.seen;
          merged = f.merged;
          mine = f.mine;
          ascends = f.ascends;
          first = f.first;
          opens = λ e. ⊎_elim (λ (a : WorksOn n stage g.log). let is = a.1 in absurd (cc (is, e))) (λ (a : Frees stands n stage home g.log). let is = a.1 in absurd (cc (is, e))) after;
          works = λ G e. ⊎_elim (λ (a : WorksOn n stage g.log). (works_is (sym e ∙ a.1), refl, now ∙ a.0)) (λ (a : Frees stands n stage home g.log). let is = a.1 in absurd (cc (is, e))) after;
          hand = λ q x e. absurd (cc (empty, e));
          claims = λ q e. let b = f.claims q e in (b.0, b.1, we q (not_zero q b.0.0) ∙ b.2);
          posts = λ q x e. let b = f.posts q x e in (b.0, b.1, subst (λ (z : ℕ). 2 ≤ z) (sym (we q (not_zero q b.0.0))) b.2, b.3);
        };
        posted = λ q x ne e. (e, refl);
        claim = λ q ne e. e;
        keeps = λ z. inr (refl, inr (works z));
        still = λ h z. inr (works z);
        hand = λ q x ne e. e;
        owns = λ k a. a;
        takes = λ x z e six k among. absurd (omega (arith, z));
        place = λ z lt. absurd (omega (arith, z));
        value = λ z. ⊎_elim (λ (a : WorksOn n stage g.log). let zero : n ≡ 0 = a.0 in absurd (omega (arith, zero, now, z)))
            (λ (a : Frees stands n stage home g.log). (a.2, set_here s.homes 0 home some_slots ∙ ap some a.3, a.4)) after;
        first = λ k e there_is ke. inl there_is;
      }

  -- what a seat is to show that steps at its own place, of which it then knows this much
  pub record OwnStep (s : State (Option (Held T W A)) (View O E W)) (g : Story E) (id p n : ℕ) (v : View O E W) (k : Known O E) (post : Post W) (home : Maybe (Option (Held T W A))) : Type 0 where
    pub at : get_elem? s.views id ≡ some v
    pub place : IsPlace g.size p
    pub idle : v.stage ≡ Idle
    pub empty : v.hand ≡ Empty
    pub was : IsOwn p v.post
    pub unposted : IsPosted (get_or s.words p 0) → ⊥
    pub own : 1 ≤ get_or s.words p 0 → g.poster p ≡ id
    pub after : Left n home post ⊎ (Claimed p n post ⊎ Posted kept entries gives p n home post k.first)
    pub knows : Knows g.log g.owner g.chief id k
    pub owns : (m : ℕ) → IsAmong m v.known.mine → IsAmong m k.mine
    pub takes : get_or s.words p 0 ≡ 6 → (m : ℕ) → IsAmong m (g.numbers p) → IsAmong m k.mine

  pub own_step : (s : State (Option (Held T W A)) (View O E W)) (r : OneHistory stands kept entries gives s) (id p n : ℕ) (v : View O E W) (k : Known O E) (post : Post W) (home : Maybe (Option (Held T W A))) → OwnStep s r.story id p n v k post home
      → OneHistory stands kept entries gives record { words = set s.words p n; homes = set s.homes p home; views = set s.views id (record { known = k; merged = v.merged; stage = v.stage; hand = v.hand; post = post }) }
  own_step s r id p n v k post home o =
      let g = r.story in
      let ip : IsPlace g.size p = o.place in
      let low : 0 < p = ip.0 in
      let inside : p < g.size = ip.1 in
      let idle : v.stage ≡ Idle = o.idle in
      let empty : v.hand ≡ Empty = o.empty in
      let w : View O E W = record { known = k; merged = v.merged; stage = v.stage; hand = v.hand; post = post } in
      let ws : List ℕ = set s.words p n in
      let hs : List (Maybe (Option (Held T W A))) = set s.homes p home in
      let g' : Story E = with_seats g (put_at g.poster p id) g.holder in
      let table = both_changed p n home s.words s.homes in
      let nz : 0 ≢ p = λ z. omega (arith, z, low) in
      let we : (q : ℕ) → q ≢ p → get_or ws q 0 ≡ get_or s.words q 0 = table.word_else in
      let he : (q : ℕ) → q ≢ p → get_elem? hs q ≡ get_elem? s.homes q = table.home_else in
      let now : get_or ws p 0 ≡ n = get_or-set_same s.words p n 0 (omega (arith, inside, r.wide)) in
      let laid : get_elem? hs p ≡ some home = set_here s.homes p home (omega (arith, inside, r.deep)) in
      let mine : put_at g.poster p id p ≡ id = put_here g.poster p id in
      let here : get_elem? (set s.views id w) (put_at g.poster p id p) ≡ some w = subst (λ (z : ℕ). get_elem? (set s.views id w) z ≡ some w) (sym mine) (set_here s.views id w (there s.views id v o.at)) in
      let left : ((q : ℕ) → post ≡ Claims q → IsPlace g.size q × (put_at g.poster p id q ≡ id) × (get_or ws q 0 ≡ 1))
      × ((q : ℕ) (y : W) → post ≡ Posts q y → IsPlace g.size q × (put_at g.poster p id q ≡ id) × (2 ≤ get_or ws q 0) × (k.first ≡ false → NeverKept kept entries gives y))
      × Place stands entries gives g' (λ q. get_or ws q 0) (λ q. get_elem? hs q) (set s.views id w) p =
      ⊎_elim
      (λ (a : Left n home post). let zero : n ≡ 0 = a.0 in let is : post ≡ Nowhere = a.2 in (
        (λ q e. absurd (cc (is, e))),
        (λ q y e. absurd (cc (is, e))),
        record { empty = λ e. laid ∙ ap some a.1; claimed = λ e. absurd (omega (arith, e, now, zero)); posted = λ e. let two = e.0 in absurd (omega (arith, two, now, zero)); done = λ e. absurd (omega (arith, e, now, zero)) },
      ))
      (λ (b : Claimed p n post ⊎ Posted kept entries gives p n home post k.first). ⊎_elim
      (λ (a : Claimed p n post). let one : n ≡ 1 = a.0 in let is : post ≡ Claims p = a.1 in (
        (λ q e. subst (λ (z : ℕ). IsPlace g.size z × (put_at g.poster p id z ≡ id) × (get_or ws z 0 ≡ 1)) (claims_is (sym is ∙ e)) (ip, mine, now ∙ one)),
        (λ q y e. absurd (cc (is, e))),
        record { empty = λ e. absurd (omega (arith, e, now, one)); claimed = λ e. (w, here, is); posted = λ e. let two = e.0 in absurd (omega (arith, two, now, one)); done = λ e. absurd (omega (arith, e, now, one)) },
      ))
      (λ (a : Posted kept entries gives p n home post k.first). let two : 2 ≤ n = a.1.0 in let six : n < 6 = a.1.1 in let is : post ≡ Posts p a.0 = a.3 in (
        (λ q e. absurd (cc (is, e))),
        (λ q y e. let same = posts_is (sym is ∙ e) in subst (λ (z : ℕ). IsPlace g.size z × (put_at g.poster p id z ≡ id) × (2 ≤ get_or ws z 0) × (k.first ≡ false → NeverKept kept entries gives y)) same.0
            (ip, mine, omega (arith, now, two), subst (λ (z : W). k.first ≡ false → NeverKept kept entries gives z) same.1 a.4)),
        record { empty = λ e. absurd (omega (arith, e, now, two)); claimed = λ e. absurd (omega (arith, e, now, two)); posted = λ e. (w, a.0, here, is, inl (laid ∙ ap some a.2)); done = λ e. absurd (omega (arith, e, now, six)) },
      )) b)
      o.after in
      let f = r.each id v o.at in
      moved stands kept entries gives s r g' p id v w ws hs
      record {
        at = o.at;
        table = table;
        story = follows_seats g p (put_at g.poster p id) g.holder (λ q ne. put_else g.poster p id q ne);
        holder = λ z. refl;
        lock = λ j ne h z. (refl, we 0 nz ∙ z, he 0 nz);
        others = λ j ne z ps le. absurd (ne (sym ps ∙ o.own le));
        serves = λ j ne z h held ps out. absurd (o.unposted ps);
        mine = record {
          seen = o.knows.seen;
          merged = f.merged;
          mine = o.knows.mine;
          ascends = o.knows.ascends;
          first = o.knows.first;
          opens = λ e. absurd (cc (idle, e));
          works = λ G e. absurd (cc (idle, e));
          hand = λ q x e. absurd (cc (empty, e));
          claims = left.0;
          posts = left.1;
        };
        posted = λ q x ne e. absurd (ne (own_posts p q x v.post o.was e));
        claim = λ q ne e. absurd (ne (own_claims p q v.post o.was e));
        keeps = λ z. inl (sym (we 0 nz) ∙ z);
        still = λ h z. h;
        hand = λ q x ne e. e;
        owns = o.owns;
        takes = λ x z e six. o.takes six;
        place = λ _ _. left.2;
        value = λ z. let h = r.value (sym (we 0 nz) ∙ z) in (h.0, he 0 nz ∙ h.1, h.2);
        first = λ k e there_is ke. inl there_is;
      }

  -- what a seat is to show that steps at a place where a work is posted and stays so, though it may go out into its hand
  pub record PostedStep (s : State (Option (Held T W A)) (View O E W)) (g : Story E) (id p n : ℕ) (v : View O E W) (hand : Hand W) (hs : List (Maybe (Option (Held T W A)))) : Type 0 where
    pub at : get_elem? s.views id ≡ some v
    pub place : IsPlace g.size p
    pub empty : v.hand ≡ Empty
    pub before : IsPosted (get_or s.words p 0)
    pub after : IsPosted n
    pub table : OneChanged p s.words (set s.words p n) s.homes hs
    pub out : get_elem? s.homes p ≡ some none → get_elem? hs p ≡ some none
    pub holds : (q : ℕ) (x : W) → hand ≡ Holds q x → (id ≡ g.holder) × (get_or s.words 0 0 ≡ 0) × (p ≡ q) × (get_elem? hs p ≡ some none)
    pub lies : (u : View O E W) × (x : W) × (get_elem? (set s.views id (with_hand v hand)) (g.poster p) ≡ some u) × (u.post ≡ Posts p x)
        × ((get_elem? hs p ≡ some (some (Some (Asked x)))) ⊎ ((z : View O E W) × (get_elem? (set s.views id (with_hand v hand)) g.holder ≡ some z) × (z.hand ≡ Holds p x)))

  pub posted_step : (s : State (Option (Held T W A)) (View O E W)) (r : OneHistory stands kept entries gives s) (id p n : ℕ) (v : View O E W) (hand : Hand W) (hs : List (Maybe (Option (Held T W A)))) → PostedStep s r.story id p n v hand hs
      → OneHistory stands kept entries gives record { words = set s.words p n; homes = hs; views = set s.views id (with_hand v hand) }
  posted_step s r id p n v hand hs o =
      let g = r.story in
      let f = r.each id v o.at in
      let low : 0 < p = o.place.0 in
      let inside : p < g.size = o.place.1 in
      let empty : v.hand ≡ Empty = o.empty in
      let two : 2 ≤ get_or s.words p 0 = o.before.0 in
      let six : get_or s.words p 0 < 6 = o.before.1 in
      let n_two : 2 ≤ n = o.after.0 in
      let n_six : n < 6 = o.after.1 in
      let w : View O E W = with_hand v hand in
      let ws : List ℕ = set s.words p n in
      let nz : 0 ≢ p = λ z. omega (arith, z, low) in
      let we : (q : ℕ) → q ≢ p → get_or ws q 0 ≡ get_or s.words q 0 = o.table.word_else in
      let now : get_or ws p 0 ≡ n = get_or-set_same s.words p n 0 (omega (arith, inside, r.wide)) in
      let posted : IsPosted (get_or ws p 0) = (omega (arith, now, n_two), omega (arith, now, n_six)) in
      moved stands kept entries gives s r g p id v w ws hs
      record {
        at = o.at;
        table = o.table;
        story = follows_seats g p g.poster g.holder (λ q ne. refl);
        holder = λ z. refl;
        lock = λ j ne h z. (refl, we 0 nz ∙ z, o.table.home_else 0 nz);
        others = λ j ne z ps le. (ps, (λ one. absurd (omega (arith, one, two))), (λ _. posted.0), (λ is. absurd (omega (arith, is, six))));
        serves = λ j ne z h held ps out. (posted, o.out out);
        mine = record {
          seen = f.seen;
          merged = f.merged;
          mine = f.mine;
          ascends = f.ascends;
          first = f.first;
          opens = λ e. let h = f.opens e in (h.0, h.1, we 0 nz ∙ h.2, o.table.home_else 0 nz ∙ h.3);
          works = λ G e. let h = f.works G e in (h.0, h.1, we 0 nz ∙ h.2);
          hand = λ q x e. let h = o.holds q x e in subst (λ (z : ℕ). (id ≡ g.holder) × (get_or ws 0 0 ≡ 0) × IsPlace g.size z × IsPosted (get_or ws z 0) × (get_elem? hs z ≡ some none)) h.2 (h.0, we 0 nz ∙ h.1, o.place, posted, h.3);
          claims = λ q e. let h = f.claims q e in (h.0, h.1, claim_stays s.words ws p q we two h.2);
          posts = λ q x e. let h = f.posts q x e in (h.0, h.1, post_stays s.words ws p q we posted.0 h.2, h.3);
        };
        posted = λ q x ne e. (e, refl);
        claim = λ q ne e. e;
        keeps = λ z. inl (sym (we 0 nz) ∙ z);
        still = λ h z. h;
        hand = λ q x ne e. absurd (cc (empty, e));
        owns = λ k a. a;
        takes = λ x z e is k among. absurd (omega (arith, is, six));
        place = λ _ _. record { empty = λ e. absurd (omega (arith, e, now, n_two)); claimed = λ e. absurd (omega (arith, e, now, n_two)); posted = λ _. o.lies; done = λ e. absurd (omega (arith, e, now, n_six)) };
        value = λ z. let h = r.value (sym (we 0 nz) ∙ z) in (h.0, o.table.home_else 0 nz ∙ h.1, h.2);
        first = λ k e there_is ke. inl there_is;
      }
