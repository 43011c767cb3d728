-- Each step of a turn at a place keeps the rule, and tells what it tells.
use Rattle.std.proofs.Common.{◌≡◌, ◌≢◌, ◌⊎◌, ℕ, ◌<◌, ◌≤◌, eqb, Bool, true, false, List, [], ◌∷◌, ◌++◌, length, set, get_or, refl, sym, ap, ◌∙◌, subst, inl, inr, ⊎_elim, arith}
use Rattle.std.specs.Prelude.{Option, Some, None, IfSome, slice_get}
use Rattle.std.proofs.lemmas.List.{get_or-set_same}
use mathlib.Core.Option.{Option as Maybe, some, none}
use mathlib.Core.List.{IsPrefix}
use mathlib.Core.Logic.{dite}
use native.Mathlib.Decide.{dec_le}
use lib.ListN.{get_elem?}
use prog.Atomic.{either}
use Rattle.atomic_table.specs.Table.{State, Me, Act, Valid, carried_after, step, stepped, keeps, takes, gives, Allows}
use Rattle.atomic_table.proofs.Lists.{set_here, set_again, exchanged}
use Rattle.turn_lock.specs.declared.seat.View.{View}
use Rattle.turn_lock.specs.declared.seat.Held.{Held}
use Rattle.turn_lock.specs.declared.seat.Known.{Known}
use Rattle.turn_lock.specs.declared.seat.Held.TheVariants.{Value, Asked, Answered}
use Rattle.turn_lock.specs.declared.seat.Stage.TheVariants.{Idle, Works}
use Rattle.turn_lock.specs.declared.seat.Hand.TheVariants.{Empty, Holds}
use Rattle.turn_lock.specs.declared.seat.Post.TheVariants.{Nowhere, Claims, Posts}
use Rattle.turn_lock.specs.Places.{IsAmong}
use Rattle.turn_lock.specs.Turned.{NeverKept}
use Rattle.turn_lock.specs.Seats.{OwnsKept, OwnPlaces, places_behind, at_post, with_hand, served, told, answered}
use Rattle.turn_lock.specs.Rule.{IsPosted, IsPlace, Story, Made, OneHistory}
use Rattle.turn_lock.specs.Tells.{claimed, put, same, fetched, done, collected, left}
use Rattle.turn_lock.proofs.Cases.{works_is, holds_is, posts_is, put_at, put_here, put_else, put_behind}
use Rattle.turn_lock.proofs.Views.{there, one_there}
use Rattle.turn_lock.proofs.Beginnings.{prefix_self, prefix_more}
use Rattle.turn_lock.proofs.Ordered.{among_left, among_right, range_within}
use Rattle.turn_lock.proofs.Moving.{word_changed, both_changed, with_more, follows_more, moved, owns, has_places, view_after}
use Rattle.turn_lock.proofs.Stepping.{own_step, posted_step, kept_more, knows_of, knows_told, mine_before, claim_stays, post_stays}
use Rattle.turn_lock.proofs.Allowing.{stays}

-- the work that lies in a slot
abbrev asked_in : {T W A : Type 0} → List (ℕ × Option (Held T W A)) → W → W
asked_in [] d = d
asked_in ((k, None) ∷ c) d = d
asked_in ((k, Some (Value x)) ∷ c) d = d
asked_in ((k, Some (Asked w)) ∷ c) d = w
asked_in ((k, Some (Answered a)) ∷ c) d = d

module _ {T O E W A : Type 0} (stands : T → List E → Type 0) (kept : E → Bool) (entries : W → A → T → List E) (gives_to : W → T → A → T → Type 0) where
  pub claims : (slots id p : ℕ) (me : Me (Option (Held T W A)) (View O E W)) → 0 < p → p < slots → me.0.stage ≡ Idle → me.0.hand ≡ Empty → me.0.post ≡ Nowhere
      → Allows (OneHistory stands kept entries gives_to) slots id me p (λ n. either (eqb n 0) 1 n) (claimed (step slots p 0 1 none) me)
  claims slots id p me low high idle empty nowhere s r deep at fits =
      let n : ℕ = get_or s.words p 0 in
      exchanged n 0 1 (λ m. (w : View O E W) × (a : Act (Option (Held T W A))) × Valid s.homes me.1 a × OneHistory stands kept entries gives_to (stepped s p m id me.1 w a) × claimed (step slots p 0 1 none) me n (w, carried_after me.1 a))
      (λ hit.
      let ip : IsPlace r.story.size p = (low, omega (arith, high, deep, r.deep)) in (
        at_post me.0 (Claims p),
        takes p None,
        (r.place p ip).empty hit,
        own_step stands kept entries gives_to s r id p 1 me.0 me.0.known (Claims p) none
            record {
              at = at;
              place = ip;
              idle = idle;
              empty = empty;
              was = inl nowhere;
              unposted = λ ps. let two : 2 ≤ n = ps.0 in omega (arith, two, hit);
              own = λ le. absurd (omega (arith, le, hit));
              after = inr (inl (refl, refl));
              knows = knows_of (r.each id me.0 at);
              owns = λ m among. among;
              takes = λ six. absurd (omega (arith, six, hit));
            },
        ((λ miss. absurd (miss hit)), (λ _. refl)),
      ))
      (λ miss. (me.0, keeps, tt, stays stands kept entries gives_to s r p id me.1 me.0 me.0.merged at (r.each id me.0 at).merged, ((λ _. refl), (λ hit. absurd (miss hit)))))

  pub puts : (slots id p k : ℕ) (me : Me (Option (Held T W A)) (View O E W)) (x : W) → 0 < p → p < slots → IsPosted k → me.0.stage ≡ Idle → me.0.hand ≡ Empty → me.0.post ≡ Claims p → me.1 ≡ (p, Some (Asked x)) ∷ []
      → (me.0.known.first ≡ false → NeverKept kept entries gives_to x)
      → Allows (OneHistory stands kept entries gives_to) slots id me p (λ _. k) (λ _. put (step slots p k 0 none) me k)
  puts slots id p k me x low high posted idle empty claim out may s r deep at fits =
      let f = r.each id me.0 at in
      let b = f.claims p claim in
      let one : get_or s.words p 0 ≡ 1 = b.2 in
      let rule : OneHistory stands kept entries gives_to (stepped s p k id me.1 (at_post me.0 (Posts p x)) gives) =
      subst (λ (c : List (ℕ × Option (Held T W A))). OneHistory stands kept entries gives_to (stepped s p k id c (at_post me.0 (Posts p x)) gives)) (sym out)
      (own_step stands kept entries gives_to s r id p k me.0 me.0.known (Posts p x) (some (Some (Asked x)))
      record {
        at = at;
        place = b.0;
        idle = idle;
        empty = empty;
        was = inr (inl claim);
        unposted = λ ps. let two = ps.0 in omega (arith, two, one);
        own = λ _. b.1;
        after = inr (inr (x, posted, refl, refl, may));
        knows = knows_of f;
        owns = λ m among. among;
        takes = λ six. absurd (omega (arith, six, one));
      })
      in (
        at_post me.0 (Posts p x),
        gives,
        tt,
        rule,
        λ y e. let is : x ≡ y = ap (λ (l : List (ℕ × Option (Held T W A))). asked_in l x) (sym out ∙ e) in
            subst (λ (z : W). ◌≡◌ {A = Me (Option (Held T W A)) (View O E W)} (at_post me.0 (Posts p x), carried_after me.1 gives) (at_post me.0 (Posts p z), [])) is
            (subst (λ (c : List (ℕ × Option (Held T W A))). ◌≡◌ {A = Me (Option (Held T W A)) (View O E W)} (at_post me.0 (Posts p x), carried_after c gives) (at_post me.0 (Posts p x), [])) (sym out) refl),
      )

  pub restyles : (slots id p word_a word_b : ℕ) (me : Me (Option (Held T W A)) (View O E W)) → 0 < p → p < slots → IsPosted word_a → IsPosted word_b → me.0.hand ≡ Empty
      → Allows (OneHistory stands kept entries gives_to) slots id me p (λ n. either (eqb n word_a) word_b n) (same (step slots p word_a word_b none) me)
  restyles slots id p word_a word_b me low high from to empty s r deep at fits =
      let n : ℕ = get_or s.words p 0 in
      exchanged n word_a word_b (λ m. (w : View O E W) × (a : Act (Option (Held T W A))) × Valid s.homes me.1 a × OneHistory stands kept entries gives_to (stepped s p m id me.1 w a) × same (step slots p word_a word_b none) me n (w, carried_after me.1 a))
      (λ hit.
      let g = r.story in
      let ip : IsPlace g.size p = (low, omega (arith, high, deep, r.deep)) in
      let posted : IsPosted n = subst IsPosted (sym hit) from in (
        me.0,
        keeps,
        tt,
        posted_step stands kept entries gives_to s r id p word_b me.0 me.0.hand s.homes
            record {
              at = at;
              place = ip;
              empty = empty;
              before = posted;
              after = to;
              table = word_changed p word_b s.words s.homes;
              out = λ e. e;
              holds = λ q x e. absurd (cc (empty, e));
              lies = subst (λ (vs : List (View O E W)). (u : View O E W) × (x : W) × (get_elem? vs (g.poster p) ≡ some u) × (u.post ≡ Posts p x)
                  × ((get_elem? s.homes p ≡ some (some (Some (Asked x)))) ⊎ ((z : View O E W) × (get_elem? vs g.holder ≡ some z) × (z.hand ≡ Holds p x)))) (sym (set_again s.views id me.0 at)) ((r.place p ip).posted posted);
            },
        refl,
      ))
      (λ miss. (me.0, keeps, tt, stays stands kept entries gives_to s r p id me.1 me.0 me.0.merged at (r.each id me.0 at).merged, refl))

  -- the work of the place is taken
  fetches_it : (slots id p : ℕ) (me : Me (Option (Held T W A)) (View O E W)) (H : List E) → 0 < p → p < slots → me.0.stage ≡ Works H → me.0.hand ≡ Empty
      → (s : State (Option (Held T W A)) (View O E W)) (r : OneHistory stands kept entries gives_to s) → length s.homes ≡ slots → get_elem? s.views id ≡ some me.0 → IsPosted (get_or s.words p 0)
      → (x : W) × (get_elem? s.homes p ≡ some (some (Some (Asked x)))) × OneHistory stands kept entries gives_to (stepped s p (get_or s.words p 0) id me.1 (with_hand me.0 (Holds p x)) (takes p (Some (Asked x))))
  fetches_it slots id p me H low high works empty s r deep at posted =
      let g = r.story in
      let k = (r.each id me.0 at).works H works in
      let own : id ≡ g.holder = k.1 in
      let ip : IsPlace g.size p = (low, omega (arith, high, deep, r.deep)) in
      let laid : get_elem? (set s.homes p none) p ≡ some none = set_here s.homes p none (omega (arith, high, deep)) in
      let h = (r.place p ip).posted posted in
      let x : W = h.1 in
      let w : View O E W = with_hand me.0 (Holds p x) in
      let here : get_elem? (set s.views id w) id ≡ some w = set_here s.views id w (there s.views id me.0 at) in
      let u = view_after stands kept entries gives_to s id me.0 w at (λ (z : View O E W). z.post ≡ Posts p x) (g.poster p) h.0 h.2 (λ _. h.3) (λ is. subst (λ (z : View O E W). z.post ≡ Posts p x) is h.3) in
      ⊎_elim
      (λ (lies : get_elem? s.homes p ≡ some (some (Some (Asked x)))). (
        x,
        lies,
        posted_step stands kept entries gives_to s r id p (get_or s.words p 0) me.0 (Holds p x) (set s.homes p none)
            record {
              at = at;
              place = ip;
              empty = empty;
              before = posted;
              after = posted;
              table = both_changed p (get_or s.words p 0) none s.words s.homes;
              out = λ _. laid;
              holds = λ q y e. (own, k.2, (holds_is e).0, laid);
              lies = (u.0, x, u.1, u.2, inr (w, subst (λ (z : ℕ). get_elem? (set s.views id w) z ≡ some w) own here, refl));
            },
      ))
      (λ (out : (u : View O E W) × (get_elem? s.views g.holder ≡ some u) × (u.hand ≡ Holds p x)).
      let same : out.0 ≡ me.0 = one_there s.views g.holder id out.0 me.0 (sym own) out.1 at in
      let full : me.0.hand ≡ Holds p x = subst (λ (z : View O E W). z.hand ≡ Holds p x) same out.2 in
      absurd (cc (empty, full)))
      h.4

  pub fetches : (slots id p : ℕ) (me : Me (Option (Held T W A)) (View O E W)) (H : List E) → 0 < p → p < slots → me.0.stage ≡ Works H → me.0.hand ≡ Empty → Allows (OneHistory stands kept entries gives_to) slots id me p (λ n. n) (fetched (step slots p 0 0 none) me)
  fetches slots id p me H low high works empty s r deep at fits =
      let n : ℕ = get_or s.words p 0 in
      let miss : (IsPosted n → ⊥) → (w : View O E W) × (a : Act (Option (Held T W A))) × Valid s.homes me.1 a × OneHistory stands kept entries gives_to (stepped s p n id me.1 w a) × fetched (step slots p 0 0 none) me n (w, carried_after me.1 a) =
      λ no. (me.0, keeps, tt, stays stands kept entries gives_to s r p id me.1 me.0 me.0.merged at (r.each id me.0 at).merged, ((λ _. refl), (λ is. absurd (no is)))) in
      dite (dec_le 2 n)
      (λ two. dite (dec_le 6 n)
      (λ big. miss (λ is. let six : n < 6 = is.1 in omega (arith, six, big)))
      (λ small. let posted : IsPosted n = (two, (let z : 6 ≤ n → ⊥ = small in omega (arith, z))) in let h = fetches_it slots id p me H low high works empty s r deep at posted in
      (with_hand me.0 (Holds p h.0), takes p (Some (Asked h.0)), h.1, h.2, ((λ no. absurd (no posted)), (λ _. (h.0, refl))))))
      (λ few. miss (λ is. absurd (few is.0)))

  -- the answer lies at the place, and the history has more entries, of the seat whose work it was
  does_one : (slots id p : ℕ) (me : Me (Option (Held T W A)) (View O E W)) (x : W) (a : A) (old new : T) (s : State (Option (Held T W A)) (View O E W)) (r : OneHistory stands kept entries gives_to s) → 0 < p → p < slots → me.0.stage ≡ Works r.story.log → me.0.hand ≡ Holds p x
      → stands old r.story.log → gives_to x old a new → stands new (r.story.log ++ entries x a new) → length s.homes ≡ slots → get_elem? s.views id ≡ some me.0
      → OneHistory stands kept entries gives_to record { words = set s.words p 6; homes = set s.homes p (some (Some (Answered a))); views = set s.views id (served me.0 r.story.log (entries x a new)) }
  does_one slots id p me x a old new s r low high works hold stood gave stand deep at =
      let g = r.story in
      let es : List E = entries x a new in
      let f = r.each id me.0 at in
      let k = f.hand p x hold in
      let own : id ≡ g.holder = k.0 in
      let held : get_or s.words 0 0 ≡ 0 = k.1 in
      let two : 2 ≤ get_or s.words p 0 = k.3.0 in
      let six : get_or s.words p 0 < 6 = k.3.1 in
      let nz : 0 ≢ p = λ z. omega (arith, z, low) in
      let home : Maybe (Option (Held T W A)) = some (Some (Answered a)) in
      let ws : List ℕ = set s.words p 6 in
      let table = both_changed p 6 home s.words s.homes in
      let we : (q : ℕ) → q ≢ p → get_or ws q 0 ≡ get_or s.words q 0 = table.word_else in
      let now : get_or ws p 0 ≡ 6 = get_or-set_same s.words p 6 0 (omega (arith, high, deep, r.wide, r.deep)) in
      let laid : get_elem? (set s.homes p home) p ≡ some home = set_here s.homes p home (omega (arith, high, deep)) in
      let w : View O E W = served me.0 g.log es in
      let g' : Story E = with_more g es (g.poster p) (put_at g.numbers p (places_behind g.log es)) in
      let numbered : put_at g.numbers p (places_behind g.log es) p ≡ places_behind g.log es = put_here g.numbers p (places_behind g.log es) in
      let h = (r.place p k.2).posted k.3 in
      let x_is : x ≡ h.1 = ⊎_elim
      (λ (lies : get_elem? s.homes p ≡ some (some (Some (Asked h.1)))). absurd (cc (lies, k.4)))
      (λ (from : (u : View O E W) × (get_elem? s.views g.holder ≡ some u) × (u.hand ≡ Holds p h.1)).
      let is : from.0 ≡ me.0 = one_there s.views g.holder id from.0 me.0 (sym own) from.1 at in
      (holds_is (sym hold ∙ subst (λ (z : View O E W). z.hand ≡ Holds p h.1) is from.2)).1) h.4 in
      let asks : h.0.post ≡ Posts p x = subst (λ (z : W). h.0.post ≡ Posts p z) (sym x_is) h.3 in
      let poster_fits = r.each (g.poster p) h.0 h.2 in
      let u = view_after stands kept entries gives_to s id me.0 w at (λ (z : View O E W). (z.post ≡ Posts p x) × (z.known ≡ h.0.known)) (g.poster p) h.0 h.2 (λ _. (asks, refl))
      (λ is. (subst (λ (z : View O E W). z.post ≡ Posts p x) is asks, ap (λ (z : View O E W). z.known) (sym is))) in
      moved stands kept entries gives_to s r g' p id me.0 w ws (set s.homes p home)
      record {
        at = at;
        table = table;
        story = follows_more g p es (g.poster p) (put_at g.numbers p (places_behind g.log es)) (λ q ne. put_else g.numbers p (places_behind g.log es) q ne);
        holder = λ z. refl;
        lock = λ j ne h z. absurd (ne (h ∙ sym own));
        others = λ j ne z ps le. (ps, (λ one. absurd (omega (arith, one, two))), (λ _. omega (arith, now)), (λ is. absurd (omega (arith, is, six))));
        serves = λ j ne z h held ps out. absurd (ne (h ∙ sym own));
        mine = record {
          seen = prefix_more me.0.known.seen g.log es f.seen;
          merged = prefix_more me.0.merged g.log es f.merged;
          mine = mine_before g.log g.owner g.chief id (g.poster p) me.0.known (knows_of f);
          ascends = f.ascends;
          first = f.first;
          opens = λ e. absurd (cc (e));
          works = λ G q. (sym (works_is q), own, we 0 nz ∙ held);
          hand = λ q y z. absurd (cc (z));
          claims = λ q z. let c = f.claims q z in (c.0, c.1, claim_stays s.words ws p q we two c.2);
          posts = λ q y z. let c = f.posts q y z in (c.0, c.1, post_stays s.words ws p q we (omega (arith, now)) c.2, c.3);
        };
        posted = λ q x ne e. (e, refl);
        claim = λ q ne e. e;
        keeps = λ z. inl (sym (we 0 nz) ∙ z);
        still = λ h z. inr refl;
        hand = λ q y ne z. absurd (ne (sym (holds_is (sym hold ∙ z)).0));
        owns = λ k a. a;
        takes = λ y z q is k n. absurd (omega (arith, is, six));
        place = λ _ _. record {
          empty = λ z. absurd (omega (arith, z, now));
          claimed = λ z. absurd (omega (arith, z, now));
          posted = λ z. let lt = z.1 in absurd (omega (arith, lt, now));
          done = λ z. (
            u.0,
            x,
            a,
            u.1,
            u.2.0,
            laid,
            record { old = old; new = new; before = g.log; sees = subst (λ (n : Known O E). IsPrefix n.seen g.log) (sym u.2.1) poster_fits.seen; begins = prefix_self g'.log; here = sym numbered; stood = stood; gave = gave; stand = stand },
            λ n among. put_behind g.owner (length g.log) (g.poster p) n (range_within n (length g.log) (length es) (subst (IsAmong n) numbered among)).0,
          );
        };
        value = λ z. let n : get_or s.words 0 0 ≡ 1 = sym (we 0 nz) ∙ z in absurd (omega (arith, n, held));
        first = λ n e there_is ke. ⊎_elim (λ (q : slice_get g.log n ≡ Some e). inl q)
            (λ (q : (h.0.known.first ≡ true) × IsAmong n (places_behind g.log es)).
            inr (u.0, subst (λ (z : ℕ). get_elem? (set s.views id w) z ≡ some u.0) (poster_fits.first q.0) u.1, inr (p, x, u.2.0, now, subst (IsAmong n) (sym numbered) q.1)))
            (kept_more kept g.log es h.0.known.first (λ off. (poster_fits.posts p x asks).3 off old a new gave) n e there_is ke);
      }

  pub does : (slots id p : ℕ) (me : Me (Option (Held T W A)) (View O E W)) (H : List E) (x : W) (a : A) (old new : T) (es : List E) → es ≡ entries x a new → 0 < p → p < slots → me.0.stage ≡ Works H → me.0.hand ≡ Holds p x → me.1 ≡ (p, Some (Answered a)) ∷ (0, None) ∷ []
      → stands old H → gives_to x old a new → stands new (H ++ entries x a new)
      → Allows (OneHistory stands kept entries gives_to) slots id me p (λ _. 6) (done es (step slots p 6 0 none) me)
  does slots id p me H x a old new es one low high works hold out stood gave stand s r deep at fits =
      let same : H ≡ r.story.log = ((r.each id me.0 at).works H works).0 in
      let rule : OneHistory stands kept entries gives_to (stepped s p 6 id me.1 (served me.0 H (entries x a new)) gives) =
      subst (λ (c : List (ℕ × Option (Held T W A))). OneHistory stands kept entries gives_to (stepped s p 6 id c (served me.0 H (entries x a new)) gives)) (sym out)
      (subst (λ (l : List E). OneHistory stands kept entries gives_to record { words = set s.words p 6; homes = set s.homes p (some (Some (Answered a))); views = set s.views id (served me.0 l (entries x a new)) }) (sym same)
      (does_one slots id p me x a old new s r low high (works ∙ ap Works same) hold (subst (stands old) same stood) gave (subst (λ (l : List E). stands new (l ++ entries x a new)) same stand) deep at)) in
      subst (λ (z : List E). (w : View O E W) × (b : Act (Option (Held T W A))) × Valid s.homes me.1 b × OneHistory stands kept entries gives_to (stepped s p 6 id me.1 w b) × done z (step slots p 6 0 none) me (get_or s.words p 0) (w, carried_after me.1 b)) (sym one)
      (served me.0 H (entries x a new), gives, tt, rule, λ G q. let z : H ≡ G = works_is (sym works ∙ q) in cc (z))

  collects_it : (about : T → O → List E → Type 0) (o : O) → ((x : T) (log : List E) → stands x log → about x o log) → (slots id p : ℕ) (me : Me (Option (Held T W A)) (View O E W)) (x : W) → 0 < p → p < slots → me.0.stage ≡ Idle → me.0.hand ≡ Empty → me.0.post ≡ Posts p x → me.0.known.opening ≡ Some o
      → (s : State (Option (Held T W A)) (View O E W)) (r : OneHistory stands kept entries gives_to s) → length s.homes ≡ slots → get_elem? s.views id ≡ some me.0 → get_or s.words p 0 ≡ 6
      → (w : View O E W) × (b : Act (Option (Held T W A))) × Valid s.homes me.1 b × OneHistory stands kept entries gives_to (stepped s p 1 id me.1 w b)
      × ((a : A) × (old : T) × (new : T) × (log : List E)
      × (◌≡◌ {A = Me (Option (Held T W A)) (View O E W)} (w, carried_after me.1 b) (answered me.0 p log (entries x a new), (p, Some (Answered a)) ∷ me.1))
      × IsPrefix me.0.known.seen log × gives_to x old a new × IfSome me.0.known.opening (λ q. about old q log × about new q (log ++ entries x a new)) × OwnsKept kept w.known × OwnPlaces w.known)
  collects_it about o says slots id p me x low high idle empty post is_o s r deep at hit =
      let g = r.story in
      let f = r.each id me.0 at in
      let b = f.posts p x post in
      let d = (r.place p b.0).done hit in
      let me_is : d.0 ≡ me.0 = one_there s.views (g.poster p) id d.0 me.0 b.1 d.3 at in
      let x_is : d.1 ≡ x = sym (posts_is (sym post ∙ subst (λ (z : View O E W). z.post ≡ Posts p d.1) me_is d.4)).1 in
      let m : Made stands entries gives_to g.log me.0.known.seen x d.2 (g.numbers p) = subst (λ (z : W). Made stands entries gives_to g.log me.0.known.seen z d.2 (g.numbers p)) x_is (subst (λ (z : View O E W). Made stands entries gives_to g.log z.known.seen d.1 d.2 (g.numbers p)) me_is d.6) in
      let a : A = d.2 in
      let H : List E = m.before in
      let es : List E = entries x a m.new in
      let w : View O E W = answered me.0 p H es in
      let next : State (Option (Held T W A)) (View O E W) = stepped s p 1 id me.1 w (takes p (Some (Answered a))) in
      let here : get_elem? (set s.views id w) id ≡ some w = set_here s.views id w (there s.views id me.0 at) in
      let rule : OneHistory stands kept entries gives_to next =
      own_step stands kept entries gives_to s r id p 1 me.0 (told me.0.known H es) (Claims p) none
      record {
        at = at;
        place = b.0;
        idle = idle;
        empty = empty;
        was = inr (inr (x, post));
        unposted = λ ps. let six = ps.1 in omega (arith, six, hit);
        own = λ _. b.1;
        after = inr (inl (refl, refl));
        knows = knows_told g.log H es g.owner g.chief id me.0.known m.sees m.begins f.mine f.ascends f.first (λ n among. d.7 n (subst (IsAmong n) m.here among) ∙ b.1);
        owns = λ n among. among_left n me.0.known.mine (places_behind H es) among;
        takes = λ _ n among. among_right n me.0.known.mine (places_behind H es) (subst (IsAmong n) (sym m.here) among);
      }
      in (
        w,
        takes p (Some (Answered a)),
        d.5,
        rule,
        (
          a,
          m.old,
          m.new,
          H,
          refl,
          m.sees,
          m.gave,
          subst (λ (z : Option O). IfSome z (λ q. about m.old q H × about m.new q (H ++ es))) (sym is_o) (says m.old H m.stood, says m.new (H ++ es) m.stand),
          owns stands kept entries gives_to next rule id w here,
          has_places stands kept entries gives_to next rule id w here,
        ),
      )

  pub collects : (about : T → O → List E → Type 0) (o : O) → ((x : T) (log : List E) → stands x log → about x o log) → (slots id p : ℕ) (me : Me (Option (Held T W A)) (View O E W)) (x : W) → 0 < p → p < slots → me.0.stage ≡ Idle → me.0.hand ≡ Empty → me.0.post ≡ Posts p x → me.0.known.opening ≡ Some o
      → Allows (OneHistory stands kept entries gives_to) slots id me p (λ n. either (eqb n 6) 1 n) (collected about kept entries gives_to (step slots p 6 1 none) me)
  collects about o says slots id p me x low high idle empty post is_o s r deep at fits =
      let n : ℕ = get_or s.words p 0 in
      exchanged n 6 1 (λ m. (w : View O E W) × (a : Act (Option (Held T W A))) × Valid s.homes me.1 a × OneHistory stands kept entries gives_to (stepped s p m id me.1 w a) × collected about kept entries gives_to (step slots p 6 1 none) me n (w, carried_after me.1 a))
      (λ hit. let c = collects_it about o says slots id p me x low high idle empty post is_o s r deep at hit in (
        c.0,
        c.1,
        c.2,
        c.3,
        (
          (λ miss. absurd (miss hit)),
          (λ _ y e. subst (λ (z : W). (a : A) × (old : T) × (new : T) × (log : List E)
              × (◌≡◌ {A = Me (Option (Held T W A)) (View O E W)} (c.0, carried_after me.1 c.1) (answered me.0 p log (entries z a new), (p, Some (Answered a)) ∷ me.1))
              × IsPrefix me.0.known.seen log × gives_to z old a new × IfSome me.0.known.opening (λ q. about old q log × about new q (log ++ entries z a new)) × OwnsKept kept c.0.known × OwnPlaces c.0.known) (posts_is (sym post ∙ e)).1 c.4),
        ),
      ))
      (λ miss. (me.0, keeps, tt, stays stands kept entries gives_to s r p id me.1 me.0 me.0.merged at (r.each id me.0 at).merged, ((λ _. refl), (λ hit. absurd (miss hit)))))

  pub leaves : (slots id p : ℕ) (me : Me (Option (Held T W A)) (View O E W)) → 0 < p → p < slots → me.0.stage ≡ Idle → me.0.hand ≡ Empty → me.0.post ≡ Claims p → me.1 ≡ (p, None) ∷ []
      → Allows (OneHistory stands kept entries gives_to) slots id me p (λ _. 0) (λ _. left (step slots p 0 0 none) me 0)
  leaves slots id p me low high idle empty claim out s r deep at fits =
      let f = r.each id me.0 at in
      let b = f.claims p claim in
      let one : get_or s.words p 0 ≡ 1 = b.2 in
      let rule : OneHistory stands kept entries gives_to (stepped s p 0 id me.1 (at_post me.0 Nowhere) gives) =
      subst (λ (c : List (ℕ × Option (Held T W A))). OneHistory stands kept entries gives_to (stepped s p 0 id c (at_post me.0 Nowhere) gives)) (sym out)
      (own_step stands kept entries gives_to s r id p 0 me.0 me.0.known Nowhere (some None)
      record {
        at = at;
        place = b.0;
        idle = idle;
        empty = empty;
        was = inr (inl claim);
        unposted = λ ps. let two = ps.0 in omega (arith, two, one);
        own = λ _. b.1;
        after = inl (refl, refl, refl);
        knows = knows_of f;
        owns = λ m among. among;
        takes = λ six. absurd (omega (arith, six, one));
      })
      in (at_post me.0 Nowhere, gives, tt, rule, refl)
