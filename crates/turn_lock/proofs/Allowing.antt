-- Each step of a turn at the lock itself keeps the rule, and tells what it tells.
use Rattle.std.proofs.Common.{◌≡◌, ℕ, ◌<◌, eqb, Bool, true, false, List, [], ◌∷◌, length, set, get_or, refl, sym, ap, ◌∙◌, subst, inl, inr, ⊎_elim, arith}
use Rattle.std.specs.Prelude.{Option, Some, None, IfSome, slice_get}
use Rattle.std.proofs.lemmas.List.{set-get_or}
use mathlib.Core.Option.{some, none}
use mathlib.Core.List.{IsPrefix}
use lib.ListN.{get_elem?}
use prog.Atomic.{either}
use Rattle.atomic_table.specs.Table.{State, Me, Act, Valid, carried_after, step, stepped, keeps, takes, gives, Allows}
use Rattle.atomic_table.proofs.Lists.{set_here, exchanged}
use Rattle.turn_lock.specs.declared.seat.View.{View}
use Rattle.turn_lock.specs.declared.seat.Held.{Held}
use Rattle.turn_lock.specs.declared.seat.Held.TheVariants.{Value}
use Rattle.turn_lock.specs.declared.seat.Stage.TheVariants.{Opens, Idle, Works}
use Rattle.turn_lock.specs.declared.seat.Hand.TheVariants.{Empty}
use Rattle.turn_lock.specs.declared.seat.Post.TheVariants.{Nowhere}
use Rattle.turn_lock.specs.Places.{IsAmong}
use Rattle.turn_lock.specs.Turned.{NoneKept}
use Rattle.turn_lock.specs.Seats.{places_behind, at_stage, worked}
use Rattle.turn_lock.specs.Rule.{Story, OneHistory}
use Rattle.turn_lock.specs.Tells.{opened, locked, added, freed, compared}
use Rattle.turn_lock.proofs.Cases.{works_is, put_behind}
use Rattle.turn_lock.proofs.Views.{there}
use Rattle.turn_lock.proofs.Beginnings.{prefix_self, prefix_more, prefix_shorter}
use Rattle.turn_lock.proofs.Ordered.{among_left, among_right, range_within}
use Rattle.turn_lock.proofs.Moving.{none_changed, with_more, follows_seats, follows_more, moved, owns, has_places}
use Rattle.turn_lock.proofs.Stepping.{lock_step, kept_more, knows_of, knows_told, mine_before}

module _ {T O E W A : Type 0} (stands : T → List E → Type 0) (kept : E → Bool) (entries : W → A → T → List E) (gives_to : W → T → A → T → Type 0) where
  -- a step that changes no word
  pub stays : (s : State (Option (Held T W A)) (View O E W)) (r : OneHistory stands kept entries gives_to s) (i id : ℕ) (cs : List (ℕ × Option (Held T W A))) (v : View O E W) (m : List E) → get_elem? s.views id ≡ some v → IsPrefix m r.story.log
      → OneHistory stands kept entries gives_to (stepped s i (get_or s.words i 0) id cs (record { known = v.known; merged = m; stage = v.stage; hand = v.hand; post = v.post }) keeps)
  stays s r i id cs v m at pre =
      let g = r.story in
      let f = r.each id v at in
      let w : View O E W = record { known = v.known; merged = m; stage = v.stage; hand = v.hand; post = v.post } in
      subst (λ (ws : List ℕ). OneHistory stands kept entries gives_to record { words = ws; homes = s.homes; views = set s.views id w }) (sym (set-get_or s.words i 0))
      (moved stands kept entries gives_to s r g 0 id v w s.words s.homes
      record {
        at = at;
        table = none_changed 0 s.words s.homes;
        story = follows_seats g 0 g.poster g.holder (λ q ne. refl);
        holder = λ z. refl;
        lock = λ j ne h z. (refl, z, refl);
        others = λ j ne z ps one. absurd (omega (arith, z));
        serves = λ j ne z h held ps out. absurd (omega (arith, z));
        mine = record {
          seen = f.seen;
          merged = pre;
          mine = f.mine;
          ascends = f.ascends;
          first = f.first;
          opens = f.opens;
          works = f.works;
          hand = f.hand;
          claims = f.claims;
          posts = f.posts;
        };
        posted = λ q x ne e. (e, refl);
        claim = λ q ne e. e;
        keeps = λ z. inl z;
        still = λ h z. h;
        hand = λ q x ne e. e;
        owns = λ k a. a;
        takes = λ x z e six k n. absurd (omega (arith, z));
        place = λ z lt. absurd (omega (arith, z));
        value = r.value;
        first = λ k e there_is ke. inl there_is;
      })

  pub compares : (slots id : ℕ) (me : Me (Option (Held T W A)) (View O E W)) → Allows (OneHistory stands kept entries gives_to) slots id me 0 (λ n. n) (compared kept (step slots 0 0 0 none) me)
  compares slots id me s r deep at fits =
      let f = r.each id me.0 at in
      let w : View O E W = record { known = me.0.known; merged = []; stage = me.0.stage; hand = me.0.hand; post = me.0.post } in
      (w, keeps, tt, stays s r 0 id me.1 me.0 [] at (r.story.log, refl), (refl, (λ le. prefix_shorter me.0.merged me.0.known.seen r.story.log f.merged f.seen le), owns stands kept entries gives_to s r id me.0 at, has_places stands kept entries gives_to s r id me.0 at))

  pub opens : (slots id : ℕ) (me : Me (Option (Held T W A)) (View O E W)) → me.0.stage ≡ Opens → me.0.hand ≡ Empty → me.0.post ≡ Nowhere → Allows (OneHistory stands kept entries gives_to) slots id me 0 (λ n. n) (opened (step slots 0 0 0 none) me)
  opens slots id me is_open empty nowhere s r deep at fits =
      let b = (r.each id me.0 at).opens is_open in (
        at_stage me.0 (Works []),
        takes 0 None,
        b.3,
        lock_step stands kept entries gives_to s r id (get_or s.words 0 0) me.0 (Works []) none at (there s.homes 0 (some None) b.3) empty (λ _. b.1) (inl (b.2, ap Works (sym b.0))),
        refl,
      )

  pub locks : (about : T → O → List E → Type 0) (o : O) → ((x : T) (log : List E) → stands x log → about x o log) → (slots id : ℕ) (me : Me (Option (Held T W A)) (View O E W)) → me.0.stage ≡ Idle → me.0.hand ≡ Empty → me.0.known.opening ≡ Some o
      → Allows (OneHistory stands kept entries gives_to) slots id me 0 (λ n. either (eqb n 1) 0 n) (locked about (step slots 0 1 0 none) me)
  locks about o says slots id me idle empty is_o s r deep at fits =
      let n : ℕ = get_or s.words 0 0 in
      let log : List E = r.story.log in
      exchanged n 1 0 (λ m. (w : View O E W) × (a : Act (Option (Held T W A))) × Valid s.homes me.1 a × OneHistory stands kept entries gives_to (stepped s 0 m id me.1 w a) × locked about (step slots 0 1 0 none) me n (w, carried_after me.1 a))
      (λ hit. let h = r.value hit in (
        at_stage me.0 (Works log),
        takes 0 (Some (Value h.0)),
        h.1,
        lock_step stands kept entries gives_to s r id 0 me.0 (Works log) none at (there s.homes 0 (some (Some (Value h.0))) h.1) empty (λ z. absurd (omega (arith, hit, z))) (inl (refl, refl)),
        ((λ miss. absurd (miss hit)), (λ _. (h.0, log, refl, subst (λ (z : Option O). IfSome z (λ q. about h.0 q log)) (sym is_o) (says h.0 log h.2)))),
      ))
      (λ miss. (me.0, keeps, tt, stays s r 0 id me.1 me.0 me.0.merged at (r.each id me.0 at).merged, ((λ _. refl), (λ hit. absurd (miss hit)))))

  pub frees : (slots id : ℕ) (me : Me (Option (Held T W A)) (View O E W)) (H : List E) (x : T) → 0 < slots → me.0.stage ≡ Works H → me.0.hand ≡ Empty → me.1 ≡ (0, Some (Value x)) ∷ [] → stands x H
      → Allows (OneHistory stands kept entries gives_to) slots id me 0 (λ _. 1) (λ _. freed (step slots 0 1 0 none) me 1)
  frees slots id me H x some_slots works empty out is_x s r deep at fits =
      let b = (r.each id me.0 at).works H works in
      let rule : OneHistory stands kept entries gives_to (stepped s 0 1 id me.1 (at_stage me.0 Idle) gives) =
      subst (λ (c : List (ℕ × Option (Held T W A))). OneHistory stands kept entries gives_to (stepped s 0 1 id c (at_stage me.0 Idle) gives)) (sym out)
      (lock_step stands kept entries gives_to s r id 1 me.0 Idle (some (Some (Value x))) at (omega (arith, deep, some_slots)) empty (λ _. b.1) (inr (refl, refl, x, refl, subst (stands x) b.0 is_x))) in
      (at_stage me.0 Idle, gives, tt, rule, refl)

  -- the history has more entries, of the seat that works
  adds_one : (s : State (Option (Held T W A)) (View O E W)) (r : OneHistory stands kept entries gives_to s) (id : ℕ) (v : View O E W) (es : List E) → get_elem? s.views id ≡ some v → v.stage ≡ Works r.story.log → v.hand ≡ Empty → v.post ≡ Nowhere → (v.known.first ≡ false → NoneKept kept es)
      → OneHistory stands kept entries gives_to record { words = s.words; homes = s.homes; views = set s.views id (worked v r.story.log es) }
  adds_one s r id v es at works empty nowhere may =
      let g = r.story in
      let f = r.each id v at in
      let own : id ≡ g.holder = (f.works g.log works).1 in
      let held : get_or s.words 0 0 ≡ 0 = (f.works g.log works).2 in
      let w : View O E W = worked v g.log es in
      let g' : Story E = with_more g es id g.numbers in
      let k = knows_told g'.log g.log es g'.owner g.chief id v.known f.seen (prefix_self g'.log) (mine_before g.log g.owner g.chief id id v.known (knows_of f)) f.ascends f.first
      (λ n among. put_behind g.owner (length g.log) id n (range_within n (length g.log) (length es) among).0) in
      moved stands kept entries gives_to s r g' 0 id v w s.words s.homes
      record {
        at = at;
        table = none_changed 0 s.words s.homes;
        story = follows_more g 0 es id g.numbers (λ q ne. refl);
        holder = λ z. refl;
        lock = λ j ne h z. absurd (ne (h ∙ sym own));
        others = λ j ne z ps one. absurd (omega (arith, z));
        serves = λ j ne z h held ps out. absurd (omega (arith, z));
        mine = record {
          seen = k.seen;
          merged = prefix_more v.merged g.log es f.merged;
          mine = k.mine;
          ascends = k.ascends;
          first = k.first;
          opens = λ e. absurd (cc (e));
          works = λ G e. (sym (works_is e), own, held);
          hand = λ q x e. absurd (cc (empty, e));
          claims = λ q e. absurd (cc (nowhere, e));
          posts = λ q x e. absurd (cc (nowhere, e));
        };
        posted = λ q x ne e. absurd (cc (nowhere, e));
        claim = λ q ne e. e;
        keeps = λ z. inl z;
        still = λ h z. inr refl;
        hand = λ q x ne e. e;
        owns = λ n a. among_left n v.known.mine (places_behind g.log es) a;
        takes = λ x z e six n a. absurd (omega (arith, z));
        place = λ z lt. absurd (omega (arith, z));
        value = λ z. absurd (omega (arith, z, held));
        first = λ n e there_is ke. ⊎_elim (λ (q : slice_get g.log n ≡ Some e). inl q)
            (λ (q : (v.known.first ≡ true) × IsAmong n (places_behind g.log es)).
            inr (w, subst (λ (z : ℕ). get_elem? (set s.views id w) z ≡ some w) (f.first q.0) (set_here s.views id w (there s.views id v at)), inl (among_right n v.known.mine (places_behind g.log es) q.1)))
            (kept_more kept g.log es v.known.first may n e there_is ke);
      }

  pub adds : (slots id : ℕ) (me : Me (Option (Held T W A)) (View O E W)) (H : List E) (es : List E) → me.0.stage ≡ Works H → me.0.hand ≡ Empty → me.0.post ≡ Nowhere → (me.0.known.first ≡ false → NoneKept kept es)
      → Allows (OneHistory stands kept entries gives_to) slots id me 0 (λ n. n) (added kept es (step slots 0 0 0 none) me)
  adds slots id me H es works empty nowhere may s r deep at fits =
      let f = r.each id me.0 at in
      let same : H ≡ r.story.log = (f.works H works).0 in
      let w : View O E W = worked me.0 H es in
      let next : State (Option (Held T W A)) (View O E W) = stepped s 0 (get_or s.words 0 0) id me.1 w keeps in
      let here : get_elem? (set s.views id w) id ≡ some w = set_here s.views id w (there s.views id me.0 at) in
      let rule : OneHistory stands kept entries gives_to next =
      subst (λ (l : List E). OneHistory stands kept entries gives_to (stepped s 0 (get_or s.words 0 0) id me.1 (worked me.0 l es) keeps)) (sym same)
      (subst (λ (ws : List ℕ). OneHistory stands kept entries gives_to record { words = ws; homes = s.homes; views = set s.views id (worked me.0 r.story.log es) }) (sym (set-get_or s.words 0 0))
      (adds_one s r id me.0 es at (works ∙ ap Works same) empty nowhere may)) in
      (w, keeps, tt, rule, λ G q. let z : H ≡ G = works_is (sym works ∙ q) in (cc (z), subst (IsPrefix me.0.known.seen) (sym same ∙ z) f.seen, owns stands kept entries gives_to next rule id w here, has_places stands kept entries gives_to next rule id w here))
