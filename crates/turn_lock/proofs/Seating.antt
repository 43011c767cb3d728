-- The first seat, a split and a join keep the rule.
use Rattle.std.proofs.Common.{◌≡◌, ◌≢◌, ℕ, zero, suc, ◌<◌, Bool, true, List, [], ◌∷◌, ◌++◌, length, map, set, get_or, refl, sym, ap, ◌∙◌, subst, inl, inr, ⊎_elim, arith}
use Rattle.std.specs.Prelude.{Some, None, replicate}
use mathlib.Core.Option.{some, some-injective, some-ne-none}
use mathlib.Core.Logic.{dite}
use native.Mathlib.Decide.{ℕ_discrete}
use mathlib.Core.List.{IsPrefix}
use lib.ListN.{get_elem?}
use Rattle.atomic_table.specs.Table.{Splits, Joins, opening}
use Rattle.atomic_table.proofs.Lists.{set_here, set_else, set_again, at_longer}
use Rattle.turn_lock.specs.declared.seat.View.{View}
use Rattle.turn_lock.specs.declared.seat.Held.TheVariants.{Asked}
use Rattle.turn_lock.specs.declared.seat.Stage.TheVariants.{Opens, Idle, Works}
use Rattle.turn_lock.specs.declared.seat.Hand.TheVariants.{Empty, Holds}
use Rattle.turn_lock.specs.declared.seat.Post.TheVariants.{Nowhere, Claims, Posts}
use Rattle.turn_lock.specs.Places.{IsAmong}
use Rattle.turn_lock.specs.Seats.{at_first, split_view, joined_view, spent_view}
use Rattle.turn_lock.specs.Rule.{Story, Fits, HasLock, OneHistory}
use Rattle.turn_lock.proofs.Cases.{off, or_true, instead, instead_other, instead_else}
use Rattle.turn_lock.proofs.Views.{there, one_there, snoc_case, set_each_at}
use Rattle.turn_lock.proofs.Beginnings.{longer_is, shorter_is, longer_most}
use Rattle.turn_lock.proofs.Ordered.{among_merge, merge_left, merge_right, ascends_merge}

abbrev row : ℕ → List ℕ
row n = replicate n 0

zeros : (n p : ℕ) → get_or (row n) p 0 ≡ 0
zeros zero p = refl
zeros (suc n) zero = refl
zeros (suc n) (suc p) = zeros n p

nones : {S : Type 0} (n p : ℕ) (x : S) → p < n → get_elem? (map some (replicate n x)) p ≡ some (some x)
nones zero p x lt = absurd (omega arith)
nones (suc n) zero x lt = refl
nones (suc n) (suc p) x lt = nones n p x (omega arith)

none_long : {S : Type 0} (n : ℕ) (x : S) → length (map some (replicate n x)) ≡ n
none_long zero x = refl
none_long (suc n) x = ap suc (none_long n x)

zeros_long : (n : ℕ) → length (row n) ≡ n
zeros_long zero = refl
zeros_long (suc n) = ap suc (zeros_long n)

module _ {T O E W A : Type 0} (stands : T → List E → Type 0) (kept : E → Bool) (entries : W → A → T → List E) (gives : W → T → A → T → Type 0) where
  pub splits : (id : ℕ) (v : View O E W) → Splits (OneHistory stands kept entries gives) id v v (split_view v)
  splits id v s r at =
      let g = r.story in
      let f = r.each id v at in
      let w : View O E W = split_view v in
      let far : (j : ℕ) (u : View O E W) → get_elem? s.views j ≡ some u → get_elem? (s.views ++ w ∷ []) j ≡ some u = λ j u e. at_longer s.views (w ∷ []) j u e in
      subst (λ (vs : List (View O E W)). OneHistory stands kept entries gives record { words = s.words; homes = s.homes; views = vs ++ w ∷ [] }) (sym (set_again s.views id v at))
      record {
        story = g;
        wide = r.wide;
        deep = r.deep;
        each = λ j u e. ⊎_elim (λ (q : get_elem? s.views j ≡ some u). r.each j u q)
            (λ (q : (j ≡ length s.views) × (w ≡ u)). subst (Fits kept entries gives g (λ p. get_or s.words p 0) (λ p. get_elem? s.homes p) j) q.1
            record { seen = f.seen; merged = (g.log, refl); mine = λ k m. absurd m; ascends = tt; first = λ z. absurd (off z); opens = λ z. absurd (cc (z)); works = λ H z. absurd (cc (z)); hand = λ p x z. absurd (cc (z)); claims = λ p z. absurd (cc (z)); posts = λ p x z. absurd (cc (z)) })
            (snoc_case s.views w u j e);
        place = λ p is. let h = r.place p is in record {
          empty = h.empty;
          claimed = λ z. let d = h.claimed z in (d.0, far (g.poster p) d.0 d.1, d.2);
          posted = λ z. let d = h.posted z in (
            d.0,
            d.1,
            far (g.poster p) d.0 d.2,
            d.3,
            ⊎_elim (λ (a : get_elem? s.homes p ≡ some (some (Some (Asked d.1)))). inl a)
                (λ (a : (u : View O E W) × (get_elem? s.views g.holder ≡ some u) × (u.hand ≡ Holds p d.1)). inr (a.0, far g.holder a.0 a.1, a.2)) d.4,
          );
          done = λ z. let d = h.done z in (d.0, d.1, d.2, far (g.poster p) d.0 d.3, d.4, d.5, d.6, d.7);
        };
        value = r.value;
        held = λ z. let h = r.held z in (h.0, far g.holder h.0 h.1, h.2);
        first = λ k e there_is ke. let h = r.first k e there_is ke in (h.0, far g.chief h.0 h.1, h.2);
      }

  pub joins : (id : ℕ) (v : View O E W) (other : ℕ) (w : View O E W) → v.stage ≡ Idle → v.hand ≡ Empty → v.post ≡ Nowhere → w.stage ≡ Idle → w.hand ≡ Empty → w.post ≡ Nowhere → Joins (OneHistory stands kept entries gives) id v other w (joined_view v w) spent_view
  joins id v other w idle empty nowhere idle' empty' nowhere' s r at apart there' =
      let g = r.story in
      let both : View O E W = joined_view v w in
      let at' : get_elem? s.views other ≡ some w = sym (set_else s.views id other both apart) ∙ there' in
      let f = r.each id v at in
      let h = r.each other w at' in
      let most = longer_most v.known.seen w.known.seen in
      let vs : List (View O E W) = set s.views id both in
      let g' : Story E = record { size = g.size; log = g.log; owner = λ k. instead id other (g.owner k); poster = g.poster; numbers = g.numbers; holder = g.holder; chief = instead id other g.chief } in
      let ends : get_elem? (set vs other spent_view) id ≡ some both = set_else vs other id spent_view (λ z. apart (sym z)) ∙ set_here s.views id both (there s.views id v at) in
      let id_stays : instead id other id ≡ id = instead_else id other id (λ z. apart (sym z)) in
      let far : (j : ℕ) (u : View O E W) → j ≢ id → j ≢ other → get_elem? s.views j ≡ some u → get_elem? (set vs other spent_view) j ≡ some u =
      λ j u ne ne' e. set_else vs other j spent_view ne' ∙ (set_else s.views id j both ne ∙ e) in
      let waits : (p : ℕ) (u : View O E W) (x : W) → get_elem? s.views (g.poster p) ≡ some u → u.post ≡ Posts p x → get_elem? (set vs other spent_view) (g.poster p) ≡ some u =
      λ p u x e posts. far (g.poster p) u
      (λ z. let is : u ≡ v = one_there s.views (g.poster p) id u v z e at in let q : v.post ≡ Posts p x = subst (λ (y : View O E W). y.post ≡ Posts p x) is posts in absurd (cc (nowhere, q)))
      (λ z. let is : u ≡ w = one_there s.views (g.poster p) other u w z e at' in let q : w.post ≡ Posts p x = subst (λ (y : View O E W). y.post ≡ Posts p x) is posts in absurd (cc (nowhere', q)))
      e in
      record {
        story = g';
        wide = r.wide;
        deep = r.deep;
        each = set_each_at (Fits kept entries gives g' (λ p. get_or s.words p 0) (λ p. get_elem? s.homes p)) vs other spent_view
            record { seen = (g.log, refl); merged = (g.log, refl); mine = λ k m. absurd m; ascends = tt; first = λ z. absurd (off z); opens = λ z. absurd (cc (z)); works = λ H z. absurd (cc (z)); hand = λ p x z. absurd (cc (z)); claims = λ p z. absurd (cc (z)); posts = λ p x z. absurd (cc (z)) }
            (λ j u no e. set_each_at (λ i y. i ≢ other → Fits kept entries gives g' (λ p. get_or s.words p 0) (λ p. get_elem? s.homes p) i y) s.views id both
            (λ _. record {
              seen = longer_is (λ (l : List E). IsPrefix l g.log) v.known.seen w.known.seen f.seen h.seen;
              merged = shorter_is (λ (l : List E). IsPrefix l g.log) v.known.seen w.known.seen f.seen h.seen;
              mine = λ k m. ⊎_elim (λ (a : IsAmong k v.known.mine). let b = f.mine k a in let lt : k < length v.known.seen = b.0 in (omega (arith, lt, most.0), ap (instead id other) b.1 ∙ id_stays))
                  (λ (a : IsAmong k w.known.mine). let b = h.mine k a in let lt : k < length w.known.seen = b.0 in (omega (arith, lt, most.1), instead_other id other (g.owner k) b.1)) (among_merge k v.known.mine w.known.mine m);
              ascends = ascends_merge v.known.mine w.known.mine f.ascends h.ascends (λ k m n. apart (sym (h.mine k n).1 ∙ (f.mine k m).1));
              first = λ z. ⊎_elim (λ (a : v.known.first ≡ true). sym id_stays ∙ ap (instead id other) (f.first a)) (λ (a : w.known.first ≡ true). sym (instead_other id other g.chief (sym (h.first a)))) (or_true v.known.first w.known.first z);
              opens = λ z. absurd (cc (idle, z));
              works = λ H z. absurd (cc (idle, z));
              hand = λ p x z. absurd (cc (empty, z));
              claims = λ p z. absurd (cc (nowhere, z));
              posts = λ p x z. absurd (cc (nowhere, z));
            })
            (λ i y ne z no. let q = r.each i y z in record {
              seen = q.seen;
              merged = q.merged;
              mine = λ k m. let b = q.mine k m in (b.0, instead_else id other (g.owner k) (λ a. no (sym b.1 ∙ a)) ∙ b.1);
              ascends = q.ascends;
              first = λ a. let is : i ≡ g.chief = q.first a in is ∙ sym (instead_else id other g.chief (λ c. no (is ∙ c)));
              opens = q.opens;
              works = q.works;
              hand = q.hand;
              claims = q.claims;
              posts = q.posts;
            }) j u e no);
        place = λ p is. let d = r.place p is in record {
          empty = d.empty;
          claimed = λ z. let c = d.claimed z in (
            c.0,
            far (g.poster p) c.0
                (λ y. let is : c.0 ≡ v = one_there s.views (g.poster p) id c.0 v y c.1 at in let q : v.post ≡ Claims p = subst (λ (t : View O E W). t.post ≡ Claims p) is c.2 in absurd (cc (nowhere, q)))
                (λ y. let is : c.0 ≡ w = one_there s.views (g.poster p) other c.0 w y c.1 at' in let q : w.post ≡ Claims p = subst (λ (t : View O E W). t.post ≡ Claims p) is c.2 in absurd (cc (nowhere', q)))
                c.1,
            c.2,
          );
          posted = λ z. let c = d.posted z in (
            c.0,
            c.1,
            waits p c.0 c.1 c.2 c.3,
            c.3,
            ⊎_elim (λ (a : get_elem? s.homes p ≡ some (some (Some (Asked c.1)))). inl a)
                (λ (a : (u : View O E W) × (get_elem? s.views g.holder ≡ some u) × (u.hand ≡ Holds p c.1)). inr (
                  a.0,
                  far g.holder a.0
                      (λ y. let is : a.0 ≡ v = one_there s.views g.holder id a.0 v y a.1 at in let q : v.hand ≡ Holds p c.1 = subst (λ (t : View O E W). t.hand ≡ Holds p c.1) is a.2 in absurd (cc (empty, q)))
                      (λ y. let is : a.0 ≡ w = one_there s.views g.holder other a.0 w y a.1 at' in let q : w.hand ≡ Holds p c.1 = subst (λ (t : View O E W). t.hand ≡ Holds p c.1) is a.2 in absurd (cc (empty', q)))
                      a.1,
                  a.2,
                )) c.4,
          );
          done = λ z. let c = d.done z in (
            c.0,
            c.1,
            c.2,
            waits p c.0 c.1 c.3 c.4,
            c.4,
            c.5,
            c.6,
            λ k among. ap (instead id other) (c.7 k among) ∙ instead_else id other (g.poster p)
                (λ y. let is : c.0 ≡ w = one_there s.views (g.poster p) other c.0 w y c.3 at' in let q : w.post ≡ Posts p c.1 = subst (λ (t : View O E W). t.post ≡ Posts p c.1) is c.4 in absurd (cc (nowhere', q))),
          );
        };
        value = r.value;
        held = λ z. let c = r.held z in (
          c.0,
          far g.holder c.0
              (λ y. rests v idle (subst (λ (t : View O E W). HasLock g.log t) (one_there s.views g.holder id c.0 v y c.1 at) c.2))
              (λ y. rests w idle' (subst (λ (t : View O E W). HasLock g.log t) (one_there s.views g.holder other c.0 w y c.1 at') c.2))
              c.1,
          c.2,
        );
        first = λ k e there_is ke. let q = r.first k e there_is ke in
            dite (ℕ_discrete g.chief other)
            (λ is. let same : q.0 ≡ w = one_there s.views g.chief other q.0 w is q.1 at' in (
              both,
              subst (λ (z : ℕ). get_elem? (set vs other spent_view) z ≡ some both) (sym (instead_other id other g.chief is)) ends,
              ⊎_elim (λ (a : IsAmong k q.0.known.mine). inl (merge_right k v.known.mine w.known.mine (subst (λ (z : View O E W). IsAmong k z.known.mine) same a)))
                  (λ (a : (p : ℕ) × (x : W) × (q.0.post ≡ Posts p x) × (get_or s.words p 0 ≡ 6) × IsAmong k (g.numbers p)). let c : w.post ≡ Posts a.0 a.1 = subst (λ (z : View O E W). z.post ≡ Posts a.0 a.1) same a.2 in absurd (cc (nowhere', c))) q.2,
            ))
            (λ no. let stays : instead id other g.chief ≡ g.chief = instead_else id other g.chief no in
            dite (ℕ_discrete g.chief id)
            (λ is. let same : q.0 ≡ v = one_there s.views g.chief id q.0 v is q.1 at in (
              both,
              subst (λ (z : ℕ). get_elem? (set vs other spent_view) z ≡ some both) (sym (stays ∙ is)) ends,
              ⊎_elim (λ (a : IsAmong k q.0.known.mine). inl (merge_left k v.known.mine w.known.mine (subst (λ (z : View O E W). IsAmong k z.known.mine) same a)))
                  (λ (a : (p : ℕ) × (x : W) × (q.0.post ≡ Posts p x) × (get_or s.words p 0 ≡ 6) × IsAmong k (g.numbers p)). let c : v.post ≡ Posts a.0 a.1 = subst (λ (z : View O E W). z.post ≡ Posts a.0 a.1) same a.2 in absurd (cc (nowhere, c))) q.2,
            ))
            (λ not_id. (q.0, subst (λ (z : ℕ). get_elem? (set vs other spent_view) z ≡ some q.0) (sym stays) (far g.chief q.0 not_id no q.1), q.2)));
      }
    where
      rests : {log : List E} (v : View O E W) → v.stage ≡ Idle → HasLock log v → ⊥
      rests {log} v idle h = ⊎_elim (λ (a : v.stage ≡ Opens). cc (idle, a)) (λ (a : v.stage ≡ Works log). cc (idle, a)) h

  pub begins : (o : O) (n : ℕ) → 0 < n → OneHistory stands kept entries gives (opening (row n) (replicate n None) (at_first o))
  begins o n some_words = record {
    story = record { size = n; log = []; owner = λ k. 0; poster = λ p. 0; numbers = λ p. []; holder = 0; chief = 0 };
    wide = zeros_long n;
    deep = none_long n None;
    each = λ j v e. one (λ i u. Fits kept entries gives record { size = n; log = []; owner = λ k. 0; poster = λ p. 0; numbers = λ p. []; holder = 0; chief = 0 } (λ p. get_or (row n) p 0) (λ p. get_elem? (map some (replicate n None)) p) i u)
        record { seen = ([], refl); merged = ([], refl); mine = λ k m. absurd m; ascends = tt; first = λ z. refl; opens = λ z. (refl, refl, zeros n 0, nones n 0 None some_words); works = λ H z. absurd (cc (z)); hand = λ p x z. absurd (cc (z)); claims = λ p z. absurd (cc (z)); posts = λ p x z. absurd (cc (z)) } j v e;
    place = λ p is. let z = zeros n p in record { empty = λ e. nones n p None is.1; claimed = λ e. absurd (omega (arith, e, z)); posted = λ e. let two = e.0 in absurd (omega (arith, two, z)); done = λ e. absurd (omega (arith, e, z)) };
    value = λ e. let z = zeros n 0 in absurd (omega (arith, e, z));
    held = λ e. (at_first o, refl, inl refl);
    first = λ k e there_is ke. absurd (cc (there_is));
  }
    where
      one : (P : ℕ → View O E W → Type 0) → P 0 (at_first o) → (j : ℕ) (v : View O E W) → get_elem? (at_first o ∷ []) j ≡ some v → P j v
      one P p zero v e = subst (P 0) (some-injective _ _ e) p
      one P p (suc j) v e = absurd (some-ne-none v (sym e))
