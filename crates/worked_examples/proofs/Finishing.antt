-- Forms whose beginnings can be finished.
use Rattle.std.proofs.Common.{◌≡◌, ◌⊎◌, inl, inr, ◌+◌, ◌≤◌, ℕ, zero, suc, Bool, true, false, refl, sym, ap, subst, List, [], ◌∷◌, ◌++◌, length, arith, length-append}
use Rattle.std.specs.Prelude.{flat_map, Option, Some, None}
use Rattle.std.proofs.lemmas.List.{append_assoc}
use Rattle.byte_text.specs.Names.{Bytes}
use Rattle.world_model.specs.Grammar.{Due, Reading, spells, runs_out, Form, go_on, ◌>>=◌, done, ◌or◌, one_of, where_, read_as, one_word, at_most_times, repeated}
use Rattle.world_model.specs.FormLaws.{Each, Out, Spells, Takes, spells_left, spells_right}
use Rattle.world_model.specs.PrefixLaws.{enough}
use Rattle.world_model.specs.MadeForms.{Makes, Said, makes_any, makes_repeated}

-- readings stay when words are added
abbrev pub Extends : {A : Type 0} → Form A → Type 0
Extends {A = A} f = (ws more : List Bytes) (a : A) (rest : List Bytes) → Spells a rest (f ws) → Spells a (rest ++ more) (f (ws ++ more))

-- more words spell a value with all words used
abbrev pub Finished : {A : Type 0} → Form A → List Bytes → Type 0
Finished {A = A} f ws = (more : List Bytes) × (a : A) × Spells a [] (f (ws ++ more))

-- words that ran out can be finished
abbrev pub Goes : {A : Type 0} → Form A → Type 0
Goes f = (ws : List Bytes) → Out (f ws) → Finished f ws

pub record Weak {A : Type 0} (f : Form A) : Type 0 where
  pub extends : Extends f
  pub goes : Goes f

pub record Good {A : Type 0} (f : Form A) : Type 0 where
  pub weak : Weak f
  pub start : Finished f []

-- readings of two lists

out_split : {A : Type 0} (xs ys : List (Reading A)) → Out (xs ++ ys) → Out xs ⊎ Out ys
out_split [] ys o = inr o
out_split (spells a rest ∷ xs) ys o = out_split xs ys o
out_split (runs_out due ∷ xs) ys o = inl tt

spells_split : {A : Type 0} (a : A) (rest : List Bytes) (xs ys : List (Reading A)) → Spells a rest (xs ++ ys) → Spells a rest xs ⊎ Spells a rest ys
spells_split a rest [] ys s = inr s
spells_split a rest (spells b other ∷ xs) ys (inl e) = inl (inl e)
spells_split a rest (spells b other ∷ xs) ys (inr s) = lifted (spells_split a rest xs ys s)
  where
    lifted : Spells a rest xs ⊎ Spells a rest ys → Spells a rest (spells b other ∷ xs) ⊎ Spells a rest ys
    lifted (inl t) = inl (inr t)
    lifted (inr t) = inr t
spells_split a rest (runs_out due ∷ xs) ys s = spells_split a rest xs ys s

-- what is spelled behind a form

module _ {A B : Type 0} (g : A → Form B) where
  pub through : (a : A) (mid : List Bytes) (b : B) (rest : List Bytes) (rs : List (Reading A)) → Spells a mid rs → Spells b rest (g a mid) → Spells b rest (flat_map (go_on g) rs)
  through a mid b rest [] s t = absurd s
  through a mid b rest (spells c other ∷ rs) (inl e) t = spells_left b rest (g c other) (flat_map (go_on g) rs) (subst (λ x. Spells b rest (g x other)) (sym e.0) (subst (λ l. Spells b rest (g a l)) (sym e.1) t))
  through a mid b rest (spells c other ∷ rs) (inr s) t = spells_right b rest (g c other) (flat_map (go_on g) rs) (through a mid b rest rs s t)
  through a mid b rest (runs_out due ∷ rs) s t = through a mid b rest rs s t

  abbrev Came : B → List Bytes → List (Reading A) → Type 0
  Came b rest rs = (a : A) × (mid : List Bytes) × Spells a mid rs × Spells b rest (g a mid)

  came_more : (b : B) (rest : List Bytes) (r : Reading A) (rs : List (Reading A)) → Came b rest rs → Came b rest (r ∷ rs)
  came_more b rest (spells c other) rs x = (x.0, x.1, inr x.2, x.3)
  came_more b rest (runs_out due) rs x = (x.0, x.1, x.2, x.3)

  came : (b : B) (rest : List Bytes) (rs : List (Reading A)) → Spells b rest (flat_map (go_on g) rs) → Came b rest rs
  came b rest [] s = absurd s
  came b rest (spells c other ∷ rs) s = picked (spells_split b rest (g c other) (flat_map (go_on g) rs) s) (came b rest rs)
    where
      picked : Spells b rest (g c other) ⊎ Spells b rest (flat_map (go_on g) rs) → (Spells b rest (flat_map (go_on g) rs) → Came b rest rs) → Came b rest (spells c other ∷ rs)
      picked (inl t) ih = (c, other, inl (refl, refl), t)
      picked (inr t) ih = came_more b rest (spells c other) rs (ih t)
  came b rest (runs_out due ∷ rs) s = came_more b rest (runs_out due) rs (came b rest rs s)

  -- the words ran out in the first form, or behind it
  abbrev RanOut : List (Reading A) → Type 0
  RanOut rs = Out rs ⊎ ((a : A) × (mid : List Bytes) × Spells a mid rs × Out (g a mid))

  ran_more : (r : Reading A) (rs : List (Reading A)) → RanOut rs → RanOut (r ∷ rs)
  ran_more (spells c other) rs (inl o) = inl o
  ran_more (spells c other) rs (inr x) = inr (x.0, x.1, inr x.2, x.3)
  ran_more (runs_out due) rs (inl o) = inl tt
  ran_more (runs_out due) rs (inr x) = inr (x.0, x.1, x.2, x.3)

  ran : (rs : List (Reading A)) → Out (flat_map (go_on g) rs) → RanOut rs
  ran [] o = absurd o
  ran (spells c other ∷ rs) o = picked (out_split (g c other) (flat_map (go_on g) rs) o) (ran rs)
    where
      picked : Out (g c other) ⊎ Out (flat_map (go_on g) rs) → (Out (flat_map (go_on g) rs) → RanOut rs) → RanOut (spells c other ∷ rs)
      picked (inl p) ih = inr (c, other, inl (refl, refl), p)
      picked (inr p) ih = ran_more (spells c other) rs (ih p)
  ran (runs_out due ∷ rs) o = inl tt

said_of : {A : Type 0} (P : A → Type 0) (a : A) (rest : List Bytes) (rs : List (Reading A)) → Each (Said P) rs → Spells a rest rs → P a
said_of P a rest [] all s = absurd s
said_of P a rest (spells b other ∷ rs) all (inl e) = subst P e.0 all.0
said_of P a rest (spells b other ∷ rs) all (inr s) = said_of P a rest rs all.1 s
said_of P a rest (runs_out due ∷ rs) all s = said_of P a rest rs all.1 s

-- combinators

pub weak_done : {A : Type 0} (a : A) → Weak (done a)
weak_done {A = A} a = record { extends = λ ws more b rest s. extended ws more b rest s; goes = λ ws o. absurd o }
  where
    extended : (ws more : List Bytes) (b : A) (rest : List Bytes) → Spells b rest (done a ws) → Spells b (rest ++ more) (done a (ws ++ more))
    extended ws more b rest (inl e) = inl (e.0, ap (λ l. l ++ more) e.1)
    extended ws more b rest (inr s) = absurd s

pub good_done : {A : Type 0} (a : A) → Good (done a)
good_done a = record { weak = weak_done a; start = ([], a, inl (refl, refl)) }

pub weak_or : {A : Type 0} (f g : Form A) → Weak f → Weak g → Weak (f or g)
weak_or {A = A} f g p q = record { extends = λ ws more a rest s. extended ws more a rest (spells_split a rest (f ws) (g ws) s); goes = λ ws o. goes ws (out_split (f ws) (g ws) o) }
  where
    extended : (ws more : List Bytes) (a : A) (rest : List Bytes) → Spells a rest (f ws) ⊎ Spells a rest (g ws) → Spells a (rest ++ more) (f (ws ++ more) ++ g (ws ++ more))
    extended ws more a rest (inl s) = spells_left a (rest ++ more) (f (ws ++ more)) (g (ws ++ more)) (p.extends ws more a rest s)
    extended ws more a rest (inr s) = spells_right a (rest ++ more) (f (ws ++ more)) (g (ws ++ more)) (q.extends ws more a rest s)

    goes : (ws : List Bytes) → Out (f ws) ⊎ Out (g ws) → Finished (f or g) ws
    goes ws (inl o) = let x = p.goes ws o in (x.0, x.1, spells_left x.1 [] (f (ws ++ x.0)) (g (ws ++ x.0)) x.2)
    goes ws (inr o) = let x = q.goes ws o in (x.0, x.1, spells_right x.1 [] (f (ws ++ x.0)) (g (ws ++ x.0)) x.2)

pub good_or : {A : Type 0} (f g : Form A) → Good f → Good g → Good (f or g)
good_or f g p q = record { weak = weak_or f g p.weak q.weak; start = (p.start.0, p.start.1, spells_left p.start.1 [] (f p.start.0) (g p.start.0) p.start.2) }

pub good_or_weak : {A : Type 0} (f g : Form A) → Good f → Weak g → Good (f or g)
good_or_weak f g p q = record { weak = weak_or f g p.weak q; start = (p.start.0, p.start.1, spells_left p.start.1 [] (f p.start.0) (g p.start.0) p.start.2) }

pub weak_none : {A : Type 0} → Weak (one_of {A = A} [])
weak_none = record { extends = λ ws more a rest s. absurd s; goes = λ ws o. absurd o }

pub weak_where : {A : Type 0} (test : Bool) (f : Form A) → Weak f → Weak (where_ test f)
weak_where true f p = p
weak_where false f p = record { extends = λ ws more a rest s. absurd s; goes = λ ws o. absurd o }

read_extends : {A : Type 0} (o : Option A) (ws more : List Bytes) (a : A) (rest : List Bytes) → Spells a rest (read_as o ws) → Spells a (rest ++ more) (read_as o (ws ++ more))
read_extends None ws more a rest s = absurd s
read_extends (Some b) ws more a rest (inl e) = inl (e.0, ap (λ l. l ++ more) e.1)
read_extends (Some b) ws more a rest (inr s) = absurd s

read_no_out : {A : Type 0} (o : Option A) (ws : List Bytes) → Out (read_as o ws) → ⊥
read_no_out None ws o = o
read_no_out (Some a) ws o = o

-- a word that the reader knows
pub good_word : {A : Type 0} (due : Due) (reader : Bytes → Option A) (w : Bytes) (a : A) → reader w ≡ Some a → Good (one_word due reader)
good_word due reader w a e = record { weak = record { extends = extended; goes = goes }; start = first }
  where
    known : Spells a [] (one_word due reader (w ∷ []))
    known = subst (λ o. Spells a [] (read_as o [])) (sym e) (inl (refl, refl))

    first : Finished (one_word due reader) []
    first = (w ∷ [], a, known)

    extended : Extends (one_word due reader)
    extended [] more b rest s = absurd s
    extended (v ∷ ws) more b rest s = read_extends (reader v) ws more b rest s

    goes : Goes (one_word due reader)
    goes [] o = first
    goes (v ∷ ws) o = absurd (read_no_out (reader v) ws o)

pub weak_bind : {A B : Type 0} (P : A → Type 0) (f : Form A) (g : A → Form B) → Weak f → Makes P f → ((a : A) → P a → Good (g a)) → Weak (f >>= g)
weak_bind {A = A} {B = B} P f g p made q = record { extends = extended; goes = λ ws o. goes ws (ran g (f ws) o) }
  where
    good : (ws : List Bytes) (a : A) (rest : List Bytes) → Spells a rest (f ws) → Good (g a)
    good ws a rest s = q a (said_of P a rest (f ws) (made.made ws) s)

    extended : Extends (f >>= g)
    extended ws more b rest s =
        let x = came g b rest (f ws) s in
        through g x.0 (x.1 ++ more) b (rest ++ more) (f (ws ++ more)) (p.extends ws more x.0 x.1 x.2) ((good ws x.0 x.1 x.2).weak.extends x.1 more b rest x.3)

    goes : (ws : List Bytes) → RanOut g (f ws) → Finished (f >>= g) ws
    goes ws (inl o) =
        let x = p.goes ws o in
        let y = (good (ws ++ x.0) x.1 [] x.2).start in
        (x.0 ++ y.0, y.1, subst (λ l. Spells y.1 [] ((f >>= g) l)) (append_assoc ws x.0 y.0) (through g x.1 y.0 y.1 [] (f ((ws ++ x.0) ++ y.0)) (p.extends (ws ++ x.0) y.0 x.1 [] x.2) y.2))
    goes ws (inr x) =
        let y = (good ws x.0 x.1 x.2).weak.goes x.1 x.3 in
        (y.0, y.1, through g x.0 (x.1 ++ y.0) y.1 [] (f (ws ++ y.0)) (p.extends ws y.0 x.0 x.1 x.2) y.2)

pub good_bind : {A B : Type 0} (P : A → Type 0) (f : Form A) (g : A → Form B) → Good f → Makes P f → ((a : A) → P a → Good (g a)) → Good (f >>= g)
good_bind P f g p made q =
    let x = p.start in
    let y = (q x.1 (said_of P x.1 [] (f x.0) (made.made x.0) x.2)).start in
    record { weak = weak_bind P f g p.weak made q; start = (x.0 ++ y.0, y.1, through g x.1 y.0 y.1 [] (f (x.0 ++ y.0)) (p.weak.extends x.0 y.0 x.1 [] x.2) y.2) }

-- behind a form of which nothing is asked
pub good_any : {A B : Type 0} (f : Form A) (g : A → Form B) → Good f → ((a : A) → Good (g a)) → Good (f >>= g)
good_any f g p q = good_bind (λ a. Unit {0}) f g p (makes_any f) (λ a h. q a)

pub weak_any : {A B : Type 0} (f : Form A) (g : A → Form B) → Weak f → ((a : A) → Good (g a)) → Weak (f >>= g)
weak_any f g p q = weak_bind (λ a. Unit {0}) f g p (makes_any f) (λ a h. q a)

-- behind a word, whatever stands there
pub weak_behind : {A B : Type 0} (f : Form A) (g : A → Form B) → Good f → ((a : A) → Weak (g a)) → ((a : A) → Finished (g a) []) → Good (f >>= g)
weak_behind f g p q r = good_any f g p (λ a. record { weak = q a; start = r a })

-- repetition

module _ {S : Type 0} (R : S → Type 0) (step : S → Form S) (weak : (s : S) → R s → Weak (step s)) (made : (s : S) → R s → Makes R (step s)) where
  many_good : (n : ℕ) (s : S) → R s → Good (at_most_times n step s)
  many_good zero s r = good_done s
  many_good (suc n) s r = good_or_weak (done s) (step s >>= at_most_times n step) (good_done s) (weak_bind R (step s) (at_most_times n step) (weak s r) (made s r) (many_good n))

  more_fuel : (n m : ℕ) (s : S) (ws : List Bytes) (a : S) (rest : List Bytes) → n ≤ m → Spells a rest (at_most_times n step s ws) → Spells a rest (at_most_times m step s ws)
  more_fuel zero zero s ws a rest le t = t
  more_fuel zero (suc m) s ws a rest le t = spells_left a rest (done s ws) ((step s >>= at_most_times m step) ws) t
  more_fuel (suc n) zero s ws a rest le t = absurd (omega arith)
  more_fuel (suc n) (suc m) s ws a rest le t = picked (spells_split a rest (done s ws) ((step s >>= at_most_times n step) ws) t) (λ v mid u. more_fuel n m v mid a rest (omega arith) u)
    where
      picked : Spells a rest (done s ws) ⊎ Spells a rest ((step s >>= at_most_times n step) ws) → ((v : S) (mid : List Bytes) → Spells a rest (at_most_times n step v mid) → Spells a rest (at_most_times m step v mid)) → Spells a rest (at_most_times (suc m) step s ws)
      picked (inl u) ih = spells_left a rest (done s ws) ((step s >>= at_most_times m step) ws) u
      picked (inr u) ih =
          let x = came (at_most_times n step) a rest (step s ws) u in
          spells_right a rest (done s ws) ((step s >>= at_most_times m step) ws) (through (at_most_times m step) x.0 x.1 a rest (step s ws) x.2 (ih x.0 x.1 x.3))

  longer : (ws more : List Bytes) → length ws + 1 ≤ length (ws ++ more) + 1
  longer ws more = let e = length-append ws more in omega (arith, e)

  repeated_extends : (s : S) → R s → Extends (repeated step s)
  repeated_extends s r ws more a rest t = more_fuel (length ws + 1) (length (ws ++ more) + 1) s (ws ++ more) a (rest ++ more) (longer ws more) ((many_good (length ws + 1) s r).weak.extends ws more a rest t)

  repeated_goes : (s : S) → R s → Goes (repeated step s)
  repeated_goes s r ws o =
      let x = (many_good (length ws + 1) s r).weak.goes ws o in
      (x.0, x.1, more_fuel (length ws + 1) (length (ws ++ x.0) + 1) s (ws ++ x.0) x.1 [] (longer ws x.0) x.2)

  pub good_repeated : (s : S) → R s → Good (repeated step s)
  good_repeated s r = record { weak = record { extends = repeated_extends s r; goes = repeated_goes s r }; start = ([], s, inl (refl, refl)) }

  -- one stretch of steps behind another
  many_append : (n m : ℕ) (s t u : S) (ws vs mid : List Bytes) → R s → Spells t [] (at_most_times n step s ws) → Spells u mid (at_most_times m step t vs) → Spells u mid (at_most_times (n + m) step s (ws ++ vs))
  many_append zero m s t u ws vs mid r (inl e) b = let fuel : 0 + m ≡ m = omega arith in rw (e.1, fuel) (subst (λ x. Spells u mid (at_most_times m step x vs)) (sym e.0) b)
  many_append zero m s t u ws vs mid r (inr e) b = absurd e
  many_append (suc n) m s t u ws vs mid r a b = rw fuel (picked (spells_split t [] (done s ws) ((step s >>= at_most_times n step) ws) a) (λ v w q c. many_append n m v t u w vs mid q c b))
    where
      fuel : suc n + m ≡ suc (n + m)
      fuel = omega arith

      picked : Spells t [] (done s ws) ⊎ Spells t [] ((step s >>= at_most_times n step) ws) → ((v : S) (w : List Bytes) → R v → Spells t [] (at_most_times n step v w) → Spells u mid (at_most_times (n + m) step v (w ++ vs))) → Spells u mid (at_most_times (suc (n + m)) step s (ws ++ vs))
      picked (inl (inl e)) ih = rw e.1 (more_fuel m (suc (n + m)) s vs u mid (omega arith) (subst (λ x. Spells u mid (at_most_times m step x vs)) (sym e.0) b))
      picked (inl (inr e)) ih = absurd e
      picked (inr c) ih =
          let x = came (at_most_times n step) t [] (step s ws) c in
          spells_right u mid (done s (ws ++ vs)) ((step s >>= at_most_times (n + m) step) (ws ++ vs)) (through (at_most_times (n + m) step) x.0 (x.1 ++ vs) u mid (step s (ws ++ vs)) ((weak s r).extends ws vs x.0 x.1 x.2) (ih x.0 x.1 (said_of R x.0 x.1 (step s ws) ((made s r).made ws) x.2) x.3))

  module _ (takes : (s : S) → Takes (step s)) where
    repeated_append : (s t u : S) (ws vs mid : List Bytes) → R s → Spells t [] (repeated step s ws) → Spells u mid (repeated step t vs) → Spells u mid (repeated step s (ws ++ vs))
    repeated_append s t u ws vs mid r a b =
        let e = length-append ws vs in
        subst (λ rs. Spells u mid rs) (enough step takes ((length ws + 1) + (length vs + 1)) (length (ws ++ vs) + 1) s (ws ++ vs) (omega (arith, e)) (omega (arith, e)))
        (many_append (length ws + 1) (length vs + 1) s t u ws vs mid r a b)

    -- steps and then a form that may want more steps before it
    module _ {B : Type 0} (tail : S → Form B) (ends : (s : S) → R s → Weak (tail s)) (restart : (s : S) → R s → Finished (repeated step s >>= tail) []) where
      loop_goes : (s : S) → R s → (ws : List Bytes) → RanOut tail (repeated step s ws) → Finished (repeated step s >>= tail) ws
      loop_goes s r ws (inl o) =
          let x = repeated_goes s r ws o in
          let q = said_of R x.1 [] (repeated step s (ws ++ x.0)) ((makes_repeated R step made s r).made (ws ++ x.0)) x.2 in
          let y = restart x.1 q in
          let z = came tail y.1 [] (repeated step x.1 y.0) y.2 in (
            x.0 ++ y.0,
            y.1,
            subst (λ l. Spells y.1 [] ((repeated step s >>= tail) l)) (append_assoc ws x.0 y.0)
                (through tail z.0 z.1 y.1 [] (repeated step s ((ws ++ x.0) ++ y.0)) (repeated_append s x.1 z.0 (ws ++ x.0) y.0 z.1 r x.2 z.2) z.3),
          )
      loop_goes s r ws (inr x) =
          let q = said_of R x.0 x.1 (repeated step s ws) ((makes_repeated R step made s r).made ws) x.2 in
          let y = (ends x.0 q).goes x.1 x.3 in
          (y.0, y.1, through tail x.0 (x.1 ++ y.0) y.1 [] (repeated step s (ws ++ y.0)) (repeated_extends s r ws y.0 x.0 x.1 x.2) y.2)

      loop_extends : (s : S) → R s → Extends (repeated step s >>= tail)
      loop_extends s r ws more b rest t =
          let x = came tail b rest (repeated step s ws) t in
          let q = said_of R x.0 x.1 (repeated step s ws) ((makes_repeated R step made s r).made ws) x.2 in
          through tail x.0 (x.1 ++ more) b (rest ++ more) (repeated step s (ws ++ more)) (repeated_extends s r ws more x.0 x.1 x.2) ((ends x.0 q).extends x.1 more b rest x.3)

      pub good_loop : (s : S) → R s → Good (repeated step s >>= tail)
      good_loop s r = record { weak = record { extends = loop_extends s r; goes = λ ws o. loop_goes s r ws (ran tail (repeated step s ws) o) }; start = restart s r }
