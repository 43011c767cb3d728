-- What every value that a form spells keeps to.
use Rattle.std.proofs.Common.{◌≡◌, ℕ, zero, suc, Bool, true, false, refl, subst, List, [], ◌∷◌, length, ◌+◌}
use Rattle.std.specs.Prelude.{flat_map, Option, Some, None}
use Rattle.byte_text.specs.Names.{Bytes}
use Rattle.world_model.specs.Grammar.{Due, Reading, spells, runs_out, Form, go_on, ◌>>=◌, ◌>>◌, done, ◌or◌, one_of, where_, read_as, one_word, maybe}
use Rattle.world_model.specs.Grammar.{at_most_times, repeated, once_or_more, live, spelled}
use Rattle.world_model.specs.FormLaws.{Each, each_append}

-- a reading that spells a value spells one with the property
abbrev pub Said : {A : Type 0} → (A → Type 0) → Reading A → Type 0
Said P (spells a rest) = P a
Said P (runs_out due) = Unit {0}

pub record Makes {A : Type 0} (P : A → Type 0) (f : Form A) : Type 0 where
  pub made : (words : List Bytes) → Each (Said P) (f words)

pub makes_done : {A : Type 0} (P : A → Type 0) (a : A) → P a → Makes P (done a)
makes_done P a p = record { made = λ words. (p, tt) }

pub makes_or : {A : Type 0} (P : A → Type 0) (f g : Form A) → Makes P f → Makes P g → Makes P (f or g)
makes_or P f g p q = record { made = λ words. each_append (Said P) (f words) (g words) (p.made words) (q.made words) }

-- the same, by what the forms are
pub first : {A : Type 0} {P : A → Type 0} {f g : Form A} → Makes P f → Makes P g → Makes P (f or g)
first {P = P} {f = f} {g = g} p q = makes_or P f g p q

pub makes_none : {A : Type 0} (P : A → Type 0) → Makes P (one_of [])
makes_none P = record { made = λ words. tt }

pub makes_where : {A : Type 0} (P : A → Type 0) (test : Bool) (f : Form A) → Makes P f → Makes P (where_ test f)
makes_where P true f p = p
makes_where P false f p = record { made = λ words. tt }

-- a form that is read where a test holds may rest on it
pub makes_if : {A : Type 0} (P : A → Type 0) (test : Bool) (f : Form A) → (test ≡ true → Makes P f) → Makes P (where_ test f)
makes_if P true f p = p refl
makes_if P false f p = record { made = λ words. tt }

read_made : {A : Type 0} (P : A → Type 0) (o : Option A) (words : List Bytes) → ((a : A) → o ≡ Some a → P a) → Each (Said P) (read_as o words)
read_made P None words h = tt
read_made P (Some a) words h = (h a refl, tt)

pub makes_word : {A : Type 0} (P : A → Type 0) (due : Due) (reader : Bytes → Option A) → ((w : Bytes) (a : A) → reader w ≡ Some a → P a)
    → Makes P (one_word due reader)
makes_word P due reader h = record { made = made }
  where
    made : (words : List Bytes) → Each (Said P) (one_word due reader words)
    made [] = (tt, tt)
    made (w ∷ words) = read_made P (reader w) words (h w)

module _ {A B : Type 0} (P : A → Type 0) (Q : B → Type 0) (g : A → Form B) (goes : (a : A) → P a → Makes Q (g a)) where
  bound : (rs : List (Reading A)) → Each (Said P) rs → Each (Said Q) (flat_map (go_on g) rs)
  bound [] all = tt
  bound (spells a rest ∷ rs) all = each_append (Said Q) (g a rest) (flat_map (go_on g) rs) ((goes a all.0).made rest) (bound rs all.1)
  bound (runs_out due ∷ rs) all = (tt, bound rs all.1)

pub makes_bind : {A B : Type 0} (P : A → Type 0) (Q : B → Type 0) (f : Form A) (g : A → Form B) → Makes P f → ((a : A) → P a → Makes Q (g a))
    → Makes Q (f >>= g)
makes_bind P Q f g p goes = record { made = λ words. bound P Q g goes (f words) (p.made words) }

any_each : {A : Type 0} (rs : List (Reading A)) → Each (Said (λ (a : A). Unit {0})) rs
any_each [] = tt
any_each (spells a rest ∷ rs) = (tt, any_each rs)
any_each (runs_out due ∷ rs) = (tt, any_each rs)

pub makes_any : {A : Type 0} (f : Form A) → Makes (λ (a : A). Unit {0}) f
makes_any f = record { made = λ words. any_each (f words) }

-- behind a form of which nothing is asked
pub makes_behind : {A B : Type 0} (Q : B → Type 0) (f : Form A) (g : A → Form B) → ((a : A) → Makes Q (g a)) → Makes Q (f >>= g)
makes_behind Q f g goes = makes_bind (λ a. Unit {0}) Q f g (makes_any f) (λ a p. goes a)

pub makes_then : {A B : Type 0} (Q : B → Type 0) (f : Form A) (g : Form B) → Makes Q g → Makes Q (f >> g)
makes_then Q f g q = makes_behind Q f (λ _. g) (λ a. q)

pub makes_maybe : {A : Type 0} (P : A → Type 0) (absent : A) (f : Form A) → P absent → Makes P f → Makes P (maybe absent f)
makes_maybe P absent f here p = makes_or P (done absent) f (makes_done P absent here) p

module _ {S : Type 0} (P : S → Type 0) (step : S → Form S) (keeps : (s : S) → P s → Makes P (step s)) where
  makes_many : (n : ℕ) (s : S) → P s → Makes P (at_most_times n step s)
  makes_many zero s p = makes_done P s p
  makes_many (suc n) s p = makes_or P (done s) (step s >>= at_most_times n step) (makes_done P s p)
      (makes_bind P P (step s) (at_most_times n step) (keeps s p) (makes_many n))

  pub makes_repeated : (s : S) → P s → Makes P (repeated step s)
  makes_repeated s p = record { made = λ words. (makes_many (length words + 1) s p).made words }

  pub makes_once : (s : S) → P s → Makes P (once_or_more step s)
  makes_once s p = makes_bind P P (step s) (repeated step) (keeps s p) (λ t q. makes_repeated t q)

-- what words spell as a whole, of the readings of them that all have a property
pub spelled_said : {A : Type 0} (P : A → Type 0) (rs : List (Reading A)) (a : A) → Each (Said P) rs → spelled (live rs) ≡ Some a → P a
spelled_said P [] a all e = absurd cc
spelled_said P (spells b [] ∷ rs) a all e = let same : b ≡ a = cc in subst P same all.0
spelled_said P (spells b (w ∷ rest) ∷ rs) a all e = spelled_said P rs a all.1 e
spelled_said P (runs_out due ∷ rs) a all e = spelled_said P rs a all.1 e
