-- What a form spells counts no more words than it took, beyond those that were counted before.
use Rattle.std.proofs.Common.{◌≡◌, ℕ, zero, suc, ◌+◌, ◌≤◌, Bool, true, false, List, [], ◌∷◌, length, refl, ap, arith}
use Rattle.std.specs.Prelude.{flat_map, Option, Some, None}
use Rattle.std.specs.List.{AllByRecursion}
use Rattle.byte_text.specs.Names.{Bytes}
use Rattle.byte_text.specs.Requests.{AreShort, max_word}
use Rattle.world_model.specs.Grammar.{Due, a_word, Reading, spells, runs_out, Form, go_on, ◌>>=◌, ◌>>◌, done, ◌or◌, one_of, where_, read_as, one_word}
use Rattle.world_model.specs.Grammar.{word, at_most_times, repeated, times}
use Rattle.world_model.specs.FormLaws.{Each, each_append, each_map}

-- a value that was read counts, with the words that are left, so much at most; none of these words is too long
abbrev pub Counts : {A : Type 0} → (A → ℕ) → (A → Type 0) → ℕ → Reading A → Type 0
Counts count P most (spells a rest) = (count a + length rest ≤ most) × AreShort rest × P a
Counts count P most (runs_out due) = Unit {0}

pub record Costs {A : Type 0} (before : ℕ) (count : A → ℕ) (P : A → Type 0) (f : Form A) : Type 0 where
  pub cost : (words : List Bytes) → AreShort words → Each (Counts count P (before + length words)) (f words)

module _ {A : Type 0} (before : ℕ) (count : A → ℕ) (P : A → Type 0) where
  pub costs_done : (a : A) → count a ≤ before → P a → Costs before count P (done a)
  costs_done a le p = record { cost = λ words short. ((omega (arith, le), short, p), tt) }

  pub costs_none : Costs before count P (one_of [])
  costs_none = record { cost = λ words short. tt }

  pub costs_or : (f g : Form A) → Costs before count P f → Costs before count P g → Costs before count P (f or g)
  costs_or f g p q = record {
    cost = λ words short.
        each_append (Counts count P (before + length words)) (f words) (g words) (p.cost words short) (q.cost words short);
  }

  pub costs_where : (test : Bool) (f : Form A) → (test ≡ true → Costs before count P f) → Costs before count P (where_ test f)
  costs_where true f p = p refl
  costs_where false f p = record { cost = λ words short. tt }

  read : (o : Option A) (words : List Bytes) → AreShort words → ((a : A) → o ≡ Some a → (count a ≤ before + 1) × P a)
      → Each (Counts count P (before + suc (length words))) (read_as o words)
  read None words short h = tt
  read (Some a) words short h = let is = h a refl in let le = is.0 in ((omega (arith, le), short, is.1), tt)

  pub costs_word : (due : Due) (reader : Bytes → Option A)
      → ((w : Bytes) (a : A) → length w ≤ max_word → reader w ≡ Some a → (count a ≤ before + 1) × P a)
      → Costs before count P (one_word due reader)
  costs_word due reader h = record { cost = cost }
    where
      cost : (words : List Bytes) → AreShort words → Each (Counts count P (before + length words)) (one_word due reader words)
      cost [] short = (tt, tt)
      cost (w ∷ words) short = read (reader w) words short.1 (λ a e. h w a short.0 e)

module _ {A B : Type 0} (count : A → ℕ) (P : A → Type 0) (total : B → ℕ) (Q : B → Type 0) (g : A → Form B)
    (goes : (a : A) → P a → Costs (count a) total Q (g a)) where
  within : (n m : ℕ) → m ≤ n → (r : Reading B) → Counts total Q m r → Counts total Q n r
  within n m le (spells b rest) c = let fits = c.0 in (omega (arith, le, fits), c.1, c.2)
  within n m le (runs_out due) c = tt

  bound : (n : ℕ) (rs : List (Reading A)) → Each (Counts count P n) rs → Each (Counts total Q n) (flat_map (go_on g) rs)
  bound n [] all = tt
  bound n (spells a rest ∷ rs) all =
      let here = all.0 in
      let next = each_map (Counts total Q (count a + length rest)) (Counts total Q n) (within n (count a + length rest) here.0) (g a rest)
      ((goes a here.2).cost rest here.1) in
      each_append (Counts total Q n) (g a rest) (flat_map (go_on g) rs) next (bound n rs all.1)
  bound n (runs_out due ∷ rs) all = (tt, bound n rs all.1)

pub costs_bind : {A B : Type 0} (before : ℕ) (count : A → ℕ) (P : A → Type 0) (total : B → ℕ) (Q : B → Type 0) (f : Form A) (g : A → Form B)
    → Costs before count P f → ((a : A) → P a → Costs (count a) total Q (g a)) → Costs before total Q (f >>= g)
costs_bind before count P total Q f g p goes =
    record { cost = λ words short. bound count P total Q g goes (before + length words) (f words) (p.cost words short) }

-- a word that is written out, and what stands behind it
pub costs_then : {B : Type 0} (before : ℕ) (total : B → ℕ) (Q : B → Type 0) (called : Bytes) (g : Form B)
    → Costs (before + 1) total Q g → Costs before total Q (word called >> g)
costs_then before total Q called g p =
    costs_bind before (λ w. before + 1) (λ w. Unit {0}) total Q (word called) (λ _. g)
    (costs_word before (λ w. before + 1) (λ w. Unit {0}) a_word _ (λ w a short e. (omega arith, tt))) (λ w named. p)

module _ {S : Type 0} (count : S → ℕ) (P : S → Type 0) (step : S → Form S) (steps : (s : S) → P s → Costs (count s) count P (step s)) where
  many : (n : ℕ) (s : S) → P s → Costs (count s) count P (at_most_times n step s)
  many zero s p = costs_done (count s) count P s (omega arith) p
  many (suc n) s p = costs_or (count s) count P (done s) (step s >>= at_most_times n step) (costs_done (count s) count P s (omega arith) p)
      (costs_bind (count s) count P count P (step s) (at_most_times n step) (steps s p) (many n))

  pub costs_repeated : (s : S) → P s → Costs (count s) count P (repeated step s)
  costs_repeated s p = record { cost = λ words short. (many (length words + 1) s p).cost words short }

-- so many values, each with the property
abbrev pub AreSo : {A : Type 0} → (A → Type 0) → ℕ → List A → Type 0
AreSo P n values = (length values ≡ n) × AllByRecursion P values

module _ {A : Type 0} (P : A → Type 0) (f : Form A) (one : (before : ℕ) → Costs before (λ a. before + 1) P f) where
  pub costs_times : (n before : ℕ) → Costs before (λ values. before + n) (AreSo P n) (times n f)
  costs_times zero before = costs_done before (λ values. before + 0) (AreSo P 0) [] (omega arith) (refl, tt)
  costs_times (suc n) before =
      costs_bind before (λ a. before + 1) P (λ values. before + suc n) (AreSo P (suc n)) f _ (one before) (λ a is.
      costs_bind (before + 1) (λ values. before + 1 + n) (AreSo P n) (λ values. before + suc n) (AreSo P (suc n)) (times n f) _
      (costs_times n (before + 1)) (λ values are.
      costs_done (before + 1 + n) (λ values. before + suc n) (AreSo P (suc n)) (a ∷ values) (omega arith) (ap suc are.0, (is, are.1))))
