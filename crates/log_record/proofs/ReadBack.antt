-- Words that a form reads as one value, and in one way.
use Rattle.std.proofs.Common.{◌≡◌, ◌≤◌, ◌<◌, ◌+◌, ℕ, zero, suc, Bool, true, false, List, [], ◌∷◌, ◌++◌, length, refl, ap, ◌∙◌, arith, append-nil}
use Rattle.std.specs.Prelude.{flat_map, Option, Some, None, if◌then◌else◌}
use Rattle.byte_text.specs.Names.{Bytes, is_word}
use Rattle.world_model.specs.Grammar.{Due, spells, Form, go_on, ◌>>=◌, ◌>>◌, done, ◌or◌, one_of, where_, read_as, one_word, word, at_most_times, repeated}

-- the form has one reading of these words
pub record Reads {A : Type 0} (f : Form A) (words : List Bytes) (a : A) (rest : List Bytes) : Type 0 where
  pub is : f words ≡ spells a rest ∷ []

pub reads_done : {A : Type 0} {a : A} {words : List Bytes} → Reads (done a) words a words
reads_done = record { is = refl }

pub reads_word : {A : Type 0} (due : Due) (reader : Bytes → Option A) {w : Bytes} {a : A} {words : List Bytes} → reader w ≡ Some a → Reads (one_word due reader) (w ∷ words) a words
reads_word due reader {words = words} e = record { is = ap (λ o. read_as o words) e }

-- a word that stands there as it is written
pub literal : (n : Bytes) (words : List Bytes) → is_word n n ≡ true → Reads (word n) (n ∷ words) n words
literal n words e = record { is = ap (λ (t : Bool). read_as (if t then Some n else None) words) e }

pub reads_bind : {A B : Type 0} (f : Form A) (g : A → Form B) {a : A} {b : B} {words mid rest : List Bytes} → Reads f words a mid → Reads (g a) mid b rest → Reads (f >>= g) words b rest
reads_bind f g {a = a} {mid = mid} one two = record { is = ap (flat_map (go_on g)) one.is ∙ append-nil (g a mid) ∙ two.is }

pub reads_then : {A B : Type 0} (f : Form A) (g : Form B) {a : A} {b : B} {words mid rest : List Bytes} → Reads f words a mid → Reads g mid b rest → Reads (f >> g) words b rest
reads_then f g {mid = mid} one two = record { is = ap (flat_map (go_on (λ _. g))) one.is ∙ append-nil (g mid) ∙ two.is }

pub reads_left : {A : Type 0} (f g : Form A) {a : A} {words rest : List Bytes} → Reads f words a rest → g words ≡ [] → Reads (f or g) words a rest
reads_left f g {a = a} {words = words} {rest = rest} one none = record { is = ap (λ l. l ++ g words) one.is ∙ ap (λ l. spells a rest ∷ l) none }

pub reads_right : {A : Type 0} (f g : Form A) {a : A} {words rest : List Bytes} → f words ≡ [] → Reads g words a rest → Reads (f or g) words a rest
reads_right f g {words = words} none one = record { is = ap (λ l. l ++ g words) none ∙ one.is }

pub reads_here : {A : Type 0} (f : Form A) (fs : List (Form A)) {a : A} {words rest : List Bytes} → Reads f words a rest → one_of fs words ≡ [] → Reads (one_of (f ∷ fs)) words a rest
reads_here f fs {a = a} {words = words} {rest = rest} one none = record { is = ap (λ l. l ++ one_of fs words) one.is ∙ ap (λ l. spells a rest ∷ l) none }

pub reads_there : {A : Type 0} (f : Form A) (fs : List (Form A)) {a : A} {words rest : List Bytes} → f words ≡ [] → Reads (one_of fs) words a rest → Reads (one_of (f ∷ fs)) words a rest
reads_there f fs {words = words} none one = record { is = ap (λ l. l ++ one_of fs words) none ∙ one.is }

pub reads_where : {A : Type 0} (test : Bool) (f : Form A) {a : A} {words rest : List Bytes} → test ≡ true → Reads f words a rest → Reads (where_ test f) words a rest
reads_where test f {words = words} holds one = record { is = ap (λ t. where_ t f words) holds ∙ one.is }

pub none_where : {A : Type 0} (test : Bool) (f : Form A) (words : List Bytes) → f words ≡ [] → where_ test f words ≡ []
none_where true f words none = none
none_where false f words none = refl

-- a guarded form that reads nothing, before the others and beside them
pub skip : {A : Type 0} (test : Bool) (f : Form A) (fs : List (Form A)) {a : A} {words rest : List Bytes} → f words ≡ [] → Reads (one_of fs) words a rest → Reads (one_of (where_ test f ∷ fs)) words a rest
skip test f fs {words = words} none one = reads_there (where_ test f) fs (none_where test f words none) one

pub over : {A : Type 0} (test : Bool) (f : Form A) (fs : List (Form A)) (words : List Bytes) → f words ≡ [] → one_of fs words ≡ [] → one_of (where_ test f ∷ fs) words ≡ []
over test f fs words none others = ap (λ l. l ++ one_of fs words) (none_where test f words none) ∙ others

-- a repeated form, and what goes on behind it, which reads nothing until the repeated form is done

module _ {S B : Type 0} (step : S → Form S) (g : S → Form B) where
  pub record Goes (s : S) (words : List Bytes) (t : S) (rest : List Bytes) : Type 0 where
    pub on : (n : ℕ) → length words ≤ n → (m : ℕ) × (length rest ≤ m) × (flat_map (go_on g) (at_most_times n step s words) ≡ flat_map (go_on g) (at_most_times m step t rest))

  pub stays : (s : S) (words : List Bytes) → Goes s words s words
  stays s words = record { on = λ n le. (n, le, refl) }

  pub goes_then : {s t u : S} {words mid rest : List Bytes} → Goes s words t mid → Goes t mid u rest → Goes s words u rest
  goes_then one two = record { on = λ n le. let x = one.on n le in let y = two.on x.0 x.1 in (y.0, y.1, x.2 ∙ y.2) }

  one_step : (n : ℕ) (s t : S) (words rest : List Bytes) → step s words ≡ spells t rest ∷ [] → g s words ≡ [] → flat_map (go_on g) (at_most_times (suc n) step s words) ≡ flat_map (go_on g) (at_most_times n step t rest)
  one_step n s t words rest read none =
      ap (λ l. l ++ flat_map (go_on g) (flat_map (go_on (at_most_times n step)) (step s words))) none
      ∙ ap (λ l. flat_map (go_on g) (flat_map (go_on (at_most_times n step)) l)) read
      ∙ ap (flat_map (go_on g)) (append-nil (at_most_times n step t rest))

  some_step : (n : ℕ) (s t : S) (words rest : List Bytes) → step s words ≡ spells t rest ∷ [] → g s words ≡ [] → length rest < length words → length words ≤ n
      → (m : ℕ) × (length rest ≤ m) × (flat_map (go_on g) (at_most_times n step s words) ≡ flat_map (go_on g) (at_most_times m step t rest))
  some_step zero s t words rest read none less le = absurd (omega (arith, less, le))
  some_step (suc n) s t words rest read none less le = (n, omega (arith, less, le), one_step n s t words rest read none)

  pub goes_one : {s t : S} {words rest : List Bytes} → Reads (step s) words t rest → g s words ≡ [] → length rest < length words → Goes s words t rest
  goes_one {s = s} {t = t} {words = words} {rest = rest} one none less = record { on = λ n le. some_step n s t words rest one.is none less le }

  ends : (n : ℕ) (s : S) (words : List Bytes) → step s words ≡ [] → flat_map (go_on g) (at_most_times n step s words) ≡ g s words
  ends zero s words none = append-nil (g s words)
  ends (suc n) s words none = ap (λ l. g s words ++ flat_map (go_on g) (flat_map (go_on (at_most_times n step)) l)) none ∙ append-nil (g s words)

  pub goes_all : {s t : S} {b : B} {words rest behind : List Bytes} → Goes s words t rest → step t rest ≡ [] → Reads (g t) rest b behind → Reads (repeated step s >>= g) words b behind
  goes_all {t = t} {words = words} {rest = rest} goes none last = let x = goes.on (length words + 1) (omega arith) in record { is = x.2 ∙ ends x.0 t rest none ∙ last.is }
