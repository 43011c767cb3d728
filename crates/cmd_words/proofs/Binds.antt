-- Forms behind one another, and how they are read.
use Rattle.std.proofs.Common.{◌≡◌, ◌<◌, ◌+◌, ℕ, inl, inr, refl, ◌∙◌, ap, subst, List, [], ◌∷◌, ◌++◌, length, arith, add-one}
use Rattle.std.specs.Prelude.{flat_map, Ok, Err, Result}
use Rattle.std.proofs.lemmas.Grind.{flat_map-append}
use Rattle.std.proofs.lemmas.List.{append-nil}
use Rattle.byte_text.specs.Names.{Bytes}
use Rattle.world_model.specs.Grammar.{Form, Reading, spells, runs_out, go_on, ◌>>=◌, done, at_most_times, repeated, live}
use Rattle.world_model.specs.declared.commands.Command.{Command}
use Rattle.world_model.specs.FormLaws.{Each, Left, Takes}
use Rattle.world_model.specs.PrefixLaws.{enough}
use Rattle.cmd_words.specs.Progress.{Place, Follows, Reads, answers}
use Rattle.cmd_words.proofs.Gets.{moves_on}
use Rattle.cmd_words.specs.declared.faults.CommandFault.{CommandFault}

module _ {A B C : Type 0} (g : A → Form B) (h : B → Form C) where
  behind : (rs : List (Reading A)) → flat_map (go_on h) (flat_map (go_on g) rs) ≡ flat_map (go_on (λ a. g a >>= h)) rs
  behind [] = refl
  behind (spells a rest ∷ rs) = flat_map-append (go_on h) (g a rest) (flat_map (go_on g) rs) ∙ ap (λ (l : List (Reading C)). flat_map (go_on h) (g a rest) ++ l) (behind rs)
  behind (runs_out due ∷ rs) = ap (λ (l : List (Reading C)). runs_out due ∷ l) (behind rs)

-- three forms behind one another
pub bind_assoc : {A B C : Type 0} (f : Form A) (g : A → Form B) (h : B → Form C) (words : List Bytes) → ((f >>= g) >>= h) words ≡ (f >>= λ a. g a >>= h) words
bind_assoc f g h words = behind g h (f words)

same_behind : {A B : Type 0} (g h : A → Form B) → ((a : A) (words : List Bytes) → g a words ≡ h a words) → (rs : List (Reading A)) → flat_map (go_on g) rs ≡ flat_map (go_on h) rs
same_behind g h e [] = refl
same_behind g h e (spells a rest ∷ rs) = rw (e a rest, same_behind g h e rs) refl
same_behind g h e (runs_out due ∷ rs) = ap (λ l. runs_out due ∷ l) (same_behind g h e rs)

-- forms that read alike behind another
pub bind_same : {A B : Type 0} (f : Form A) (g h : A → Form B) → ((a : A) (words : List Bytes) → g a words ≡ h a words) → (words : List Bytes) → (f >>= g) words ≡ (f >>= h) words
bind_same f g h e words = same_behind g h e (f words)

-- a value made of what was read
pub done_behind : {A B C : Type 0} (made : A → B) (h : B → Form C) (rs : List (Reading A)) → flat_map (go_on h) (flat_map (go_on (λ a. done (made a))) rs) ≡ flat_map (go_on (λ a. h (made a))) rs
done_behind made h [] = refl
done_behind made h (spells a rest ∷ rs) = ap (λ l. h (made a) rest ++ l) (done_behind made h rs)
done_behind made h (runs_out due ∷ rs) = ap (λ l. runs_out due ∷ l) (done_behind made h rs)

pub follows_same : (p : Place) (f g : Form Command) → ((words : List Bytes) → f words ≡ g words) → Follows p f → Follows p g
follows_same p f g e h = record { begun = h.begun; goes = λ more. h.goes more ∙ ap live (e more) }

-- what was read of one form, and of another behind it
module _ {A B : Type 0} (f : Form A) (g : A → Form B) where
  regroup : (p : Place) (next : B → Form Command) → Follows p ((f >>= g) >>= next) → Follows p (f >>= λ a. g a >>= next)
  regroup p next h = follows_same p ((f >>= g) >>= next) (f >>= λ a. g a >>= next) (bind_assoc f g next) h

  pub bind_fails : (old mid new : Place) (why : CommandFault) → Reads f old mid (Err why) → Reads (f >>= g) old new (Err why)
  bind_fails old mid new why (inl m) = inl m
  bind_fails old mid new why (inr r) = inr (λ next h. r (λ a. g a >>= next) (regroup old next h))

  pub bind_then : (old mid new : Place) (a : A) (r : Result B CommandFault) → Reads f old mid (Ok a) → Reads (g a) mid new r → Reads (f >>= g) old new r
  bind_then old mid new a (Ok b) k i = (moves_on old mid new k.0 i.0, λ next h. i.1 next (k.1 (λ x. g x >>= next) (regroup old next h)))
  bind_then old mid new a (Err why) k (inl m) = inl m
  bind_then old mid new a (Err why) k (inr i) = inr (λ next h. subst (λ ws. answers ws ≡ Err why) k.0.words (i next (k.1 (λ x. g x >>= next) (regroup old next h))))

  pub bind_done : (old mid : Place) (a : A) (b : B) (made : g a ≡ done b) → Reads f old mid (Ok a) → Reads (f >>= g) old mid (Ok b)
  bind_done old mid a b made k = (
    k.0,
    λ next h. follows_same mid (done b >>= next) (next b) (λ words. append-nil (next b words))
        (subst (λ (x : Form B). Follows mid (x >>= next)) made (k.1 (λ x. g x >>= next) (regroup old next h))),
  )

-- a step that may be repeated: none, or one and what is behind it
module _ {S B : Type 0} (step : S → Form S) (takes : (s : S) → Takes (step s)) (g : S → Form B) where
  enough_behind : (n : ℕ) (rs : List (Reading S)) → Each (Left ◌<◌ n) rs
      → flat_map (go_on g) (flat_map (go_on (at_most_times n step)) rs) ≡ flat_map (go_on (λ s. repeated step s >>= g)) rs
  enough_behind n [] few = refl
  enough_behind n (spells s rest ∷ rs) few =
      let same : at_most_times n step s rest ≡ repeated step s rest = enough step takes n (length rest + 1) s rest few.0 (omega arith) in
      flat_map-append (go_on g) (at_most_times n step s rest) (flat_map (go_on (at_most_times n step)) rs)
      ∙ ap (λ (l : List (Reading S)). flat_map (go_on g) l ++ flat_map (go_on g) (flat_map (go_on (at_most_times n step)) rs)) same
      ∙ ap (λ (l : List (Reading B)). flat_map (go_on g) (repeated step s rest) ++ l) (enough_behind n rs few.1)
  enough_behind n (runs_out due ∷ rs) few = ap (λ (l : List (Reading B)). runs_out due ∷ l) (enough_behind n rs few.1)

  pub unrolled : (s : S) (words : List Bytes) → (repeated step s >>= g) words ≡ g s words ++ (step s >>= λ t. repeated step t >>= g) words
  unrolled s words = rw (add-one (length words)) (ap (λ (l : List (Reading B)). g s words ++ l) (enough_behind (length words) (step s words) (takes s words)))
