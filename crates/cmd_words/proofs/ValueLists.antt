-- So many values behind one another.
use Rattle.std.proofs.Common.{◌≡◌, inl, inr, ℕ, zero, suc, refl, sym, ◌∙◌, ap, subst, List, [], ◌∷◌, ◌++◌, append_assoc, arith}
use Rattle.std.specs.Prelude.{Ok, Err}
use Rattle.std.proofs.lemmas.List.{append-nil}
use Rattle.byte_text.specs.Names.{Bytes}
use Rattle.world_model.specs.Grammar.{Form, ◌>>=◌, done, times}
use Rattle.world_model.specs.Kinds.{value}
use Rattle.world_data.specs.declared.values.Value.{Value}
use Rattle.world_model.specs.declared.commands.Command.{Command}
use Rattle.cmd_words.specs.Progress.{Place, Moves, Follows, Reads, answers}
use Rattle.cmd_words.proofs.Gets.{moves_on}
use Rattle.cmd_words.proofs.Binds.{bind_assoc, bind_same, done_behind, follows_same}
use Rattle.cmd_words.specs.declared.faults.CommandFault.{CommandFault}

-- what is to follow where these were read
abbrev behind : {B : Type 0} → List Value → (List Value → Form B) → List Value → Form B
behind values next rest = next (values ++ rest)

-- one value, and those behind it
one_first : {B : Type 0} (n : ℕ) (values : List Value) (next : List Value → Form B) (words : List Bytes)
    → (times (suc n) value >>= behind values next) words ≡ (value >>= λ a. times n value >>= behind (values ++ a ∷ []) next) words
one_first n values next words =
    bind_assoc value (λ a. times n value >>= λ rest. done (a ∷ rest)) (behind values next) words
    ∙ bind_same value (λ a. (times n value >>= λ rest. done (a ∷ rest)) >>= behind values next) (λ a. times n value >>= behind (values ++ a ∷ []) next)
    (λ a more. done_behind (λ rest. a ∷ rest) (behind values next) (times n value more)
    ∙ bind_same (times n value) (λ rest. behind values next (a ∷ rest)) (behind (values ++ a ∷ []) next) (λ rest ws. ap (λ l. next l ws) (sym (append_assoc values (a ∷ []) rest))) more)
    words

-- what holds while values are read: so many are still due
pub record HasValues (count : ℕ) (first p : Place) (due : ℕ) (values : List Value) : Type 0 where
  pub follows : (next : List Value → Form Command) → Follows first (times count value >>= next) → Follows p (times due value >>= behind values next)
  pub moved : Moves first p

pub begun : (count due : ℕ) (p : Place) (values : List Value) → due ≡ count → values ≡ [] → HasValues count p p due values
begun count due p values d v = rw (d, v) (record { follows = λ next h. h; moved = record { words = refl; fewer = omega arith } })

module _ (count : ℕ) (first p : Place) (due less : ℕ) (values : List Value) (s : HasValues count first p due values) (d : due ≡ suc less) where
  value_due : (next : List Value → Form Command) → Follows first (times count value >>= next) → Follows p (value >>= λ a. times less value >>= behind (values ++ a ∷ []) next)
  value_due next h = follows_same p (times (suc less) value >>= behind values next) (value >>= λ a. times less value >>= behind (values ++ a ∷ []) next) (one_first less values next)
      (subst (λ n. Follows p (times n value >>= behind values next)) d (s.follows next h))

  pub value_refused : (q : Place) (why : CommandFault) → Reads value p q (Err why) → Reads (times count value) first q (Err why)
  value_refused q why (inl m) = inl m
  value_refused q why (inr r) = inr (λ next h. subst (λ ws. answers ws ≡ Err why) s.moved.words (r (λ a. times less value >>= behind (values ++ a ∷ []) next) (value_due next h)))

  pub one_more : (q : Place) (a : Value) (more : List Value) → Reads value p q (Ok a) → more ≡ values ++ a ∷ [] → HasValues count first q less more
  one_more q a more r m = rw m (record {
    follows = λ next h. r.1 (λ x. times less value >>= behind (values ++ x ∷ []) next) (value_due next h);
    moved = moves_on first p q s.moved r.0;
  })

pub all_read : (count : ℕ) (first p : Place) (due : ℕ) (values : List Value) → HasValues count first p due values → due ≡ zero → Reads (times count value) first p (Ok values)
all_read count first p due values s d = (
  s.moved,
  λ next h. follows_same p (done [] >>= behind values next) (next values)
      (λ words. append-nil (next (values ++ []) words) ∙ ap (λ l. next l words) (append-nil values))
      (subst (λ n. Follows p (times n value >>= behind values next)) d (s.follows next h)),
)
