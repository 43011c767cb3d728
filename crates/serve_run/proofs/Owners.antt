-- Who has a number: at which place its session is open.
use Rattle.std.proofs.Common.{◌≡◌, ◌==◌, ℕ, Bool, true, false, List, [], ◌∷◌, refl, ◌∙◌}
use Rattle.std.specs.Prelude.{Option, None, if◌then◌else◌}
use Rattle.std.proofs.lemmas.Bool.{ne_eqb}
use Rattle.session_run.specs.Sessions.{SessionState}
use Rattle.serve_run.specs.Steps.{Step}
use Rattle.serve_run.specs.Runs.{LinkRun, LinkFate, TurnedOut, Starved, Unwatched, Served}
use Rattle.serve_run.specs.LoopStates.{IsOpen, IsGone, AreGone}
use Rattle.serve_run.proofs.Stepping.{same_test}

-- the same, but for one number
abbrev pub reassign : (ℕ → Option ℕ) → ℕ → Option ℕ → ℕ → Option ℕ
reassign owner n p m = if m == n then p else owner m

by_true : {A : Type 0} (b : Bool) (p q : A) → b ≡ true → (if b then p else q) ≡ p
by_true true p q is = refl
by_true false p q is = absurd (cc)

by_false : {A : Type 0} (b : Bool) (p q : A) → b ≡ false → (if b then p else q) ≡ q
by_false true p q is = absurd (cc)
by_false false p q is = refl

by_both : {A : Type 0} (b : Bool) (p q r : A) → p ≡ r → q ≡ r → (if b then p else q) ≡ r
by_both true p q r e f = e
by_both false p q r e f = f

pub owner_at : (owner : ℕ → Option ℕ) (n : ℕ) (p : Option ℕ) → reassign owner n p n ≡ p
owner_at owner n p = by_true (n == n) p (owner n) (same_test n)

pub owner_other : (owner : ℕ → Option ℕ) (n : ℕ) (p : Option ℕ) (m : ℕ) → (m ≡ n → ⊥) → reassign owner n p m ≡ owner m
owner_other owner n p m other = by_false (m == n) p (owner m) (ne_eqb m n other)

pub owner_none : (owner : ℕ → Option ℕ) (n m : ℕ) → owner m ≡ None → reassign owner n None m ≡ None
owner_none owner n m none = by_both (m == n) None (owner m) None refl none

gone_none : (owner : ℕ → Option ℕ) (n : ℕ) (fate : LinkFate) → IsGone owner fate → IsGone (reassign owner n None) fate
gone_none owner n (TurnedOut o) g = tt
gone_none owner n (Starved m) g = owner_none owner n m g
gone_none owner n (Unwatched m) g = owner_none owner n m g
gone_none owner n (Served m asking taking) g = owner_none owner n m g

pub all_gone_none : (owner : ℕ → Option ℕ) (n : ℕ) (runs : List LinkRun) → AreGone owner runs → AreGone (reassign owner n None) runs
all_gone_none owner n [] g = tt
all_gone_none owner n (run ∷ runs) g = (gone_none owner n run.fate g.0, all_gone_none owner n runs g.1)

pub open_owner : (told : Option ℕ) (steps : List Step) (owner owner' : ℕ → Option ℕ) (i : ℕ) (x : SessionState) → owner' x.number ≡ owner x.number
    → IsOpen told steps owner i x → IsOpen told steps owner' i x
open_owner told steps owner owner' i x same o = record {
  came = o.came;
  is_new = o.is_new;
  caller = o.caller;
  joined = o.joined;
  asked = o.asked;
  written = o.written;
  fenced = o.fenced;
  owned = same ∙ o.owned;
}
