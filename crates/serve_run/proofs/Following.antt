-- What tends told, behind further steps.
use Rattle.std.proofs.Common.{◌≡◌, ℕ, List, [], ◌∷◌, ◌++◌, refl, sym, subst, ◌∙◌, ap}
use Rattle.serve_run.specs.declared.tendings.Tending.{Tending}
use Rattle.serve_run.specs.declared.terms.Terms.{Terms}
use Rattle.serve_run.specs.Follows.{tending_behind, tending_from, AllFollow}
use Rattle.serve_run.specs.Pacing.{untended}
use Rattle.serve_run.specs.SessionSteps.{AreOf}
use Rattle.serve_run.specs.Steps.{Step, Tended, Wanting, Shrunk, Unshrunk, Joined, Called, Fed, Took, Closed, Removed, Unfenced, Unended, Unasked}

from_more : (t : Tending) (a b : List Step) → tending_from t (a ++ b) ≡ tending_from (tending_from t a) b
from_more t [] b = refl
from_more t (x ∷ a) b = from_more (tending_behind t x) a b

follow_more : (terms : Terms) (t : Tending) (a b : List Step) → AllFollow terms t a → AllFollow terms (tending_from t a) b → AllFollow terms t (a ++ b)
follow_more terms t [] b p q = q
follow_more terms t (x ∷ a) b p q = (p.0, follow_more terms (tending_behind t x) a b p.1 q)

-- those of a session tell nothing, and may stand anywhere
pub own_tends : (n : ℕ) (t : Tending) (steps : List Step) → AreOf n steps → tending_from t steps ≡ t
own_tends n t [] own = refl
own_tends n t (Tended m count log ∷ steps) own = absurd own.0
own_tends n t (Wanting m count c ∷ steps) own = absurd own.0
own_tends n t (Shrunk k m c ∷ steps) own = absurd own.0
own_tends n t (Unshrunk o ∷ steps) own = absurd own.0
own_tends n t (Joined caller o ∷ steps) own = absurd own.0
own_tends n t (Called k m asked served end ∷ steps) own = own_tends n t steps own.1
own_tends n t (Fed k m ask answer bytes ∷ steps) own = own_tends n t steps own.1
own_tends n t (Took k o ∷ steps) own = own_tends n t steps own.1
own_tends n t (Closed k ∷ steps) own = own_tends n t steps own.1
own_tends n t (Removed k ∷ steps) own = own_tends n t steps own.1
own_tends n t (Unfenced k m o c ∷ steps) own = own_tends n t steps own.1
own_tends n t (Unended k o ∷ steps) own = own_tends n t steps own.1
own_tends n t (Unasked k ∷ steps) own = own_tends n t steps own.1

pub own_follow : (n : ℕ) (terms : Terms) (t : Tending) (steps : List Step) → AreOf n steps → AllFollow terms t steps
own_follow n terms t [] own = tt
own_follow n terms t (Tended m count log ∷ steps) own = absurd own.0
own_follow n terms t (Wanting m count c ∷ steps) own = absurd own.0
own_follow n terms t (Shrunk k m c ∷ steps) own = absurd own.0
own_follow n terms t (Unshrunk o ∷ steps) own = absurd own.0
own_follow n terms t (Joined caller o ∷ steps) own = absurd own.0
own_follow n terms t (Called k m asked served end ∷ steps) own = (tt, own_follow n terms t steps own.1)
own_follow n terms t (Fed k m ask answer bytes ∷ steps) own = (tt, own_follow n terms t steps own.1)
own_follow n terms t (Took k o ∷ steps) own = (tt, own_follow n terms t steps own.1)
own_follow n terms t (Closed k ∷ steps) own = (tt, own_follow n terms t steps own.1)
own_follow n terms t (Removed k ∷ steps) own = (tt, own_follow n terms t steps own.1)
own_follow n terms t (Unfenced k m o c ∷ steps) own = (tt, own_follow n terms t steps own.1)
own_follow n terms t (Unended k o ∷ steps) own = (tt, own_follow n terms t steps own.1)
own_follow n terms t (Unasked k ∷ steps) own = (tt, own_follow n terms t steps own.1)

-- behind the steps so far
pub tends_on : (t t' : Tending) (steps more : List Step) → tending_from untended steps ≡ t → tending_from t more ≡ t' → tending_from untended (steps ++ more) ≡ t'
tends_on t t' steps more is on = from_more untended steps more ∙ ap (λ (x : Tending). tending_from x more) is ∙ on

pub follow_on : (terms : Terms) (t : Tending) (steps more : List Step) → tending_from untended steps ≡ t → AllFollow terms untended steps → AllFollow terms t more
    → AllFollow terms untended (steps ++ more)
follow_on terms t steps more is before more_may = follow_more terms untended steps more before (subst (λ (x : Tending). AllFollow terms x more) (sym is) more_may)
