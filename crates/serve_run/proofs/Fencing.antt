-- The ends of live fences that stand among steps.
use Rattle.std.proofs.Common.{◌≡◌, ◌⊎◌, ◌==◌, ℕ, Bool, true, false, List, ◌++◌, refl, sym, ap, ◌∙◌, inl, inr, arith}
use Rattle.std.specs.Prelude.{◌||◌}
use Rattle.std.proofs.lemmas.Bool.Decides.{nat_tests}
use Rattle.std.proofs.lemmas.List.Folds.{list_any-append}
use Rattle.std.proofs.lemmas.Grind.{flat_map-append}
use Rattle.session_run.specs.Live.{has_set}
use Rattle.session_run.specs.FencedSteps.{set_more}
use Rattle.serve_run.specs.Steps.{Step, calls_in, calls_of, ends_in, ends_fence}
use Rattle.serve_run.specs.Runs.{FencesEnd}

pub either_true : (a b : Bool) → (a || b) ≡ true → (a ≡ true) ⊎ (b ≡ true)
either_true true b h = inl refl
either_true false b h = inr h

pub first_true : (a b : Bool) → a ≡ true → (a || b) ≡ true
first_true true b h = refl
first_true false b h = absurd (cc)

pub second_true : (a b : Bool) → b ≡ true → (a || b) ≡ true
second_true true b h = refl
second_true false b h = h

pub same_number : (a b : ℕ) → (a == b) ≡ true → b ≡ a
same_number a b e = grind (arith, nat_tests)

or_assoc : (a b c : Bool) → ((a || b) || c) ≡ (a || (b || c))
or_assoc true b c = refl
or_assoc false b c = refl

not_both : (b : Bool) → b ≡ false → b ≡ true → ⊥
not_both true e f = cc
not_both false e f = cc

-- ---- the ends, and what the calls have set, of some steps behind others

pub ends_more : (n : ℕ) (a b : List Step) → ends_fence n (a ++ b) ≡ (ends_fence n a || ends_fence n b)
ends_more n a b = list_any-append (ends_in n) a b

pub ends_first : (n : ℕ) (a b : List Step) → ends_fence n a ≡ true → ends_fence n (a ++ b) ≡ true
ends_first n a b is = ends_more n a b ∙ first_true (ends_fence n a) (ends_fence n b) is

pub ends_second : (n : ℕ) (a b : List Step) → ends_fence n b ≡ true → ends_fence n (a ++ b) ≡ true
ends_second n a b is = ends_more n a b ∙ second_true (ends_fence n a) (ends_fence n b) is

pub sets_more : (n : ℕ) (a b : List Step) → has_set n (calls_of n (a ++ b)) ≡ (has_set n (calls_of n a) || has_set n (calls_of n b))
sets_more n a b = ap (has_set n) (flat_map-append (calls_in n) a b) ∙ set_more n (calls_of n a) (calls_of n b)

sets_first : (n : ℕ) (a b : List Step) → has_set n (calls_of n a) ≡ true → has_set n (calls_of n (a ++ b)) ≡ true
sets_first n a b is = sets_more n a b ∙ first_true (has_set n (calls_of n a)) (has_set n (calls_of n b)) is

-- what was set before, behind some steps and behind further ones
pub fence_more : (n : ℕ) (f g h : Bool) (a b : List Step) → g ≡ (f || has_set n (calls_of n a)) → h ≡ (g || has_set n (calls_of n b))
    → h ≡ (f || has_set n (calls_of n (a ++ b)))
fence_more n f g h a b p q =
    q ∙ ap (λ (x : Bool). x || has_set n (calls_of n b)) p ∙ or_assoc f (has_set n (calls_of n a)) (has_set n (calls_of n b))
    ∙ ap (λ (x : Bool). f || x) (sym (sets_more n a b))

-- ---- no end stands for another session

pub fences_on : (steps more : List Step) → FencesEnd steps → ((n : ℕ) → ends_fence n more ≡ true → has_set n (calls_of n (steps ++ more)) ≡ true)
    → FencesEnd (steps ++ more)
fences_on steps more before here n is = by (either_true (ends_fence n steps) (ends_fence n more) (sym (ends_more n steps more) ∙ is))
  where
    by : ((ends_fence n steps ≡ true) ⊎ (ends_fence n more ≡ true)) → has_set n (calls_of n (steps ++ more)) ≡ true
    by (inl e) = sets_first n steps more (before n e)
    by (inr e) = here n e

pub fences_quiet : (steps more : List Step) → ((n : ℕ) → ends_fence n more ≡ false) → FencesEnd steps → FencesEnd (steps ++ more)
fences_quiet steps more quiet before = fences_on steps more before (λ n e. absurd (not_both (ends_fence n more) (quiet n) e))
