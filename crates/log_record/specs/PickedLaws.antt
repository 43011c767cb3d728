-- Parts of sorted lists.
use Rattle.std.proofs.Common.{◌≡◌, Bool, true, false, ◌||◌, List, [], ◌∷◌, filter, refl, sym, ap, subst, ◌∙◌}
use Rattle.std.specs.List.{list_all}
use Rattle.std.proofs.lemmas.Bool.{or_right}
use Rattle.ordered_lists.specs.Lists.{ascends, ties, put_in}
use Rattle.ordered_lists.specs.Reading.{filter-all, filter-nothing, all-weaker}
use Rattle.ordered_lists.specs.Ascending.{put_in-again}
use Rattle.ordered_lists.specs.Picked.{put_in-picked}
use Rattle.log_record.specs.Copying.{IsPicked, StandsIn}

-- filters

swap_by : {A : Type 0} (p q : A → Bool) (x : A) (xs : List A) (a b : Bool) → p x ≡ a → q x ≡ b → filter p (filter q xs) ≡ filter q (filter p xs)
    → filter p (filter q (x ∷ xs)) ≡ filter q (filter p (x ∷ xs))
swap_by p q x xs true true e f ih = simp (e, f) (ap (λ l. x ∷ l) ih)
swap_by p q x xs true false e f ih = simp (e, f) ih
swap_by p q x xs false true e f ih = simp (e, f) ih
swap_by p q x xs false false e f ih = simp (e, f) ih

filter_swap : {A : Type 0} (p q : A → Bool) (xs : List A) → filter p (filter q xs) ≡ filter q (filter p xs)
filter_swap p q [] = refl
filter_swap p q (x ∷ xs) = swap_by p q x xs (p x) (q x) refl refl (filter_swap p q xs)

module _ {A : Type 0} (lt : A → A → Bool) (asym : (x y : A) → lt x y ≡ true → lt y x ≡ false)
    (trans : (x y z : A) → lt x y ≡ true → lt y z ≡ true → lt x z ≡ true)
    (tie : (x y z : A) → lt x y ≡ false → lt y x ≡ false → lt y z ≡ true → lt x z ≡ true) where
  -- the same of parts
  pub some_put : (copied : A → Bool) (part all : List A) (x : A) → ascends lt all ≡ true → IsPicked copied part all
      → IsPicked copied (put_in lt x part) (put_in lt x all)
  some_put copied part all x asc is = record {
    picked = λ z. ties lt z x || is.picked z;
    part_is = ap (put_in lt x) is.part_is ∙ put_in-picked lt asym trans tie is.picked x all asc;
    enough = λ z e. or_right (ties lt z x) (is.picked z) (is.enough z e);
  }

  enough_by : (x z : A) (copied picked : A → Bool) → (copied z ≡ true → picked z ≡ true) → (t : Bool) → ties lt z x ≡ t
      → (ties lt z x || copied z) ≡ true → (ties lt z x || picked z) ≡ true
  enough_by x z copied picked h true e both = ap (λ b. b || picked z) e
  enough_by x z copied picked h false e both = ap (λ b. b || picked z) e ∙ h (sym (ap (λ b. b || copied z) e) ∙ both)

  pub some_more : (copied : A → Bool) (part all : List A) (x : A) → ascends lt all ≡ true → StandsIn x all → IsPicked copied part all
      → IsPicked (λ z. ties lt z x || copied z) (put_in lt x part) all
  some_more copied part all x asc stands is = record {
    picked = λ z. ties lt z x || is.picked z;
    part_is = ap (put_in lt x) is.part_is ∙ put_in-picked lt asym trans tie is.picked x all asc
        ∙ ap (filter (λ z. ties lt z x || is.picked z))
        (ap (put_in lt x) stands.list_is ∙ put_in-again lt asym x stands.earlier stands.later (subst (λ l. ascends lt l ≡ true) stands.list_is asc)
        ∙ sym stands.list_is);
    enough = λ z e. enough_by x z copied is.picked (is.enough z) (ties lt z x) refl e;
  }

pub some_filter : {A : Type 0} (copied p : A → Bool) (part all : List A) → IsPicked copied part all → IsPicked copied (filter p part) (filter p all)
some_filter copied p part all is = record { picked = is.picked; part_is = ap (filter p) is.part_is ∙ filter_swap p is.picked all; enough = is.enough }

pub some_none : {A : Type 0} (all : List A) → IsPicked (λ x. false) [] all
some_none all = record { picked = λ x. false; part_is = sym (filter-nothing all); enough = λ x e. e }

pub some_all : {A : Type 0} (copied : A → Bool) (part all : List A) → list_all copied all ≡ true → IsPicked copied part all → part ≡ all
some_all copied part all every is = is.part_is ∙ filter-all is.picked all (all-weaker copied is.picked all is.enough every)
