-- The least deadline of objects.
use Rattle.std.proofs.Common.{◌≡◌, ◌≤◌, ℕ, Bool, true, false, refl, sym, ap, ◌∙◌, List, [], ◌∷◌, arith}
use Rattle.std.specs.Prelude.{Option, Some, None, fold, min, not, is_some, nat_le, ◌||◌, ◌==◌}
use Rattle.std.specs.List.{list_all, list_any}
use Rattle.std.proofs.lemmas.Bool.Decides.{nat_tests}
use Rattle.ordered_lists.specs.Reading.{both_of}
use Rattle.world_data.specs.declared.objects.Object.{Object}
use Rattle.collection.specs.Objects.{earlier, least_due}
use Rattle.collection.specs.Deadlines.{has_deadline}
use Rattle.collection.specs.DueLaws.{earlier_assoc}

-- the least of the first deadline and of those behind it
abbrev least_of : List Object → Option ℕ
least_of [] = None
least_of (o ∷ objects) = earlier o.deadline (least_of objects)

-- there is no deadline, or one that is not sooner
abbrev pub no_sooner : ℕ → Option ℕ → Bool
no_sooner due None = true
no_sooner due (Some d) = nat_le due d

right_none : (a : Option ℕ) → earlier a None ≡ a
right_none None = refl
right_none (Some a) = refl

least_from : (found : Option ℕ) (xs : List Object) → fold (λ found o. earlier found o.deadline) found xs ≡ earlier found (least_of xs)
least_from found [] = sym (right_none found)
least_from found (x ∷ xs) = least_from (earlier found x.deadline) xs ∙ earlier_assoc found x.deadline (least_of xs)

least_is : (xs : List Object) → least_due xs ≡ least_of xs
least_is xs = least_from None xs

none_of : (d : Option ℕ) → not (is_some d) ≡ true → d ≡ None
none_of None e = refl
none_of (Some d) e = absurd (cc)

none_in : (xs : List Object) → list_all (λ o. not (is_some o.deadline)) xs ≡ true → least_of xs ≡ None
none_in [] all = refl
none_in (x ∷ xs) all =
    let p = both_of (not (is_some x.deadline)) (list_all (λ o. not (is_some o.deadline)) xs) all in
    rw (none_of x.deadline p.0, none_in xs p.1) refl

pub none_least : (xs : List Object) → list_all (λ o. not (is_some o.deadline)) xs ≡ true → least_due xs ≡ None
none_least xs all = least_is xs ∙ none_in xs all

later_both : (due : ℕ) (a b : Option ℕ) → no_sooner due a ≡ true → no_sooner due b ≡ true → no_sooner due (earlier a b) ≡ true
later_both due None b p q = q
later_both due (Some a) None p q = p
later_both due (Some a) (Some b) p q = grind (arith, nat_tests)

later_all : (due : ℕ) (xs : List Object) → list_all (λ o. no_sooner due o.deadline) xs ≡ true → no_sooner due (least_of xs) ≡ true
later_all due [] all = refl
later_all due (x ∷ xs) all =
    let p = both_of (no_sooner due x.deadline) (list_all (λ o. no_sooner due o.deadline) xs) all in
    later_both due x.deadline (least_of xs) p.0 (later_all due xs p.1)

first_least : (due : ℕ) (b : Option ℕ) → no_sooner due b ≡ true → earlier (Some due) b ≡ Some due
first_least due None h = refl
first_least due (Some b) h = ap Some (least due b (grind (arith, nat_tests)))
  where
    least : (a b : ℕ) → a ≤ b → min a b ≡ a
    least a b h = omega arith

last_least : (due t : ℕ) → nat_le due t ≡ true → earlier (Some t) (Some due) ≡ Some due
last_least due t h = ap Some (least t due (grind (arith, nat_tests)))
  where
    least : (a b : ℕ) → b ≤ a → min a b ≡ b
    least a b h = omega arith

same_moment : (t due : ℕ) → (t == due) ≡ true → t ≡ due
same_moment t due e = grind (arith, nat_tests)

exact : (due t : ℕ) (rest : Option ℕ) (any b : Bool) → (t == due) ≡ b → nat_le due t ≡ true → no_sooner due rest ≡ true → (any ≡ true → rest ≡ Some due) → (b || any) ≡ true → earlier (Some t) rest ≡ Some due
exact due t rest any true e a b ih h = ap (λ (n : ℕ). earlier (Some n) rest) (same_moment t due e) ∙ first_least due rest b
exact due t rest any false e a b ih h = ap (earlier (Some t)) (ih h) ∙ last_least due t a

one_more : (due : ℕ) (x : Object) (d rest : Option ℕ) (any : Bool) → x.deadline ≡ d → no_sooner due d ≡ true → no_sooner due rest ≡ true → (any ≡ true → rest ≡ Some due) → (has_deadline due x || any) ≡ true → earlier d rest ≡ Some due
one_more due x None rest any is a b ih h = ih (rw is at h)
one_more due x (Some t) rest any is a b ih h = exact due t rest any (t == due) refl a b ih (rw is at h)

least_in : (due : ℕ) (xs : List Object) → list_all (λ o. no_sooner due o.deadline) xs ≡ true → list_any (has_deadline due) xs ≡ true → least_of xs ≡ Some due
least_in due [] all any = absurd (cc)
least_in due (x ∷ xs) all any =
    let p = both_of (no_sooner due x.deadline) (list_all (λ o. no_sooner due o.deadline) xs) all in
    one_more due x x.deadline (least_of xs) (list_any (has_deadline due) xs) refl p.0 (later_all due xs p.1) (λ m. least_in due xs p.1 m) any

-- the deadline that one object has, and that none is sooner than
pub least_at : (due : ℕ) (xs : List Object) → list_all (λ o. no_sooner due o.deadline) xs ≡ true → list_any (has_deadline due) xs ≡ true → least_due xs ≡ Some due
least_at due xs all any = least_is xs ∙ least_in due xs all any
