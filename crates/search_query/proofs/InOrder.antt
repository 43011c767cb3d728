-- Objects in the order of a rule.
use Rattle.std.proofs.Common.{◌≡◌, ◌∙◌, ◌+◌, ◌≤◌, ℕ, Bool, refl, ap, List, [], ◌∷◌, ◌++◌, length, take, arith}
use Rattle.std.specs.Prelude.{filter, reverse, slice_get, Some, if◌then◌else◌}
use Rattle.std.proofs.lemmas.List.{length-reverse, take_all}
use Rattle.std.proofs.lemmas.List.Elements.{filter-append}
use Rattle.std.proofs.lemmas.Grind.{common_steps, reverse_onto}
use Rattle.byte_text.specs.ListLaws.{take_next}
use Rattle.fence_model.specs.Queries.{in_order}
use Rattle.world_data.specs.declared.objects.Object.{Object}
use Rattle.world_data.specs.declared.queries.Rule.{Rule}
use Rattle.world_data.specs.declared.queries.Rule.TheVariants.{All, Descending, InArea, Nearest}
use Rattle.search_query.specs.Directions.{is_down}

-- the items that pass are the same, whichever way the list is read
filter_reverse : {A : Type 0} (p : A → Bool) (xs : List A) → filter p (reverse xs) ≡ reverse (filter p xs)
filter_reverse p [] = refl
filter_reverse p (x ∷ xs) = let ih = filter_reverse p xs in grind (arith, common_steps, filter-append, reverse_onto)

pub filter_in_order : (p : Object → Bool) (rule : Rule) (objects : List Object) → filter p (in_order rule objects) ≡ in_order rule (filter p objects)
filter_in_order p All objects = refl
filter_in_order p Descending objects = filter_reverse p objects
filter_in_order p (InArea kind a) objects = refl
filter_in_order p Nearest objects = refl

pub by_direction : (rule : Rule) (objects : List Object) → (if is_down rule then reverse objects else objects) ≡ in_order rule objects
by_direction All objects = refl
by_direction Descending objects = refl
by_direction (InArea kind a) objects = refl
by_direction Nearest objects = refl

length_in_order : (rule : Rule) (objects : List Object) → length (in_order rule objects) ≡ length objects
length_in_order All objects = refl
length_in_order Descending objects = length-reverse objects
length_in_order (InArea kind a) objects = refl
length_in_order Nearest objects = refl

-- one more item is read
pub noted : {A : Type 0} (p : A → Bool) (xs : List A) (i : ℕ) (x : A) → slice_get xs i ≡ Some x → filter p (take (i + 1) xs) ≡ filter p (take i xs) ++ filter p (x ∷ [])
noted p xs i x is = ap (filter p) (take_next xs i x is) ∙ filter-append p (take i xs) (x ∷ [])

-- and all were read
pub all_found : (p : Object → Bool) (rule : Rule) (objects : List Object) (i : ℕ) → length objects ≤ i → filter p (take i (in_order rule objects)) ≡ in_order rule (filter p objects)
all_found p rule objects i past =
    let long : length (in_order rule objects) ≤ i = rw (length_in_order rule objects) past in
    rw (take_all i (in_order rule objects) long) (filter_in_order p rule objects)
