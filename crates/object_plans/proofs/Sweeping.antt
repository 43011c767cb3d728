-- The objects of a key that meet a pattern, looked at one by one, and taken out by their ids.
use Rattle.std.proofs.Common.{◌≡◌, ℕ, zero, suc, ◌+◌, ◌≤◌, Bool, true, false, not, refl, sym, ap, ◌∙◌, subst, List, [], ◌∷◌, ◌++◌, take, map, arith}
use Rattle.std.specs.Prelude.{filter, sum_by, slice_get, Some, if◌then◌else◌, ◌&&◌, ◌||◌}
use Rattle.std.specs.List.{list_any, AllByRecursion}
use Rattle.std.proofs.lemmas.Bool.{or_right}
use Rattle.std.proofs.lemmas.List.{map-append}
use Rattle.std.proofs.lemmas.List.Elements.{filter-append}
use Rattle.std.proofs.lemmas.List.Sums.{sum_by-cons, sum_by-append}
use Rattle.byte_text.specs.Names.{Bytes, same}
use Rattle.byte_text.specs.Globs.{glob_meets}
use Rattle.world_data.specs.Worlds.{is_at, has_key}
use Rattle.fence_model.specs.Writes.{Write, announced, dels}
use Rattle.world_data.specs.declared.worlds.Change.TheVariants as change
use Rattle.world_data.specs.declared.objects.Object.{Object}
use Rattle.byte_text.specs.ByteOrder.{same_refl, same_equal}
use Rattle.object_plans.specs.declared.deletes.Swept.{Swept}
use Rattle.object_plans.specs.Moves.{without_each}
use Rattle.record_writer.specs.Lengths.{HaveFewFields, len_of}
use Rattle.delivery_model.specs.Staging.{records_len}
use Rattle.object_plans.specs.Sweeps.{met, IsSwept, IsSweptOf}
use Rattle.record_writer.specs.LengthLaws.{del_short}
use Rattle.record_writer.specs.ObjectSums.{next_take}

-- one more object is looked at

dels_more : (xs ys : List Object) → records_len (dels (xs ++ ys)) ≡ records_len (dels xs) + records_len (dels ys)
dels_more [] ys = omega arith
dels_more (x ∷ xs) ys = let ih = dels_more xs ys in omega (arith, ih)

pub one_swept : (pattern : Bytes) (xs : List Object) (o : Object) (total : ℕ) (old new : Swept) → IsSweptOf pattern xs total old → IsSwept pattern o old new → IsSweptOf pattern (xs ++ o ∷ []) total new
one_swept pattern xs o total old new s n =
    let whole : met pattern (xs ++ o ∷ []) ≡ met pattern xs ++ met pattern (o ∷ []) = filter-append (λ (p : Object). glob_meets pattern p.id) xs (o ∷ []) in
    let front = met pattern xs in
    let last = met pattern (o ∷ []) in
    record {
      ids = n.ids ∙ ap (λ (ids : List Bytes). ids ++ map (λ (p : Object). p.id) last) s.ids ∙ sym (map-append (λ (p : Object). p.id) front last) ∙ ap (map (λ (p : Object). p.id)) (sym whole);
      length_is = n.length_is ∙ ap (λ (l : ℕ). l + records_len (dels last)) s.length_is ∙ sym (dels_more front last) ∙ ap (λ (ps : List Object). records_len (dels ps)) (sym whole);
      weight_is =
          let sum : sum_by len_of (met pattern (xs ++ o ∷ [])) ≡ sum_by len_of front + sum_by len_of last = ap (sum_by len_of) whole ∙ sum_by-append len_of front last in
          let before = s.weight_is in
          let now = n.weight_is in
          omega (arith, sum, before, now);
    }

pub next_swept : (pattern : Bytes) (xs : List Object) (i : ℕ) (o : Object) (total : ℕ) (old new : Swept) → slice_get xs i ≡ Some o → IsSweptOf pattern (take i xs) total old → IsSwept pattern o old new → IsSweptOf pattern (take (i + 1) xs) total new
next_swept pattern xs i o total old new at s n = subst (λ (ys : List Object). IsSweptOf pattern ys total new) (next_take xs i o at) (one_swept pattern (take i xs) o total old new s n)

pub few_take : (xs : List Object) (i : ℕ) → HaveFewFields xs → HaveFewFields (take i xs)
few_take [] i few = few_none i
  where
    few_none : (i : ℕ) → HaveFewFields (take i [])
    few_none zero = tt
    few_none (suc i) = tt
few_take (x ∷ xs) zero few = tt
few_take (x ∷ xs) (suc i) few = (few.0, few_take xs i few.1)

-- the records of the dels are no longer than what they undo
pub dels_short : (xs : List Object) → HaveFewFields xs → records_len (dels xs) ≤ sum_by len_of xs
dels_short [] few = omega arith
dels_short (x ∷ xs) few = let ih = dels_short xs few.1 in let one = del_short x few.0 in omega (arith, ih, one, sum_by-cons len_of x xs)

-- the dels, one after another

-- all are of the key
abbrev pub HaveKey : Bytes → List Object → Type 0
HaveKey key xs = AllByRecursion (λ o. o.key ≡ key) xs

pub keyed : (key : Bytes) (xs : List Object) → HaveKey key (filter (has_key key) xs)
keyed key [] = tt
keyed key (x ∷ xs) = by (has_key key x) refl (keyed key xs)
  where
    by : (t : Bool) → has_key key x ≡ t → HaveKey key (filter (has_key key) xs) → HaveKey key (if t then x ∷ filter (has_key key) xs else filter (has_key key) xs)
    by true e ih = (same_equal x.key key e, ih)
    by false e ih = ih

pub dels_of : (key : Bytes) (gone : List Object) → HaveKey key gone → dels gone ≡ map (λ id. announced (change.Del key id)) (map (λ o. o.id) gone)
dels_of key [] all = refl
dels_of key (g ∷ gone) all = ap (λ (k : Bytes). announced (change.Del k g.id) ∷ dels gone) all.0 ∙ ap (λ (ws : List Write). announced (change.Del key g.id) ∷ ws) (dels_of key gone all.1)

-- what is left

abbrev among : Bytes → List Bytes → Object → Bool
among key ids o = has_key key o && list_any (same o.id) ids

none_left : (key : Bytes) (xs : List Object) → filter (λ o. not (among key [] o)) xs ≡ xs
none_left key [] = refl
none_left key (x ∷ xs) = by (has_key key x) (none_left key xs)
  where
    by : (t : Bool) → filter (λ o. not (among key [] o)) xs ≡ xs → (if not (t && false) then x ∷ filter (λ o. not (among key [] o)) xs else filter (λ o. not (among key [] o)) xs) ≡ x ∷ xs
    by true ih = ap (λ (zs : List Object). x ∷ zs) ih
    by false ih = ap (λ (zs : List Object). x ∷ zs) ih

one_left : (key id : Bytes) (ids : List Bytes) (xs : List Object) → filter (λ o. not (among key ids o)) (filter (λ o. not (is_at key id o)) xs) ≡ filter (λ o. not (among key (id ∷ ids) o)) xs
one_left key id ids [] = refl
one_left key id ids (x ∷ xs) = by (has_key key x) refl (same x.id id) (list_any (same x.id) ids) refl (one_left key id ids xs)
  where
    by : (a : Bool) → has_key key x ≡ a → (b c : Bool) → list_any (same x.id) ids ≡ c → filter (λ o. not (among key ids o)) (filter (λ o. not (is_at key id o)) xs) ≡ filter (λ o. not (among key (id ∷ ids) o)) xs
        → filter (λ o. not (among key ids o)) (if not (a && b) then x ∷ filter (λ o. not (is_at key id o)) xs else filter (λ o. not (is_at key id o)) xs)
        ≡ (if not (a && (b || c)) then x ∷ filter (λ o. not (among key (id ∷ ids) o)) xs else filter (λ o. not (among key (id ∷ ids) o)) xs)
    by true e true c f ih = ih
    by true e false true f ih = rw (e, f) ih
    by true e false false f ih = rw (e, f) (ap (λ (zs : List Object). x ∷ zs) ih)
    by false e b c f ih = rw e (ap (λ (zs : List Object). x ∷ zs) ih)

each_left : (key : Bytes) (ids : List Bytes) (xs : List Object) → without_each key ids xs ≡ filter (λ o. not (among key ids o)) xs
each_left key [] xs = sym (none_left key xs)
each_left key (id ∷ ids) xs = each_left key ids (filter (λ o. not (is_at key id o)) xs) ∙ one_left key id ids xs

-- an id is among those of the objects that meet the pattern just where it meets it

abbrev ids_of : List Object → List Bytes
ids_of xs = map (λ o. o.id) xs

meets : (pattern id : Bytes) (xs : List Object) → list_any (same id) (ids_of (met pattern xs)) ≡ true → glob_meets pattern id ≡ true
meets pattern id [] e = absurd (cc)
meets pattern id (x ∷ xs) e = by (glob_meets pattern x.id) refl (meets pattern id xs) e
  where
    split : (b c : Bool) → same id x.id ≡ b → list_any (same id) (ids_of (met pattern xs)) ≡ c → (b || c) ≡ true → glob_meets pattern x.id ≡ true → (list_any (same id) (ids_of (met pattern xs)) ≡ true → glob_meets pattern id ≡ true) → glob_meets pattern id ≡ true
    split true c s l or m ih = subst (λ (n : Bytes). glob_meets pattern n ≡ true) (sym (same_equal id x.id s)) m
    split false c s l or m ih = ih (l ∙ or)

    by : (t : Bool) → glob_meets pattern x.id ≡ t → (list_any (same id) (ids_of (met pattern xs)) ≡ true → glob_meets pattern id ≡ true) → list_any (same id) (ids_of (if t then x ∷ met pattern xs else met pattern xs)) ≡ true → glob_meets pattern id ≡ true
    by true m ih e = split (same id x.id) (list_any (same id) (ids_of (met pattern xs))) refl refl e m ih
    by false m ih e = ih e

-- each object of the key that meets it is there
abbrev AreMet : Bytes → Bytes → List Object → List Object → Type 0
AreMet pattern key xs ys = AllByRecursion (λ o. has_key key o ≡ true → glob_meets pattern o.id ≡ true → list_any (same o.id) (ids_of (met pattern (filter (has_key key) ys))) ≡ true) xs

more_met : (pattern key : Bytes) (y : Object) (xs ys : List Object) → AreMet pattern key xs ys → AreMet pattern key xs (y ∷ ys)
more_met pattern key y [] ys all = tt
more_met pattern key y (x ∷ xs) ys all = (λ k m. by (has_key key y) (glob_meets pattern y.id) refl (all.0 k m), more_met pattern key y xs ys all.1)
  where
    by : (a b : Bool) → glob_meets pattern y.id ≡ b → list_any (same x.id) (ids_of (met pattern (filter (has_key key) ys))) ≡ true → list_any (same x.id) (ids_of (met pattern (if a then y ∷ filter (has_key key) ys else filter (has_key key) ys))) ≡ true
    by true true e h = rw (e, h) (or_right (same x.id y.id) true refl)
    by true false e h = rw e h
    by false b e h = h

all_met : (pattern key : Bytes) (xs : List Object) → AreMet pattern key xs xs
all_met pattern key [] = tt
all_met pattern key (x ∷ xs) = (λ k m. rw (k, m, same_refl x.id) refl, more_met pattern key x xs xs (all_met pattern key xs))

same_left : (pattern key : Bytes) (ids : List Bytes) (xs : List Object) → ((id : Bytes) → list_any (same id) ids ≡ true → glob_meets pattern id ≡ true) → AllByRecursion (λ o. has_key key o ≡ true → glob_meets pattern o.id ≡ true → list_any (same o.id) ids ≡ true) xs
    → sum_by len_of (filter (λ o. not (among key ids o)) xs) + sum_by len_of (met pattern (filter (has_key key) xs)) ≡ sum_by len_of xs
same_left pattern key ids [] only all = refl
same_left pattern key ids (x ∷ xs) only all = by (has_key key x) (list_any (same x.id) ids) (glob_meets pattern x.id) refl refl refl (same_left pattern key ids xs only all.1)
  where
    by : (a b d : Bool) → has_key key x ≡ a → list_any (same x.id) ids ≡ b → glob_meets pattern x.id ≡ d → sum_by len_of (filter (λ o. not (among key ids o)) xs) + sum_by len_of (met pattern (filter (has_key key) xs)) ≡ sum_by len_of xs
        → sum_by len_of (if not (a && b) then x ∷ filter (λ o. not (among key ids o)) xs else filter (λ o. not (among key ids o)) xs) + sum_by len_of (met pattern (if a then x ∷ filter (has_key key) xs else filter (has_key key) xs)) ≡ sum_by len_of (x ∷ xs)
    by true true true k l m ih = rw m (omega (arith, ih, sum_by-cons len_of x xs, sum_by-cons len_of x (met pattern (filter (has_key key) xs))))
    by true true false k l m ih = let f = only x.id l in absurd (cc)
    by true false true k l m ih = let f = all.0 k m in absurd (cc)
    by true false false k l m ih = rw m (omega (arith, ih, sum_by-cons len_of x xs, sum_by-cons len_of x (filter (λ o. not (among key ids o)) xs)))
    by false b d k l m ih = omega (arith, ih, sum_by-cons len_of x xs, sum_by-cons len_of x (filter (λ o. not (among key ids o)) xs))

-- what is left, and the objects of the key that meet the pattern, make all
pub left_sum : (pattern key : Bytes) (xs : List Object) → sum_by len_of (without_each key (map (λ o. o.id) (met pattern (filter (has_key key) xs))) xs) + sum_by len_of (met pattern (filter (has_key key) xs)) ≡ sum_by len_of xs
left_sum pattern key xs =
    let ids = ids_of (met pattern (filter (has_key key) xs)) in
    ap (λ (ys : List Object). sum_by len_of ys + sum_by len_of (met pattern (filter (has_key key) xs))) (each_left key ids xs)
    ∙ same_left pattern key ids xs (λ id e. meets pattern id (filter (has_key key) xs) e) (all_met pattern key xs)
