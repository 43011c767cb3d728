-- Objects that are taken out by their ids are there.
use Rattle.std.proofs.Common.{◌≡◌, Bool, true, false, not, refl, sym, ap, ◌∙◌, subst, List, [], ◌∷◌, map, arith}
use Rattle.std.specs.Prelude.{Some, find, filter, if◌then◌else◌, ◌&&◌}
use Rattle.std.specs.List.{AllByRecursion, list_all}
use Rattle.byte_text.specs.Names.{Bytes, same}
use Rattle.byte_text.specs.ByteOrder.{same_refl}
use Rattle.byte_text.specs.Globs.{glob_meets}
use Rattle.world_data.specs.Worlds.{are_objects, object_before, has_key, is_at}
use Rattle.world_data.specs.declared.objects.Object.{Object}
use Rattle.object_plans.specs.Moves.{AllThere}
use Rattle.object_plans.specs.Sweeps.{met}
use Rattle.ordered_lists.specs.Reading.{each-filter}
use Rattle.object_plans.proofs.Sweeping.{HaveKey, keyed}
use Rattle.record_writer.specs.ObjectSums.{at_is, other_at}

-- what is found among all is found among those that have what it has
find_among : (p q : Object → Bool) (xs : List Object) → ((o : Object) → p o ≡ true → q o ≡ true) → find p (filter q xs) ≡ find p xs
find_among p q [] has = refl
find_among p q (x ∷ xs) has = by (p x) (q x) refl refl (find_among p q xs has)
  where
    by : (a b : Bool) → p x ≡ a → q x ≡ b → find p (filter q xs) ≡ find p xs → find p (if b then x ∷ filter q xs else filter q xs) ≡ (if a then Some x else find p xs)
    by true true e f ih = rw e refl
    by true false e f ih = let t = has x e in absurd (cc)
    by false true e f ih = rw e ih
    by false false e f ih = ih

-- each object is the one at its place

not_at : (x y : Object) → object_before x y ≡ true → is_at y.key y.id x ≡ false
not_at x y lt = by (is_at y.key y.id x) refl
  where
    by : (t : Bool) → is_at y.key y.id x ≡ t → is_at y.key y.id x ≡ false
    by true e = let no = other_at y x e in absurd (cc)
    by false e = e

abbrev AreFound : List Object → List Object → Type 0
AreFound xs ys = AllByRecursion (λ y. find (is_at y.key y.id) xs ≡ Some y) ys

found_behind : (x : Object) (xs ys : List Object) → list_all (object_before x) ys ≡ true → AreFound xs ys → AreFound (x ∷ xs) ys
found_behind x xs [] all found = tt
found_behind x xs (y ∷ ys) all found =
    let here : object_before x y ≡ true = grind arith in
    let rest : list_all (object_before x) ys ≡ true = grind arith in
    let t = not_at x y here in
    (rw t found.0, found_behind x xs ys rest found.1)

all_found : (xs : List Object) → are_objects xs ≡ true → AreFound xs xs
all_found [] asc = tt
all_found (x ∷ xs) asc =
    let behind : list_all (object_before x) xs ≡ true = grind arith in
    let rest : are_objects xs ≡ true = grind arith in
    (rw (same_refl x.key, same_refl x.id) refl, found_behind x xs xs behind (all_found xs rest))

-- some of them in order

some_behind : (x : Object) (p : Object → Bool) (xs : List Object) → list_all (object_before x) xs ≡ true → list_all (object_before x) (filter p xs) ≡ true
some_behind x p [] all = refl
some_behind x p (y ∷ ys) all =
    let here : object_before x y ≡ true = grind arith in
    let rest : list_all (object_before x) ys ≡ true = grind arith in
    by (p y) here (some_behind x p ys rest)
  where
    by : (b : Bool) → object_before x y ≡ true → list_all (object_before x) (filter p ys) ≡ true → list_all (object_before x) (if b then y ∷ filter p ys else filter p ys) ≡ true
    by true e ih = rw e ih
    by false e ih = ih

some_objects : (p : Object → Bool) (xs : List Object) → are_objects xs ≡ true → are_objects (filter p xs) ≡ true
some_objects p [] asc = refl
some_objects p (x ∷ xs) asc =
    let behind : list_all (object_before x) xs ≡ true = grind arith in
    let rest : are_objects xs ≡ true = grind arith in
    by (p x) (some_behind x p xs behind) (some_objects p xs rest)
  where
    by : (b : Bool) → list_all (object_before x) (filter p xs) ≡ true → are_objects (filter p xs) ≡ true → are_objects (if b then x ∷ filter p xs else filter p xs) ≡ true
    by true e ih = rw e ih
    by false e ih = ih

-- one after another

abbrev AreAt : Bytes → List Object → List Object → Type 0
AreAt key xs gone = AllByRecursion (λ g. find (is_at key g.id) xs ≡ Some g) gone

apart : (key : Bytes) (g h o : Object) → g.key ≡ key → h.key ≡ key → object_before g h ≡ true → is_at key h.id o ≡ true → not (is_at key g.id o) ≡ true
apart key g h o gk hk lt e = by (is_at key g.id o) refl
  where
    by : (t : Bool) → is_at key g.id o ≡ t → not t ≡ true
    by true f =
        let i : g.id ≡ h.id = sym ((at_is key g.id o f).1) ∙ (at_is key h.id o e).1 in
        let k : g.key ≡ h.key = gk ∙ sym hk in
        let self : is_at h.key h.id h ≡ true = rw (same_refl h.key, same_refl h.id) refl in
        let at : is_at h.key h.id g ≡ true = ap (λ (m : Bytes). same m h.key && same g.id h.id) k ∙ ap (λ (m : Bytes). same h.key h.key && same m h.id) i ∙ self in
        let no = other_at h g at in
        absurd (cc)
    by false f = refl

at_without : (key : Bytes) (g : Object) (xs rest : List Object) → g.key ≡ key → HaveKey key rest → list_all (object_before g) rest ≡ true → AreAt key xs rest → AreAt key (filter (λ o. not (is_at key g.id o)) xs) rest
at_without key g xs [] gk keys all found = tt
at_without key g xs (h ∷ rest) gk keys all found =
    let here : object_before g h ≡ true = grind arith in
    let behind : list_all (object_before g) rest ≡ true = grind arith in
    (find_among (is_at key h.id) (λ o. not (is_at key g.id o)) xs (λ o e. apart key g h o gk keys.0 here e) ∙ found.0, at_without key g xs rest gk keys.1 behind found.1)

each_there : (key : Bytes) (gone xs : List Object) → HaveKey key gone → are_objects gone ≡ true → AreAt key xs gone → AllThere key (map (λ o. o.id) gone) xs
each_there key [] xs keys asc found = tt
each_there key (g ∷ gone) xs keys asc found =
    let behind : list_all (object_before g) gone ≡ true = grind arith in
    let rest : are_objects gone ≡ true = grind arith in
    ((g, found.0), each_there key gone (filter (λ o. not (is_at key g.id o)) xs) keys.1 rest (at_without key g xs gone keys.0 keys.1 behind found.1))

at_key : (key : Bytes) (xs gone : List Object) → HaveKey key gone → AreFound xs gone → AreAt key xs gone
at_key key xs [] keys found = tt
at_key key xs (g ∷ gone) keys found = (subst (λ (k : Bytes). find (is_at k g.id) xs ≡ Some g) keys.0 found.0, at_key key xs gone keys.1 found.1)

-- the objects of a key whose ids meet a pattern are there
pub met_there : (pattern key : Bytes) (xs : List Object) → are_objects xs ≡ true → AllThere key (map (λ o. o.id) (met pattern (filter (has_key key) xs))) xs
met_there pattern key xs asc =
    let held = filter (has_key key) xs in
    let gone = met pattern held in
    let keys : HaveKey key gone = each-filter (λ o. o.key ≡ key) (λ o. glob_meets pattern o.id) held (keyed key xs) in
    let found : AreFound xs gone = each-filter (λ y. find (is_at y.key y.id) xs ≡ Some y) (λ o. glob_meets pattern o.id) held (each-filter (λ y. find (is_at y.key y.id) xs ≡ Some y) (has_key key) xs (all_found xs asc)) in
    each_there key gone xs keys (some_objects (λ o. glob_meets pattern o.id) held (some_objects (has_key key) xs asc)) (at_key key xs gone keys found)
