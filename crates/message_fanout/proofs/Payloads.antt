-- What is raised on a channel, its payloads, and roaming pairs.
use Rattle.std.proofs.Common.{◌≡◌, ℕ, zero, suc, Bool, true, false, ◌&&◌, refl, sym, ◌∙◌, ap, subst, List, [], ◌∷◌, ◌++◌}
use Rattle.std.specs.Prelude.{map, filter, filter_map, find, Option, Some, None, is_none, slice_get, if◌then◌else◌}
use Rattle.std.specs.List.{AllByRecursion, list_all}
use Rattle.byte_text.specs.Names.{Bytes, before}
use Rattle.byte_text.specs.ByteOrder.{other_before, same_refl}
use Rattle.ordered_lists.specs.Reading.{both_of}
use Rattle.world_data.specs.Worlds.{object_at, objects_of, has_key}
use Rattle.world_data.specs.declared.objects.Object.{Object}
use Rattle.world_data.specs.declared.worlds.World.{World}
use Rattle.world_data.specs.declared.worlds.Change.TheVariants.{Put, Del}
use Rattle.world_data.specs.declared.channels.Channel.{Channel}
use Rattle.world_data.specs.declared.channels.Fence.{Fence}
use Rattle.world_data.specs.declared.channels.Kind.{Kind}
use Rattle.world_data.specs.declared.channels.Watch.{Watch}
use Rattle.world_data.specs.declared.channels.Watch.TheVariants.{Zone, Roam}
use Rattle.world_data.specs.declared.channels.Detect.{Detect}
use Rattle.world_data.specs.declared.channels.Detect.TheVariants.{Near, Far}
use Rattle.world_data.specs.declared.channels.Raised.{Raised}
use Rattle.world_data.specs.declared.channels.Raised.TheVariants as raised
use Rattle.planar_geom.specs.declared.shapes.Area.{Area}
use Rattle.fence_model.specs.Fences.{detected, wants_detect, raised_by_put, raised_by_del, raised_of, was_in, is_in_fence, meets_fence, crossed, near_pairs, pair_of, targets, roamed, was_near, is_near, roams_over}
use Rattle.fence_model.specs.Messages.{payloads, set_payload, roam_payload, del_payload}
use Rattle.fence_table.specs.Pairs.{items}
use Rattle.collection.specs.Objects.{has_id, id_before, are_by_id}
use Rattle.message_text.specs.Payloads.{has_objects, is_roamed, payload_of}
use Rattle.roam_fence.specs.Pairs.{is_near_now}
use Rattle.message_fanout.specs.Raises.{IsPair, ArePairs, sent, payloads_of, area_payloads, roam_payloads, detect_of}

-- pairs of what is raised, one after the other

pub first_holds : (P : Raised → Type 0) (a b : Option Raised) → AllByRecursion P (items a b) → AllByRecursion P (items a None)
first_holds P None b all = tt
first_holds P (Some r) None all = all
first_holds P (Some r) (Some s) all = (all.0, tt)

pub second_holds : (P : Raised → Type 0) (a b : Option Raised) → AllByRecursion P (items a b) → AllByRecursion P (items b None)
second_holds P a None all = tt
second_holds P None (Some s) all = all
second_holds P (Some r) (Some s) all = all.1

pub pair_sent : (c : Channel) (o : Object) (a b : Option Raised) → sent c (payloads_of c o (items a b)) ≡ sent c (payloads_of c o (items a None)) ++ sent c (payloads_of c o (items b None))
pair_sent c o None None = refl
pair_sent c o None (Some s) = refl
pair_sent c o (Some r) None = refl
pair_sent c o (Some r) (Some s) = refl

-- what an area detects is of one object

abbrev IsOfOne : Detect → Type 0
IsOfOne d = is_roamed d ≡ false

detected_of_one : (a b c d : Bool) → AllByRecursion IsOfOne (detected a b c d)
detected_of_one false true c d = (refl, (refl, tt))
detected_of_one true false c d = (refl, (refl, tt))
detected_of_one true true c d = (refl, tt)
detected_of_one false false true true = (refl, (refl, tt))
detected_of_one false false true false = (refl, tt)
detected_of_one false false false d = tt

kept_of_one : (test : Detect → Bool) (ds : List Detect) → AllByRecursion IsOfOne ds → AllByRecursion IsOfOne (filter test ds)
kept_of_one test [] all = tt
kept_of_one test (d ∷ ds) all = by (test d) (kept_of_one test ds all.1)
  where
    by : (b : Bool) → AllByRecursion IsOfOne (filter test ds) → AllByRecursion IsOfOne (if b then d ∷ filter test ds else filter test ds)
    by true ih = (all.0, ih)
    by false ih = ih

put_of_one : (f : Fence) (old : Option Object) (new : Object) → AllByRecursion IsOfOne (raised_by_put f old new)
put_of_one f old new = by f.wanted.set
  where
    by : (b : Bool) → AllByRecursion IsOfOne (if b then filter (wants_detect f.wanted) (detected (was_in f old) (is_in_fence f new) (meets_fence f new) (crossed f old new)) else [])
    by true = kept_of_one (wants_detect f.wanted) (detected (was_in f old) (is_in_fence f new) (meets_fence f new) (crossed f old new)) (detected_of_one (was_in f old) (is_in_fence f new) (meets_fence f new) (crossed f old new))
    by false = tt

abbrev Speaks : Object → Raised → Type 0
Speaks o r = has_objects r (Some o) None ≡ true

set_speaks : (o : Object) (ds : List Detect) → AllByRecursion IsOfOne ds → AllByRecursion (Speaks o) (map raised.Set ds)
set_speaks o [] all = tt
set_speaks o (d ∷ ds) all = (ap (λ (b : Bool). if b then false else true) all.0, set_speaks o ds all.1)

pub put_speaks : (c : Channel) (old : Option Object) (o : Object) → AllByRecursion (λ r. has_objects r (Some o) None ≡ true) (raised_of c old (Some o))
put_speaks c old o = set_speaks o (raised_by_put c.fence old o) (put_of_one c.fence old o)

pub del_speaks : (c : Channel) (old : Option Object) (o : Object) → AllByRecursion (λ r. has_objects r (Some o) None ≡ true) (raised_of c old None)
del_speaks c old o = by (raised_by_del c.fence old)
  where
    by : (b : Bool) → AllByRecursion (Speaks o) (if b then raised.Del ∷ [] else [])
    by true = (refl, tt)
    by false = tt

set_payloads : (c : Channel) (o : Object) (ds : List Detect) → payloads_of c o (map raised.Set ds) ≡ map (λ d. set_payload c.name d o) ds
set_payloads c o [] = refl
set_payloads c o (d ∷ ds) = ap (λ (ps : List Bytes). set_payload c.name d o ∷ ps) (set_payloads c o ds)

pub put_payloads_are : (c : Channel) (old : Option Object) (o : Object) → payloads_of c o (raised_of c old (Some o)) ≡ area_payloads c old o
put_payloads_are c old o = set_payloads c o (raised_by_put c.fence old o)

-- the payloads of a put in a world

pub put_over_area : (w : World) (o : Object) (c : Channel) (kind : Kind) (a : Area) (old : Option Object) → c.fence.watch ≡ Zone kind a → object_at w o.key o.id ≡ old → payloads w (Put o) c ≡ area_payloads c old o
put_over_area w o c kind a old is found = rw (is, found) refl

pub put_over_key : (w : World) (o : Object) (c : Channel) (key pattern : Bytes) (meters : ℕ) (nodwell : Bool) (old : Option Object) → c.fence.watch ≡ Roam key pattern meters nodwell → object_at w o.key o.id ≡ old
    → payloads w (Put o) c ≡ roam_payloads c old o (objects_of w key)
put_over_key w o c key pattern meters nodwell old is found = rw (is, found) refl

-- so it is by the objects of the key
pub put_roams : (w : World) (o : Object) (c : Channel) (key pattern : Bytes) (meters : ℕ) (nodwell : Bool) (old : Option Object) (objects targets : List Object) → c.fence.watch ≡ Roam key pattern meters nodwell
    → w.objects ≡ objects → object_at w o.key o.id ≡ old → filter (has_key key) objects ≡ targets → payloads w (Put o) c ≡ roam_payloads c old o targets
put_roams w o c key pattern meters nodwell old objects targets is these found those =
    put_over_key w o c key pattern meters nodwell old is found ∙ ap (roam_payloads c old o) (ap (filter (has_key key)) these ∙ those)

-- the pairs of a fence, by what it watches

near_unmet : (f : Fence) (old : Option Object) (new : Object) (os : List Object) → meets_fence f new ≡ false → near_pairs f old new os ≡ []
near_unmet f old new os meets = rw meets refl

near_spot : (f : Fence) (old : Option Object) (new : Object) (os : List Object) (kind : Kind) (a : Area) → f.watch ≡ Zone kind a → meets_fence f new ≡ true → near_pairs f old new os ≡ []
near_spot f old new os kind a is meets = rw (meets, is) refl

near_roaming : (f : Fence) (old : Option Object) (new : Object) (os : List Object) (key pattern : Bytes) (meters : ℕ) (nodwell : Bool) → f.watch ≡ Roam key pattern meters nodwell → meets_fence f new ≡ true
    → near_pairs f old new os ≡ filter_map (pair_of meters nodwell old new) (targets pattern new os)
near_roaming f old new os key pattern meters nodwell is meets = rw (meets, is) refl

none_near : (f : Fence) (old : Option Object) (new : Object) → near_pairs f old new [] ≡ []
none_near f old new = by (meets_fence f new) refl f.watch refl
  where
    by : (b : Bool) → meets_fence f new ≡ b → (watch : Watch) → f.watch ≡ watch → near_pairs f old new [] ≡ []
    by false meets watch is = near_unmet f old new [] meets
    by true meets (Zone kind a) is = near_spot f old new [] kind a is meets
    by true meets (Roam key pattern meters nodwell) is = near_roaming f old new [] key pattern meters nodwell is meets

pub roams_over_none : (c : Channel) (old : Option Object) (o : Object) → roam_payloads c old o [] ≡ []
roams_over_none c old o = by c.fence.wanted.set
  where
    by : (b : Bool) → (if b then map (roam_payload c.name o) (near_pairs c.fence old o []) else []) ≡ []
    by true = ap (map (roam_payload c.name o)) (none_near c.fence old o)
    by false = refl

-- the payloads of a del in a world

none_and : (b : Bool) → (b && false) ≡ false
none_and true = refl
none_and false = refl

roaming_was_in : (f : Fence) (old : Option Object) (key pattern : Bytes) (meters : ℕ) (nodwell : Bool) → f.watch ≡ Roam key pattern meters nodwell → was_in f old ≡ false
roaming_was_in f None key pattern meters nodwell is = refl
roaming_was_in f (Some o) key pattern meters nodwell is = rw is (none_and (meets_fence f o))

-- a channel that roams tells of no del
pub roaming_tells_none : (f : Fence) (old : Option Object) → (is_none (roams_over f.watch) && raised_by_del f old) ≡ raised_by_del f old
roaming_tells_none f old = by f.watch refl
  where
    by : (watch : Watch) → f.watch ≡ watch → (is_none (roams_over f.watch) && raised_by_del f old) ≡ raised_by_del f old
    by (Zone kind a) is = ap (λ (x : Watch). is_none (roams_over x) && raised_by_del f old) is
    by (Roam key pattern meters nodwell) is =
        ap (λ (x : Watch). is_none (roams_over x) && raised_by_del f old) is
        ∙ sym (ap (λ (b : Bool). f.wanted.del && b) (roaming_was_in f old key pattern meters nodwell is) ∙ none_and f.wanted.del)

pub del_payloads_are : (w : World) (o : Object) (c : Channel) → object_at w o.key o.id ≡ Some o → payloads w (Del o.key o.id) c ≡ payloads_of c o (raised_of c (Some o) None)
del_payloads_are w o c found =
    ap (λ (x : Option Object). told (is_none (roams_over c.fence.watch) && raised_by_del c.fence x)) found
    ∙ ap told (roaming_tells_none c.fence (Some o)) ∙ by (raised_by_del c.fence (Some o))
  where
    told : Bool → List Bytes
    told b = if b then del_payload c.name o.key o.id ∷ [] else []

    by : (b : Bool) → told b ≡ payloads_of c o (if b then raised.Del ∷ [] else [])
    by true = refl
    by false = refl

-- of objects by id each is the first of its id

first_behind : (o : Object) (objects all : List Object) → list_all (id_before o) objects ≡ true → AllByRecursion (λ p. find (has_id p.id) all ≡ Some p) objects → AllByRecursion (λ p. find (has_id p.id) (o ∷ all) ≡ Some p) objects
first_behind o [] all below firsts = tt
first_behind o (p ∷ objects) all below firsts =
    let both = both_of (before o.id p.id) (list_all (id_before o) objects) below in
    (rw (other_before o.id p.id both.0) firsts.0, first_behind o objects all both.1 firsts.1)

all_first : (objects : List Object) → are_by_id objects ≡ true → AllByRecursion (λ p. find (has_id p.id) objects ≡ Some p) objects
all_first [] by_id = tt
all_first (o ∷ objects) by_id =
    let both = both_of (list_all (id_before o) objects) (are_by_id objects) by_id in
    (rw (same_refl o.id) refl, first_behind o objects objects both.0 (all_first objects both.1))

-- roaming pairs

kept_first : (P : Object → Type 0) (test : Object → Bool) (os : List Object) → AllByRecursion P os → AllByRecursion P (filter test os)
kept_first P test [] all = tt
kept_first P test (o ∷ os) all = by (test o) (kept_first P test os all.1)
  where
    by : (b : Bool) → AllByRecursion P (filter test os) → AllByRecursion P (if b then o ∷ filter test os else filter test os)
    by true ih = (all.0, ih)
    by false ih = ih

roamed_is : (nodwell before now : Bool) (d : Detect) → roamed nodwell before now ≡ Some d → detect_of (is_near_now d) ≡ d
roamed_is nodwell false true d e = let is : Near ≡ d = cc in subst (λ (x : Detect). detect_of (is_near_now x) ≡ x) is refl
roamed_is true true true d e = absurd (cc)
roamed_is false true true d e = let is : Near ≡ d = cc in subst (λ (x : Detect). detect_of (is_near_now x) ≡ x) is refl
roamed_is nodwell true false d e = let is : Far ≡ d = cc in subst (λ (x : Detect). detect_of (is_near_now x) ≡ x) is refl
roamed_is nodwell false false d e = absurd (cc)

pairs_of : (meters : ℕ) (nodwell : Bool) (old : Option Object) (new : Object) (objects os : List Object) → AllByRecursion (λ p. find (has_id p.id) objects ≡ Some p) os → ArePairs objects (filter_map (pair_of meters nodwell old new) os)
pairs_of meters nodwell old new objects [] all = tt
pairs_of meters nodwell old new objects (o ∷ os) all = by (roamed nodwell (was_near meters old o) (is_near meters new o)) refl (pairs_of meters nodwell old new objects os all.1)
  where
    rest : List (Object × Detect)
    rest = filter_map (pair_of meters nodwell old new) os

    by : (d : Option Detect) → roamed nodwell (was_near meters old o) (is_near meters new o) ≡ d → ArePairs objects rest → ArePairs objects (filter_map (pair_of meters nodwell old new) (o ∷ os))
    by None e ih = rw e ih
    by (Some d) e ih = rw e ((all.0, roamed_is nodwell (was_near meters old o) (is_near meters new o) d e), ih)

pub near_found : (f : Fence) (old : Option Object) (new : Object) (objects : List Object) → are_by_id objects ≡ true → ArePairs objects (near_pairs f old new objects)
near_found f old new objects by_id = by (meets_fence f new) refl f.watch refl
  where
    by : (b : Bool) → meets_fence f new ≡ b → (watch : Watch) → f.watch ≡ watch → ArePairs objects (near_pairs f old new objects)
    by false meets watch is = subst (ArePairs objects) (sym (near_unmet f old new objects meets)) tt
    by true meets (Zone kind a) is = subst (ArePairs objects) (sym (near_spot f old new objects kind a is meets)) tt
    by true meets (Roam key pattern meters nodwell) is =
        subst (ArePairs objects) (sym (near_roaming f old new objects key pattern meters nodwell is meets))
        (pairs_of meters nodwell old new objects (targets pattern new objects) (kept_first (λ p. find (has_id p.id) objects ≡ Some p) _ objects (all_first objects by_id)))

-- the message of a pair speaks of both objects

pub speaks_of_both : (near : Bool) (o other : Object) → has_objects (raised.Set (detect_of near)) (Some o) (Some other) ≡ true
speaks_of_both true o other = refl
speaks_of_both false o other = refl

pub pair_payload : (c : Channel) (near : Bool) (o other : Object) → payload_of c (raised.Set (detect_of near)) (Some o) (Some other) ≡ roam_payload c.name o (other, detect_of near)
pair_payload c true o other = refl
pair_payload c false o other = refl

-- pairs as a list of them shows them

pub pair_in : (objects : List Object) (list : List (Object × Detect)) (i : ℕ) (x : Object × Detect) → ArePairs objects list → slice_get list i ≡ Some x → IsPair objects x
pair_in objects [] i x all at = absurd (cc)
pair_in objects (y ∷ list) zero x all at = let is : y ≡ x = cc in subst (IsPair objects) is all.0
pair_in objects (y ∷ list) (suc i) x all at = pair_in objects list i x all.1 at
