-- The objects that are due are taken out one by one, and may be put back.
use Rattle.std.proofs.Common.{◌≡◌, ℕ, ◌+◌, ◌*◌, ◌<◌, ◌≤◌, ◌^◌, Bool, true, false, not, refl, sym, ap, ◌∙◌, subst, List, [], ◌∷◌, ◌++◌, length, length-append, arith}
use Rattle.std.specs.Prelude.{Option, Some, None, filter, find, sum_by, nat_le, ◌&&◌, if◌then◌else◌, is_none, codes, decimal}
use Rattle.std.proofs.lemmas.Bool.Decides.{nat_tests}
use Rattle.std.proofs.lemmas.List.Sums.{sum_by-cons}
use Rattle.byte_text.specs.Lines.{bulk_text, line}
use Rattle.byte_text.specs.Names.{Bytes, same}
use Rattle.ordered_lists.specs.Lists.{put_in, sorted_by}
use Rattle.world_data.specs.Worlds.{after, object_at, object_before, has_key, is_at}
use Rattle.world_data.specs.Records.{record_len, weight}
use Rattle.world_data.specs.Expiry.{is_due, due_before}
use Rattle.fence_model.specs.Writes.{dels}
use Rattle.ordered_lists.specs.Ascending.{ascends-filter}
use Rattle.byte_text.specs.ByteOrder.{same_refl}
use Rattle.world_data.specs.declared.objects.Object.{Object}
use Rattle.world_data.specs.declared.worlds.World.{World}
use Rattle.world_data.specs.declared.worlds.Change.TheVariants as change
use Rattle.keyspace.specs.Entries.{Entry, objects_in, room_for, has_room}
use Rattle.object_plans.specs.Kept.{AreKept}
use Rattle.object_plans.specs.Moves.{IsAccepted, world_of}
use Rattle.record_writer.specs.Lengths.{len_of, HasFewFields}
use Rattle.delivery_model.specs.Staging.{after_all, records_len}
use Rattle.tile_core.specs.Dues.{AllStand, AreDueFrom, IsTaken, IsTakenOut, HaveRoom, with_back}
use Rattle.ordered_lists.specs.Reading.{each-filter}
use Rattle.record_writer.specs.LengthLaws.{del_short, put_sum}
use Rattle.object_plans.specs.Standing.{back_there, found_holds, found_sum, shorter}
use Rattle.object_plans.specs.Weights.{weight_sum}
use Rattle.record_writer.specs.ObjectSums.{taken_sum}

-- each record has 17 bytes at least, since it has five words
pub as_heavy : (xs : List Object) → 17 * length xs ≤ weight (world_of xs)
as_heavy xs = subst (λ (n : ℕ). 17 * length xs ≤ n) (sym (weight_sum xs)) (at_least xs)
  where
    word : (w : Bytes) → length w + 3 ≤ length (bulk_text w)
    word w = omega (arith, length-append (line 36 (decimal (length w))) (w ++ 13 ∷ 10 ∷ []), length-append w (13 ∷ 10 ∷ []))

    one : (o : Object) → 17 ≤ len_of o
    one o = omega (arith, put_sum o _ _ _ _ _ _ _ _ _ refl refl refl refl refl refl refl refl refl, word (codes "SET"), word (codes "OBJECT"), word o.key)

    at_least : (ys : List Object) → 17 * length ys ≤ sum_by len_of ys
    at_least [] = omega arith
    at_least (y ∷ ys) = omega (arith, at_least ys, one y, sum_by-cons len_of y ys)

-- no record of an object weighs more than all
pub weighs : (xs : List Object) (o : Object) → find (is_at o.key o.id) xs ≡ Some o → len_of o ≤ weight (world_of xs)
weighs xs o here = subst (λ (n : ℕ). len_of o ≤ n) (sym (weight_sum xs)) (found_sum (is_at o.key o.id) o len_of xs here)

-- so there are not too many
pub are_few : (xs : List Object) (total : ℕ) → AreKept xs total → length xs < 2 ^ 32
are_few xs total kept = omega (arith, as_heavy xs, kept.weighed, kept.light)

-- the last one that was taken out

pub back_last : (xs hs : List Object) (h : Object) → with_back xs (hs ++ h ∷ []) ≡ with_back (put_in object_before h xs) hs
back_last xs [] h = refl
back_last xs (g ∷ hs) h = ap (put_in object_before g) (back_last xs hs h)

order_last : (hs : List Object) (h : Object) (os : List Object) → (hs ++ h ∷ []) ++ os ≡ hs ++ h ∷ os
order_last [] h os = refl
order_last (g ∷ hs) h os = ap (λ (ps : List Object). g ∷ ps) (order_last hs h os)

world_last : (w : World) (hs : List Object) (h : Object) → after_all w (dels (hs ++ h ∷ [])) ≡ after (after_all w (dels hs)) (change.Del h.key h.id)
world_last w [] h = refl
world_last w (g ∷ hs) h = world_last (after w (change.Del g.key g.id)) hs h

stand_last : (w : World) (hs : List Object) (h : Object) → AllStand w hs → object_at (after_all w (dels hs)) h.key h.id ≡ Some h → AllStand w (hs ++ h ∷ [])
stand_last w [] h all is = (is, tt)
stand_last w (g ∷ hs) h all is = (all.0, stand_last (after w (change.Del g.key g.id)) hs h all.1 is)

length_last : (hs : List Object) (h : Object) → records_len (dels (hs ++ h ∷ [])) ≡ records_len (dels hs) + record_len (change.Del h.key h.id)
length_last [] h = omega arith
length_last (g ∷ hs) h = let ih = length_last hs h in omega (arith, ih)

-- room for what was taken out

abbrev one_if : Bool → ℕ
one_if b = if b then 1 else 0

count_last : (key : Bytes) (hs : List Object) (h : Object) → length (filter (has_key key) (hs ++ h ∷ [])) ≡ length (filter (has_key key) hs) + one_if (same h.key key)
count_last key [] h = by (same h.key key)
  where
    by : (b : Bool) → length (if b then h ∷ [] else []) ≡ 0 + one_if b
    by true = refl
    by false = refl
count_last key (g ∷ hs) h = by (same g.key key) (count_last key hs h)
  where
    by : (b : Bool) → length (filter (has_key key) (hs ++ h ∷ [])) ≡ length (filter (has_key key) hs) + one_if (same h.key key)
        → length (if b then g ∷ filter (has_key key) (hs ++ h ∷ []) else filter (has_key key) (hs ++ h ∷ [])) ≡ length (if b then g ∷ filter (has_key key) hs else filter (has_key key) hs) + one_if (same h.key key)
    by true ih = omega (arith, ih)
    by false ih = ih

module _ (entries : List Entry) (held : List Object) (o : Object) where
  pub room_more : (next : List Entry) → HaveRoom entries held → ((key : Bytes) → room_for entries key + one_if (same o.key key) ≤ room_for next key) → HaveRoom next (held ++ o ∷ [])
  room_more next room more key = omega (arith, count_last key held o, room key, more key)

  module _ (room : HaveRoom entries (held ++ o ∷ [])) where
    pub room_here : has_room entries o ≡ true
    room_here =
        let s = same_refl o.key in
        let one : one_if (same o.key o.key) ≡ 1 = rw s refl in
        let le : 1 ≤ room_for entries o.key = omega (arith, count_last o.key held o, room o.key, one) in
        let t : nat_le 1 (room_for entries o.key) ≡ true = grind (arith, nat_tests) in
        rw t refl

    pub room_less : (next : List Entry) (b : Bool) → ((key : Bytes) → room_for entries key ≤ room_for next key + one_if (same o.key key && b)) → HaveRoom next held
    room_less next b kept key =
        let most : one_if (same o.key key && b) ≤ one_if (same o.key key) = at_most (same o.key key) b in
        omega (arith, count_last key held o, room key, kept key, most)
      where
        at_most : (a c : Bool) → one_if (a && c) ≤ one_if a
        at_most true true = omega arith
        at_most true false = omega arith
        at_most false c = omega arith

-- nothing is due before the first deadline
pub none_due : (due_from now : ℕ) (xs : List Object) → AreDueFrom due_from xs → now < due_from → filter (is_due now) xs ≡ []
none_due due_from now [] ps lt = refl
none_due due_from now (x ∷ xs) ps lt = rw (far x.deadline refl) (none_due due_from now xs ps.1 lt)
  where
    far : (d : Option ℕ) → x.deadline ≡ d → is_due now x ≡ false
    far None e = rw e refl
    far (Some d) e = let le = ps.0 d e in let t : nat_le d now ≡ false = grind (arith, nat_tests) in rw e t

-- the taking

pub taken_none : (old : List Object) (now total : ℕ) → AreKept old total → IsTaken old now total old [] 0 total
taken_none old now total kept = record { back = refl; order = refl; world = refl; stand = tt; sorted = kept.sorted; few = kept.few; accepted = kept.accepted; length_is = refl; rest_is = kept.weighed; small = omega arith; count = omega arith }

module _ (old : List Object) (now total : ℕ) (xs held : List Object) (len rest : ℕ) (t : IsTaken old now total xs held len rest) where
  one_more : (o : Object) (longer less : ℕ) → find (is_at o.key o.id) xs ≡ Some o
      → sorted_by due_before (filter (is_due now) xs) ≡ o ∷ sorted_by due_before (filter (is_due now) (filter (λ p. not (is_at o.key o.id p)) xs))
      → longer ≡ len + record_len (change.Del o.key o.id) → less + record_len (change.Put o) ≡ rest
      → IsTaken old now total (filter (λ p. not (is_at o.key o.id p)) xs) (held ++ o ∷ []) longer less
  one_more o longer less here first long light =
      let others : Object → Bool = λ p. not (is_at o.key o.id p) in
      let left = filter others xs in
      record {
        back = back_last left held o ∙ ap (λ (ys : List Object). with_back ys held) (back_there o xs t.sorted here) ∙ t.back;
        order = order_last held o (sorted_by due_before (filter (is_due now) left)) ∙ ap (λ (os : List Object). held ++ os) (sym first) ∙ t.order;
        world = world_last (world_of old) held o ∙ ap (λ (w : World). after w (change.Del o.key o.id)) t.world;
        stand = stand_last (world_of old) held o t.stand (subst (λ (w : World). object_at w o.key o.id ≡ Some o) (sym t.world) here);
        sorted = ascends-filter object_before others xs t.sorted;
        few = each-filter HasFewFields others xs t.few;
        accepted = each-filter IsAccepted others xs t.accepted;
        length_is = let all = length_last held o in omega (arith, all, long, t.length_is);
        rest_is = let w = taken_sum len_of o.key o.id xs o t.sorted here in omega (arith, w, light, t.rest_is, weight_sum xs, weight_sum left);
        small = let short = del_short o (found_holds (is_at o.key o.id) o HasFewFields xs here t.few) in omega (arith, short, long, light, t.small);
        count = let less = shorter (is_at o.key o.id) o xs here in omega (arith, less, length-append held (o ∷ []), t.count);
      }

  pub taken_more : (new more : List Object) (longer less : ℕ) → IsTakenOut xs now new held more len longer rest less → IsTaken old now total new more longer less
  taken_more new more longer less out =
      let o = out.object in
      let first = subst (λ (os : List Object). sorted_by due_before (filter (is_due now) xs) ≡ o ∷ sorted_by due_before (filter (is_due now) os)) out.left out.first in
      subst (λ (os : List Object). IsTaken old now total os more longer less) (sym out.left)
      (subst (λ (hs : List Object). IsTaken old now total (filter (λ p. not (is_at o.key o.id p)) xs) hs longer less) (sym out.held_is) (one_more o longer less out.here first out.length_is out.rest_is))

-- then there is one less
pub fewer : (xs : List Object) (now : ℕ) (new held more : List Object) (len longer rest less : ℕ) → IsTakenOut xs now new held more len longer rest less → length new < length xs
fewer xs now new held more len longer rest less out = let o = out.object in subst (λ (os : List Object). length os < length xs) (sym out.left) (shorter (is_at o.key o.id) o xs out.here)

-- the putting back

module _ (entries next : List Entry) (held whole more : List Object) (o : Object) (was : Option Object) (popped : more ≡ held ++ o ∷ []) where
  pub whole_back : objects_in next ≡ put_in object_before o (objects_in entries) → with_back (objects_in entries) more ≡ whole → with_back (objects_in next) held ≡ whole
  whole_back put back = ap (λ (os : List Object). with_back os held) put ∙ sym (back_last (objects_in entries) held o) ∙ ap (with_back (objects_in entries)) (sym popped) ∙ back

  pub room_back : HaveRoom entries more → ((key : Bytes) → room_for entries key ≤ room_for next key + (if same o.key key && is_none was then 1 else 0)) → HaveRoom next held
  room_back room kept = room_less entries held o (subst (HaveRoom entries) popped room) next (is_none was) kept

  pub few_back : length (objects_in next) ≤ length (objects_in entries) + 1 → length (objects_in entries) + length more < 2 ^ 32 → length (objects_in next) + length held < 2 ^ 32
  few_back one few = omega (arith, one, few, ap length popped, length-append held (o ∷ []))
