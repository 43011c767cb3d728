-- A piece takes the items that are left one behind another.
use Rattle.std.proofs.Common.{◌≡◌, ◌∙◌, ◌≤◌, ◌+◌, ℕ, Bool, true, false, List, [], ◌∷◌, ◌++◌, length, take, drop, refl, sym, ap, subst, append_assoc, append-nil, length-append, arith}
use Rattle.std.specs.Prelude.{Option, Some, None, filter, find, map}
use Rattle.std.specs.List.{AllByRecursion}
use Rattle.std.proofs.Math.Seq.{take-append_seam, drop-append_seam}
use Rattle.std.proofs.lemmas.List.{map-append, take_all, drop_all}
use Rattle.std.proofs.lemmas.Grind.{flat_map-append}
use Rattle.byte_text.specs.Names.{Bytes}
use Rattle.ordered_lists.specs.Reading.{each-append}
use Rattle.world_data.specs.Records.{record_writer}
use Rattle.world_data.specs.Worlds.{is_sorted_world}
use Rattle.world_data.specs.declared.channels.Channel.{Channel}
use Rattle.world_data.specs.declared.objects.Object.{Object}
use Rattle.world_data.specs.declared.worlds.Change.{Change}
use Rattle.world_data.specs.declared.worlds.World.{World}
use Rattle.journal.specs.declared.pieces.Piece.{Piece}
use Rattle.log_record.specs.Batches.{records_text}
use Rattle.log_record.specs.Words.{IsRecorded}
use Rattle.durable_core.specs.declared.rewritings.LastCopied.{LastCopied}
use Rattle.durable_core.specs.Rewriting.{Item, of_channel, of_object, change_of, changes_of, items_left, last_of, last_behind}
use Rattle.durable_core.specs.Pieces.{Took, TookFirst, HasTaken, HasTakenSome}
use Rattle.durable_core.proofs.Copying.{next_left}

-- what is found is the first of those that pass

pub none_left : {A : Type 0} (p : A → Bool) (xs : List A) → find p xs ≡ None → filter p xs ≡ []
none_left p [] is = refl
none_left p (x ∷ xs) is = by (p x) refl (none_left p xs)
  where
    by : (b : Bool) → p x ≡ b → (find p xs ≡ None → filter p xs ≡ []) → filter p (x ∷ xs) ≡ []
    by true e ih = absurd (let some : Some x ≡ None = rw e at is in cc)
    by false e ih = rw e (ih (rw e at is))

pub one_left : {A : Type 0} (p : A → Bool) (xs : List A) (x : A) → find p xs ≡ Some x → (rest : List A) × (filter p xs ≡ x ∷ rest)
one_left p [] x is = absurd (cc)
one_left {A} p (y ∷ ys) x is = by (p y) refl (one_left p ys x)
  where
    by : (b : Bool) → p y ≡ b → (find p ys ≡ Some x → (rest : List A) × (filter p ys ≡ x ∷ rest)) → (rest : List A) × (filter p (y ∷ ys) ≡ x ∷ rest)
    by true e ih = let it : y ≡ x = cc (rw e at is) in (filter p ys, rw e (ap (λ (z : A). z ∷ filter p ys) it))
    by false e ih = let later = ih (rw e at is) in (later.0, rw e later.1)

-- the record that was put
pub put_record : (old new bytes entry from : Bytes) (change : Change) → new ≡ old ++ bytes → bytes ≡ entry → entry ≡ from ++ record_writer change → from ≡ [] → new ≡ old ++ record_writer change
put_record old new bytes entry from change e f g none = e ∙ ap (λ (l : Bytes). old ++ l) (f ∙ g ∙ ap (λ (l : Bytes). l ++ record_writer change) none)

-- channels are items, and objects behind them are

pub channel_taken : (cs : List Channel) (items : List Item) (old new : Piece) (last : LastCopied) → TookFirst of_channel cs old new last
    → TookFirst (λ (item : Item). item) (map of_channel cs ++ items) old new last
channel_taken cs items old new last took = record {
  first = of_channel took.first;
  rest = map of_channel took.rest ++ items;
  left_is = ap (λ (ds : List Channel). map of_channel ds ++ items) took.left_is;
  last_is = took.last_is;
  recorded = took.recorded;
  records = took.records;
  items = took.items;
}

pub object_taken : (os : List Object) (old new : Piece) (r : Option LastCopied) → Took of_object os old new r → Took (λ (item : Item). item) (map of_object os) old new r
object_taken os old new None took = (ap (map of_object) took.0, took.1)
object_taken os old new (Some last) took = record {
  first = of_object took.first;
  rest = map of_object took.rest;
  left_is = ap (map of_object) took.left_is;
  last_is = took.last_is;
  recorded = took.recorded;
  records = took.records;
  items = took.items;
}

pub objects_behind : (cs : List Channel) (os : List Object) (old mid new : Piece) (r : Option LastCopied) → cs ≡ [] → mid ≡ old → Took of_object os mid new r
    → Took (λ (item : Item). item) (map of_channel cs ++ map of_object os) old new r
objects_behind cs os old mid new r none same took =
    subst (λ (ds : List Channel). Took (λ (item : Item). item) (map of_channel ds ++ map of_object os) old new r) (sym none)
    (subst (λ (p : Piece). Took (λ (item : Item). item) (map of_object os) p new r) same (object_taken os mid new r took))

-- one behind another

last_one : (from : LastCopied) (items : List Item) (item : Item) → last_behind from (items ++ item ∷ []) ≡ last_of item
last_one from [] item = refl
last_one from (i ∷ items) item = last_one (last_of i) items item

pub taken_none : (from : LastCopied) (w : World) (piece : Piece) (last : LastCopied) → piece.records ≡ [] → piece.items ≡ 0 → last ≡ from → HasTakenSome from w 0 piece last
taken_none from w piece last records items is = record {
  taken = [];
  rest = items_left from w;
  has = record { split = refl; items = items; records = records; recorded = tt; last_is = is; left = ap (λ (l : LastCopied). items_left l w) is };
  count = refl;
}

pub taken_one : (from : LastCopied) (w : World) (n : ℕ) (old new : Piece) (last next : LastCopied) → is_sorted_world w ≡ true → HasTakenSome from w n old last
    → TookFirst (λ (item : Item). item) (items_left last w) old new next → HasTakenSome from w (n + 1) new next
taken_one from w n old new last next sorted some took =
    let has = some.has in
    let more : changes_of (some.taken ++ took.first ∷ []) ≡ changes_of some.taken ++ change_of took.first ∷ [] = map-append change_of some.taken (took.first ∷ []) in
    let rest_is : some.rest ≡ took.first ∷ took.rest = sym has.left ∙ took.left_is in
    record {
      taken = some.taken ++ took.first ∷ [];
      rest = took.rest;
      has = record {
        split = rw append_assoc (has.split ∙ ap (λ (l : List Item). some.taken ++ l) rest_is);
        items = took.items ∙ ap (λ (k : ℕ). k + 1) has.items ∙ sym (length-append some.taken (took.first ∷ []));
        records = took.records ∙ ap (λ (l : Bytes). l ++ record_writer (change_of took.first)) has.records
            ∙ ap (λ (l : Bytes). records_text (changes_of some.taken) ++ l) (sym (append-nil (record_writer (change_of took.first))))
            ∙ sym (flat_map-append record_writer (changes_of some.taken) (change_of took.first ∷ [])) ∙ ap records_text (sym more);
        recorded = subst (AllByRecursion IsRecorded) (sym more) (each-append IsRecorded (changes_of some.taken) (change_of took.first ∷ []) has.recorded (took.recorded, tt));
        last_is = took.last_is ∙ sym (last_one from some.taken took.first);
        left = ap (λ (l : LastCopied). items_left l w) took.last_is ∙ next_left w sorted last took.first took.rest took.left_is;
      };
      count = length-append some.taken (took.first ∷ []) ∙ ap (λ (k : ℕ). k + 1) some.count;
    }

-- the first so many

take_few : {A : Type 0} (n : ℕ) (xs : List A) → length xs ≤ n → (take n xs ≡ xs) × (drop n xs ≡ [])
take_few n [] few = (take_all n [] few, drop_all n [] few)
take_few n (x ∷ xs) few = (take_all n (x ∷ xs) few, drop_all n (x ∷ xs) few)

as_front : (from last : LastCopied) (w : World) (taken rest front back : List Item) (piece : Piece) → front ≡ taken → back ≡ rest → HasTaken from w taken rest piece last
    → HasTaken from w front back piece last
as_front from last w taken rest front back piece f b has =
    subst (λ (xs : List Item). HasTaken from w xs back piece last) (sym f) (subst (λ (ys : List Item). HasTaken from w taken ys piece last) (sym b) has)

pub taken_all : (from : LastCopied) (w : World) (n : ℕ) (piece : Piece) (last : LastCopied) → HasTakenSome from w n piece last → n ≡ 256
    → HasTaken from w (take 256 (items_left from w)) (drop 256 (items_left from w)) piece last
taken_all from w n piece last some full =
    let so_many = some.count ∙ full in
    as_front from last w some.taken some.rest (take 256 (items_left from w)) (drop 256 (items_left from w)) piece
    (ap (take 256) some.has.split ∙ subst (λ (m : ℕ). take m (some.taken ++ some.rest) ≡ some.taken) so_many (take-append_seam some.taken some.rest))
    (ap (drop 256) some.has.split ∙ subst (λ (m : ℕ). drop m (some.taken ++ some.rest) ≡ some.rest) so_many (drop-append_seam some.taken some.rest)) some.has

pub taken_rest : (from : LastCopied) (w : World) (n : ℕ) (piece : Piece) (last : LastCopied) → HasTakenSome from w n piece last → n ≤ 256 → items_left last w ≡ []
    → HasTaken from w (take 256 (items_left from w)) (drop 256 (items_left from w)) piece last
taken_rest from w n piece last some few none =
    let rest_is : some.rest ≡ [] = sym some.has.left ∙ none in
    let all : items_left from w ≡ some.taken = some.has.split ∙ ap (λ (l : List Item). some.taken ++ l) rest_is ∙ append-nil some.taken in
    let cut = take_few 256 some.taken (omega (arith, some.count, few)) in
    as_front from last w some.taken some.rest (take 256 (items_left from w)) (drop 256 (items_left from w)) piece
    (ap (take 256) all ∙ cut.0) (ap (drop 256) all ∙ cut.1 ∙ sym rest_is) some.has
