-- The records of writes, appended to a text one behind another.
use Rattle.std.proofs.Common.{◌≡◌, ℕ, zero, suc, ◌+◌, ◌<◌, ◌≤◌, Bool, true, false, not, length, refl, sym, ap, ◌∙◌, subst, List, [], ◌∷◌, ◌++◌, map, take, drop, add-one, append_assoc, append-nil, arith}
use Rattle.std.specs.Prelude.{Some, filter, nat_lt, slice_get, unwrap_or}
use Rattle.std.specs.List.{AllByRecursion, list_all}
use Rattle.std.proofs.lemmas.Bool.Decides.{nat_tests}
use Rattle.ordered_lists.specs.Reading.{filter-all, filter-none}
use Rattle.byte_text.specs.Names.{Bytes}
use Rattle.world_data.specs.Records.{record_writer}
use Rattle.fence_model.specs.Writes.{Write, announced, going, silent}
use Rattle.world_data.specs.Expiry.{deadline_of, deletions, goes_before, in_turn}
use Rattle.world_data.specs.declared.channels.Channel.{Channel}
use Rattle.world_data.specs.declared.objects.Object.{Object}
use Rattle.world_data.specs.declared.worlds.Change.TheVariants as change
use Rattle.world_model.specs.Halls.{Hall}
use Rattle.world_model.specs.declared.events.Event.{Event}
use Rattle.log_record.specs.Batches.{records_text}
use Rattle.log_record.specs.EventWrites.{changes_of, writes_of}
use Rattle.log_record.specs.Words.{IsRecorded}
use Rattle.record_writer.specs.ObjectSums.{take_more}
use Rattle.tile_core.specs.Orders.{Rise, first_goes}
use Rattle.tile_core.proofs.Orders.{deadline_is}
use Rattle.tile_core.specs.RecordSinks.{ArePushed, ArePushedUpTo, AreTaken, IsRecordedBy}

all_behind : (one other : List Write) → AllByRecursion IsRecorded (changes_of one) → AllByRecursion IsRecorded (changes_of other) → AllByRecursion IsRecorded (changes_of (one ++ other))
all_behind [] other a b = b
all_behind (d ∷ one) other a b = (a.0, all_behind one other a.1 b)

text_behind : (one other : List Write) → records_text (changes_of (one ++ other)) ≡ records_text (changes_of one) ++ records_text (changes_of other)
text_behind [] other = refl
text_behind (d ∷ one) other = ap (λ (rest : Bytes). record_writer d.change ++ rest) (text_behind one other) ∙ sym (append_assoc (record_writer d.change) (records_text (changes_of one)) (records_text (changes_of other)))

pub pushed_none : (text : Bytes) → ArePushed [] text text
pushed_none text = record { text = sym (append-nil text); recorded = tt }

pub pushed_one : (d : Write) (old new : Bytes) → new ≡ old ++ record_writer d.change → IsRecorded d.change → ArePushed (d ∷ []) old new
pushed_one d old new is recorded = record { text = is ∙ ap (λ (rest : Bytes). old ++ rest) (sym (append-nil (record_writer d.change))); recorded = (recorded, tt) }

pub pushed_then : (one other : List Write) (old mid new : Bytes) → ArePushed one old mid → ArePushed other mid new → ArePushed (one ++ other) old new
pushed_then one other old mid new first second = record {
  text =
      second.text
      ∙ ap (λ (front : Bytes). front ++ records_text (changes_of other)) first.text
      ∙ append_assoc old (records_text (changes_of one)) (records_text (changes_of other))
      ∙ ap (λ (rest : Bytes). old ++ rest) (sym (text_behind one other));
  recorded = all_behind one other first.recorded second.recorded;
}

-- the write of the item at a place behind those before it
pub pushed_more : {A : Type 0} (write : A → Write) (xs : List A) (i : ℕ) (x : A) (old mid new : Bytes) → slice_get xs i ≡ Some x
    → ArePushed (map write (take i xs)) old mid → ArePushed (write x ∷ []) mid new → ArePushed (map write (take (i + 1) xs)) old new
pushed_more {A = A} write xs i x old mid new at before one =
    let next : take i xs ++ x ∷ [] ≡ take (i + 1) xs = rw add-one (take_more xs i x at) in
    subst (λ (ws : List Write). ArePushed ws old new) (sym (mapped (take i xs)) ∙ ap (map write) next)
    (pushed_then (map write (take i xs)) (write x ∷ []) old mid new before one)
  where
    mapped : (ys : List A) → map write (ys ++ x ∷ []) ≡ map write ys ++ write x ∷ []
    mapped [] = refl
    mapped (y ∷ ys) = ap (λ (ws : List Write). write y ∷ ws) (mapped ys)

-- what was taken is what an event writes
pub recorded_by : {L : Type 0} (takes : L → Bytes → L → Type 0) (h : Hall) (event : Event) (writes : List Write) (old new : L) → writes_of h event ≡ writes → AreTaken takes writes old new → IsRecordedBy takes h event old new
recorded_by takes h event writes old new is t = record {
  took = subst (λ (ws : List Write). takes old (records_text (changes_of ws)) new) (sym is) t.took;
  recorded = subst (λ (ws : List Write). AllByRecursion IsRecorded (changes_of ws)) (sym is) t.recorded;
}

-- what is left to push

pub up_to_more : (all left : List Write) (d : Write) (old mid next : Bytes) → ArePushedUpTo all (d ∷ left) old mid → ArePushed (d ∷ []) mid next → ArePushedUpTo all left old next
up_to_more all left d old mid next up one new rest = up new (pushed_then (d ∷ []) left mid next new one rest)

pub drop_at : {A : Type 0} (xs : List A) (i : ℕ) (x : A) → slice_get xs i ≡ Some x → drop i xs ≡ x ∷ drop (i + 1) xs
drop_at [] i x at = absurd (cc)
drop_at (y ∷ xs) zero x at = let is : y ≡ x = cc in ap (λ z. z ∷ xs) is
drop_at (y ∷ xs) (suc i) x at = let one : suc i + 1 ≡ suc (i + 1) = omega arith in rw one (drop_at xs i x at)

pub drop_end : {A : Type 0} (xs : List A) (i : ℕ) → length xs ≤ i → drop i xs ≡ []
drop_end [] zero le = refl
drop_end [] (suc i) le = refl
drop_end (x ∷ xs) zero le = absurd (omega (arith, le))
drop_end (x ∷ xs) (suc i) le = drop_end xs i (omega (arith, le))

abbrev until : Channel → ℕ
until c = deadline_of c.deadline

module _ (o : Object) (out : List Channel) (at : ℕ) where
  -- a channel that goes before the object stands there
  pub goes_within : first_goes o (drop at out) ≡ true → at < length out
  goes_within goes = by (nat_lt at (length out)) refl
    where
      by : (b : Bool) → nat_lt at (length out) ≡ b → at < length out
      by true e = grind (arith, nat_tests)
      by false e =
          let le : length out ≤ at = grind (arith, nat_tests) in
          absurd (let no : first_goes o [] ≡ true = subst (λ (cs : List Channel). first_goes o cs ≡ true) (drop_end out at le) goes in cc)

  -- it goes next
  pub it_goes : (c : Channel) (more : List Object) → slice_get out at ≡ Some c → first_goes o (drop at out) ≡ true
      → map going (in_turn (o ∷ more) (drop at out)) ≡ silent (change.DelChan c.name) ∷ map going (in_turn (o ∷ more) (drop (at + 1) out))
  it_goes c more here goes =
      let front = drop_at out at c here in
      let before_ : goes_before o c ≡ true = subst (λ (cs : List Channel). first_goes o cs ≡ true) front goes in
      ap (λ (cs : List Channel). map going (in_turn (o ∷ more) cs)) front ∙ rw before_ refl

none_goes : (o : Object) (c : Channel) (cs : List Channel) → goes_before o c ≡ false → AllByRecursion (λ d. until c ≤ until d) cs → list_all (λ d. not (goes_before o d)) cs ≡ true
none_goes o c [] stays all = refl
none_goes o c (d ∷ cs) stays all =
    let le = all.0 in
    let here : goes_before o d ≡ false = grind (arith, nat_tests) in
    rw here (none_goes o c cs stays all.1)

none_go : (o : Object) (cs : List Channel) → Rise until cs → first_goes o cs ≡ false → list_all (λ d. not (goes_before o d)) cs ≡ true
none_go o [] r stays = refl
none_go o (c ∷ cs) r stays = rw stays (none_goes o c cs stays r.0)

-- where none goes before it, the object goes next
pub object_goes : (o : Object) (more : List Object) (cs : List Channel) → Rise until cs → first_goes o cs ≡ false → map going (in_turn (o ∷ more) cs) ≡ announced (change.Del o.key o.id) ∷ map going (in_turn more cs)
object_goes o more cs r stays =
    let none = none_go o cs r stays in
    ap (λ (ds : List Channel). map going (deletions ds ++ change.Del o.key o.id ∷ in_turn more (filter (λ c. not (goes_before o c)) cs))) (filter-none (goes_before o) cs none)
    ∙ ap (λ (ds : List Channel). announced (change.Del o.key o.id) ∷ map going (in_turn more ds)) (filter-all (λ c. not (goes_before o c)) cs none)

-- the channel at a place goes before the object, by their deadlines
pub goes_as : (o : Object) (out : List Channel) (at : ℕ) (c : Channel) (a b : ℕ) → slice_get out at ≡ Some c → a ≡ unwrap_or c.deadline 0 → b ≡ unwrap_or o.deadline 0 → nat_lt a b ≡ first_goes o (drop at out)
goes_as o out at c a b here left right =
    ap (λ (n : ℕ). nat_lt n b) (left ∙ deadline_is c.deadline) ∙ ap (nat_lt (until c)) (right ∙ deadline_is o.deadline) ∙ sym (ap (first_goes o) (drop_at out at c here))

pub none_goes_on : (o : Object) (out : List Channel) (at : ℕ) → length out ≤ at → false ≡ first_goes o (drop at out)
none_goes_on o out at le = sym (ap (first_goes o) (drop_end out at le))
