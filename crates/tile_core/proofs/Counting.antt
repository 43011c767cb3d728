-- The channels that are out, counted one by one.
use Rattle.std.proofs.Common.{◌≡◌, ℕ, zero, suc, ◌+◌, ◌<◌, ◌≤◌, min, Bool, false, not, refl, sym, ap, ◌∙◌, subst, List, [], ◌∷◌, ◌++◌, map, take, arith}
use Rattle.std.specs.Prelude.{Option, Some, None, filter, slice_get, sum_by, nat_le, unwrap_or}
use Rattle.std.specs.List.{AllByRecursion}
use Rattle.std.proofs.lemmas.Bool.Decides.{nat_tests}
use Rattle.std.proofs.lemmas.List.Sums.{sum_by-cons, sum_by-append}
use Rattle.byte_text.specs.ListLaws.{take_next}
use Rattle.ordered_lists.specs.Lists.{sorted_by}
use Rattle.world_data.specs.Expiry.{channel_due_before, deletions, is_channel_due}
use Rattle.world_data.specs.Records.{record_len}
use Rattle.world_data.specs.declared.channels.Channel.{Channel}
use Rattle.world_data.specs.declared.worlds.Change.TheVariants as change
use Rattle.fence_model.specs.Writes.{going}
use Rattle.delivery_model.specs.Staging.{records_len}
use Rattle.channel_hub.specs.Hubs.{Held}
use Rattle.channel_hub.specs.Dues.{earlier, least_due}
use Rattle.object_plans.specs.Beside.{channels_weight}
use Rattle.record_writer.specs.Lengths.{len_of_channel}
use Rattle.tile_core.specs.declared.channel_dues.ExpiredChannels.{ExpiredChannels}
use Rattle.tile_core.specs.Dues.{AreChannelsDueFrom, AreCounted, AreOut, IsNotBefore}
use Rattle.tile_core.proofs.Turns.{sum_parts, sum_sorted}

-- one at a place, and those in front of it, weigh no more than all
next_weighs : (cs : List Channel) (i : ℕ) (c : Channel) → slice_get cs i ≡ Some c → sum_by len_of_channel (take i cs) + len_of_channel c ≤ sum_by len_of_channel cs
next_weighs [] i c at = absurd (cc)
next_weighs (x ∷ cs) zero c at = let is : x ≡ c = cc in let long : len_of_channel x ≡ len_of_channel c = ap len_of_channel is in omega (arith, long, sum_by-cons len_of_channel x cs)
next_weighs (x ∷ cs) (suc i) c at = let ih = next_weighs cs i c at in omega (arith, ih, sum_by-cons len_of_channel x cs, sum_by-cons len_of_channel x (take i cs))

length_more : (cs : List Channel) (c : Channel) → records_len (map going (deletions (cs ++ c ∷ []))) ≡ records_len (map going (deletions cs)) + record_len (change.DelChan c.name)
length_more [] c = omega arith
length_more (x ∷ cs) c = let ih = length_more cs c in omega (arith, ih)

pub counted_none : (total from : ℕ) → AreCounted total [] (record { length = 0; weight = total; due_from = from })
counted_none total from = record { length_is = refl; weight_is = omega arith; small = omega arith }

module _ (total : ℕ) (out : List Channel) (i : ℕ) (c : Channel) (g : ExpiredChannels) (here : slice_get out i ≡ Some c) (counted : AreCounted total (take i out) g) where
  -- so it can be taken from the weight
  pub is_heavy : sum_by len_of_channel out ≤ total → len_of_channel c ≤ g.weight
  is_heavy all = let next = next_weighs out i c here in let weight = counted.weight_is in omega (arith, all, next, weight)

  pub counted_more : (new : ExpiredChannels) → new.length ≡ g.length + record_len (change.DelChan c.name) → new.weight + len_of_channel c ≡ g.weight → new.length + new.weight ≤ g.length + g.weight
      → AreCounted total (take (i + 1) out) new
  counted_more new long weight small = subst (λ (cs : List Channel). AreCounted total cs new) (sym (take_next out i c here))
      (record {
        length_is = let all = length_more (take i out) c in let before_ = counted.length_is in omega (arith, all, before_, long);
        weight_is =
            let all = sum_by-append len_of_channel (take i out) (c ∷ []) in
            let one = sum_by-cons len_of_channel c [] in
            let before_ = counted.weight_is in
            omega (arith, all, one, before_, weight);
        small = let before_ = counted.small in omega (arith, before_, small);
      })

-- those that are due and those that are left weigh as much as all
pub parts_weigh : (now : ℕ) (cs left due : List Channel) → left ≡ filter (λ c. not (is_channel_due now c)) cs → due ≡ sorted_by channel_due_before (filter (is_channel_due now) cs)
    → channels_weight left + sum_by len_of_channel due ≡ channels_weight cs
parts_weigh now cs left due left_is due_is =
    let parts = sum_parts len_of_channel (is_channel_due now) cs in
    let one = ap (sum_by len_of_channel) left_is in
    let two = ap (sum_by len_of_channel) due_is in
    let sorted = sum_sorted len_of_channel channel_due_before (filter (is_channel_due now) cs) in
    omega (arith, parts, one, two, sorted)

pub are_out : (old hub : Held) (now total : ℕ) (g : ExpiredChannels) → total ≡ channels_weight old.channels → hub.channels ≡ filter (λ c. not (is_channel_due now c)) old.channels
    → hub.taken ≡ sorted_by channel_due_before (filter (is_channel_due now) old.channels) → hub.every ≡ old.channels → AreCounted total hub.taken g → AreChannelsDueFrom g.due_from hub.channels → AreOut old now total hub g
are_out old hub now total g weighed left taken every counted far = record {
  channels = left;
  taken = taken;
  every = every;
  length_is = counted.length_is;
  weight_is =
      let all = parts_weigh now old.channels hub.channels hub.taken left taken in
      let weight = counted.weight_is in
      omega (arith, weighed, all, weight);
  small = counted.small;
  due_from = far;
}

-- none is due before the first deadline

none_comes : (due_from now : ℕ) → now < due_from → (c : Channel) → IsNotBefore due_from c.deadline → is_channel_due now c ≡ false
none_comes due_from now lt c far = by c.deadline refl
  where
    by : (d : Option ℕ) → c.deadline ≡ d → is_channel_due now c ≡ false
    by None e = rw e refl
    by (Some d) e = let le = far d e in let t : nat_le d now ≡ false = grind (arith, nat_tests) in rw e t

none_come : (due_from now : ℕ) → now < due_from → (cs : List Channel) → AreChannelsDueFrom due_from cs → AllByRecursion (λ c. is_channel_due now c ≡ false) cs
none_come due_from now lt [] all = tt
none_come due_from now lt (c ∷ cs) all = (none_comes due_from now lt c all.0, none_come due_from now lt cs all.1)

filter_none : {A : Type 0} (p : A → Bool) (xs : List A) → AllByRecursion (λ x. p x ≡ false) xs → filter p xs ≡ []
filter_none p [] all = refl
filter_none p (x ∷ xs) all = rw all.0 (filter_none p xs all.1)

stay_all : {A : Type 0} (p : A → Bool) (xs : List A) → AllByRecursion (λ x. p x ≡ false) xs → filter (λ x. not (p x)) xs ≡ xs
stay_all p [] all = refl
stay_all {A = A} p (x ∷ xs) all = rw all.0 (ap (λ (ys : List A). x ∷ ys) (stay_all p xs all.1))

pub none_out : (old hub : Held) (now total due_from : ℕ) → total ≡ channels_weight old.channels → now < due_from → AreChannelsDueFrom due_from old.channels → hub.channels ≡ old.channels → hub.taken ≡ [] → hub.every ≡ hub.channels
    → AreOut old now total hub (record { length = 0; weight = total; due_from = due_from })
none_out old hub now total due_from weighed early far same none all =
    let come = none_come due_from now early old.channels far in
    are_out old hub now total (record { length = 0; weight = total; due_from = due_from }) weighed (same ∙ sym (stay_all (is_channel_due now) old.channels come))
    (none ∙ ap (sorted_by channel_due_before) (sym (filter_none (is_channel_due now) old.channels come))) (all ∙ same)
    (subst (λ (cs : List Channel). AreCounted total cs (record { length = 0; weight = total; due_from = due_from })) (sym none) (counted_none total due_from))
    (subst (AreChannelsDueFrom due_from) (sym same) far)

-- the least deadline: none comes before it

module _ (due_from : ℕ) where
  both : (a b : Option ℕ) → IsNotBefore due_from (earlier a b) → IsNotBefore due_from a × IsNotBefore due_from b
  both None b f = ((λ m e. absurd (cc)), f)
  both (Some a) None f = (f, (λ m e. absurd (cc)))
  both (Some a) (Some b) f =
      let le : due_from ≤ min a b = f (min a b) refl in (
        λ m e. let is : a ≡ m = cc in omega (arith, le, is),
        λ m e. let is : b ≡ m = cc in omega (arith, le, is),
      )

  pub least_from : (cs : List Channel) → IsNotBefore due_from (least_due cs) → AreChannelsDueFrom due_from cs
  least_from [] f = tt
  least_from (c ∷ cs) f = let parts = both c.deadline (least_due cs) f in (parts.0, least_from cs parts.1)

pub from_least : (cs : List Channel) (least : Option ℕ) (due_from most : ℕ) → least ≡ least_due cs → due_from ≡ unwrap_or least most → AreChannelsDueFrom due_from cs
from_least cs least due_from most is from =
    least_from due_from cs (λ m e. let at : due_from ≡ m = from ∙ ap (λ d. unwrap_or d most) (is ∙ e) in omega (arith, at))
