-- What goes by its deadline is staged in turn: each del for the channels that have not gone before it.
use Rattle.std.proofs.Common.{◌≡◌, ℕ, ◌≤◌, Bool, true, false, not, refl, sym, ap, ◌∙◌, subst, List, [], ◌∷◌, ◌++◌, map, arith}
use Rattle.std.specs.Prelude.{Some, filter, find, is_some, nat_lt, nat_le, ◌&&◌}
use Rattle.std.specs.List.{AllByRecursion, list_all}
use Rattle.std.proofs.lemmas.Bool.Decides.{nat_tests}
use Rattle.std.proofs.lemmas.List.{append-nil, append_assoc}
use Rattle.ordered_lists.specs.Lists.{sorted_by}
use Rattle.ordered_lists.specs.Reading.{both_of, filter-both, filter-passes}
use Rattle.ordered_lists.specs.Sorting.{all-sorted_by}
use Rattle.fence_model.specs.Writes.{Write, announced, going}
use Rattle.world_data.specs.Expiry.{deadline_of, deletions, due_before, goes_before, in_turn, is_channel_due, is_due}
use Rattle.world_data.specs.Worlds.{after, is_at}
use Rattle.world_data.specs.declared.channels.Channel.{Channel}
use Rattle.world_data.specs.declared.objects.Object.{Object}
use Rattle.world_data.specs.declared.worlds.Change.TheVariants as change
use Rattle.world_data.specs.declared.worlds.World.{World}
use Rattle.delivery_model.specs.Staging.{after_all}
use Rattle.session_table.specs.Sessions.{State}
use Rattle.session_table.specs.Fans.{HaveStaged}
use Rattle.message_fanout.specs.Laws.{QuietBringsNothing}
use Rattle.message_fanout.specs.Stagings.{IsBeforeDel, is_gone, those_left}
use Rattle.tile_core.specs.Dues.{AllStand}
use Rattle.tile_core.specs.Orders.{Rise}
use Rattle.tile_core.specs.Staged.{AreStagedEach, StagesBehind}
use Rattle.tile_core.proofs.Behind.{behind_one, behind_then}
use Rattle.tile_core.proofs.Orders.{objects_rise}
use Rattle.tile_core.proofs.Turns.{IsDueAmong, all_stay, filter_as, gone_channels, is_among, turn_is}

abbrev due_at : Object → ℕ
due_at o = deadline_of o.deadline

-- its deadline comes before a moment
abbrev goes_by : ℕ → Channel → Bool
goes_by moment c = nat_lt (deadline_of c.deadline) moment

-- the deadlines of objects rise from one moment to another
abbrev AreBetween : ℕ → ℕ → List Object → Type 0
AreBetween from now [] = Unit {0}
AreBetween from now (o ∷ os) = (from ≤ due_at o) × (due_at o ≤ now) × AreBetween (due_at o) now os

between : (from now : ℕ) (os : List Object) → AllByRecursion (λ o. from ≤ due_at o) os → AllByRecursion (λ o. due_at o ≤ now) os → Rise due_at os → AreBetween from now os
between from now [] above below r = tt
between from now (o ∷ os) above below r = (above.0, below.0, between (due_at o) now os r.0 below.1 r.1)

each_of : {A : Type 0} {P : A → Type 0} → ((x : A) → P x) → (xs : List A) → AllByRecursion P xs
each_of f [] = tt
each_of f (x ∷ xs) = (f x, each_of f xs)

have_come : (now : ℕ) (os : List Object) → list_all (is_due now) os ≡ true → AllByRecursion (λ o. due_at o ≤ now) os
have_come now [] all = tt
have_come now (o ∷ os) all =
    let parts = both_of (is_due now o) (list_all (is_due now) os) all in
    let here : nat_le (due_at o) now ≡ true = (both_of (is_some o.deadline) (nat_le (due_at o) now) parts.0).1 in
    (grind (arith, nat_tests), have_come now os parts.1)

-- so it is of those that are due
pub due_between : (now : ℕ) (os xs : List Object) → os ≡ sorted_by due_before (filter (is_due now) xs) → AreBetween 0 now os
due_between now os xs is =
    subst (AreBetween 0 now) (sym is)
    (between 0 now (sorted_by due_before (filter (is_due now) xs)) (each_of (λ o. omega arith) (sorted_by due_before (filter (is_due now) xs)))
    (have_come now (sorted_by due_before (filter (is_due now) xs)) (all-sorted_by due_before (is_due now) (filter (is_due now) xs) (filter-passes (is_due now) xs)))
    (objects_rise (filter (is_due now) xs)))

stand_same : (u v : World) → u.objects ≡ v.objects → (os : List Object) → AllStand u os → AllStand v os
stand_same u v is [] all = tt
stand_same u v is (o ∷ os) all = (
  subst (λ (xs : List Object). find (is_at o.key o.id) xs ≡ Some o) is all.0,
  stand_same (after u (change.Del o.key o.id)) (after v (change.Del o.key o.id)) (ap (filter (λ p. not (is_at o.key o.id p))) is) os all.1,
)

filter_two : {A : Type 0} (p q r : A → Bool) (xs : List A) → AllByRecursion (λ x. (p x && q x) ≡ r x) xs → filter q (filter p xs) ≡ filter r xs
filter_two p q r xs all = filter-both p q (λ x. p x && q x) xs (λ x e. rw e refl) (λ x e. rw e refl) ∙ filter_as (λ x. p x && q x) r xs all

each_as : {A : Type 0} {P Q : A → Type 0} → ((x : A) → P x → Q x) → (xs : List A) → AllByRecursion P xs → AllByRecursion Q xs
each_as f [] all = tt
each_as f (x ∷ xs) all = (f x all.0, each_as f xs all.1)

earlier_goes : (from d : ℕ) → from ≤ d → (n : ℕ) → nat_lt n from ≡ true → nat_lt n d ≡ true
earlier_goes from d le n e = grind (arith, nat_tests)

later_stays : (from d : ℕ) → from ≤ d → (n : ℕ) → not (nat_lt n from) ≡ false → not (nat_lt n d) ≡ false
later_stays from d le n e = by (nat_lt n from) refl e
  where
    by : (b : Bool) → nat_lt n from ≡ b → not b ≡ false → not (nat_lt n d) ≡ false
    by true f g = rw (earlier_goes from d le n f) refl
    by false f g = absurd (cc)

then_left : (u f e : Bool) → (f ≡ true → e ≡ true) → (not (u && f) && not (u && (not f && e))) ≡ not (u && e)
then_left false f e imp = refl
then_left true false e imp = refl
then_left true true true imp = refl
then_left true true false imp = absurd (let no = imp refl in cc)

due_then : (s : Bool) (n d now : ℕ) → d ≤ now → ((s && nat_le n now) && nat_lt n d) ≡ (s && nat_lt n d)
due_then false n d now le = refl
due_then true n d now le = by (nat_lt n d) refl
  where
    and_false : (a : Bool) → (a && false) ≡ false
    and_false true = refl
    and_false false = refl

    by : (b : Bool) → nat_lt n d ≡ b → (nat_le n now && b) ≡ b
    by true e = let come : nat_le n now ≡ true = grind (arith, nat_tests) in rw come refl
    by false e = and_false (nat_le n now)

none_by_zero : (u : Bool) (n : ℕ) → not (u && nat_lt n 0) ≡ true
none_by_zero true n = let no : nat_lt n 0 ≡ false = grind (arith, nat_tests) in rw no refl
none_by_zero false n = refl

module _ (quiet : QuietBringsNothing) (now : ℕ) (all due : List Channel) (tells : IsDueAmong now due all) where
  -- those that have not gone by a moment
  abbrev left_by : ℕ → List Channel
  left_by m = filter (λ d. not (is_channel_due now d && goes_by m d)) all

  abbrev still_due : ℕ → List Channel
  still_due m = filter (λ c. not (goes_by m c)) due

  next_left : (from d : ℕ) → from ≤ d → filter (λ c. not (is_among (filter (goes_by d) (still_due from)) c)) (left_by from) ≡ left_by d
  next_left from d le =
      let go : Channel → Bool = λ c. not (goes_by from c) && goes_by d c in
      let are : filter (goes_by d) (still_due from) ≡ filter go due =
      filter-both (λ c. not (goes_by from c)) (goes_by d) go due (λ c e. rw e refl) (λ c e. rw e refl) in
      ap (λ (cs : List Channel). filter (λ c. not (is_among cs c)) (left_by from)) are
      ∙ filter_two (λ c. not (is_channel_due now c && goes_by from c)) (λ c. not (is_among (filter go due) c)) (λ c. not (is_channel_due now c && goes_by d c)) all
      (each_as (λ c told. ap (λ (b : Bool). not (is_channel_due now c && goes_by from c) && not b) told
      ∙ then_left (is_channel_due now c) (goes_by from c) (goes_by d c) (earlier_goes from d le (deadline_of c.deadline))) all (tells go))

  next_due : (from d : ℕ) → from ≤ d → filter (λ c. not (goes_by d c)) (still_due from) ≡ still_due d
  next_due from d le = filter-both (λ c. not (goes_by from c)) (λ c. not (goes_by d c)) (λ c. not (goes_by d c)) due (λ c e. later_stays from d le (deadline_of c.deadline) e) (λ c e. refl)

  left_are : (d : ℕ) → d ≤ now → left_by d ≡ those_left d all
  left_are d le =
      filter_as (λ c. not (is_channel_due now c && goes_by d c)) (λ c. not (is_gone d c)) all
      (each_of (λ c. ap not (due_then (is_some c.deadline) (deadline_of c.deadline) d now le)) all)

  -- deletions of channels bring nothing
  quiet_go : (cs : List Channel) (first : World) (writes : List Write) (ss : List State) → HaveStaged first writes ss → HaveStaged first (writes ++ map going (deletions cs)) ss
  quiet_go [] first writes ss staged = subst (λ (ws : List Write). HaveStaged first ws ss) (sym (append-nil writes)) staged
  quiet_go (c ∷ cs) first writes ss staged =
      subst (λ (ws : List Write). HaveStaged first ws ss) (append_assoc writes (going (change.DelChan c.name) ∷ []) (map going (deletions cs)))
      (quiet_go cs first (writes ++ going (change.DelChan c.name) ∷ []) ss (quiet first writes (change.DelChan c.name) ss staged))

  leave : (os : List Object) (w : World) (cs : List Channel) (from : ℕ) (old new : List State) → AllStand w os → AreBetween from now os → w.channels ≡ left_by from → cs ≡ still_due from → AreStagedEach all os old new
      → StagesBehind w (map going (in_turn os cs)) old new
  leave [] w cs from old new stand far is cs_are each =
      subst (λ (ss : List State). StagesBehind w (map going (deletions cs)) old ss) each (λ first writes there staged. quiet_go cs first writes old staged)
  leave (o ∷ os) w cs from old new stand far is cs_are each =
      let d = due_at o in
      let del : Write = announced (change.Del o.key o.id) in
      let first_go = filter (goes_before o) cs in
      let rest = filter (λ c. not (goes_before o c)) cs in
      let gone = after_all w (map going (deletions first_go)) in
      let whole = gone_channels first_go w.channels w.objects in
      let objects : gone.objects ≡ w.objects = ap (λ (v : World). v.objects) whole in
      let channels : gone.channels ≡ left_by d =
      ap (λ (v : World). v.channels) whole
      ∙ ap (λ (l : List Channel). filter (λ c. not (is_among (filter (goes_by d) l) c)) w.channels) cs_are
      ∙ ap (filter (λ c. not (is_among (filter (goes_by d) (still_due from)) c))) is
      ∙ next_left from d far.0 in
      let such : IsBeforeDel (those_left d all) o gone = record {
        channels_are = channels ∙ left_are d far.1;
        stands = ap (find (is_at o.key o.id)) objects ∙ stand.0;
      } in
      let next = after gone (change.Del o.key o.id) in
      let stand_next = stand_same (after w (change.Del o.key o.id)) next (ap (filter (λ p. not (is_at o.key o.id p))) (sym objects)) os stand.1 in
      let rest_are : rest ≡ still_due d = ap (filter (λ c. not (goes_by d c))) cs_are ∙ next_due from d far.0 in
      let tail = leave os next rest d each.0 new stand_next far.2 channels rest_are each.2 in
      let one = behind_one gone del (IsBeforeDel (those_left d all) o) old each.0 such each.1 in
      subst (λ (ws : List Write). StagesBehind w ws old new) (sym (turn_is o os cs))
      (behind_then w (map going (deletions first_go)) (del ∷ map going (in_turn os rest)) old old new (λ first writes there staged. quiet_go first_go first writes old staged)
      (behind_then gone (del ∷ []) (map going (in_turn os rest)) old each.0 new one tail))

  -- from the first on
  pub all_leave : (os : List Object) (w : World) (old new : List State) → w.channels ≡ all → AllStand w os → AreBetween 0 now os → AreStagedEach all os old new → StagesBehind w (map going (in_turn os due)) old new
  all_leave os w old new is stand far each =
      let none_yet : left_by 0 ≡ all =
      filter_as (λ c. not (is_channel_due now c && goes_by 0 c)) (λ c. true) all (each_of (λ c. none_by_zero (is_channel_due now c) (deadline_of c.deadline)) all) ∙ all_stay all in
      let all_due : still_due 0 ≡ due = filter_as (λ c. not (goes_by 0 c)) (λ c. true) due (each_of (λ c. none_by_zero true (deadline_of c.deadline)) due) ∙ all_stay due in
      leave os w due 0 old new stand far (is ∙ sym none_yet) (sym all_due) each
