-- A rewriting: what was copied is a part of the world, which each batch and each item keeps, and which is the world where no item is left.
use Rattle.std.proofs.Common.{◌≡◌, ◌∙◌, ◌^◌, ◌&&◌, ◌||◌, ℕ, Bool, true, false, not, List, [], ◌∷◌, ◌++◌, refl, sym, ap, subst, arith}
use Rattle.std.specs.Prelude.{filter, flat_map, nat_lt, map, if◌then◌else◌}
use Rattle.std.specs.List.{AllByRecursion, list_all}
use Rattle.std.proofs.lemmas.Bool.{or_right}
use Rattle.byte_text.specs.Names.{Bytes}
use Rattle.byte_text.specs.ByteOrder.{before_trans, same_equal, same_refl}
use Rattle.ordered_lists.specs.Lists.{ascends, ties}
use Rattle.ordered_lists.specs.Reading.{both_of, filter-all, filter-nothing, all-weaker}
use Rattle.ordered_lists.specs.Ascending.{irreflexive}
use Rattle.world_data.specs.Worlds.{after, object_before, channel_before, are_objects, are_channels, is_sorted_world, empty_world}
use Rattle.world_data.specs.WorldLaws.{object_asym, channel_asym, keeps_order}
use Rattle.world_data.specs.declared.channels.Channel.{Channel}
use Rattle.world_data.specs.declared.objects.Object.{Object}
use Rattle.world_data.specs.declared.worlds.Change.{Change}
use Rattle.world_data.specs.declared.worlds.Change.TheVariants.{Put, SetChan}
use Rattle.world_data.specs.declared.worlds.World.{World}
use Rattle.log_record.specs.Copying.{IsPicked, StandsIn}
use Rattle.log_record.specs.CopyingLaws.{parts_grow}
use Rattle.log_record.specs.Folding.{folded}
use Rattle.log_record.specs.Batches.{records_text}
use Rattle.log_sides.specs.Texts.{newest}
use Rattle.log_record.specs.Versions.{IsRecordedIn}
use Rattle.log_record.specs.VersionLaws.{recorded_any, recorded_newest}
use Rattle.log_sides.specs.Texts.{committed}
use Rattle.world_recovery.specs.Recorded.{changes_in, world_in}
use Rattle.world_recovery.specs.BatchesHeld.{committed_world, committed_whole}
use Rattle.durable_core.specs.declared.rewritings.Rewriting.{Rewriting}
use Rattle.durable_core.specs.declared.rewritings.Rewriting.TheVariants as rewriting
use Rattle.durable_core.specs.declared.rewritings.LastCopied.{LastCopied}
use Rattle.durable_core.specs.declared.rewritings.LastCopied.TheVariants as last
use Rattle.durable_core.specs.Rewriting.{Item, of_channel, of_object, change_of, changes_of, is_channel_left, is_object_left, items_left, last_of, last_behind, IsCopiedTo, IsCopyWhile, asked_for, rewriting_after}
use Rattle.world_model.specs.declared.events.CallOutcome.{CallOutcome}
use Rattle.world_model.specs.declared.events.CallOutcome.TheVariants as called

-- more is copied of a list than was said

module _ {A : Type 0} (copied more : A → Bool) where
  same_filter : (picked : A → Bool) → ((x : A) → copied x ≡ true → picked x ≡ true) → (xs : List A) → list_all (λ x. not (more x) || copied x) xs ≡ true
      → filter (λ x. picked x || more x) xs ≡ filter picked xs
  same_filter picked enough [] all = refl
  same_filter picked enough (x ∷ xs) all = by (more x) refl (same_filter picked enough xs parts.1)
    where
      parts : ((not (more x) || copied x) ≡ true) × (list_all (λ y. not (more y) || copied y) xs ≡ true)
      parts = both_of (not (more x) || copied x) (list_all (λ y. not (more y) || copied y) xs) all

      or_false : (a : Bool) → (a || false) ≡ a
      or_false true = refl
      or_false false = refl

      by : (b : Bool) → more x ≡ b → filter (λ y. picked y || more y) xs ≡ filter picked xs → filter (λ y. picked y || more y) (x ∷ xs) ≡ filter picked (x ∷ xs)
      by true e ih =
          let here : copied x ≡ true = rw e at parts.0 in
          let is = enough x here in
          rw (e, is) (ap (λ l. x ∷ l) ih)
      by false e ih = rw (e, or_false (picked x)) (ap (λ l. if picked x then x ∷ l else l) ih)

  pub picks_more : (part all : List A) → IsPicked copied part all → list_all (λ x. not (more x) || copied x) all ≡ true → IsPicked more part all
  picks_more part all is every = record {
    picked = λ x. is.picked x || more x;
    part_is = is.part_is ∙ sym (same_filter is.picked is.enough all every);
    enough = λ x e. or_right (is.picked x) (more x) e;
  }

-- a list in an order, and the items that are left of it

module _ {A : Type 0} (lt : A → A → Bool) (asym : (x y : A) → lt x y ≡ true → lt y x ≡ false) where
  module _ (left : A → Bool) (rises : (x y : A) → lt x y ≡ true → left x ≡ true → left y ≡ true) where
    first_passes : (p : A → Bool) (xs : List A) (x : A) (rest : List A) → list_all p xs ≡ true → filter left xs ≡ x ∷ rest → p x ≡ true
    first_passes p [] x rest all is = absurd (cc)
    first_passes p (y ∷ ys) x rest all is = by (left y) refl (first_passes p ys x rest parts.1)
      where
        parts : (p y ≡ true) × (list_all p ys ≡ true)
        parts = both_of (p y) (list_all p ys) all

        by : (b : Bool) → left y ≡ b → (filter left ys ≡ x ∷ rest → p x ≡ true) → p x ≡ true
        by true e ih = let it : y ≡ x = cc (rw e at is) in subst (λ z. p z ≡ true) it parts.0
        by false e ih = ih (rw e at is)

    -- behind the first that is left stand the others
    pub others_left : (xs : List A) (x : A) (rest : List A) → ascends lt xs ≡ true → filter left xs ≡ x ∷ rest → filter (lt x) xs ≡ rest
    others_left [] x rest asc is = absurd (cc)
    others_left (y ∷ ys) x rest asc is = by (left y) refl (others_left ys x rest parts.1)
      where
        parts : (list_all (lt y) ys ≡ true) × (ascends lt ys ≡ true)
        parts = both_of (list_all (lt y) ys) (ascends lt ys) asc

        by : (b : Bool) → left y ≡ b → (filter left ys ≡ x ∷ rest → filter (lt x) ys ≡ rest) → filter (lt x) (y ∷ ys) ≡ rest
        by true e ih =
            let here : y ∷ filter left ys ≡ x ∷ rest = rw e at is in
            let it : y ≡ x = cc in
            let behind : filter left ys ≡ rest = cc in
            let all : filter left ys ≡ ys = filter-all left ys (all-weaker (lt y) left ys (λ z behind. rises y z behind e) parts.0) in
            subst (λ z. filter (lt z) (y ∷ ys) ≡ rest) it (rw (irreflexive lt asym y) (filter-all (lt y) ys parts.0 ∙ sym all ∙ behind))
        by false e ih =
            let later : filter left ys ≡ x ∷ rest = rw e at is in
            let up = first_passes (lt y) ys x rest parts.0 later in
            rw (asym y x up) (ih later)

    self_ties : (x : A) → ties lt x x ≡ true
    self_ties x = let none = irreflexive lt asym x in rw none refl

    -- each item that is not behind the first that is left ties with it, or is not left
    pub none_between : (xs : List A) (x : A) (rest : List A) → ascends lt xs ≡ true → filter left xs ≡ x ∷ rest
        → list_all (λ z. not (not (lt x z)) || (ties lt z x || not (left z))) xs ≡ true
    none_between [] x rest asc is = absurd (cc)
    none_between (y ∷ ys) x rest asc is = by (left y) refl (none_between ys x rest parts.1)
      where
        parts : (list_all (lt y) ys ≡ true) × (ascends lt ys ≡ true)
        parts = both_of (list_all (lt y) ys) (ascends lt ys) asc

        behind : (zs : List A) → list_all (lt x) zs ≡ true → list_all (λ z. not (not (lt x z)) || (ties lt z x || not (left z))) zs ≡ true
        behind [] all = refl
        behind (z ∷ zs) all = let both = both_of (lt x z) (list_all (lt x) zs) all in rw both.0 (behind zs both.1)

        tied_passes : (a b c d : Bool) → b ≡ true → d ≡ true → ((a || (b || c)) && d) ≡ true
        tied_passes true b c d e f = f
        tied_passes false true c d e f = f
        tied_passes false false c d e f = absurd (cc e)

        gone_passes : (a b c d : Bool) → c ≡ true → d ≡ true → ((a || (b || c)) && d) ≡ true
        gone_passes true b c d e f = f
        gone_passes false true c d e f = f
        gone_passes false false true d e f = f
        gone_passes false false false d e f = absurd (cc e)

        by : (b : Bool) → left y ≡ b → (filter left ys ≡ x ∷ rest → list_all (λ z. not (not (lt x z)) || (ties lt z x || not (left z))) ys ≡ true)
            → list_all (λ z. not (not (lt x z)) || (ties lt z x || not (left z))) (y ∷ ys) ≡ true
        by true e ih =
            let here : y ∷ filter left ys ≡ x ∷ rest = rw e at is in
            let it : y ≡ x = cc in
            tied_passes (not (not (lt x y))) (ties lt y x) (not (left y)) _ (subst (λ z. ties lt y z ≡ true) it (self_ties y)) (behind ys (subst (λ z. list_all (lt z) ys ≡ true) it parts.0))
        by false e ih = gone_passes (not (not (lt x y))) (ties lt y x) (not (left y)) _ (ap not e) (ih (rw e at is))

-- the item after the last one, in order

objects_rise : (last : LastCopied) (o p : Object) → object_before o p ≡ true → is_object_left last o ≡ true → is_object_left last p ≡ true
objects_rise last.Nothing o p lt left = refl
objects_rise (last.Channel name) o p lt left = refl
objects_rise (last.Object key id) o p lt left =
    let t = before_trans key o.key p.key in
    let u = before_trans id o.id p.id in
    let e = same_equal key o.key in
    let f = same_equal o.key p.key in
    let r = same_refl key in
    grind arith

channels_rise : (last : LastCopied) (c d : Channel) → channel_before c d ≡ true → is_channel_left last c ≡ true → is_channel_left last d ≡ true
channels_rise last.Nothing c d lt left = refl
channels_rise (last.Channel name) c d lt left = before_trans name c.name d.name left lt
channels_rise (last.Object key id) c d lt left = left

-- channels, and objects behind them

no_items : (cs : List Channel) (os : List Object) → map of_channel cs ++ map of_object os ≡ [] → (cs ≡ []) × (os ≡ [])
no_items [] [] is = (refl, refl)
no_items [] (o ∷ os) is = absurd (cc)
no_items (c ∷ cs) os is = absurd (cc)

channel_first : (cs : List Channel) (os : List Object) (c : Channel) (rest : List Item) → map of_channel cs ++ map of_object os ≡ of_channel c ∷ rest
    → (ds : List Channel) × (cs ≡ c ∷ ds) × (map of_channel ds ++ map of_object os ≡ rest)
channel_first [] [] c rest is = absurd (cc)
channel_first [] (o ∷ os) c rest is = absurd (cc)
channel_first (d ∷ cs) os c rest is = (cs, (let it : d ≡ c = cc in ap (λ (e : Channel). e ∷ cs) it), cc)

object_first : (cs : List Channel) (os : List Object) (o : Object) (rest : List Item) → map of_channel cs ++ map of_object os ≡ of_object o ∷ rest
    → (ps : List Object) × (cs ≡ []) × (os ≡ o ∷ ps) × (map of_object ps ≡ rest)
object_first [] [] o rest is = absurd (cc)
object_first [] (p ∷ os) o rest is = (os, refl, (let it : p ≡ o = cc in ap (λ (q : Object). q ∷ os) it), cc)
object_first (d ∷ cs) os o rest is = absurd (cc)

all_true : {A : Type 0} (p : A → Bool) (xs : List A) → ((x : A) → p x ≡ true) → list_all p xs ≡ true
all_true p [] every = refl
all_true p (x ∷ xs) every = rw (every x) (all_true p xs every)

none_passes : {A : Type 0} (p : A → Bool) (xs : List A) → filter p xs ≡ [] → list_all (λ x. not (p x)) xs ≡ true
none_passes p [] is = refl
none_passes p (x ∷ xs) is = by (p x) refl (none_passes p xs)
  where
    by : (b : Bool) → p x ≡ b → (filter p xs ≡ [] → list_all (λ y. not (p y)) xs ≡ true) → list_all (λ y. not (p y)) (x ∷ xs) ≡ true
    by true e ih = absurd (let some : x ∷ filter p xs ≡ [] = rw e at is in cc)
    by false e ih = rw e (ih (rw e at is))

stands_in : {A : Type 0} (p : A → Bool) (xs : List A) (x : A) (rest : List A) → filter p xs ≡ x ∷ rest → StandsIn x xs
stands_in p [] x rest is = absurd (cc)
stands_in {A} p (y ∷ ys) x rest is = by (p y) refl (stands_in p ys x rest)
  where
    by : (b : Bool) → p y ≡ b → (filter p ys ≡ x ∷ rest → StandsIn x ys) → StandsIn x (y ∷ ys)
    by true e ih =
        let here : y ∷ filter p ys ≡ x ∷ rest = rw e at is in
        let it : y ≡ x = cc in
        record { earlier = []; later = ys; list_is = ap (λ (z : A). z ∷ ys) it }
    by false e ih =
        let later = ih (rw e at is) in
        record { earlier = y ∷ later.earlier; later = later.later; list_is = ap (λ (l : List A). y ∷ l) later.list_is }

-- the items of a world in order

module _ (w : World) (sorted : is_sorted_world w ≡ true) where
  objects_ascend : are_objects w.objects ≡ true
  objects_ascend = (both_of (are_objects w.objects) (are_channels w.channels) sorted).0

  channels_ascend : are_channels w.channels ≡ true
  channels_ascend = (both_of (are_objects w.objects) (are_channels w.channels) sorted).1

  -- where a channel is left, all objects are
  objects_behind : (last : LastCopied) (c : Channel) (ds : List Channel) → filter (is_channel_left last) w.channels ≡ c ∷ ds
      → filter (is_object_left last) w.objects ≡ filter (λ o. true) w.objects
  objects_behind last.Nothing c ds is = refl
  objects_behind (last.Channel name) c ds is = refl
  objects_behind (last.Object key id) c ds is = absurd (let none = filter-nothing w.channels in let clash : c ∷ ds ≡ [] = sym is ∙ none in cc)

  -- behind the first item that is left stand the others
  pub next_left : (last : LastCopied) (item : Item) (rest : List Item) → items_left last w ≡ item ∷ rest → items_left (last_of item) w ≡ rest
  next_left last (of_channel c) rest is =
      let split = channel_first (filter (is_channel_left last) w.channels) (filter (is_object_left last) w.objects) c rest is in
      let channels = others_left channel_before channel_asym (is_channel_left last) (channels_rise last) w.channels c split.0 channels_ascend split.1 in
      let objects = objects_behind last c split.0 split.1 in
      ap (λ (cs : List Channel). map of_channel cs ++ map of_object (filter (λ o. true) w.objects)) channels
      ∙ ap (λ (os : List Object). map of_channel split.0 ++ map of_object os) (sym objects) ∙ split.2
  next_left last (of_object o) rest is =
      let split = object_first (filter (is_channel_left last) w.channels) (filter (is_object_left last) w.objects) o rest is in
      let objects = others_left object_before object_asym (is_object_left last) (objects_rise last) w.objects o split.0 objects_ascend split.2 in
      ap (λ (cs : List Channel). map of_channel cs ++ map of_object (filter (object_before o) w.objects)) (filter-nothing w.channels)
      ∙ ap (map of_object) objects ∙ split.3

  -- the first item that is left is copied
  pub item_copied : (last : LastCopied) (part : World) (item : Item) (rest : List Item) → items_left last w ≡ item ∷ rest → IsCopiedTo last part w
      → IsCopiedTo (last_of item) (after part (change_of item)) w
  item_copied last part (of_channel c) rest is copied =
      let split = channel_first (filter (is_channel_left last) w.channels) (filter (is_object_left last) w.objects) c rest is in
      let more = parts_grow.channel (λ o. not (is_object_left last o)) (λ d. not (is_channel_left last d)) part w c sorted (stands_in (is_channel_left last) w.channels c split.0 split.1) copied in
      record {
        objects = picks_more (λ o. not (is_object_left last o)) (λ o. false) (after part (SetChan c)).objects w.objects more.objects (all_true (λ x. true) w.objects (λ x. refl));
        channels = picks_more (λ d. ties channel_before d c || not (is_channel_left last d)) (λ d. not (channel_before c d)) (after part (SetChan c)).channels w.channels more.channels
            (none_between channel_before channel_asym (is_channel_left last) (channels_rise last) w.channels c split.0 channels_ascend split.1);
      }
  item_copied last part (of_object o) rest is copied =
      let split = object_first (filter (is_channel_left last) w.channels) (filter (is_object_left last) w.objects) o rest is in
      let more = parts_grow.object (λ p. not (is_object_left last p)) (λ d. not (is_channel_left last d)) part w o sorted (stands_in (is_object_left last) w.objects o split.0 split.2) copied in
      record {
        objects = picks_more (λ p. ties object_before p o || not (is_object_left last p)) (λ p. not (object_before o p)) (after part (Put o)).objects w.objects more.objects
            (none_between object_before object_asym (is_object_left last) (objects_rise last) w.objects o split.0 objects_ascend split.2);
        channels = picks_more (λ d. not (is_channel_left last d)) (λ d. true) (after part (Put o)).channels w.channels more.channels (none_passes (is_channel_left last) w.channels split.1);
      }

  -- and so are those behind it, one behind another
  pub items_copied : (items rest : List Item) (last : LastCopied) (part : World) → items_left last w ≡ items ++ rest → IsCopiedTo last part w
      → IsCopiedTo (last_behind last items) (folded part (changes_of items)) w × (items_left (last_behind last items) w ≡ rest)
  items_copied [] rest last part is copied = (copied, is)
  items_copied (item ∷ items) rest last part is copied =
      items_copied items rest (last_of item) (after part (change_of item)) (next_left last item (items ++ rest) is) (item_copied last part item (items ++ rest) is copied)

  -- where none is left, the part is the world
  pub all_copied : (last : LastCopied) (part : World) → items_left last w ≡ [] → IsCopiedTo last part w → part ≡ w
  all_copied last part is copied =
      let none = no_items (filter (is_channel_left last) w.channels) (filter (is_object_left last) w.objects) is in
      parts_grow.end (λ o. not (is_object_left last o)) (λ d. not (is_channel_left last d)) part w (none_passes (is_object_left last) w.objects none.1) (none_passes (is_channel_left last) w.channels none.0) copied

-- nothing is copied at the beginning
pub none_copied : (w : World) → IsCopiedTo last.Nothing empty_world w
none_copied w = parts_grow.begin w

-- changes that are done to both
pub both_changed : (last : LastCopied) (part w : World) (changes : List Change) → is_sorted_world w ≡ true → IsCopiedTo last part w → IsCopiedTo last (folded part changes) (folded w changes)
both_changed last part w [] sorted copied = copied
both_changed last part w (c ∷ changes) sorted copied =
    both_changed last (after part c) (after w c) changes (keeps_order w c sorted) (parts_grow.follow (λ o. not (is_object_left last o)) (λ d. not (is_channel_left last d)) part w c sorted copied)

-- the world of batches

stays_sorted : (w : World) (changes : List Change) → is_sorted_world w ≡ true → is_sorted_world (folded w changes) ≡ true
stays_sorted w [] sorted = sorted
stays_sorted w (c ∷ changes) sorted = stays_sorted (after w c) changes (keeps_order w c sorted)

pub world_sorted : (v : ℕ) (batches : List Bytes) → is_sorted_world (world_in v batches) ≡ true
world_sorted v batches = stays_sorted empty_world (flat_map (changes_in v) batches) refl

-- what is committed is copied
pub copies_on : (r : Rewriting) (v : ℕ) (copied batches : List Bytes) (changes : List Change) → AllByRecursion (IsRecordedIn v) changes → IsCopyWhile r v copied batches
    → IsCopyWhile r v (committed copied (records_text changes)) (committed batches (records_text changes))
copies_on rewriting.Idle v copied batches changes are copies = tt
copies_on rewriting.Asked v copied batches changes are copies = tt
copies_on (rewriting.Going last) v copied batches changes are copies =
    let new = recorded_newest changes (recorded_any v changes are) in
    record {
      whole = committed_whole newest copied changes copies.whole new;
      part = subst (λ (w : World). IsCopiedTo last w (world_in v (committed batches (records_text changes)))) (sym (committed_world newest copied changes new))
          (subst (IsCopiedTo last (folded (world_in newest copied) changes)) (sym (committed_world v batches changes are)) (both_changed last (world_in newest copied) (world_in v batches) changes (world_sorted v batches) copies.part));
    }

-- one that is asked for is not begun
asked_copies : (generation : ℕ) (r : Rewriting) (v : ℕ) (copied batches : List Bytes) → IsCopyWhile r v copied batches → IsCopyWhile (asked_for generation r) v copied batches
asked_copies generation rewriting.Idle v copied batches copies = by (nat_lt generation (2 ^ 63))
  where
    by : (b : Bool) → IsCopyWhile (if b then rewriting.Asked else rewriting.Idle) v copied batches
    by true = tt
    by false = tt
asked_copies generation rewriting.Asked v copied batches copies = copies
asked_copies generation (rewriting.Going last) v copied batches copies = copies

pub copies_asked : (answer : CallOutcome) (asks : Bool) (generation : ℕ) (r : Rewriting) (v : ℕ) (copied batches : List Bytes) → IsCopyWhile r v copied batches
    → IsCopyWhile (rewriting_after answer asks generation r) v copied batches
copies_asked called.Ok asks generation r v copied batches copies = by asks
  where
    by : (b : Bool) → IsCopyWhile (if b then asked_for generation r else r) v copied batches
    by true = asked_copies generation r v copied batches copies
    by false = copies
copies_asked called.Full asks generation r v copied batches copies = copies
copies_asked called.Gone asks generation r v copied batches copies = copies
copies_asked called.LogFault asks generation r v copied batches copies = copies
copies_asked called.Stopped asks generation r v copied batches copies = copies
copies_asked called.Spent asks generation r v copied batches copies = copies
copies_asked called.Memory asks generation r v copied batches copies = copies
