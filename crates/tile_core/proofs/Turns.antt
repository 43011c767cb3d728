-- Objects and channels that go in turn: the world after them, the length of their records, and which channels have gone before an object.
use Rattle.std.proofs.Common.{◌≡◌, ℕ, ◌+◌, Bool, true, false, not, refl, sym, ap, ◌∙◌, List, [], ◌∷◌, ◌++◌, map, arith}
use Rattle.std.specs.Prelude.{filter, sum_by, ◌&&◌, ◌||◌, if◌then◌else◌}
use Rattle.std.specs.List.{AllByRecursion, list_all, list_any}
use Rattle.std.proofs.lemmas.List.{map-append}
use Rattle.std.proofs.lemmas.List.Sums.{sum_by-cons}
use Rattle.byte_text.specs.ByteOrder.{same_refl}
use Rattle.ordered_lists.specs.Lists.{ascends, insert_by, sorted_by}
use Rattle.ordered_lists.specs.NameOrder.{name_ties}
use Rattle.ordered_lists.specs.Reading.{both_of, filter-both}
use Rattle.fence_model.specs.Writes.{Write, announced, dels, going}
use Rattle.world_data.specs.Expiry.{deletions, goes_before, in_turn, is_channel_due}
use Rattle.world_data.specs.Worlds.{are_channels, channel_before, is_at, is_named}
use Rattle.world_data.specs.declared.channels.Channel.{Channel}
use Rattle.world_data.specs.declared.objects.Object.{Object}
use Rattle.world_data.specs.declared.worlds.Change.TheVariants as change
use Rattle.world_data.specs.declared.worlds.World.{World}
use Rattle.delivery_model.specs.Staging.{after_all, records_len}
use Rattle.delivery_model.specs.Silent.{after_append}
use Rattle.object_plans.specs.Moves.{world_of, world_with}

-- some channel of these has its name
abbrev pub is_among : List Channel → Channel → Bool
is_among cs d = list_any (λ c. is_named c.name d) cs

or_assoc : (a b c : Bool) → (a || (b || c)) ≡ ((a || b) || c)
or_assoc true b c = refl
or_assoc false b c = refl

or_swap : (a b c : Bool) → (a || (b || c)) ≡ (b || (a || c))
or_swap true true c = refl
or_swap true false c = refl
or_swap false true c = refl
or_swap false false c = refl

neither_none : (a b : Bool) → not a ≡ false → not (a || b) ≡ false
neither_none true b e = refl
neither_none false b e = absurd (cc)

neither_other : (a b : Bool) → not a ≡ true → not b ≡ not (a || b)
neither_other true b e = absurd (cc)
neither_other false b e = refl

-- those that pass a test and those that don't are all
among_split : (p : Channel → Bool) (cs : List Channel) (d : Channel) → is_among cs d ≡ (is_among (filter p cs) d || is_among (filter (λ c. not (p c)) cs) d)
among_split p [] d = refl
among_split p (c ∷ cs) d = by (p c) refl (among_split p cs d)
  where
    by : (b : Bool) → p c ≡ b → is_among cs d ≡ (is_among (filter p cs) d || is_among (filter (λ e. not (p e)) cs) d)
        → is_among (c ∷ cs) d ≡ (is_among (filter p (c ∷ cs)) d || is_among (filter (λ e. not (p e)) (c ∷ cs)) d)
    by true e ih = rw e (ap (λ (b : Bool). is_named c.name d || b) ih ∙ or_assoc (is_named c.name d) (is_among (filter p cs) d) (is_among (filter (λ f. not (p f)) cs) d))
    by false e ih = rw e (ap (λ (b : Bool). is_named c.name d || b) ih ∙ or_swap (is_named c.name d) (is_among (filter p cs) d) (is_among (filter (λ f. not (p f)) cs) d))

pub all_stay : {A : Type 0} (xs : List A) → filter (λ x. true) xs ≡ xs
all_stay [] = refl
all_stay {A = A} (x ∷ xs) = ap (λ (ys : List A). x ∷ ys) (all_stay xs)

-- without those, and without others
twice_gone : (one other all : List Channel) (chs : List Channel) → ((d : Channel) → is_among all d ≡ (is_among one d || is_among other d))
    → filter (λ d. not (is_among other d)) (filter (λ d. not (is_among one d)) chs) ≡ filter (λ d. not (is_among all d)) chs
twice_gone one other all chs split =
    filter-both (λ d. not (is_among one d)) (λ d. not (is_among other d)) (λ d. not (is_among all d)) chs
    (λ d e. ap not (split d) ∙ neither_none (is_among one d) (is_among other d) e)
    (λ d e. neither_other (is_among one d) (is_among other d) e ∙ ap not (sym (split d)))

-- the world after

pub gone_channels : (cs chs : List Channel) (xs : List Object) → after_all (world_with chs xs) (map going (deletions cs)) ≡ world_with (filter (λ d. not (is_among cs d)) chs) xs
gone_channels [] chs xs = ap (λ (l : List Channel). world_with l xs) (sym (all_stay chs))
gone_channels (c ∷ cs) chs xs =
    gone_channels cs (filter (λ d. not (is_named c.name d)) chs) xs
    ∙ ap (λ (l : List Channel). world_with l xs)
    (filter-both (λ d. not (is_named c.name d)) (λ d. not (is_among cs d)) (λ d. not (is_among (c ∷ cs) d)) chs
    (λ d e. neither_none (is_named c.name d) (is_among cs d) e) (λ d e. neither_other (is_named c.name d) (is_among cs d) e))

-- the writes of an object and those behind it, with the channels that go before it
pub turn_is : (o : Object) (os : List Object) (cs : List Channel)
    → map going (in_turn (o ∷ os) cs) ≡ map going (deletions (filter (goes_before o) cs)) ++ announced (change.Del o.key o.id) ∷ map going (in_turn os (filter (λ c. not (goes_before o c)) cs))
turn_is o os cs = map-append going (deletions (filter (goes_before o) cs)) (change.Del o.key o.id ∷ in_turn os (filter (λ c. not (goes_before o c)) cs))

pub turned_world : (os : List Object) (cs chs : List Channel) (xs : List Object)
    → after_all (world_with chs xs) (map going (in_turn os cs)) ≡ world_with (filter (λ d. not (is_among cs d)) chs) (after_all (world_of xs) (dels os)).objects
turned_world [] cs chs xs = gone_channels cs chs xs
turned_world (o ∷ os) cs chs xs =
    let first = filter (goes_before o) cs in
    let rest = filter (λ c. not (goes_before o c)) cs in
    let behind = announced (change.Del o.key o.id) ∷ map going (in_turn os rest) in
    let left = filter (λ p. not (is_at o.key o.id p)) xs in
    ap (after_all (world_with chs xs)) (turn_is o os cs)
    ∙ after_append (world_with chs xs) (map going (deletions first)) behind
    ∙ ap (λ (w : World). after_all w behind) (gone_channels first chs xs)
    ∙ turned_world os rest (filter (λ d. not (is_among first d)) chs) left
    ∙ ap (λ (l : List Channel). world_with l (after_all (world_of left) (dels os)).objects) (twice_gone first rest cs chs (among_split (goes_before o) cs))

-- the length of the records

len_append : (one other : List Write) → records_len (one ++ other) ≡ records_len one + records_len other
len_append [] other = omega arith
len_append (d ∷ one) other = let ih = len_append one other in omega (arith, ih)

len_split : (p : Channel → Bool) (cs : List Channel)
    → records_len (map going (deletions cs)) ≡ records_len (map going (deletions (filter p cs))) + records_len (map going (deletions (filter (λ c. not (p c)) cs)))
len_split p [] = omega arith
len_split p (c ∷ cs) = by (p c) refl (len_split p cs)
  where
    len_of_deletions : List Channel → ℕ
    len_of_deletions ds = records_len (map going (deletions ds))

    by : (b : Bool) → p c ≡ b → len_of_deletions cs ≡ len_of_deletions (filter p cs) + len_of_deletions (filter (λ e. not (p e)) cs)
        → len_of_deletions (c ∷ cs) ≡ len_of_deletions (filter p (c ∷ cs)) + len_of_deletions (filter (λ e. not (p e)) (c ∷ cs))
    by true e ih = rw e (omega (arith, ih))
    by false e ih = rw e (omega (arith, ih))

pub turned_len : (os : List Object) (cs : List Channel) → records_len (map going (in_turn os cs)) ≡ records_len (dels os) + records_len (map going (deletions cs))
turned_len [] cs = omega arith
turned_len (o ∷ os) cs =
    let first = filter (goes_before o) cs in
    let rest = filter (λ c. not (goes_before o c)) cs in
    let one = ap records_len (turn_is o os cs) in
    let two = len_append (map going (deletions first)) (announced (change.Del o.key o.id) ∷ map going (in_turn os rest)) in
    let ih = turned_len os rest in
    let split = len_split (goes_before o) cs in
    omega (arith, one, two, ih, split)

-- what is due, among channels of names of their own

among_if : (p : Channel → Bool) (c : Channel) (cs : List Channel) (d : Channel) → is_among (filter p (c ∷ cs)) d ≡ ((p c && is_named c.name d) || is_among (filter p cs) d)
among_if p c cs d = by (p c) refl
  where
    by : (b : Bool) → p c ≡ b → is_among (filter p (c ∷ cs)) d ≡ ((b && is_named c.name d) || is_among (filter p cs) d)
    by true e = rw e refl
    by false e = rw e refl

among_insert : (p : Channel → Bool) (lt : Channel → Channel → Bool) (c : Channel) (cs : List Channel) (d : Channel)
    → is_among (filter p (insert_by lt c cs)) d ≡ is_among (filter p (c ∷ cs)) d
among_insert p lt c [] d = refl
among_insert p lt c (e ∷ cs) d = by (lt e c) refl (among_insert p lt c cs d)
  where
    by : (b : Bool) → lt e c ≡ b → is_among (filter p (insert_by lt c cs)) d ≡ is_among (filter p (c ∷ cs)) d
        → is_among (filter p (if b then e ∷ insert_by lt c cs else c ∷ e ∷ cs)) d ≡ is_among (filter p (c ∷ e ∷ cs)) d
    by true f ih =
        among_if p e (insert_by lt c cs) d
        ∙ ap (λ (b : Bool). (p e && is_named e.name d) || b) (ih ∙ among_if p c cs d)
        ∙ or_swap (p e && is_named e.name d) (p c && is_named c.name d) (is_among (filter p cs) d)
        ∙ ap (λ (b : Bool). (p c && is_named c.name d) || b) (sym (among_if p e cs d))
        ∙ sym (among_if p c (e ∷ cs) d)
    by false f ih = refl

among_sorted : (p : Channel → Bool) (lt : Channel → Channel → Bool) (cs : List Channel) (d : Channel) → is_among (filter p (sorted_by lt cs)) d ≡ is_among (filter p cs) d
among_sorted p lt [] d = refl
among_sorted p lt (c ∷ cs) d =
    among_insert p lt c (sorted_by lt cs) d
    ∙ among_if p c (sorted_by lt cs) d
    ∙ ap (λ (b : Bool). (p c && is_named c.name d) || b) (among_sorted p lt cs d)
    ∙ sym (among_if p c cs d)

-- a channel that stands behind has another name
other_name : (c d : Channel) → channel_before c d ≡ true → is_named c.name d ≡ false
other_name c d behind = by (is_named c.name d) refl
  where
    by : (b : Bool) → is_named c.name d ≡ b → is_named c.name d ≡ false
    by false e = e
    by true e = absurd (let no = (name_ties (λ (f : Channel). f.name) c.name d e).0 in cc)

other_names : (c : Channel) (cs : List Channel) → list_all (channel_before c) cs ≡ true → AllByRecursion (λ d. is_named c.name d ≡ false) cs
other_names c [] all = tt
other_names c (d ∷ cs) all = let both = both_of (channel_before c d) (list_all (channel_before c) cs) all in (other_name c d both.0, other_names c cs both.1)

none_among : (q : Channel → Bool) (c : Channel) (cs : List Channel) → list_all (channel_before c) cs ≡ true → is_among (filter q cs) c ≡ false
none_among q c [] all = refl
none_among q c (d ∷ cs) all =
    let both = both_of (channel_before c d) (list_all (channel_before c) cs) all in
    among_if q d cs c ∙ by (q d) (is_named d.name c) (other d both.0) (none_among q c cs both.1)
  where
    other : (d : Channel) → channel_before c d ≡ true → is_named d.name c ≡ false
    other d behind = by_name (is_named d.name c) refl
      where
        by_name : (b : Bool) → is_named d.name c ≡ b → is_named d.name c ≡ false
        by_name false e = e
        by_name true e = absurd (let no = (name_ties (λ (f : Channel). f.name) d.name c e).1 in cc)

    by : (a b : Bool) → b ≡ false → is_among (filter q cs) c ≡ false → ((a && b) || is_among (filter q cs) c) ≡ false
    by true true e ih = absurd (cc)
    by true false e ih = ih
    by false b e ih = ih

-- of channels with names of their own one is named among those that pass where it passes
tells : (q : Channel → Bool) (cs : List Channel) → are_channels cs ≡ true → AllByRecursion (λ d. is_among (filter q cs) d ≡ q d) cs
tells q [] asc = tt
tells q (c ∷ cs) asc =
    let parts = both_of (list_all (channel_before c) cs) (ascends channel_before cs) asc in (
      among_if q c cs c ∙ here (q c) (is_named c.name c) (same_refl c.name) (none_among q c cs parts.0),
      behind cs (other_names c cs parts.0) (tells q cs parts.1),
    )
  where
    here : (a b : Bool) → b ≡ true → is_among (filter q cs) c ≡ false → ((a && b) || is_among (filter q cs) c) ≡ a
    here true true e none = refl
    here true false e none = absurd (cc)
    here false b e none = none

    no_and : (a b r : Bool) → b ≡ false → ((a && b) || r) ≡ r
    no_and true true r e = absurd (cc)
    no_and true false r e = refl
    no_and false b r e = refl

    behind : (ds : List Channel) → AllByRecursion (λ d. is_named c.name d ≡ false) ds → AllByRecursion (λ d. is_among (filter q cs) d ≡ q d) ds
        → AllByRecursion (λ d. is_among (filter q (c ∷ cs)) d ≡ q d) ds
    behind [] names all = tt
    behind (d ∷ ds) names all = (among_if q c cs d ∙ no_and (q c) (is_named c.name d) (is_among (filter q cs) d) names.0 ∙ all.0, behind ds names.1 all.1)

each_as : {A : Type 0} {P Q : A → Type 0} → ((x : A) → P x → Q x) → (xs : List A) → AllByRecursion P xs → AllByRecursion Q xs
each_as f [] all = tt
each_as f (x ∷ xs) all = (f x all.0, each_as f xs all.1)

-- a filter by what items pass alike
pub filter_as : {A : Type 0} (p q : A → Bool) (xs : List A) → AllByRecursion (λ x. p x ≡ q x) xs → filter p xs ≡ filter q xs
filter_as p q [] all = refl
filter_as {A = A} p q (x ∷ xs) all = by (q x) refl (filter_as p q xs all.1)
  where
    by : (b : Bool) → q x ≡ b → filter p xs ≡ filter q xs → filter p (x ∷ xs) ≡ filter q (x ∷ xs)
    by true e ih = let f : p x ≡ true = all.0 ∙ e in rw (e, f) (ap (λ (ys : List A). x ∷ ys) ih)
    by false e ih = let f : p x ≡ false = all.0 ∙ e in rw (e, f) ih

-- which of all channels are named among those that are due and pass a test
abbrev pub IsDueAmong : ℕ → List Channel → List Channel → Type 0
IsDueAmong now due all = (p : Channel → Bool) → AllByRecursion (λ d. is_among (filter p due) d ≡ (is_channel_due now d && p d)) all

pub due_among : (now : ℕ) (lt : Channel → Channel → Bool) (all : List Channel) → are_channels all ≡ true → (p : Channel → Bool)
    → AllByRecursion (λ d. is_among (filter p (sorted_by lt (filter (is_channel_due now) all))) d ≡ (is_channel_due now d && p d)) all
due_among now lt all asc p =
    let both : Channel → Bool = λ d. is_channel_due now d && p d in
    let same_filter : filter p (filter (is_channel_due now) all) ≡ filter both all =
    filter-both (is_channel_due now) p both all (λ d e. rw e refl) (λ d e. rw e refl) in
    each_as (λ d e. among_sorted p lt (filter (is_channel_due now) all) d ∙ ap (λ (ds : List Channel). is_among ds d) same_filter ∙ e) all (tells both all asc)

-- sums
pub sum_insert : {A : Type 0} (f : A → ℕ) (lt : A → A → Bool) (x : A) (xs : List A) → sum_by f (insert_by lt x xs) ≡ f x + sum_by f xs
sum_insert f lt x [] = sum_by-cons f x []
sum_insert f lt x (y ∷ ys) = by (lt y x) (sum_insert f lt x ys)
  where
    by : (b : Bool) → sum_by f (insert_by lt x ys) ≡ f x + sum_by f ys → sum_by f (if b then y ∷ insert_by lt x ys else x ∷ y ∷ ys) ≡ f x + sum_by f (y ∷ ys)
    by true ih = omega (arith, ih, sum_by-cons f y (insert_by lt x ys), sum_by-cons f y ys)
    by false ih = sum_by-cons f x (y ∷ ys)

pub sum_sorted : {A : Type 0} (f : A → ℕ) (lt : A → A → Bool) (xs : List A) → sum_by f (sorted_by lt xs) ≡ sum_by f xs
sum_sorted f lt [] = refl
sum_sorted f lt (x ∷ xs) = let ih = sum_sorted f lt xs in omega (arith, ih, sum_insert f lt x (sorted_by lt xs), sum_by-cons f x xs)

pub sum_parts : {A : Type 0} (f : A → ℕ) (p : A → Bool) (xs : List A) → sum_by f (filter (λ x. not (p x)) xs) + sum_by f (filter p xs) ≡ sum_by f xs
sum_parts f p [] = refl
sum_parts f p (x ∷ xs) = by (p x) refl (sum_parts f p xs)
  where
    by : (b : Bool) → p x ≡ b → sum_by f (filter (λ y. not (p y)) xs) + sum_by f (filter p xs) ≡ sum_by f xs
        → sum_by f (filter (λ y. not (p y)) (x ∷ xs)) + sum_by f (filter p (x ∷ xs)) ≡ sum_by f (x ∷ xs)
    by true e ih = rw e (omega (arith, ih, sum_by-cons f x xs, sum_by-cons f x (filter p xs)))
    by false e ih = rw e (omega (arith, ih, sum_by-cons f x xs, sum_by-cons f x (filter (λ y. not (p y)) xs)))
