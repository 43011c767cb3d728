-- The weight of channels, and what changes of them make of it.
use Rattle.std.proofs.Common.{◌≡◌, ℕ, zero, suc, ◌+◌, ◌≤◌, Bool, true, false, not, refl, sym, ap, ◌∙◌, subst, List, [], ◌∷◌, ◌++◌, map, take, drop, append-nil, arith}
use Rattle.std.specs.Prelude.{Some, sum_by, filter, slice_get, if◌then◌else◌, ◌||◌}
use Rattle.std.specs.List.{list_any, AllByRecursion}
use Rattle.std.proofs.lemmas.Bool.{or_right}
use Rattle.std.proofs.lemmas.List.{map-append, take-append-drop}
use Rattle.std.proofs.lemmas.List.Elements.{filter-append}
use Rattle.std.proofs.lemmas.List.Sums.{sum_by-cons, sum_by-append}
use Rattle.byte_text.specs.Names.{Bytes, same}
use Rattle.byte_text.specs.ByteOrder.{same_refl, same_equal}
use Rattle.byte_text.specs.Globs.{glob_meets}
use Rattle.ordered_lists.specs.Lists.{put_in}
use Rattle.fence_model.specs.Writes.{Write, silent}
use Rattle.world_data.specs.Worlds.{channel_before, is_named}
use Rattle.world_data.specs.declared.channels.Channel.{Channel}
use Rattle.world_data.specs.declared.worlds.Change.TheVariants as change
use Rattle.world_model.specs.Replies.{channel_reply}
use Rattle.delivery_model.specs.Staging.{records_len}
use Rattle.channel_plans.specs.declared.channels.Dropped.{Dropped}
use Rattle.channel_plans.specs.Dropping.{met_channels, names_of, drops, IsDropped, IsDroppedOf}
use Rattle.record_writer.specs.Lengths.{len_of_channel}
use Rattle.channel_plans.specs.Planned.{without_names}
use Rattle.byte_text.specs.ListLaws.{take_next}

-- what is put is part of the weight
pub put_part : (x : Channel) (cs : List Channel) → len_of_channel x ≤ sum_by len_of_channel (put_in channel_before x cs)
put_part x [] = omega (arith, sum_by-cons len_of_channel x [])
put_part x (y ∷ ys) = by (channel_before x y) (channel_before y x) (put_part x ys)
  where
    by : (a b : Bool) → len_of_channel x ≤ sum_by len_of_channel (put_in channel_before x ys) → len_of_channel x ≤ sum_by len_of_channel (if a then x ∷ y ∷ ys else if b then y ∷ put_in channel_before x ys else x ∷ ys)
    by true b ih = omega (arith, sum_by-cons len_of_channel x (y ∷ ys))
    by false true ih = omega (arith, ih, sum_by-cons len_of_channel y (put_in channel_before x ys))
    by false false ih = omega (arith, sum_by-cons len_of_channel x ys)

-- channels that are looked at from the first on

-- those so far, and the next one, weigh no more than all
pub next_weighs : (cs : List Channel) (i : ℕ) (c : Channel) → slice_get cs i ≡ Some c → sum_by len_of_channel (take i cs) + len_of_channel c ≤ sum_by len_of_channel cs
next_weighs [] i c at = absurd (cc)
next_weighs (x ∷ cs) zero c at = let is : x ≡ c = cc in let long : len_of_channel x ≡ len_of_channel c = ap len_of_channel is in omega (arith, long, sum_by-cons len_of_channel x cs)
next_weighs (x ∷ cs) (suc i) c at = let ih = next_weighs cs i c at in omega (arith, ih, sum_by-cons len_of_channel x cs, sum_by-cons len_of_channel x (take i cs))

pub some_weigh : (p : Channel → Bool) (cs : List Channel) → sum_by len_of_channel (filter p cs) ≤ sum_by len_of_channel cs
some_weigh p [] = omega arith
some_weigh p (c ∷ cs) = by (p c) (some_weigh p cs)
  where
    by : (b : Bool) → sum_by len_of_channel (filter p cs) ≤ sum_by len_of_channel cs → sum_by len_of_channel (if b then c ∷ filter p cs else filter p cs) ≤ sum_by len_of_channel (c ∷ cs)
    by true ih = omega (arith, ih, sum_by-cons len_of_channel c cs, sum_by-cons len_of_channel c (filter p cs))
    by false ih = omega (arith, ih, sum_by-cons len_of_channel c cs)

drops_more : (xs ys : List Channel) → records_len (drops (xs ++ ys)) ≡ records_len (drops xs) + records_len (drops ys)
drops_more [] ys = omega arith
drops_more (x ∷ xs) ys = let ih = drops_more xs ys in omega (arith, ih)

one_dropped : (pattern : Bytes) (cs : List Channel) (c : Channel) (total : ℕ) (old new : Dropped) → IsDroppedOf pattern cs total old → IsDropped pattern c old new → IsDroppedOf pattern (cs ++ c ∷ []) total new
one_dropped pattern cs c total old new s n =
    let whole : met_channels pattern (cs ++ c ∷ []) ≡ met_channels pattern cs ++ met_channels pattern (c ∷ []) = filter-append (λ (d : Channel). glob_meets pattern d.name) cs (c ∷ []) in
    let front = met_channels pattern cs in
    let last = met_channels pattern (c ∷ []) in
    record {
      names = n.names ∙ ap (λ (ns : List Bytes). ns ++ names_of last) s.names ∙ sym (map-append (λ (d : Channel). d.name) front last) ∙ ap names_of (sym whole);
      length_is = n.length_is ∙ ap (λ (l : ℕ). l + records_len (drops last)) s.length_is ∙ sym (drops_more front last) ∙ ap (λ (ds : List Channel). records_len (drops ds)) (sym whole);
      weight_is =
          let sum : sum_by len_of_channel (met_channels pattern (cs ++ c ∷ [])) ≡ sum_by len_of_channel front + sum_by len_of_channel last = ap (sum_by len_of_channel) whole ∙ sum_by-append len_of_channel front last in
          let before_ = s.weight_is in
          let now = n.weight_is in
          omega (arith, sum, before_, now);
      small = let before_ = s.small in let now = n.small in omega (arith, before_, now);
    }

pub next_dropped : (pattern : Bytes) (cs : List Channel) (i : ℕ) (c : Channel) (total : ℕ) (old new : Dropped) → slice_get cs i ≡ Some c → IsDroppedOf pattern (take i cs) total old → IsDropped pattern c old new → IsDroppedOf pattern (take (i + 1) cs) total new
next_dropped pattern cs i c total old new at s n = subst (λ (ds : List Channel). IsDroppedOf pattern ds total new) (sym (take_next cs i c at)) (one_dropped pattern (take i cs) c total old new s n)

-- the changes, by the names
pub drops_of : (cs : List Channel) → drops cs ≡ map (λ n. silent (change.DelChan n)) (names_of cs)
drops_of [] = refl
drops_of (c ∷ cs) = ap (λ (ws : List Write). silent (change.DelChan c.name) ∷ ws) (drops_of cs)

-- what is left

none_left : (cs : List Channel) → filter (λ c. not (list_any (same c.name) [])) cs ≡ cs
none_left [] = refl
none_left (c ∷ cs) = ap (λ (ds : List Channel). c ∷ ds) (none_left cs)

one_left : (name : Bytes) (names : List Bytes) (cs : List Channel) → filter (λ c. not (list_any (same c.name) names)) (filter (λ c. not (is_named name c)) cs) ≡ filter (λ c. not (list_any (same c.name) (name ∷ names))) cs
one_left name names [] = refl
one_left name names (x ∷ cs) = by (same x.name name) (list_any (same x.name) names) refl (one_left name names cs)
  where
    by : (b c : Bool) → list_any (same x.name) names ≡ c → filter (λ d. not (list_any (same d.name) names)) (filter (λ d. not (is_named name d)) cs) ≡ filter (λ d. not (list_any (same d.name) (name ∷ names))) cs
        → filter (λ d. not (list_any (same d.name) names)) (if not b then x ∷ filter (λ d. not (is_named name d)) cs else filter (λ d. not (is_named name d)) cs)
        ≡ (if not (b || c) then x ∷ filter (λ d. not (list_any (same d.name) (name ∷ names))) cs else filter (λ d. not (list_any (same d.name) (name ∷ names))) cs)
    by true c f ih = ih
    by false true f ih = rw f ih
    by false false f ih = rw f (ap (λ (zs : List Channel). x ∷ zs) ih)

each_left : (names : List Bytes) (cs : List Channel) → without_names names cs ≡ filter (λ c. not (list_any (same c.name) names)) cs
each_left [] cs = sym (none_left cs)
each_left (name ∷ names) cs = each_left names (filter (λ c. not (is_named name c)) cs) ∙ one_left name names cs

-- a name is among those of the channels that meet the pattern just where it meets it

meets : (pattern name : Bytes) (cs : List Channel) → list_any (same name) (names_of (met_channels pattern cs)) ≡ true → glob_meets pattern name ≡ true
meets pattern name [] e = absurd (cc)
meets pattern name (x ∷ cs) e = by (glob_meets pattern x.name) refl (meets pattern name cs) e
  where
    split : (b c : Bool) → same name x.name ≡ b → list_any (same name) (names_of (met_channels pattern cs)) ≡ c → (b || c) ≡ true → glob_meets pattern x.name ≡ true → (list_any (same name) (names_of (met_channels pattern cs)) ≡ true → glob_meets pattern name ≡ true) → glob_meets pattern name ≡ true
    split true c s l or m ih = subst (λ (n : Bytes). glob_meets pattern n ≡ true) (sym (same_equal name x.name s)) m
    split false c s l or m ih = ih (l ∙ or)

    by : (t : Bool) → glob_meets pattern x.name ≡ t → (list_any (same name) (names_of (met_channels pattern cs)) ≡ true → glob_meets pattern name ≡ true) → list_any (same name) (names_of (if t then x ∷ met_channels pattern cs else met_channels pattern cs)) ≡ true → glob_meets pattern name ≡ true
    by true m ih e = split (same name x.name) (list_any (same name) (names_of (met_channels pattern cs))) refl refl e m ih
    by false m ih e = ih e

abbrev AreMet : Bytes → List Channel → List Channel → Type 0
AreMet pattern cs ds = AllByRecursion (λ c. glob_meets pattern c.name ≡ true → list_any (same c.name) (names_of (met_channels pattern ds)) ≡ true) cs

more_met : (pattern : Bytes) (y : Channel) (cs ds : List Channel) → AreMet pattern cs ds → AreMet pattern cs (y ∷ ds)
more_met pattern y [] ds all = tt
more_met pattern y (x ∷ cs) ds all = (λ m. by (glob_meets pattern y.name) (all.0 m), more_met pattern y cs ds all.1)
  where
    by : (b : Bool) → list_any (same x.name) (names_of (met_channels pattern ds)) ≡ true → list_any (same x.name) (names_of (if b then y ∷ met_channels pattern ds else met_channels pattern ds)) ≡ true
    by true h = rw h (or_right (same x.name y.name) true refl)
    by false h = h

all_met : (pattern : Bytes) (cs : List Channel) → AreMet pattern cs cs
all_met pattern [] = tt
all_met pattern (x ∷ cs) = (λ m. rw (m, same_refl x.name) refl, more_met pattern x cs cs (all_met pattern cs))

left_of : (pattern : Bytes) (names : List Bytes) (cs : List Channel) → ((name : Bytes) → list_any (same name) names ≡ true → glob_meets pattern name ≡ true) → AllByRecursion (λ c. glob_meets pattern c.name ≡ true → list_any (same c.name) names ≡ true) cs
    → sum_by len_of_channel (filter (λ c. not (list_any (same c.name) names)) cs) + sum_by len_of_channel (met_channels pattern cs) ≡ sum_by len_of_channel cs
left_of pattern names [] only all = refl
left_of pattern names (x ∷ cs) only all = by (list_any (same x.name) names) (glob_meets pattern x.name) refl refl (left_of pattern names cs only all.1)
  where
    by : (b d : Bool) → list_any (same x.name) names ≡ b → glob_meets pattern x.name ≡ d → sum_by len_of_channel (filter (λ c. not (list_any (same c.name) names)) cs) + sum_by len_of_channel (met_channels pattern cs) ≡ sum_by len_of_channel cs
        → sum_by len_of_channel (if not b then x ∷ filter (λ c. not (list_any (same c.name) names)) cs else filter (λ c. not (list_any (same c.name) names)) cs) + sum_by len_of_channel (if d then x ∷ met_channels pattern cs else met_channels pattern cs) ≡ sum_by len_of_channel (x ∷ cs)
    by true true l m ih = omega (arith, ih, sum_by-cons len_of_channel x cs, sum_by-cons len_of_channel x (met_channels pattern cs))
    by true false l m ih = let f = only x.name l in absurd (cc)
    by false true l m ih = let f = all.0 m in absurd (cc)
    by false false l m ih = omega (arith, ih, sum_by-cons len_of_channel x cs, sum_by-cons len_of_channel x (filter (λ c. not (list_any (same c.name) names)) cs))

-- what is left, and the channels that meet the pattern, make all
pub left_weight : (pattern : Bytes) (cs : List Channel) → sum_by len_of_channel (without_names (names_of (met_channels pattern cs)) cs) + sum_by len_of_channel (met_channels pattern cs) ≡ sum_by len_of_channel cs
left_weight pattern cs =
    let names = names_of (met_channels pattern cs) in
    ap (λ (ds : List Channel). sum_by len_of_channel ds + sum_by len_of_channel (met_channels pattern cs)) (each_left names cs)
    ∙ left_of pattern names cs (λ name e. meets pattern name cs e) (all_met pattern cs)

-- the channels that are met among the first ones

pub met_next : (pattern : Bytes) (c : Channel) (cs : List Channel) (i : ℕ) → slice_get cs i ≡ Some c → glob_meets pattern c.name ≡ true → met_channels pattern (take (i + 1) cs) ≡ met_channels pattern (take i cs) ++ c ∷ []
met_next pattern c cs i at e =
    let one : met_channels pattern (c ∷ []) ≡ c ∷ [] = rw e refl in
    ap (met_channels pattern) (take_next cs i c at) ∙ filter-append (λ (d : Channel). glob_meets pattern d.name) (take i cs) (c ∷ []) ∙ ap (λ (ds : List Channel). met_channels pattern (take i cs) ++ ds) one

pub unmet_next : (pattern : Bytes) (c : Channel) (cs : List Channel) (i : ℕ) → slice_get cs i ≡ Some c → glob_meets pattern c.name ≡ false → met_channels pattern (take (i + 1) cs) ≡ met_channels pattern (take i cs)
unmet_next pattern c cs i at e =
    let none : met_channels pattern (c ∷ []) ≡ [] = rw e refl in
    ap (met_channels pattern) (take_next cs i c at) ∙ filter-append (λ (d : Channel). glob_meets pattern d.name) (take i cs) (c ∷ []) ∙ ap (λ (ds : List Channel). met_channels pattern (take i cs) ++ ds) none ∙ append-nil (met_channels pattern (take i cs))

pub met_first : (pattern : Bytes) (cs : List Channel) (n : ℕ) → map channel_reply (met_channels pattern cs) ≡ map channel_reply (met_channels pattern (take n cs)) ++ map channel_reply (met_channels pattern (drop n cs))
met_first pattern cs n =
    ap (λ (ds : List Channel). map channel_reply (met_channels pattern ds)) (sym (take-append-drop n cs))
    ∙ ap (map channel_reply) (filter-append (λ (d : Channel). glob_meets pattern d.name) (take n cs) (drop n cs))
    ∙ map-append channel_reply (met_channels pattern (take n cs)) (met_channels pattern (drop n cs))
