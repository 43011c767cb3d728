-- The channels that are left where others are out.
use Rattle.std.proofs.Common.{◌≡◌, ◌≤◌, ◌+◌, ℕ, Bool, true, false, not, refl, ap, ◌∙◌, List, [], ◌∷◌, length, arith}
use Rattle.std.specs.Prelude.{Option, Some, None, filter, find, if◌then◌else◌}
use Rattle.std.specs.List.{list_all}
use Rattle.byte_text.specs.Names.{Bytes, before}
use Rattle.ordered_lists.specs.Ascending.{ascends-filter}
use Rattle.ordered_lists.specs.Lists.{put_in}
use Rattle.ordered_lists.specs.NameOrder.{name_sought}
use Rattle.ordered_lists.specs.Places.{all_behind, none_behind}
use Rattle.ordered_lists.specs.Reading.{both_of, filter-most}
use Rattle.world_data.specs.declared.channels.Channel.{Channel}
use Rattle.world_data.specs.Expiry.{is_channel_due}
use Rattle.world_data.specs.Worlds.{are_channels, channel_before, is_named}
use Rattle.channel_hub.specs.Dues.{is_out, left_of}

-- tests one after another, in any order
filter_swap : {A : Type 0} (p q : A → Bool) (xs : List A) → filter p (filter q xs) ≡ filter q (filter p xs)
filter_swap p q [] = refl
filter_swap p q (x ∷ xs) = let ih = filter_swap p q xs in grind arith

pub left_filter : (out : Option ℕ) (q : Channel → Bool) (xs : List Channel) → left_of out (filter q xs) ≡ filter q (left_of out xs)
left_filter None q xs = refl
left_filter (Some now) q xs = filter_swap (λ c. not (is_channel_due now c)) q xs

pub left_ascends : (out : Option ℕ) (xs : List Channel) → are_channels xs ≡ true → are_channels (left_of out xs) ≡ true
left_ascends None xs asc = asc
left_ascends (Some now) xs asc = ascends-filter channel_before (λ c. not (is_channel_due now c)) xs asc

pub left_fewer : (out : Option ℕ) (xs : List Channel) → length (left_of out xs) ≤ length xs
left_fewer None xs = omega arith
left_fewer (Some now) xs = filter-most (λ c. not (is_channel_due now c)) xs

pub put_more : (c : Channel) (xs : List Channel) → length (put_in channel_before c xs) ≤ length xs + 1
put_more c [] = omega arith
put_more c (x ∷ xs) = by_order (channel_before c x) (channel_before x c) (put_more c xs)
  where
    by_order : (a b : Bool) → length (put_in channel_before c xs) ≤ length xs + 1
        → length (if a then c ∷ x ∷ xs else if b then x ∷ put_in channel_before c xs else c ∷ xs) ≤ length (x ∷ xs) + 1
    by_order true b ih = omega arith
    by_order false true ih = omega (arith, ih)
    by_order false false ih = omega arith

-- the channel of a name, where it is left

none_found : (name : Bytes) (q : Channel → Bool) (xs : List Channel) → find (is_named name) xs ≡ None → find (is_named name) (filter q xs) ≡ None
none_found name q [] none = refl
none_found name q (x ∷ xs) none = by_tests (is_named name x) refl (q x) refl (none_found name q xs)
  where
    by_tests : (a : Bool) → is_named name x ≡ a → (b : Bool) → q x ≡ b → (find (is_named name) xs ≡ None → find (is_named name) (filter q xs) ≡ None) → find (is_named name) (filter q (x ∷ xs)) ≡ None
    by_tests true e b f ih = let no : Some x ≡ None = rw e at none in absurd (cc)
    by_tests false e true f ih = rw (f, e) (ih (rw e at none))
    by_tests false e false f ih = rw f (ih (rw e at none))

found_kept : (name : Bytes) (q : Channel → Bool) (xs : List Channel) (c : Channel) → find (is_named name) xs ≡ Some c → q c ≡ true → find (is_named name) (filter q xs) ≡ Some c
found_kept name q [] c is keep = absurd (cc)
found_kept name q (x ∷ xs) c is keep = by_tests (is_named name x) refl (q x) refl (found_kept name q xs c)
  where
    by_tests : (a : Bool) → is_named name x ≡ a → (b : Bool) → q x ≡ b → (find (is_named name) xs ≡ Some c → q c ≡ true → find (is_named name) (filter q xs) ≡ Some c) → find (is_named name) (filter q (x ∷ xs)) ≡ Some c
    by_tests true e true f ih = let it : Some x ≡ Some c = rw e at is in rw (f, e) it
    by_tests true e false f ih =
        let it : Some x ≡ Some c = rw e at is in
        let one : x ≡ c = cc in
        let kept : q x ≡ true = ap q one ∙ keep in
        absurd (cc)
    by_tests false e true f ih = rw (f, e) (ih (rw e at is) keep)
    by_tests false e false f ih = rw f (ih (rw e at is) keep)

none_behind_one : (name : Bytes) (x : Channel) (xs : List Channel) → is_named name x ≡ true → list_all (channel_before x) xs ≡ true → find (is_named name) xs ≡ None
none_behind_one name x xs e all =
    let sought = name_sought (λ (d : Channel). d.name) name in
    let behind = all_behind channel_before (λ d. before d.name name) (λ d. before name d.name) (is_named name) sought x xs (λ y lt. sought.back_it x y e lt) all in
    none_behind channel_before (λ d. before d.name name) (λ d. before name d.name) (is_named name) sought xs behind

found_out : (name : Bytes) (q : Channel → Bool) (xs : List Channel) (c : Channel) → are_channels xs ≡ true → find (is_named name) xs ≡ Some c → q c ≡ false → find (is_named name) (filter q xs) ≡ None
found_out name q [] c asc is gone = absurd (cc)
found_out name q (x ∷ xs) c asc is gone =
    let p = both_of (list_all (channel_before x) xs) (are_channels xs) asc in
    by_tests (is_named name x) refl (q x) refl p.0 (found_out name q xs c p.1)
  where
    by_tests : (a : Bool) → is_named name x ≡ a → (b : Bool) → q x ≡ b → list_all (channel_before x) xs ≡ true
        → (find (is_named name) xs ≡ Some c → q c ≡ false → find (is_named name) (filter q xs) ≡ None) → find (is_named name) (filter q (x ∷ xs)) ≡ None
    by_tests true e true f all ih =
        let it : Some x ≡ Some c = rw e at is in
        let one : x ≡ c = cc in
        let kept : q x ≡ false = ap q one ∙ gone in
        absurd (cc)
    by_tests true e false f all ih = rw f (none_found name q xs (none_behind_one name x xs e all))
    by_tests false e true f all ih = rw (f, e) (ih (rw e at is) gone)
    by_tests false e false f all ih = rw f (ih (rw e at is) gone)

module _ (name : Bytes) (out : Option ℕ) (xs : List Channel) where
  pub get_none : find (is_named name) xs ≡ None → find (is_named name) (left_of out xs) ≡ None
  get_none none = by_out out
    where
      by_out : (o : Option ℕ) → find (is_named name) (left_of o xs) ≡ None
      by_out None = none
      by_out (Some now) = none_found name (λ c. not (is_channel_due now c)) xs none

  pub get_left : (c : Channel) → find (is_named name) xs ≡ Some c → is_out out c ≡ false → find (is_named name) (left_of out xs) ≡ Some c
  get_left c is stays = by_out out stays
    where
      by_out : (o : Option ℕ) → is_out o c ≡ false → find (is_named name) (left_of o xs) ≡ Some c
      by_out None e = is
      by_out (Some now) e = found_kept name (λ c. not (is_channel_due now c)) xs c is (rw e refl)

  pub get_out : (c : Channel) → are_channels xs ≡ true → find (is_named name) xs ≡ Some c → is_out out c ≡ true → find (is_named name) (left_of out xs) ≡ None
  get_out c asc is gone = by_out out gone
    where
      by_out : (o : Option ℕ) → is_out o c ≡ true → find (is_named name) (left_of o xs) ≡ None
      by_out None e = absurd (cc)
      by_out (Some now) e = found_out name (λ c. not (is_channel_due now c)) xs c asc is (rw e refl)
