-- The keys, and the other entries, after a change of one entry.
use Rattle.std.proofs.Common.{◌≡◌, ◌<◌, ℕ, zero, suc, Bool, true, false, not, refl, sym, ap, subst, ◌∙◌, List, [], ◌∷◌, ◌++◌, length, take, drop, Ok, Err, arith}
use Rattle.std.specs.Prelude.{Some, IfSome, ◌&&◌, ◌==◌, filter, slice_get, Result, OnOk, OnErr}
use Rattle.std.specs.List.{list_all, slice_set, insert, remove}
use Rattle.std.proofs.lemmas.Bool.Decides.{nat_tests}
use Rattle.std.proofs.lemmas.List.Elements.{filter-append}
use Rattle.byte_text.specs.Names.{Bytes, before, same}
use Rattle.byte_text.specs.ByteOrder.{same_refl, other_before, other_behind}
use Rattle.ordered_lists.specs.Lists.{put_in}
use Rattle.ordered_lists.specs.Ascending.{put_in-insert, put_in-set}
use Rattle.ordered_lists.specs.Reading.{both_of}
use Rattle.world_data.specs.declared.objects.Object.{Object}
use Rattle.keyspace.specs.Entries.{Entry, key_before, is_entry_of, has_objects, objects_in, keys_of}
use Rattle.keyspace.specs.KeyOrder.{IsAdded}
use Rattle.keyspace.proofs.Keys.{Stands, Lacks, key_asym, set_ties, split_at, halves, taken_away}

pub keys_set : (xs : List Entry) (at : ℕ) (e f : Entry) → slice_get xs at ≡ Some e → f.key ≡ e.key → keys_of (slice_set xs at f) ≡ keys_of xs
keys_set [] at e f is k = absurd (cc)
keys_set (x ∷ xs) zero e f is k = let s : x ≡ e = cc in ap (λ (n : Bytes). n ∷ keys_of xs) (k ∙ ap (λ (z : Entry). z.key) (sym s))
keys_set (x ∷ xs) (suc at) e f is k = ap (λ (l : List Bytes). x.key ∷ l) (keys_set xs at e f is k)

keys_case : (f x : Entry) (xs : List Entry) (a b : Bool) → before f.key x.key ≡ a → before x.key f.key ≡ b
    → keys_of (put_in key_before f xs) ≡ put_in before f.key (keys_of xs)
    → keys_of (put_in key_before f (x ∷ xs)) ≡ put_in before f.key (keys_of (x ∷ xs))
keys_case f x xs true b p q ih = rw p refl
keys_case f x xs false true p q ih = rw (p, q, ih) refl
keys_case f x xs false false p q ih = rw (p, q) refl

keys_put : (f : Entry) (xs : List Entry) → keys_of (put_in key_before f xs) ≡ put_in before f.key (keys_of xs)
keys_put f [] = refl
keys_put f (x ∷ xs) = keys_case f x xs (before f.key x.key) (before x.key f.key) refl refl (keys_put f xs)

-- entries of other keys stay
module _ (key : Bytes) (q : Entry → Bool) (others : (f : Entry) → same f.key key ≡ false → q f ≡ true) where
  stay_front : (xs : List Entry) → list_all (λ e. before e.key key) xs ≡ true → filter q xs ≡ xs
  stay_front [] all = refl
  stay_front (x ∷ xs) all =
      let p = both_of (before x.key key) (list_all (λ e. before e.key key) xs) all in
      rw (others x (other_before x.key key p.0), stay_front xs p.1) refl

  stay_back : (xs : List Entry) → list_all (λ e. before key e.key) xs ≡ true → filter q xs ≡ xs
  stay_back [] all = refl
  stay_back (x ∷ xs) all =
      let p = both_of (before key x.key) (list_all (λ e. before key e.key) xs) all in
      rw (others x (other_behind x.key key p.0), stay_back xs p.1) refl

  pub one_left_out : (xs : List Entry) (at : ℕ) (e : Entry) → Stands key xs at e → q e ≡ false → filter q xs ≡ remove xs at
  one_left_out xs at e s out =
      ap (filter q) (split_at xs at e s.is) ∙ filter-append q (take at xs) (e ∷ drop (suc at) xs) ∙ rw (out, stay_front (take at xs) s.front_all, stay_back (drop (suc at) xs) s.back_all) refl

  pub all_stay : (xs : List Entry) (at : ℕ) (e : Entry) → Stands key xs at e → q e ≡ true → filter q xs ≡ xs
  all_stay xs at e s stays =
      ap (filter q) (split_at xs at e s.is) ∙ filter-append q (take at xs) (e ∷ drop (suc at) xs) ∙ rw (stays, stay_front (take at xs) s.front_all, stay_back (drop (suc at) xs) s.back_all) refl ∙ sym (split_at xs at e s.is)

  pub none_left_out : (xs : List Entry) (at : ℕ) → Lacks key xs at → filter q xs ≡ xs
  none_left_out xs at s =
      ap (filter q) (halves xs at) ∙ filter-append q (take at xs) (drop at xs) ∙ rw (stay_front (take at xs) s.front_all, stay_back (drop at xs) s.back_all) refl ∙ sym (halves xs at)

-- an entry of another key, or with an object
abbrev pub is_other : Bytes → Entry → Bool
is_other key e = not (is_entry_of key e)

abbrev pub is_needed : Bytes → Entry → Bool
is_needed key e = not (is_entry_of key e && not (has_objects e))

pub other_stays : (key : Bytes) (f : Entry) → same f.key key ≡ false → is_other key f ≡ true
other_stays key f h = rw h refl

pub other_needed : (key : Bytes) (f : Entry) → same f.key key ≡ false → is_needed key f ≡ true
other_needed key f h = rw h refl

module _ (key : Bytes) (xs : List Entry) (at : ℕ) (e : Entry) (s : Stands key xs at e) where
  pub same_keys : (f : Entry) → f.key ≡ key → keys_of (slice_set xs at f) ≡ keys_of xs
  same_keys f k = keys_set xs at e f s.is (k ∙ sym s.key_is)

  pub keys_there : (f : Entry) → at < length xs → f.key ≡ key → keys_of (slice_set xs at f) ≡ put_in before key (keys_of xs)
  keys_there f within k =
      let front = subst (λ (n : Bytes). list_all (λ g. before g.key n) (take at xs) ≡ true) (sym k) s.front_all in
      let made = put_in-set key_before key_asym f xs at front within (set_ties key xs at e s f k) in
      ap keys_of (sym made) ∙ keys_put f xs ∙ ap (λ (n : Bytes). put_in before n (keys_of xs)) k

  pub key_left_out : filter (is_other key) xs ≡ remove xs at
  key_left_out = one_left_out key (is_other key) (other_stays key) xs at e s (rw (s.key_is, same_refl key) refl)

  pub gone_objects : length e.objects ≡ 0 → objects_in (remove xs at) ≡ objects_in xs
  gone_objects none = taken_away key xs at e s ∙ sym (s.whole ∙ ap (λ (l : List Object). objects_in (take at xs) ++ (l ++ objects_in (drop (suc at) xs))) (empty e.objects none))
    where
      empty : (l : List Object) → length l ≡ 0 → l ≡ []
      empty [] z = refl
      empty (o ∷ l) z = absurd (omega arith)

  pub given_up : length e.objects ≡ 0 → filter (is_needed key) xs ≡ remove xs at
  given_up none = one_left_out key (is_needed key) (other_needed key) xs at e s (rw (s.key_is, same_refl key, none) refl)

  pub needed : (length e.objects ≡ 0 → ⊥) → filter (is_needed key) xs ≡ xs
  needed some = all_stay key (is_needed key) (other_needed key) xs at e s (rw (full_at (length e.objects) some, and_false (same e.key key)) refl)
    where
      full_at : (n : ℕ) → (n ≡ 0 → ⊥) → not (n == 0) ≡ true
      full_at n h = grind (arith, nat_tests)

      and_false : (b : Bool) → (b && false) ≡ false
      and_false true = refl
      and_false false = refl

module _ (key : Bytes) (xs : List Entry) (at : ℕ) (s : Lacks key xs at) where
  pub keys_more : (f : Entry) → f.key ≡ key → keys_of (insert xs at f) ≡ put_in before key (keys_of xs)
  keys_more f k =
      let front = subst (λ (n : Bytes). list_all (λ g. before g.key n) (take at xs) ≡ true) (sym k) s.front_all in
      let next = subst (λ (n : Bytes). IfSome (slice_get xs at) (λ g. before n g.key ≡ true)) (sym k) s.next in
      let made = put_in-insert key_before key_asym f xs at front next in
      ap keys_of (sym made) ∙ keys_put f xs ∙ ap (λ (n : Bytes). put_in before n (keys_of xs)) k

  module _ {A E : Type 0} (ys : List Entry) where
    pub keys_added : (r : Result A E) → OnOk r (IsAdded key xs at ys) → OnOk r (keys_of ys ≡ put_in before key (keys_of xs))
    keys_added (Ok v) ok = rw ok.made (keys_more ok.one ok.key_is)
    keys_added (Err e) ok = tt

pub keys_kept : {A E : Type 0} (xs ys : List Entry) (r : Result A E) → OnErr r (ys ≡ xs) → OnErr r (keys_of ys ≡ keys_of xs)
keys_kept xs ys (Ok v) err = tt
keys_kept xs ys (Err e) err = ap keys_of err

pub on_ok : {A E : Type 0} {P : Type 0} (r : Result A E) → P → OnOk r P
on_ok (Ok v) p = p
on_ok (Err e) p = tt

pub on_err : {A E : Type 0} {P : Type 0} (r : Result A E) → P → OnErr r P
on_err (Ok v) p = tt
on_err (Err e) p = p
