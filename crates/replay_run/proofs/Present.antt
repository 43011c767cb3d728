-- A session's reader, found by its number.
use Rattle.std.proofs.Common.{◌≡◌, ℕ, zero, suc, ◌<◌, ◌≤◌, Bool, true, false, refl, sym, ap, List, [], ◌∷◌, length, get_or, arith}
use Rattle.std.specs.Prelude.{Some, None, if◌then◌else◌, nat_lt, position, slice_get, slice_set, remove}
use Rattle.std.specs.List.{position_or_len}
use Rattle.std.proofs.lemmas.Bool.{ltb-false}
use Rattle.std.proofs.lemmas.Bool.Decides.{nat_tests}
use Rattle.std.proofs.lemmas.List.Quantifiers.{position-Some}
use Rattle.std.proofs.lemmas.List.Sums.{fails_before_first}
use Rattle.replay_run.specs.declared.readers.Reader.{Reader}
use Rattle.replay_run.specs.Readers.{Unread, is_of, reader_of, with_unread, without_reader}

-- the session's reader stands at this place, and none before it is its reader
pub record IsAt (readers : List Reader) (n i : ℕ) : Type 0 where
  pub reader : Reader
  pub here : slice_get readers i ≡ Some reader
  pub found : reader_of n readers ≡ Some reader
  pub numbered : reader.session ≡ n
  pub changes : (unread : Unread) → with_unread n unread readers ≡ slice_set readers i (record reader { unread = unread })
  pub dropped : without_reader n readers ≡ remove readers i
  pub within : i < length readers

is_number : (n : ℕ) (r : Reader) → is_of n r ≡ true → r.session ≡ n
is_number n r t = grind (arith, nat_tests)

-- the first one of the session
first_of : (n : ℕ) (readers : List Reader) (i : ℕ) (d : Reader) → i < length readers → is_of n (get_or readers i d) ≡ true → ((k : ℕ) → k < i → is_of n (get_or readers k d) ≡ false) → IsAt readers n i
first_of n [] i d le t b = absurd (omega (arith, le))
first_of n (r ∷ readers) zero d le t b = record {
  reader = r;
  here = refl;
  found = rw t refl;
  numbered = is_number n r t;
  changes = λ unread. rw t refl;
  dropped = rw t refl;
  within = le;
}
first_of n (r ∷ readers) (suc i) d le t b =
    let other : is_of n r ≡ false = b 0 (omega arith) in
    let at : IsAt readers n i = first_of n readers i d (omega (arith, le)) t (λ k l. b (suc k) (omega (arith, l))) in
    record {
      reader = at.reader;
      here = at.here;
      found = rw other at.found;
      numbered = at.numbered;
      changes = λ unread. rw other (ap (λ (rs : List Reader). r ∷ rs) (at.changes unread));
      dropped = rw other (ap (λ (rs : List Reader). r ∷ rs) at.dropped);
      within = le;
    }

none_of : (n : ℕ) (readers : List Reader) (d : Reader) → ((k : ℕ) → k < length readers → is_of n (get_or readers k d) ≡ false) → (reader_of n readers ≡ None) × (without_reader n readers ≡ readers)
none_of n [] d o = (refl, refl)
none_of n (r ∷ readers) d o =
    let other : is_of n r ≡ false = o 0 (omega arith) in
    let rest = none_of n readers d (λ k l. o (suc k) (omega (arith, l))) in
    (rw other rest.0, rw other (ap (λ (rs : List Reader). r ∷ rs) rest.1))

none_by : (n len : ℕ) (t : Bool) → nat_lt n len ≡ t → None ≡ (if t then Some n else None) → len ≤ n
none_by n len true l e = absurd (cc e)
none_by n len false l e = ltb-false n len l

pub one_found : (n : ℕ) (readers : List Reader) (i : ℕ) → position (is_of n) readers ≡ Some i → IsAt readers n i
one_found n [] i e = absurd (cc)
one_found n (r ∷ readers) i e =
    let h = position-Some (is_of n) (r ∷ readers) i r e in
    first_of n (r ∷ readers) i r h.0 h.1 h.2

pub none_found : (n : ℕ) (readers : List Reader) → position (is_of n) readers ≡ None → (reader_of n readers ≡ None) × (without_reader n readers ≡ readers)
none_found n [] e = (refl, refl)
none_found n (r ∷ readers) e =
    let all : length (r ∷ readers) ≤ position_or_len (is_of n) (r ∷ readers) = none_by (position_or_len (is_of n) (r ∷ readers)) (length (r ∷ readers)) (nat_lt (position_or_len (is_of n) (r ∷ readers)) (length (r ∷ readers))) refl (sym e) in
    none_of n (r ∷ readers) r (λ k l. fails_before_first (is_of n) (r ∷ readers) k r (omega (arith, l, all)))
