-- The words that are left, and the next of them.
use Rattle.std.proofs.Common.{◌≡◌, ℕ, ◌+◌, ◌<◌, ◌≤◌, Bool, true, false, List, [], ◌∷◌, length, drop, length-drop, refl, sym, ap, ◌∙◌, arith}
use Rattle.std.specs.Prelude.{Some, slice_get, ◌&&◌, Result, Ok, Err, is_ok}
use Rattle.std.proofs.lemmas.List.{drop_all}
use Rattle.byte_text.specs.Names.{Bytes, same}
use Rattle.byte_text.specs.ByteOrder.{same_refl, same_equal}
use Rattle.log_record.specs.Words.{same_words}
use Rattle.cmd_words.specs.LeftWords.{one_less}
use Rattle.record_reader.specs.Reading.{BeginsNot, IsEnd, IsNotOne}
use Rattle.record_reader.specs.declared.faults.ReadFault.{ReadFault}
use Rattle.record_reader.specs.declared.faults.ReadFault.TheVariants.{NotRecord, Memory}

pub heads_same : (v w : Bytes) (vs ws : List Bytes) → v ∷ vs ≡ w ∷ ws → v ≡ w
heads_same v w vs ws e = cc e

pub rests_same : (v w : Bytes) (vs ws : List Bytes) → v ∷ vs ≡ w ∷ ws → vs ≡ ws
rests_same v w vs ws e = cc e

pub nothing_is : (w : Bytes) (ws : List Bytes) → [] ≡ w ∷ ws → ⊥
nothing_is w ws e = cc e

module _ (words : List Bytes) (read : ℕ) (left : List Bytes) (is : drop read words ≡ left) where
  pub next_left : (w : Bytes) → read < length words → slice_get words read ≡ Some w → left ≡ w ∷ drop (read + 1) words
  next_left w lt e = sym is ∙ one_less words read w lt e

  pub none_left : length words ≤ read → left ≡ []
  none_left h = sym is ∙ drop_all read words h

  pub more_left : read < length words → left ≡ [] → ⊥
  more_left lt none =
      let n = length-drop read words in
      let zero_left : length (drop read words) ≡ 0 = ap length (is ∙ none) in
      omega (arith, n, zero_left)

pub none_begins : (called : Bytes) (left : List Bytes) → left ≡ [] → BeginsNot called left
none_begins called left e = record { other = λ behind f. nothing_is called behind (sym e ∙ f) }

pub other_begins : (called w : Bytes) (left rest : List Bytes) → left ≡ w ∷ rest → same w called ≡ false → BeginsNot called left
other_begins called w left rest e differs = record {
  other = λ behind f.
      let is : w ≡ called = heads_same w called rest behind (sym e ∙ f) in
      let both : true ≡ false = sym (same_refl called) ∙ ap (λ v. same v called) (sym is) ∙ differs in
      absurd (cc both);
}

-- words are compared one by one

pub same_next : (called : Bytes) (words old new : List Bytes) → old ≡ called ∷ new → same_words (called ∷ words) old ≡ same_words words new
same_next called words old new e = rw (e, same_refl called) refl

pub other_next : (called : Bytes) (words old : List Bytes) → BeginsNot called old → same_words (called ∷ words) old ≡ false
other_next called words [] b = refl
other_next called words (w ∷ left) b = by (same called w) refl
  where
    by : (t : Bool) → same called w ≡ t → (same called w && same_words words left) ≡ false
    by true e = absurd (b.other left (ap (λ v. v ∷ left) (sym (same_equal called w e))))
    by false e = rw e refl

-- the words of a list are compared from a place on
module _ (words old left : List Bytes) (at : ℕ) (so_far : same_words words old ≡ same_words (drop at words) left) where
  pub fails_at : (w : Bytes) → at < length words → slice_get words at ≡ Some w → BeginsNot w left → false ≡ same_words words old
  fails_at w lt g b = sym (so_far ∙ ap (λ l. same_words l left) (one_less words at w lt g) ∙ other_next w (drop (at + 1) words) left b)

  pub goes_at : (w : Bytes) (new : List Bytes) → at < length words → slice_get words at ≡ Some w → left ≡ w ∷ new
      → same_words words old ≡ same_words (drop (at + 1) words) new
  goes_at w new lt g e = so_far ∙ ap (λ l. same_words l left) (one_less words at w lt g) ∙ same_next w (drop (at + 1) words) left new e

  pub ends_at : (r : Result (Unit {0}) ReadFault) (b : Bool) → length words ≤ at → IsEnd left r → b ≡ is_ok r → b ≡ same_words words old
  ends_at r b le end is = is ∙ by left r end ∙ sym (so_far ∙ ap (λ l. same_words l left) (drop_all at words le))
    where
      by : (l : List Bytes) (r : Result (Unit {0}) ReadFault) → IsEnd l r → is_ok r ≡ same_words [] l
      by l (Ok u) e = rw e refl
      by [] (Err NotRecord) none = absurd (none refl)
      by (w ∷ l) (Err NotRecord) none = refl
      by l (Err Memory) none = absurd none

-- one word is left, or none or more are
pub not_one : (old new : List Bytes) (w : Bytes) (why : ReadFault) → old ≡ w ∷ new → IsEnd new (Err why) → IsNotOne old
not_one old new w NotRecord e none = λ v f. none (rests_same w v new [] (sym e ∙ f))
not_one old new w Memory e none = absurd none

pub taken_word : (called w : Bytes) (left new : List Bytes) → left ≡ w ∷ new → same w called ≡ true → left ≡ called ∷ new
taken_word called w left new e is = e ∙ ap (λ v. v ∷ new) (same_equal w called is)
