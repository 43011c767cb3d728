-- The words of a setting without those of its deadline.
use Rattle.std.proofs.Common.{◌≡◌, ◌≤◌, ◌<◌, ◌+◌, ℕ, List, [], ◌∷◌, ◌++◌, length, take, drop, refl, sym, ap, subst, ◌∙◌, arith, append_assoc, append-nil}
use Rattle.std.specs.Prelude.{Some, slice_get}
use Rattle.std.proofs.Math.Seq.{take-append_seam}
use Rattle.std.proofs.lemmas.List.{drop_all}
use Rattle.byte_text.specs.Names.{Bytes}
use Rattle.byte_text.specs.Requests.{FitsRequest}
use Rattle.world_data.specs.RequestLaws.{fits_take}
use Rattle.cmd_words.specs.LeftWords.{one_less}
use Rattle.record_reader.specs.Reading.{undated}

-- fewer words fit as well
undated_fits : (words : List Bytes) → FitsRequest words → FitsRequest (undated words)
undated_fits (called ∷ name ∷ at ∷ moment ∷ words) fits =
    let few = fits.few in
    let small = fits.small in
    let short = fits.short in
    record { few = omega (arith, few); short = (short.0, (short.1.0, short.1.1.1.1)); small = omega (arith, small) }
undated_fits [] fits = fits
undated_fits (a ∷ []) fits = fits
undated_fits (a ∷ b ∷ []) fits = fits
undated_fits (a ∷ b ∷ c ∷ []) fits = fits

begins_fits : (begun rest words : List Bytes) → begun ++ rest ≡ words → FitsRequest words → FitsRequest begun
begins_fits begun rest words is fits =
    subst FitsRequest (ap (take (length begun)) (sym is) ∙ take-append_seam begun rest) (fits_take words (length begun) fits)

one_longer : (begun rest : List Bytes) (w : Bytes) → begun ++ (w ∷ rest) ≡ (begun ++ w ∷ []) ++ rest
one_longer begun rest w = sym (append_assoc begun (w ∷ []) rest)

pub second_word : (words : List Bytes) → 4 ≤ length words → (w : Bytes) × (slice_get words 1 ≡ Some w)
second_word (a ∷ b ∷ words) enough = (b, refl)
second_word (a ∷ []) enough = absurd (omega (arith, enough))
second_word [] enough = absurd (omega (arith, enough))

module _ (words : List Bytes) (fits : FitsRequest words) (enough : 4 ≤ length words) where
  -- the first two words
  pub begun : (first second : Bytes) → slice_get words 0 ≡ Some first → slice_get words 1 ≡ Some second
      → (first ∷ second ∷ []) ++ drop 4 words ≡ undated words
  begun first second zero one = by words enough zero one
    where
      by : (l : List Bytes) → 4 ≤ length l → slice_get l 0 ≡ Some first → slice_get l 1 ≡ Some second → (first ∷ second ∷ []) ++ drop 4 l ≡ undated l
      by (a ∷ b ∷ c ∷ d ∷ l) le zero one = cc (zero, one)
      by [] le zero one = absurd (omega (arith, le))
      by (a ∷ []) le zero one = absurd (omega (arith, le))
      by (a ∷ b ∷ []) le zero one = absurd (omega (arith, le))
      by (a ∷ b ∷ c ∷ []) le zero one = absurd (omega (arith, le))

  -- so many words stand in the normal words, and the others behind them
  module _ (normal : List Bytes) (at : ℕ) (so_far : normal ++ drop at words ≡ undated words) where
    pub next_stands : (w : Bytes) → at < length words → slice_get words at ≡ Some w → (normal ++ w ∷ []) ++ drop (at + 1) words ≡ undated words
    next_stands w lt g = sym (one_longer normal (drop (at + 1) words) w) ∙ ap (λ l. normal ++ l) (sym (one_less words at w lt g)) ∙ so_far

    pub next_fits : (w : Bytes) → at < length words → slice_get words at ≡ Some w → FitsRequest (normal ++ w ∷ [])
    next_fits w lt g = begins_fits (normal ++ w ∷ []) (drop (at + 1) words) (undated words) (next_stands w lt g) (undated_fits words fits)

    pub all_stand : length words ≤ at → normal ≡ undated words
    all_stand le = sym (append-nil normal) ∙ ap (λ l. normal ++ l) (sym (drop_all at words le)) ∙ so_far

  pub first_fits : (first second : Bytes) → slice_get words 0 ≡ Some first → slice_get words 1 ≡ Some second → FitsRequest (first ∷ [])
  first_fits first second zero one = begins_fits (first ∷ []) (second ∷ drop 4 words) (undated words) (begun first second zero one) (undated_fits words fits)

  pub second_fits : (first second : Bytes) → slice_get words 0 ≡ Some first → slice_get words 1 ≡ Some second → FitsRequest (first ∷ second ∷ [])
  second_fits first second zero one = begins_fits (first ∷ second ∷ []) (drop 4 words) (undated words) (begun first second zero one) (undated_fits words fits)
