-- Few short words are within the limits of a request.
use Rattle.std.proofs.Common.{◌*◌, ◌≤◌, ◌<◌, List, [], ◌∷◌, ◌++◌, length, arith, length-append}
use Rattle.std.specs.List.{AllByRecursion}
use Rattle.byte_text.specs.Names.{Bytes}
use Rattle.byte_text.specs.Requests.{FitsRequest, total}

pub record AreShort (words : List Bytes) : Type 0 where
  pub short : AllByRecursion (λ w. length w ≤ 255) words

pub total_short : (words : List Bytes) → AllByRecursion (λ w. length w ≤ 255) words → total words ≤ 255 * length words
total_short [] s = omega arith
total_short (w ∷ words) s = let rest = total_short words s.1 in omega (arith, s.0)

pub each_short : (words : List Bytes) → AllByRecursion (λ w. length w ≤ 255) words → AllByRecursion (λ w. length w ≤ 1048576) words
each_short [] s = tt
each_short (w ∷ words) s = (omega (arith, s.0), each_short words s.1)

one_more : (words : List Bytes) (w : Bytes) → AllByRecursion (λ v. length v ≤ 255) words → length w ≤ 255
    → AllByRecursion (λ v. length v ≤ 255) (words ++ w ∷ [])
one_more [] w s h = (h, tt)
one_more (v ∷ words) w s h = (s.0, one_more words w s.1 h)

pub short_fit : (words : List Bytes) (w : Bytes) → AreShort words → length words < 64 → length w ≤ 255 → FitsRequest (words ++ w ∷ [])
short_fit words w s few h =
    let all = one_more words w s.short h in
    let n = length-append words (w ∷ []) in
    record { few = omega (arith, n); short = each_short (words ++ w ∷ []) all; small = omega (arith, n, total_short (words ++ w ∷ []) all) }
