-- Few short words are within the limits of a request.
use Rattle.std.proofs.Common.{◌*◌, ◌≤◌, List, [], ◌∷◌, ◌++◌, length, arith, length-append}
use Rattle.std.specs.List.{AllByRecursion}
use Rattle.byte_text.specs.Names.{Bytes}
use Rattle.byte_text.specs.Requests.{FitsRequest, total}

pub record AreBrief (words : List Bytes) : Type 0 where
  pub brief : AllByRecursion (λ w. length w ≤ 32) words

total_brief : (words : List Bytes) → AllByRecursion (λ w. length w ≤ 32) words → total words ≤ 32 * length words
total_brief [] s = omega arith
total_brief (w ∷ words) s = let rest = total_brief words s.1 in omega (arith, s.0, rest)

each_short : (words : List Bytes) → AllByRecursion (λ w. length w ≤ 32) words → AllByRecursion (λ w. length w ≤ 1048576) words
each_short [] s = tt
each_short (w ∷ words) s = (omega (arith, s.0), each_short words s.1)

one_more : (words : List Bytes) (w : Bytes) → AllByRecursion (λ v. length v ≤ 32) words → length w ≤ 32
    → AllByRecursion (λ v. length v ≤ 32) (words ++ w ∷ [])
one_more [] w s h = (h, tt)
one_more (v ∷ words) w s h = (s.0, one_more words w s.1 h)

pub brief_none : AreBrief []
brief_none = record { brief = tt }

pub brief_more : (words : List Bytes) (w : Bytes) → AreBrief words → length w ≤ 32 → AreBrief (words ++ w ∷ [])
brief_more words w s h = record { brief = one_more words w s.brief h }

pub brief_fits : (words : List Bytes) (w : Bytes) → AreBrief words → length words ≤ 16 → length w ≤ 32 → FitsRequest (words ++ w ∷ [])
brief_fits words w s few h =
    let all = one_more words w s.brief h in
    let n = length-append words (w ∷ []) in
    let t = total_brief (words ++ w ∷ []) all in
    record { few = omega (arith, n, few); short = each_short (words ++ w ∷ []) all; small = omega (arith, n, few, t) }
