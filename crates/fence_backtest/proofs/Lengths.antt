-- How long the text of a request may be.
use Rattle.std.proofs.Common.{◌≡◌, ◌∙◌, ◌+◌, ◌*◌, ◌≤◌, ◌<◌, List, [], ◌∷◌, ◌++◌, length, None, refl, ap, arith, length-append, append-nil}
use Rattle.std.specs.Prelude.{decimal, flat_map}
use Rattle.std.proofs.lemmas.Fmt.{length-decimal-le}
use Rattle.byte_text.specs.Names.{Bytes}
use Rattle.byte_text.specs.Lines.{line, bulk_text}
use Rattle.byte_text.specs.Requests.{AreShort, IsRequest, request_text, total}
use Rattle.byte_text.specs.Streams.{Front, found, begun, broken, request}
use Rattle.byte_text.specs.StreamFound.{request_found}
use Rattle.fence_backtest.specs.Requests.{IsTooLong, fence_of_front}

bulk_long : (w : Bytes) → length w ≤ 1048576 → length (bulk_text w) ≤ length w + 12
bulk_long w short =
    let digits = length-decimal-le 7 (length w) (omega arith) (omega (arith, short)) (omega (arith, short)) in
    omega (arith, digits, length-append (decimal (length w)) (13 ∷ 10 ∷ []), length-append (line 36 (decimal (length w))) (w ++ 13 ∷ 10 ∷ []), length-append w (13 ∷ 10 ∷ []))

words_long : (words : List Bytes) → AreShort words → length (flat_map bulk_text words) ≤ total words + 12 * length words
words_long [] short = omega arith
words_long (w ∷ words) short =
    let here = bulk_long w short.0 in
    let rest = words_long words short.1 in
    omega (arith, here, rest, length-append (bulk_text w) (flat_map bulk_text words))

request_long : (words : List Bytes) → IsRequest words → length (request_text words) ≤ 2146311
request_long words is =
    let few = is.fits.few in
    let digits = length-decimal-le 4 (length words) (omega arith) (omega (arith, few)) (omega (arith, few)) in
    let all = words_long words is.fits.short in
    omega (arith, digits, all, few, is.fits.small, length-append (decimal (length words)) (13 ∷ 10 ∷ []), length-append (line 42 (decimal (length words))) (flat_map bulk_text words))

by_front : (text rest : Bytes) (x : Front (List Bytes)) → 2146311 < length text → request (text ++ rest) ≡ x → fence_of_front x ≡ None
by_front text rest (found words []) long is =
    let read = request_found (text ++ rest) words [] is in
    let most = request_long words read.0 in
    absurd (omega (arith, long, most, length-append text rest, ap (λ (l : Bytes). length l) (read.1 ∙ append-nil (request_text words))))
by_front text rest (found words (b ∷ behind)) long is = refl
by_front text rest begun long is = refl
by_front text rest (broken fault) long is = refl

pub too_long : (text : Bytes) → 2146311 < length text → IsTooLong text
too_long text long rest = by_front text rest (request (text ++ rest)) long refl
