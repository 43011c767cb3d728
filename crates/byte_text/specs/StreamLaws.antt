-- The laws of requests and streams.
use Rattle.std.proofs.Common.{◌≡◌, ℕ, zero, suc, ◌<◌, ◌≤◌, List, [], ◌∷◌, ◌++◌, length, flat_map, decimal, refl, sym, ap, subst, ◌∙◌, append-nil}
use Rattle.std.proofs.Common.{arith, length-append}
use Rattle.std.proofs.lemmas.List.{nil_from_length}
use Rattle.byte_text.specs.Names.{Bytes}
use Rattle.byte_text.specs.Lines.{line_end, bulk_text}
use Rattle.byte_text.specs.Requests.{request_text, IsRequestText}
use Rattle.byte_text.specs.Streams.{Front, found, begun, broken, request, holds, fails, StreamEnd, with_first, only_rest, only_fault, stream_behind}
use Rattle.byte_text.specs.Streams.{first_requests, stream_of, fed, fed_ending}
use Rattle.byte_text.specs.declared.faults.RespFault.{RespFault}
use Rattle.byte_text.specs.StreamTexts.{request_read}
use Rattle.byte_text.specs.StreamFound.{request_found}
use Rattle.byte_text.specs.Grammars.{IsMore, open_request}

-- more bytes behind a request, and behind a fault
more_of : (bytes more : Bytes) (x : Front (List Bytes)) → request bytes ≡ x → IsMore more x (request (bytes ++ more))
more_of bytes more x e = subst (λ y. IsMore more y (request (bytes ++ more))) e (open_request.stable.more bytes more)

pub broken_stays : (bytes more : Bytes) (fault : RespFault) → request bytes ≡ broken fault → request (bytes ++ more) ≡ broken fault
broken_stays bytes more fault e = more_of bytes more (broken fault) e

pub begun_ends : (bytes : Bytes) → request bytes ≡ begun → (b : ℕ) × (more : Bytes) × IsRequestText (bytes ++ b ∷ more)
begun_ends bytes e =
    let d = open_request.ends bytes e in
    let h = request_found (bytes ++ d.byte ∷ d.more) d.value [] d.reads in
    (d.byte, d.more, (d.value, h.0, h.1 ∙ append-nil (request_text d.value)))

no_rest : (r more : Bytes) (b : ℕ) → r ++ b ∷ more ≡ [] → ⊥
no_rest [] more b e = cc e
no_rest (c ∷ r) more b e = cc e

beginning_by : (bytes more : Bytes) (b : ℕ) (ws : List Bytes) → request (bytes ++ b ∷ more) ≡ found ws [] → (x : Front (List Bytes))
    → request bytes ≡ x → x ≡ begun
beginning_by bytes more b ws e (found v r) is = absurd (no_rest r more b (cc (more_of bytes (b ∷ more) (found v r) is, e)))
beginning_by bytes more b ws e begun is = refl
beginning_by bytes more b ws e (broken fault) is = absurd (cc (more_of bytes (b ∷ more) (broken fault) is, e))

pub beginning_begins : (bytes more : Bytes) (b : ℕ) → IsRequestText (bytes ++ b ∷ more) → request bytes ≡ begun
beginning_begins bytes more b is =
    let whole : request (request_text is.0 ++ []) ≡ found is.0 [] = request_read is.0 [] is.1 in
    let read : request (bytes ++ b ∷ more) ≡ found is.0 [] = ap request (is.2 ∙ sym (append-nil (request_text is.0))) ∙ whole in
    beginning_by bytes more b is.0 read (request bytes) refl

-- ---- streams

front_length : (front rest : Bytes) (b : ℕ) (bytes : Bytes) → bytes ≡ b ∷ front ++ rest → length rest < length bytes
front_length front rest b bytes e = omega (arith, ap length e, length-append (b ∷ front) rest)

shorter : (bytes : Bytes) (ws : List Bytes) (r : Bytes) → request bytes ≡ found ws r → length r < length bytes
shorter bytes ws r e = front_length ((decimal (length ws) ++ line_end) ++ flat_map bulk_text ws) r 42 bytes (request_found bytes ws r e).1

empty_begun : request [] ≡ begun
unfolding request
empty_begun = refl

enough_by : (n m : ℕ) (bytes : Bytes) → ((r : Bytes) → length r < length bytes → first_requests n r ≡ first_requests m r) → (x : Front (List Bytes))
    → request bytes ≡ x
    → stream_behind bytes x (first_requests n) ≡ stream_behind bytes x (first_requests m)
enough_by n m bytes go (found first r) e = ap (with_first first) (go r (shorter bytes first r e))
enough_by n m bytes go begun e = refl
enough_by n m bytes go (broken fault) e = refl

-- so many steps as bytes are enough
enough : (n m : ℕ) (bytes : Bytes) → length bytes ≤ n → length bytes ≤ m → first_requests n bytes ≡ first_requests m bytes
enough zero zero bytes p q = refl
enough zero (suc m) bytes p q =
    let none : bytes ≡ [] = nil_from_length bytes (omega (arith, p)) in
    rw (none, empty_begun) refl
enough (suc n) zero bytes p q =
    let none : bytes ≡ [] = nil_from_length bytes (omega (arith, q)) in
    rw (none, empty_begun) refl
enough (suc n) (suc m) bytes p q = enough_by n m bytes (λ r l. enough n m r (omega (arith, p, l)) (omega (arith, q, l))) (request bytes) refl

-- a stream by its front
opened : (bytes : Bytes) → stream_of bytes ≡ stream_behind bytes (request bytes) (first_requests (length bytes))
unfolding stream_of
opened bytes = enough (length bytes) (suc (length bytes)) bytes (omega arith) (omega arith)

fed_behind : (first : List Bytes) (requests : List (List Bytes)) (ending : StreamEnd) (more : Bytes)
    → (record { requests = first ∷ (fed_ending requests ending more).requests; ending = (fed_ending requests ending more).ending })
    ≡ fed_ending (first ∷ requests) ending more
fed_behind first requests (holds rest) more = refl
fed_behind first requests (fails fault) more = refl

fed_by : (n : ℕ) (bytes more : Bytes) → ((r : Bytes) → length r < length bytes → stream_of (r ++ more) ≡ fed (first_requests n r) more)
    → (x : Front (List Bytes)) → request bytes ≡ x
    → stream_of (bytes ++ more) ≡ fed (stream_behind bytes x (first_requests n)) more
unfolding stream_of
fed_by n bytes more go (found first r) e =
    let size : length r < length bytes = shorter bytes first r e in
    let front : request (bytes ++ more) ≡ found first (r ++ more) = more_of bytes more (found first r) e in
    let rest : first_requests (length (bytes ++ more)) (r ++ more) ≡ stream_of (r ++ more) =
    enough (length (bytes ++ more)) (length (r ++ more)) (r
    ++ more) (omega (arith, size, length-append bytes more, length-append r more)) (omega arith) in
    opened (bytes ++ more)
    ∙ ap (λ x. stream_behind (bytes ++ more) x (first_requests (length (bytes ++ more)))) front
    ∙ ap (with_first first) (rest ∙ go r size)
    ∙ fed_behind first (first_requests n r).requests (first_requests n r).ending more
fed_by n bytes more go begun e = refl
fed_by n bytes more go (broken fault) e =
    opened (bytes ++ more) ∙ ap (λ x. stream_behind (bytes ++ more) x (first_requests (length (bytes ++ more)))) (more_of bytes more (broken fault) e)

fed_from : (n : ℕ) (bytes more : Bytes) → length bytes ≤ n → stream_of (bytes ++ more) ≡ fed (first_requests n bytes) more
unfolding stream_of
fed_from zero bytes more l =
    let none : bytes ≡ [] = nil_from_length bytes (omega (arith, l)) in
    rw none refl
fed_from (suc n) bytes more l = fed_by n bytes more (λ r s. fed_from n r more (omega (arith, l, s))) (request bytes) refl

pub stream_fed : (bytes more : Bytes) → stream_of (bytes ++ more) ≡ fed (stream_of bytes) more
unfolding stream_of
stream_fed bytes more = fed_from (length bytes) bytes more (omega arith)

pub stream_found : (bytes behind : Bytes) (words : List Bytes) → request bytes ≡ found words behind
    → stream_of bytes ≡ with_first words (stream_of behind)
unfolding stream_of
stream_found bytes behind words e =
    opened bytes
    ∙ ap (λ x. stream_behind bytes x (first_requests (length bytes))) e
    ∙ ap (with_first words) (enough (length bytes) (length behind) behind (omega (arith, shorter bytes words behind e)) (omega arith))

pub stream_begun : (bytes : Bytes) → request bytes ≡ begun → stream_of bytes ≡ only_rest bytes
stream_begun bytes e = opened bytes ∙ ap (λ x. stream_behind bytes x (first_requests (length bytes))) e

pub stream_broken : (bytes : Bytes) (fault : RespFault) → request bytes ≡ broken fault → stream_of bytes ≡ only_fault fault
stream_broken bytes fault e = opened bytes ∙ ap (λ x. stream_behind bytes x (first_requests (length bytes))) e
