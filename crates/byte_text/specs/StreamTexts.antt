-- A request's text is read as that request.
use Rattle.std.proofs.Common.{◌≡◌, ℕ, zero, suc, ◌+◌, ◌-◌, ◌*◌, ◌/◌, ◌%◌, ◌<◌, ◌≤◌, ◌^◌, true, false, nat_le, ◌==◌, List, [], ◌∷◌, ◌++◌, length}
use Rattle.std.proofs.Common.{flat_map, decimal, Option, Some, None, refl, ap, ◌∙◌, append_assoc, arith, ne_eqb, take_at, length-append}
use Rattle.std.proofs.lemmas.Bool.{le-leb}
use Rattle.std.proofs.lemmas.List.{drop_at}
use Rattle.std.proofs.lemmas.Fmt.{decimal_by_steps}
use Rattle.byte_text.specs.Names.{Bytes}
use Rattle.byte_text.specs.Lines.{line, bulk_text}
use Rattle.byte_text.specs.Requests.{AreShort, request_text, IsRequest, max_word, max_words, max_request, total}
use Rattle.byte_text.specs.Streams.{Grammar, ◌>>=◌, ◌>>◌, done, found, read_then, byte, bytes_of, with_digit, number_line, count_limit, word_limit}
use Rattle.byte_text.specs.Streams.{word, words, request}
use Rattle.byte_text.specs.declared.faults.RespFault.{RespFault}
use Rattle.byte_text.specs.declared.faults.RespFault.TheVariants.{BadEnd}
use Rattle.byte_text.specs.LineLaws.{line-append, bulk_text-append}

pub with_digit_pos : (q d : ℕ) → 0 < q → with_digit (Some q) d ≡ Some (q * 10 + d)
with_digit_pos zero d p = absurd (omega (arith, p))
with_digit_pos (suc q) d p = refl

-- one digit of a number
pub one_digit : (limit : ℕ → Option RespFault) (so_far : Option ℕ) (d m : ℕ) (x : Bytes) → d < 10 → with_digit so_far d ≡ Some m → limit m ≡ None
    → number_line limit so_far ((48 + d) ∷ x) ≡ number_line limit (Some m) x
one_digit limit so_far d m x small e l =
    let no_end : (48 + d == 13) ≡ false = ne_eqb (48 + d) 13 (λ e. omega (arith, e)) in
    let low : nat_le 48 (48 + d) ≡ true = le-leb 48 (48 + d) (omega arith) in
    let high : nat_le (48 + d) 57 ≡ true = le-leb (48 + d) 57 (omega (arith, small)) in
    let same : 48 + d - 48 ≡ d = omega arith in
    rw (no_end, low, high, same, e, l) refl

-- the limit lets a number and each of its fronts be
abbrev Lets : (ℕ → Option RespFault) → ℕ → Type 0
Lets limit n = (limit n ≡ None) × ((k : ℕ) → 0 < k → k ≤ n → limit k ≡ None)

abbrev IsRead : (ℕ → Option RespFault) → ℕ → Bytes → Type 0
IsRead limit n ds = Lets limit n → (x : Bytes) → number_line limit None (ds ++ x) ≡ number_line limit (Some n) x

digits_read : (limit : ℕ → Option RespFault) (n : ℕ) → n < 2 ^ 64 → IsRead limit n (decimal n)
digits_read limit = decimal_by_steps (IsRead limit)
    (λ n l lets x. one_digit limit None n n x l refl lets.0)
    (λ n ds l h lets x.
    let some : 0 < n / 10 = omega arith in
    let front : number_line limit None (ds ++ (48 + n % 10) ∷ x) ≡ number_line limit (Some (n / 10)) ((48 + n % 10) ∷ x) =
    h (lets.1 (n / 10) some (omega arith), λ k p l. lets.1 k p (omega (arith, l))) ((48 + n % 10) ∷ x) in
    let is : n / 10 * 10 + n % 10 ≡ n = omega arith in
    ap (number_line limit None) (append_assoc ds ((48 + n % 10) ∷ []) x) ∙ front
    ∙ one_digit limit (Some (n / 10)) (n % 10) n x (omega arith) (with_digit_pos (n / 10) (n % 10) some ∙ ap Some is) lets.0)

-- a number and its CR
pub number_read : (limit : ℕ → Option RespFault) (n : ℕ) (x : Bytes) → n < 2 ^ 64 → Lets limit n
    → number_line limit None (decimal n ++ 13 ∷ x) ≡ found n x
number_read limit n x small lets = digits_read limit n small lets (13 ∷ x)

pub bytes_read : (w x : Bytes) → bytes_of (length w) (w ++ x) ≡ found w x
bytes_read w x =
    let all : nat_le (length w) (length (w ++ x)) ≡ true = le-leb (length w) (length (w ++ x)) (omega (arith, length-append w x)) in
    rw (all, take_at w x (length w) refl, drop_at w x (length w) refl) refl

word_lets : (allowed n : ℕ) → n ≤ max_word → n ≤ allowed → Lets (word_limit allowed) n
word_lets allowed n p q =
    let each : (k : ℕ) → k ≤ n → word_limit allowed k ≡ None = λ k l.
    let a : nat_le k max_word ≡ true = le-leb k max_word (omega (arith, l, p)) in
    let b : nat_le k allowed ≡ true = le-leb k allowed (omega (arith, l, q)) in
    rw (a, b) refl in
    (each n (omega arith), λ k s l. each k l)

-- what stands behind the bytes of a word, and behind its length
abbrev pub word_end : Bytes → Grammar Bytes
word_end text = do
  byte 13 BadEnd
  byte 10 BadEnd
  done text

abbrev pub behind_length : ℕ → Grammar Bytes
behind_length n = do
  byte 10 BadEnd
  text ← bytes_of n
  word_end text

pub word_read : (allowed : ℕ) (w x : Bytes) → length w ≤ max_word → length w ≤ allowed → word allowed (bulk_text w ++ x) ≡ found w x
word_read allowed w x p q =
    let n = length w in
    let size : number_line (word_limit allowed) None (decimal n
    ++ 13 ∷ 10 ∷ (w ++ 13 ∷ 10 ∷ x)) ≡ found n (10 ∷ (w ++ 13 ∷ 10 ∷ x)) =
    number_read (word_limit allowed) n (10 ∷ (w ++ 13 ∷ 10 ∷ x)) (omega (arith, p)) (word_lets allowed n p q) in
    let text : bulk_text w ++ x ≡ 36 ∷ (decimal n ++ 13 ∷ 10 ∷ (w ++ 13 ∷ 10 ∷ x)) = bulk_text-append w x
    ∙ line-append 36 (decimal n) (w ++ 13 ∷ 10 ∷ x) in
    ap (word allowed) text ∙ ap (read_then behind_length) size ∙ ap (read_then word_end) (bytes_read w (13 ∷ 10 ∷ x))

-- the words behind a word
abbrev pub others : ℕ → ℕ → Bytes → Grammar (List Bytes)
others n allowed text = do
  rest ← words n (allowed - length text)
  done (text ∷ rest)

abbrev pub with_word : Bytes → List Bytes → Grammar (List Bytes)
with_word text rest = done (text ∷ rest)

pub words_read : (ws : List Bytes) (allowed : ℕ) (x : Bytes) → AreShort ws → total ws ≤ allowed
    → words (length ws) allowed (flat_map bulk_text ws ++ x) ≡ found ws x
words_read [] allowed x s l = refl
words_read (w ∷ ws) allowed x s l =
    let text : bulk_text w ++ flat_map bulk_text ws ++ x ≡ bulk_text w
    ++ (flat_map bulk_text ws ++ x) = append_assoc (bulk_text w) (flat_map bulk_text ws) x in
    ap (words (suc (length ws)) allowed) text
    ∙ ap (read_then (others (length ws) allowed)) (word_read allowed w (flat_map bulk_text ws ++ x) s.0 (omega (arith, l)))
    ∙ ap (read_then (with_word w)) (words_read ws (allowed - length w) x s.1 (omega (arith, l)))

count_lets : (n : ℕ) → 0 < n → n ≤ max_words → Lets count_limit n
count_lets n p q =
    let each : (k : ℕ) → 0 < k → k ≤ n → count_limit k ≡ None = λ k s l. count_fine k s (omega (arith, l, q)) in
    (each n p (omega arith), each)
  where
    count_fine : (k : ℕ) → 0 < k → k ≤ max_words → count_limit k ≡ None
    count_fine zero s l = absurd (omega (arith, s))
    count_fine (suc k) s l = let a : nat_le (suc k) max_words ≡ true = le-leb (suc k) max_words l in rw a refl

-- what stands behind the number of words
abbrev pub behind_count : ℕ → Grammar (List Bytes)
behind_count n = do
  byte 10 BadEnd
  words n max_request

-- it has a byte
pub text_long : (ws : List Bytes) → 0 < length (request_text ws)
text_long ws = omega arith

pub request_read : (ws : List Bytes) (x : Bytes) → IsRequest ws → request (request_text ws ++ x) ≡ found ws x
unfolding request
request_read ws x is =
    let n = length ws in
    let rest = flat_map bulk_text ws ++ x in
    let count : number_line count_limit None (decimal n
    ++ 13 ∷ 10 ∷ rest) ≡ found n (10 ∷ rest) =
    number_read count_limit n (10 ∷ rest) (omega (arith, is.fits.few)) (count_lets n is.some is.fits.few) in
    let text : request_text ws ++ x ≡ 42 ∷ (decimal n ++ 13 ∷ 10 ∷ rest) = append_assoc (line 42 (decimal n)) (flat_map bulk_text ws) x
    ∙ line-append 42 (decimal n) rest in
    ap request text ∙ ap (read_then behind_count) count ∙ words_read ws max_request x is.fits.short is.fits.small
