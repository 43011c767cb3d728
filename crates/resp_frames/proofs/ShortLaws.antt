-- Lines of few digits, and words behind them.
use Rattle.std.proofs.Common.{◌≡◌, ℕ, zero, suc, ◌+◌, ◌-◌, ◌*◌, ◌/◌, ◌%◌, ◌<◌, ◌≤◌, List, [], ◌∷◌, ◌++◌, length, decimal, flat_map, get_or, take, take_all, drop, refl, sym, ap, subst, ◌∙◌, append_assoc, length-append, take-append-drop, take_at, arith}
use Rattle.std.specs.List.{AllByRecursion}
use Rattle.std.proofs.lemmas.Fmt.{decimal_step, decimal_digit}
use Rattle.byte_text.specs.Names.{Bytes}
use Rattle.byte_text.specs.Lines.{line, bulk_text}
use Rattle.byte_text.specs.LineLaws.{line-append, bulk_text-append}
use Rattle.byte_text.specs.Requests.{AreShort, FitsRequest, IsRequest, request_text, total}
use Rattle.resp_frames.specs.ShortRequests.{AreShortWords}

pub one_digit : (f : ℕ) (bytes : Bytes) → f < 10 → (48 + f) ∷ bytes ≡ decimal f ++ bytes
one_digit f bytes lt = rw (decimal_digit f lt) refl

pub two_digits : (f s : ℕ) (bytes : Bytes) → 0 < f → f < 10 → s < 10 → (48 + f) ∷ (48 + s) ∷ bytes ≡ decimal (10 * f + s) ++ bytes
two_digits f s bytes some a b =
    let tens : (10 * f + s) / 10 ≡ f = omega arith in
    let ones : (10 * f + s) % 10 ≡ s = omega arith in
    let step = decimal_step (10 * f + s) (omega arith) (omega arith) in
    let both : decimal (10 * f + s) ≡ (48 + f) ∷ (48 + s) ∷ [] =
    step ∙ ap (λ (n : ℕ). decimal n ++ ((48 + (10 * f + s) % 10) ∷ [])) tens ∙ ap (λ (ds : Bytes). ds ++ ((48 + (10 * f + s) % 10) ∷ [])) (decimal_digit f a) ∙ ap (λ (m : ℕ). (48 + f) ∷ (48 + m) ∷ []) ones in
    sym (ap (λ (ds : Bytes). ds ++ bytes) both)

pub two_front : (f s : ℕ) (bytes : Bytes) → 0 < f → f < 10 → s < 10 → 1 ≤ length bytes → get_or bytes 0 0 ≡ 48 + s → (48 + f) ∷ bytes ≡ decimal (10 * f + s) ++ take (length bytes - 1) (drop 1 bytes)
two_front f s [] some a b long is = absurd (omega (arith, long))
two_front f s (x ∷ xs) some a b long is =
    ap (λ (y : ℕ). (48 + f) ∷ y ∷ xs) is ∙ two_digits f s xs some a b ∙ ap (λ (t : Bytes). decimal (10 * f + s) ++ t) (sym (take_all (length (x ∷ xs) - 1) xs (omega arith)))

-- a line
pub line_is : (mark n : ℕ) (behind rest : Bytes) → behind ≡ decimal n ++ 13 ∷ 10 ∷ rest → mark ∷ behind ≡ line mark (decimal n) ++ rest
line_is mark n behind rest e = ap (λ (t : Bytes). mark ∷ t) e ∙ sym (line-append mark (decimal n) rest)

-- a word
pub word_is : (bytes behind word back rest : Bytes) (len : ℕ) → bytes ≡ line 36 (decimal len) ++ behind → len ≤ length behind → word ≡ take len behind → back ≡ drop len behind → back ≡ 13 ∷ 10 ∷ rest → length word ≡ len → bytes ≡ bulk_text word ++ rest
word_is bytes behind word back rest len line_at le word_at back_at end size =
    let parts : behind ≡ word ++ 13 ∷ 10 ∷ rest = sym (take-append-drop len behind) ∙ ap (λ (t : Bytes). t ++ drop len behind) (sym word_at) ∙ ap (λ (t : Bytes). word ++ t) (sym back_at ∙ end) in
    line_at ∙ ap (λ (t : Bytes). line 36 (decimal len) ++ t) parts ∙ ap (λ (n : ℕ). line 36 (decimal n) ++ (word ++ 13 ∷ 10 ∷ rest)) (sym size) ∙ sym (bulk_text-append word rest)

-- words so far
pub record Begun (bytes : Bytes) (words : List Bytes) (rest : Bytes) (count : ℕ) : Type 0 where
  pub words_are : AreShortWords words count
  pub bytes_are : bytes ≡ flat_map bulk_text words ++ rest

total_short : (words : List Bytes) → AllByRecursion (λ w. length w < 100) words → total words ≤ 100 * length words
total_short [] all = omega arith
total_short (w ∷ ws) all = omega (arith, all.0, total_short ws all.1)

are_short : (words : List Bytes) → AllByRecursion (λ w. length w < 100) words → AreShort words
are_short [] all = tt
are_short (w ∷ ws) all = (omega (arith, all.0), are_short ws all.1)

pub short_fits : (words : List Bytes) (count : ℕ) → AreShortWords words count → count < 100 → FitsRequest words
short_fits words count s lt = record {
  few = omega (arith, s.counted, lt);
  short = are_short words s.short;
  small = omega (arith, total_short words s.short, s.counted, lt);
}

short_push : (words : List Bytes) (word : Bytes) → AllByRecursion (λ w. length w < 100) words → length word < 100 → AllByRecursion (λ w. length w < 100) (words ++ word ∷ [])
short_push [] word all lt = (lt, tt)
short_push (w ∷ ws) word all lt = (all.0, short_push ws word all.1 lt)

pub more_words : (words : List Bytes) (word : Bytes) (count : ℕ) → AreShortWords words count → length word < 100 → AreShortWords (words ++ word ∷ []) (count + 1)
more_words words word count s lt = record { short = short_push words word s.short lt; counted = length-append words (word ∷ []) ∙ ap (λ (n : ℕ). n + 1) s.counted }

bulk_push : (words : List Bytes) (word rest : Bytes) → flat_map bulk_text words ++ (bulk_text word ++ rest) ≡ flat_map bulk_text (words ++ word ∷ []) ++ rest
bulk_push [] word rest = sym (append_assoc (bulk_text word) [] rest)
bulk_push (w ∷ ws) word rest =
    append_assoc (bulk_text w) (flat_map bulk_text ws) (bulk_text word ++ rest) ∙ ap (λ (t : Bytes). bulk_text w ++ t) (bulk_push ws word rest) ∙ sym (append_assoc (bulk_text w) (flat_map bulk_text (ws ++ word ∷ [])) rest)

pub begun : (bytes : Bytes) → Begun bytes [] bytes 0
begun bytes = record { words_are = record { short = tt; counted = refl }; bytes_are = refl }

pub goes_on : (bytes : Bytes) (words new : List Bytes) (rest word behind : Bytes) (count after : ℕ) → Begun bytes words rest count → rest ≡ bulk_text word ++ behind → length word < 100 → new ≡ words ++ word ∷ [] → after ≡ count + 1 → Begun bytes new behind after
goes_on bytes words new rest word behind count after b at lt is one =
    subst (λ (ws : List Bytes). Begun bytes ws behind after) (sym is) (subst (λ (n : ℕ). Begun bytes (words ++ word ∷ []) behind n) (sym one)
    (record { words_are = more_words words word count b.words_are lt; bytes_are = b.bytes_are ∙ ap (λ (t : Bytes). flat_map bulk_text words ++ t) at ∙ bulk_push words word behind }))

-- what is read takes the bytes before the rest
pub taken_is : (bytes front rest : Bytes) (taken : ℕ) → bytes ≡ front ++ rest → taken ≡ length bytes - length rest → (taken ≤ length bytes) × (take taken bytes ≡ front)
taken_is bytes front rest taken e t =
    let sum : length bytes ≡ length front + length rest = ap length e ∙ length-append front rest in
    let at : taken ≡ length front = omega (arith, sum, t) in
    (omega (arith, sum, t), ap (take taken) e ∙ take_at front rest taken (sym at))

-- the line of a request and its words
pub request_is : (bytes behind : Bytes) (words : List Bytes) (count before taken : ℕ) → bytes ≡ line 42 (decimal count) ++ behind → before ≡ length bytes - length behind → 0 < count → count < 100
    → AreShortWords words count × (taken ≤ length behind) × (take taken behind ≡ flat_map bulk_text words) → IsRequest words × (before + taken ≤ length bytes) × (take (before + taken) bytes ≡ request_text words)
request_is bytes behind words count before taken at before_is some lt w =
    let head = line 42 (decimal count) in
    let sum : length bytes ≡ length head + length behind = ap length at ∙ length-append head behind in
    let whole : bytes ≡ (head ++ take taken behind) ++ drop taken behind = at ∙ ap (λ (t : Bytes). head ++ t) (sym (take-append-drop taken behind)) ∙ sym (append_assoc head (take taken behind) (drop taken behind)) in
    let sizes : length (head ++ take taken behind) ≡ before + taken = length-append head (take taken behind) ∙ (omega (arith, sum, before_is, length_taken behind taken w.1)) in
    let front : take (before + taken) bytes ≡ head ++ take taken behind = ap (take (before + taken)) whole ∙ take_at (head ++ take taken behind) (drop taken behind) (before + taken) sizes in
    let text : head ++ take taken behind ≡ request_text words = ap (λ (t : Bytes). head ++ t) w.2 ∙ ap (λ (n : ℕ). line 42 (decimal n) ++ flat_map bulk_text words) (sym w.0.counted) in
    (record { some = omega (arith, some, w.0.counted); fits = short_fits words count w.0 lt }, omega (arith, sum, before_is, w.1), front ∙ text)
  where
    length_taken : (xs : Bytes) (n : ℕ) → n ≤ length xs → length (take n xs) ≡ n
    length_taken [] zero le = refl
    length_taken [] (suc n) le = absurd (omega (arith, le))
    length_taken (x ∷ xs) zero le = refl
    length_taken (x ∷ xs) (suc n) le = ap suc (length_taken xs n (omega (arith, le)))
