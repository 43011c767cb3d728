-- What is read as a request is a request's text.
use Rattle.std.proofs.Common.{◌≡◌, ℕ, zero, suc, ◌+◌, ◌-◌, ◌*◌, ◌/◌, ◌%◌, ◌<◌, ◌≤◌, ◌^◌, Bool, true, false, nat_le, ◌&&◌, ◌==◌, List, [], ◌∷◌, ◌++◌}
use Rattle.std.proofs.Common.{length, take, drop, flat_map, decimal, Option, Some, None, IfSome, refl, sym, ap, subst, ◌∙◌, append_assoc, append-nil}
use Rattle.std.proofs.Common.{arith, if◌then◌else◌, rules}
use Rattle.std.proofs.lemmas.Bool.{leb-true}
use Rattle.std.proofs.lemmas.List.{take-append-drop, length-take}
use Rattle.std.proofs.lemmas.Fmt.{decimal_step, decimal_digit}
use Rattle.byte_text.specs.Names.{Bytes}
use Rattle.byte_text.specs.Lines.{line, bulk_text}
use Rattle.byte_text.specs.Requests.{AreShort, request_text, IsRequest, max_word, max_words, max_request, total}
use Rattle.byte_text.specs.Streams.{Front, Grammar, ◌>>=◌, ◌>>◌, done, found, begun, broken, read_then, byte, bytes_of, is_digit, with_digit}
use Rattle.byte_text.specs.Streams.{with_byte, one_more, unless_fault, number_end, number_line, count_limit, word_limit, word, words, request}
use Rattle.byte_text.specs.declared.faults.RespFault.{RespFault}
use Rattle.byte_text.specs.declared.faults.RespFault.TheVariants.{BadType, BadEnd, TooMany, TooLong}
use Rattle.byte_text.specs.TestLaws.{both_of}
use Rattle.byte_text.specs.LineLaws.{line-append, bulk_text-append}
use Rattle.byte_text.specs.StreamTexts.{word_end, behind_length, others, with_word, behind_count}

-- the second part is read behind the first
record Parts {A B : Type 0} (k : A → Grammar B) (x : Front A) (value : B) (behind : Bytes) : Type 0 where
  pub first : A
  pub rest : Bytes
  pub is : x ≡ found first rest
  pub second : k first rest ≡ found value behind

parts : {A B : Type 0} (k : A → Grammar B) (x : Front A) (v : B) (r : Bytes) → read_then k x ≡ found v r → Parts k x v r
parts k (found a rest) v r e = record { first = a; rest = rest; is = refl; second = e }
parts k begun v r e = absurd (cc e)
parts k (broken fault) v r e = absurd (cc e)

test_found : (t : Bool) (bytes : Bytes) (fault : RespFault) (u : Unit {0}) (r : Bytes)
    → (if t then found (tt {0}) bytes else broken fault) ≡ found u r → (t ≡ true) × (bytes ≡ r)
test_found true bytes fault u r e = (refl, cc e)
test_found false bytes fault u r e = absurd (cc e)

eq_test : (a b : ℕ) → (a == b) ≡ true → a ≡ b
eq_test a b e = search (rules, arith)

byte_found : (wanted : ℕ) (fault : RespFault) (bytes : Bytes) (u : Unit {0}) (r : Bytes) → byte wanted fault bytes ≡ found u r → bytes ≡ wanted ∷ r
byte_found wanted fault [] u r e = absurd (cc e)
byte_found wanted fault (b ∷ bytes) u r e =
    let h = test_found (b == wanted) bytes fault u r e in
    let same : b ≡ wanted = eq_test b wanted h.0 in
    cc (same, h.1)

bytes_test : (n : ℕ) (bytes w r : Bytes) (t : Bool) → nat_le n (length bytes) ≡ t
    → (if t then found (take n bytes) (drop n bytes) else begun) ≡ found w r → (bytes ≡ w ++ r) × (length w ≡ n)
bytes_test n bytes w r true l e =
    let front : take n bytes ≡ w = cc e in
    let back : drop n bytes ≡ r = cc e in
    let size : length (take n bytes) ≡ n = omega (arith, length-take n bytes, leb-true n (length bytes) l) in
    (sym (take-append-drop n bytes) ∙ ap (λ x. x ++ drop n bytes) front ∙ ap (λ x. w ++ x) back, sym (ap length front) ∙ size)
bytes_test n bytes w r false l e = absurd (cc e)

bytes_found : (n : ℕ) (bytes w r : Bytes) → bytes_of n bytes ≡ found w r → (bytes ≡ w ++ r) × (length w ≡ n)
bytes_found n bytes w r e = bytes_test n bytes w r (nat_le n (length bytes)) refl e

-- ---- numbers

-- the digits of a number that has begun
abbrev pub digits_text : Option ℕ → Bytes
digits_text None = []
digits_text (Some n) = decimal n

-- the bytes of the number that one more digit makes
digit_text : (so_far : Option ℕ) (d n : ℕ) → d < 10 → n < 2 ^ 64 → with_digit so_far d ≡ Some n → digits_text (Some n) ≡ digits_text so_far
    ++ (48 + d) ∷ []
digit_text None d n small fits e =
    let is : d ≡ n = cc in
    subst (λ (k : ℕ). decimal k ≡ (48 + d) ∷ []) is (decimal_digit d small)
digit_text (Some zero) d n small fits e = absurd cc
digit_text (Some (suc m)) d n small fits e =
    let is : suc m * 10 + d ≡ n = cc in
    let front : n / 10 ≡ suc m = omega (arith, is) in
    let last : n % 10 ≡ d = omega (arith, is) in
    rw (decimal_step n (omega (arith, is)) fits, front, last) refl

-- a byte that goes on with a number is a digit
byte_text : (so_far : Option ℕ) (b n : ℕ) (t : Bool) → is_digit b ≡ t → n < 2 ^ 64 → (if t then with_digit so_far (b - 48) else None) ≡ Some n
    → digits_text (Some n) ≡ digits_text so_far ++ b ∷ []
byte_text so_far b n true t fits e =
    let h = both_of (nat_le 48 b) (nat_le b 57) t in
    let low : 48 ≤ b = leb-true 48 b h.0 in
    let high : b ≤ 57 = leb-true b 57 h.1 in
    let is : 48 + (b - 48) ≡ b = omega (arith, low) in
    digit_text so_far (b - 48) n (omega (arith, low, high)) fits e ∙ ap (λ d. digits_text so_far ++ d ∷ []) is
byte_text so_far b n false t fits e = absurd (cc e)

-- what a limit lets be has 64 bits
abbrev IsLimit : (ℕ → Option RespFault) → Type 0
IsLimit limit = (n : ℕ) → limit n ≡ None → n < 2 ^ 64

record IsNumber (limit : ℕ → Option RespFault) (so_far : Option ℕ) (bytes : Bytes) (n : ℕ) (r : Bytes) : Type 0 where
  pub digits : Bytes
  pub text : bytes ≡ digits ++ 13 ∷ r
  pub number_line : digits_text so_far ++ digits ≡ decimal n
  pub fine : limit n ≡ None

end_found : (limit : ℕ → Option RespFault) (so_far : Option ℕ) (b : ℕ) (bytes : Bytes) (n : ℕ) (r : Bytes) → IfSome so_far (λ m. limit m ≡ None)
    → b ≡ 13 → number_end so_far bytes ≡ found n r → IsNumber limit so_far (b ∷ bytes) n r
end_found limit None b bytes n r f t e = absurd (cc e)
end_found limit (Some m) b bytes n r f t e =
    let is : m ≡ n = cc e in
    let rest : bytes ≡ r = cc e in
    record { digits = []; text = cc (t, rest); number_line = append-nil (decimal m) ∙ ap decimal is; fine = ap limit (sym is) ∙ f }

unless_found : (l : Option RespFault) (x : Front ℕ) (n : ℕ) (r : Bytes) → unless_fault l x ≡ found n r → (l ≡ None) × (x ≡ found n r)
unless_found None x n r e = (refl, e)
unless_found (Some fault) x n r e = absurd (cc e)

one_more_found : (limit : ℕ → Option RespFault) (o : Option ℕ) (next : Option ℕ → Front ℕ) (n : ℕ) (r : Bytes) → one_more limit o next ≡ found n r
    → (m : ℕ) × (o ≡ Some m) × (limit m ≡ None) × (next (Some m) ≡ found n r)
one_more_found limit None next n r e = absurd (cc e)
one_more_found limit (Some m) next n r e = let h = unless_found (limit m) (next (Some m)) n r e in (m, refl, h.0, h.1)

number_test : (limit : ℕ → Option RespFault) → IsLimit limit → (so_far : Option ℕ) (b : ℕ) (bytes : Bytes) (n : ℕ) (r : Bytes)
    → IfSome so_far (λ m. limit m ≡ None)
    → ((m : ℕ) → limit m ≡ None → number_line limit (Some m) bytes ≡ found n r → IsNumber limit (Some m) bytes n r)
    → (t : Bool) → (b == 13) ≡ t → (if t then number_end so_far bytes else one_more limit (with_byte so_far b) (λ n. number_line limit n bytes))
    ≡ found n r → IsNumber limit so_far (b ∷ bytes) n r
number_test limit i so_far b bytes n r f go true t e = end_found limit so_far b bytes n r f (eq_test b 13 t) e
number_test limit i so_far b bytes n r f go false t e =
    let h = one_more_found limit (with_byte so_far b) (λ n. number_line limit n bytes) n r e in
    let m = h.0 in
    let others = go m h.2 h.3 in
    let one : decimal m ≡ digits_text so_far ++ b ∷ [] = byte_text so_far b m (is_digit b) refl (i m h.2) h.1 in
    record {
      digits = b ∷ others.digits;
      text = ap (λ x. b ∷ x) others.text;
      number_line = sym (append_assoc (digits_text so_far) (b ∷ []) others.digits) ∙ ap (λ x. x ++ others.digits) (sym one) ∙ others.number_line;
      fine = others.fine;
    }

number_found : (limit : ℕ → Option RespFault) → IsLimit limit → (bytes : Bytes) (so_far : Option ℕ) (n : ℕ) (r : Bytes)
    → IfSome so_far (λ m. limit m ≡ None) → number_line limit so_far bytes ≡ found n r → IsNumber limit so_far bytes n r
number_found limit i [] so_far n r f e = absurd (cc e)
number_found limit i (b ∷ bytes) so_far n r f e =
    number_test limit i so_far b bytes n r f (λ m l e. number_found limit i bytes (Some m) n r l e) (b == 13) refl e

-- ---- words

word_limit_by : (allowed n : ℕ) (t : Bool) → (nat_le n max_word && nat_le n allowed) ≡ t → (if t then None else Some TooLong) ≡ None → (n ≤ max_word)
    × (n ≤ allowed)
word_limit_by allowed n true t e = let h = both_of (nat_le n max_word) (nat_le n allowed) t in (leb-true n max_word h.0, leb-true n allowed h.1)
word_limit_by allowed n false t e = absurd (cc e)

within : (allowed n : ℕ) → word_limit allowed n ≡ None → (n ≤ max_word) × (n ≤ allowed)
within allowed n e = word_limit_by allowed n (nat_le n max_word && nat_le n allowed) refl e

word_is_limit : (allowed : ℕ) → IsLimit (word_limit allowed)
word_is_limit allowed n e = omega (arith, (within allowed n e).0)

word_found : (allowed : ℕ) (bytes w r : Bytes) → word allowed bytes ≡ found w r → (bytes ≡ bulk_text w ++ r) × (length w ≤ max_word)
    × (length w ≤ allowed)
word_found allowed bytes w r e =
    let p = parts (λ u. number_line (word_limit allowed) None >>= behind_length) (byte 36 BadType bytes) w r e in
    let q = parts behind_length (number_line (word_limit allowed) None p.rest) w r p.second in
    let s = parts (λ u. bytes_of q.first >>= word_end) (byte 10 BadEnd q.rest) w r q.second in
    let t = parts word_end (bytes_of q.first s.rest) w r s.second in
    let u = parts (λ u. byte 10 BadEnd >> done t.first) (byte 13 BadEnd t.rest) w r t.second in
    let v = parts (λ u. done t.first) (byte 10 BadEnd u.rest) w r u.second in
    let is : t.first ≡ w = cc v.second in
    let end : v.rest ≡ r = cc v.second in
    let size = number_found (word_limit allowed) (word_is_limit allowed) p.rest None q.first q.rest tt q.is in
    let text = bytes_found q.first s.rest t.first t.rest t.is in
    let limits = within allowed q.first size.fine in
    let n : length w ≡ q.first = sym (ap length is) ∙ text.1 in
    let behind : t.rest ≡ 13 ∷ 10 ∷ r = byte_found 13 BadEnd t.rest u.first u.rest u.is
    ∙ ap (λ x. 13 ∷ x) (byte_found 10 BadEnd u.rest v.first v.rest v.is ∙ ap (λ x. 10 ∷ x) end) in
    let body : q.rest ≡ 10 ∷ (w ++ 13 ∷ 10 ∷ r) = byte_found 10 BadEnd q.rest s.first s.rest s.is
    ∙ ap (λ x. 10 ∷ x) (text.0 ∙ ap (λ x. x ++ t.rest) is ∙ ap (λ x. w ++ x) behind) in
    let head : p.rest ≡ decimal (length w) ++ 13 ∷ 10 ∷ (w ++ 13 ∷ 10 ∷ r) = size.text
    ∙ ap (λ x. x ++ 13 ∷ q.rest) (size.number_line ∙ ap decimal (sym n)) ∙ ap (λ x. decimal (length w) ++ 13 ∷ x) body in
    let whole : bytes ≡ 36 ∷ (decimal (length w) ++ 13 ∷ 10 ∷ (w ++ 13 ∷ 10 ∷ r)) = byte_found 36 BadType bytes p.first p.rest p.is
    ∙ ap (λ x. 36 ∷ x) head in (
      whole ∙ sym (bulk_text-append w r
          ∙ line-append 36 (decimal (length w)) (w ++ 13 ∷ 10 ∷ r)),
      omega (arith, n, limits.0),
      omega (arith, n, limits.1),
    )

record AreWords (n allowed : ℕ) (bytes : Bytes) (ws : List Bytes) (r : Bytes) : Type 0 where
  pub text : bytes ≡ flat_map bulk_text ws ++ r
  pub count : length ws ≡ n
  pub short : AreShort ws
  pub small : total ws ≤ allowed

words_found : (n allowed : ℕ) (bytes : Bytes) (ws : List Bytes) (r : Bytes) → words n allowed bytes ≡ found ws r → AreWords n allowed bytes ws r
words_found zero allowed bytes ws r e =
    let none : [] ≡ ws = cc e in
    subst (λ x. AreWords 0 allowed bytes x r) none (record { text = cc e; count = refl; short = tt; small = omega arith })
words_found (suc n) allowed bytes ws r e =
    let p = parts (others n allowed) (word allowed bytes) ws r e in
    let q = parts (with_word p.first) (words n (allowed - length p.first) p.rest) ws r p.second in
    let is : p.first ∷ q.first ≡ ws = cc q.second in
    let end : q.rest ≡ r = cc q.second in
    let w = word_found allowed bytes p.first p.rest p.is in
    let rest = words_found n (allowed - length p.first) p.rest q.first q.rest q.is in
    subst (λ x. AreWords (suc n) allowed bytes x r) is (record {
      text = w.0 ∙ ap (λ x. bulk_text p.first ++ x) (rest.text ∙ ap (λ x. flat_map bulk_text q.first ++ x) end)
          ∙ sym (append_assoc (bulk_text p.first) (flat_map bulk_text q.first) r);
      count = ap suc rest.count;
      short = (w.1, rest.short);
      small = omega (arith, w.2, rest.small);
    })

count_by : (n : ℕ) (t : Bool) → nat_le (suc n) max_words ≡ t → (if t then None else Some TooMany) ≡ None → suc n ≤ max_words
count_by n true t e = leb-true (suc n) max_words t
count_by n false t e = absurd (cc e)

count_within : (n : ℕ) → count_limit n ≡ None → (0 < n) × (n ≤ max_words)
count_within zero e = absurd (cc e)
count_within (suc n) e = (omega arith, count_by n (nat_le (suc n) max_words) refl e)

count_is_limit : IsLimit count_limit
count_is_limit n e = omega (arith, (count_within n e).1)

pub request_found : (bytes : Bytes) (ws : List Bytes) (r : Bytes) → request bytes ≡ found ws r → IsRequest ws × (bytes ≡ request_text ws ++ r)
unfolding request
request_found bytes ws r e =
    let p = parts (λ u. number_line count_limit None >>= behind_count) (byte 42 BadType bytes) ws r e in
    let q = parts behind_count (number_line count_limit None p.rest) ws r p.second in
    let s = parts (λ u. words q.first max_request) (byte 10 BadEnd q.rest) ws r q.second in
    let size = number_found count_limit count_is_limit p.rest None q.first q.rest tt q.is in
    let limits = count_within q.first size.fine in
    let w = words_found q.first max_request s.rest ws r s.second in
    let body : q.rest ≡ 10 ∷ (flat_map bulk_text ws ++ r) = byte_found 10 BadEnd q.rest s.first s.rest s.is ∙ ap (λ x. 10 ∷ x) w.text in
    let head : p.rest ≡ decimal (length ws) ++ 13 ∷ 10 ∷ (flat_map bulk_text ws ++ r) = size.text
    ∙ ap (λ x. x ++ 13 ∷ q.rest) (size.number_line ∙ ap decimal (sym w.count)) ∙ ap (λ x. decimal (length ws) ++ 13 ∷ x) body in
    let whole : bytes ≡ 42 ∷ (decimal (length ws) ++ 13 ∷ 10 ∷ (flat_map bulk_text ws ++ r)) = byte_found 42 BadType bytes p.first p.rest p.is
    ∙ ap (λ x. 42 ∷ x) head in (
      record {
        some = omega (arith, limits.0, w.count);
        fits = record { few = omega (arith, limits.1, w.count); short = w.short; small = w.small };
      },
      whole ∙ sym (append_assoc (line 42 (decimal (length ws))) (flat_map bulk_text ws) r
          ∙ line-append 42 (decimal (length ws)) (flat_map bulk_text ws ++ r)),
    )
