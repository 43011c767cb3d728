-- Grammars read from the front: more bytes change nothing of what was read or refused, and what has begun can be ended.
use Rattle.std.proofs.Common.{◌≡◌, ℕ, zero, suc, ◌+◌, ◌-◌, ◌<◌, ◌≤◌, Bool, true, false, nat_le, ◌==◌, [], ◌∷◌, ◌++◌, length, take, drop, Option, Some}
use Rattle.std.proofs.Common.{None, refl, sym, ap, subst, ◌∙◌, append_assoc, append-nil, arith, if◌then◌else◌, length-append, replicate, rules}
use Rattle.std.proofs.lemmas.Bool.{le-leb, lt-leb, leb-true, leb-false}
use Rattle.std.proofs.lemmas.List.{take-append-le, length-replicate}
use Rattle.byte_text.specs.Names.{Bytes}
use Rattle.byte_text.specs.Streams.{Front, found, begun, broken, Grammar, read_then, ◌>>=◌, ◌>>◌, done, byte, bytes_of, with_byte, one_more}
use Rattle.byte_text.specs.Streams.{unless_fault, number_end, number_line, count_limit, word_limit, word, words, request}
use Rattle.byte_text.specs.declared.faults.RespFault.{RespFault}
use Rattle.byte_text.specs.declared.faults.RespFault.TheVariants.{BadType, BadEnd}
use Rattle.byte_text.specs.Requests.{max_request}
use Rattle.byte_text.specs.StreamTexts.{one_digit, bytes_read, word_end, behind_length, others, with_word, behind_count}

-- what more bytes make of a front
abbrev pub IsMore : {A : Type 0} → Bytes → Front A → Front A → Type 0
IsMore more (found a rest) y = y ≡ found a (rest ++ more)
IsMore more begun y = Unit {0}
IsMore more (broken fault) y = y ≡ broken fault

pub record Stable {A : Type 0} (g : Grammar A) : Type 0 where
  pub more : (bytes more : Bytes) → IsMore more (g bytes) (g (bytes ++ more))

pub stable_done : {A : Type 0} (a : A) → Stable (done a)
stable_done a = record { more = λ bytes more. refl }

go_more : {A B : Type 0} (k : A → Grammar B) → ((a : A) → Stable (k a)) → (more : Bytes) (x y : Front A) → IsMore more x y
    → IsMore more (read_then k x) (read_then k y)
go_more k s more (found a rest) y e = subst (λ z. IsMore more (k a rest) (read_then k z)) (sym e) ((s a).more rest more)
go_more k s more begun y e = tt
go_more k s more (broken fault) y e = ap (read_then k) e

pub stable_bind : {A B : Type 0} (g : Grammar A) (k : A → Grammar B) → Stable g → ((a : A) → Stable (k a)) → Stable (g >>= k)
stable_bind g k s t = record { more = λ bytes more. go_more k t more (g bytes) (g (bytes ++ more)) (s.more bytes more) }

-- a choice by a test is more, where both its sides are
choice_more : {A : Type 0} (more : Bytes) (t : Bool) (x x' y y' : Front A) → IsMore more x x' → IsMore more y y'
    → IsMore more (if t then x else y) (if t then x' else y')
choice_more more true x x' y y' p q = p
choice_more more false x x' y y' p q = q

pub stable_byte : (wanted : ℕ) (fault : RespFault) → Stable (byte wanted fault)
stable_byte wanted fault = record { more = go }
  where
    go : (bytes more : Bytes) → IsMore more (byte wanted fault bytes) (byte wanted fault (bytes ++ more))
    go [] more = tt
    go (b ∷ bytes) more = choice_more more (b == wanted) (found tt bytes) (found tt (bytes ++ more)) (broken fault) (broken fault) refl refl

drop-append : (n : ℕ) (xs ys : Bytes) → n ≤ length xs → drop n (xs ++ ys) ≡ drop n xs ++ ys
drop-append zero xs ys l = refl
drop-append (suc n) [] ys l = absurd (omega (arith, l))
drop-append (suc n) (x ∷ xs) ys l = drop-append n xs ys (omega (arith, l))

bytes_more : (n : ℕ) (bytes more : Bytes) (t : Bool) → nat_le n (length bytes) ≡ t
    → IsMore more (if t then found (take n bytes) (drop n bytes) else begun) (bytes_of n (bytes ++ more))
bytes_more n bytes more true e =
    let l : n ≤ length bytes = leb-true n (length bytes) e in
    let all : nat_le n (length (bytes ++ more)) ≡ true = le-leb n (length (bytes ++ more)) (omega (arith, l, length-append bytes more)) in
    rw (all, take-append-le n bytes more l, drop-append n bytes more l) refl
bytes_more n bytes more false e = tt

pub stable_bytes_of : (n : ℕ) → Stable (bytes_of n)
stable_bytes_of n = record { more = λ bytes more. bytes_more n bytes more (nat_le n (length bytes)) refl }

unless_more : (more : Bytes) (fault : Option RespFault) (x y : Front ℕ) → IsMore more x y → IsMore more (unless_fault fault x) (unless_fault fault y)
unless_more more None x y e = e
unless_more more (Some fault) x y e = refl

one_more_more : (limit : ℕ → Option RespFault) (n : Option ℕ) (more : Bytes) (next next' : Option ℕ → Front ℕ)
    → ((m : Option ℕ) → IsMore more (next m) (next' m)) → IsMore more (one_more limit n next) (one_more limit n next')
one_more_more limit None more next next' h = refl
one_more_more limit (Some n) more next next' h = unless_more more (limit n) (next (Some n)) (next' (Some n)) (h (Some n))

end_more : (so_far : Option ℕ) (bytes more : Bytes) → IsMore more (number_end so_far bytes) (number_end so_far (bytes ++ more))
end_more None bytes more = refl
end_more (Some n) bytes more = refl

number_more : (limit : ℕ → Option RespFault) (bytes more : Bytes) (so_far : Option ℕ)
    → IsMore more (number_line limit so_far bytes) (number_line limit so_far (bytes ++ more))
number_more limit [] more so_far = tt
number_more limit (b ∷ bytes) more so_far = choice_more more (b == 13)
    (number_end so_far bytes) (number_end so_far (bytes ++ more))
    (one_more limit (with_byte so_far b) (λ n. number_line limit n bytes))
    (one_more limit (with_byte so_far b) (λ n. number_line limit n (bytes ++ more)))
    (end_more so_far bytes more)
    (one_more_more limit (with_byte so_far b) more (λ n. number_line limit n bytes) (λ n. number_line limit n (bytes ++ more))
    (λ m. number_more limit bytes more m))

pub stable_number : (limit : ℕ → Option RespFault) (so_far : Option ℕ) → Stable (number_line limit so_far)
stable_number limit so_far = record { more = λ bytes more. number_more limit bytes more so_far }

-- ---- what has begun can be ended

-- more bytes, at least one, with which the whole is read
pub record Ended {A : Type 0} (g : Grammar A) (bytes : Bytes) : Type 0 where
  pub byte : ℕ
  pub more : Bytes
  pub value : A
  pub reads : g (bytes ++ byte ∷ more) ≡ found value []

-- before any byte nothing is refused
abbrev IsQuiet : {A : Type 0} → Front A → Type 0
IsQuiet (found a rest) = rest ≡ []
IsQuiet begun = Unit {0}
IsQuiet (broken fault) = ⊥

pub record Open {A : Type 0} (g : Grammar A) : Type 0 where
  pub stable : Stable g
  pub quiet : IsQuiet (g [])
  pub ends : (bytes : Bytes) → g bytes ≡ begun → Ended g bytes

pub open_done : {A : Type 0} (a : A) → Open (done a)
open_done a = record { stable = stable_done a; quiet = refl; ends = λ bytes e. absurd (cc e) }

quiet_bind : {A B : Type 0} (k : A → Grammar B) → ((a : A) → Open (k a)) → (x : Front A) → IsQuiet x → IsQuiet (read_then k x)
quiet_bind k o (found a rest) e = subst (λ r. IsQuiet (k a r)) (sym e) (o a).quiet
quiet_bind k o begun e = tt
quiet_bind k o (broken fault) e = absurd e

-- what was read is read with more bytes
more_read : {A : Type 0} (g : Grammar A) → Stable g → (bytes more : Bytes) (a : A) (rest : Bytes) → g bytes ≡ found a rest
    → g (bytes ++ more) ≡ found a (rest ++ more)
more_read g s bytes more a rest e = subst (λ x. IsMore more x (g (bytes ++ more))) e (s.more bytes more)

-- the second part is ended, from the end of the first
second_ends : {A B : Type 0} (g : Grammar A) (k : A → Grammar B) → Stable g → (bytes : Bytes) (a : A) (rest : Bytes) → g bytes ≡ found a rest
    → Ended (k a) rest → Ended (g >>= k) bytes
second_ends g k s bytes a rest e d = record {
  byte = d.byte;
  more = d.more;
  value = d.value;
  reads = ap (read_then k) (more_read g s bytes (d.byte ∷ d.more) a rest e) ∙ d.reads;
}

-- the first part was ended; the second begins at its end
then_second : {A B : Type 0} (g : Grammar A) (k : A → Grammar B) → Stable g → (bytes : Bytes) (d : Ended g bytes) → Open (k d.value) → (x : Front B)
    → k d.value [] ≡ x → Ended (g >>= k) bytes
then_second g k s bytes d o (found b rest) e =
    let none : rest ≡ [] = subst IsQuiet e o.quiet in
    record { byte = d.byte; more = d.more; value = b; reads = ap (read_then k) d.reads ∙ e ∙ ap (found b) none }
then_second g k s bytes d o begun e =
    let c = o.ends [] e in
    let text : bytes ++ d.byte ∷ (d.more ++ c.byte ∷ c.more) ≡ bytes ++ d.byte ∷ d.more
    ++ c.byte ∷ c.more = sym (append_assoc bytes (d.byte ∷ d.more) (c.byte ∷ c.more)) in
    record {
      byte = d.byte;
      more = d.more ++ c.byte ∷ c.more;
      value = c.value;
      reads = ap (λ t. read_then k (g t)) text ∙ ap (read_then k) (more_read g s (bytes ++ d.byte ∷ d.more) (c.byte ∷ c.more) d.value [] d.reads)
          ∙ c.reads;
    }
then_second g k s bytes d o (broken fault) e = absurd (subst IsQuiet e o.quiet)

bind_ends : {A B : Type 0} (g : Grammar A) (k : A → Grammar B) → Open g → ((a : A) → Open (k a)) → (bytes : Bytes) (x : Front A) → g bytes ≡ x
    → read_then k x ≡ begun → Ended (g >>= k) bytes
bind_ends g k o p bytes (found a rest) e h = second_ends g k o.stable bytes a rest e ((p a).ends rest h)
bind_ends g k o p bytes begun e h = let d = o.ends bytes e in then_second g k o.stable bytes d (p d.value) (k d.value []) refl
bind_ends g k o p bytes (broken fault) e h = absurd (cc h)

pub open_bind : {A B : Type 0} (g : Grammar A) (k : A → Grammar B) → Open g → ((a : A) → Open (k a)) → Open (g >>= k)
open_bind g k o p = record {
  stable = stable_bind g k o.stable (λ a. (p a).stable);
  quiet = quiet_bind k p (g []) o.quiet;
  ends = λ bytes e. bind_ends g k o p bytes (g bytes) refl e;
}

same_test : (b : ℕ) → (b == b) ≡ true
same_test b = search rules

read_or_refused : (t : Bool) (bytes : Bytes) (fault : RespFault) → (if t then found (tt {0}) bytes else broken fault) ≡ begun → ⊥
read_or_refused true bytes fault e = cc e
read_or_refused false bytes fault e = cc e

byte_ends : (wanted : ℕ) (fault : RespFault) (bytes : Bytes) → byte wanted fault bytes ≡ begun → Ended (byte wanted fault) bytes
byte_ends wanted fault [] e = record { byte = wanted; more = []; value = tt; reads = rw (same_test wanted) refl }
byte_ends wanted fault (b ∷ bytes) e = absurd (read_or_refused (b == wanted) bytes fault e)

pub open_byte : (wanted : ℕ) (fault : RespFault) → Open (byte wanted fault)
open_byte wanted fault = record { stable = stable_byte wanted fault; quiet = tt; ends = byte_ends wanted fault }

bytes_quiet : (n : ℕ) → IsQuiet (bytes_of n [])
bytes_quiet zero = refl
bytes_quiet (suc n) = rw (lt-leb (suc n) 0 (omega arith)) tt

bytes_end : (n : ℕ) (bytes : Bytes) (t : Bool) → nat_le n (length bytes) ≡ t → (if t then found (take n bytes) (drop n bytes) else begun) ≡ begun
    → Ended (bytes_of n) bytes
bytes_end n bytes true e h = absurd (cc h)
bytes_end n bytes false e h =
    let less : length bytes < n = leb-false n (length bytes) e in
    let more = replicate (n - length bytes - 1) 0 in
    let text = bytes ++ 0 ∷ more in
    let size : length text ≡ n = omega (arith, less, length-append bytes (0 ∷ more), length-replicate {A = ℕ} (n - length bytes - 1) 0) in
    let all : bytes_of (length text) (text ++ []) ≡ found text [] = bytes_read text [] in
    record {
      byte = 0;
      more = more;
      value = text;
      reads = ap (λ k. bytes_of k text) (sym size) ∙ ap (bytes_of (length text)) (sym (append-nil text)) ∙ all;
    }

pub open_bytes_of : (n : ℕ) → Open (bytes_of n)
open_bytes_of n = record { stable = stable_bytes_of n; quiet = bytes_quiet n; ends = λ bytes e. bytes_end n bytes (nat_le n (length bytes)) refl e }

-- a limit lets some one digit be
pub record LetsDigit (limit : ℕ → Option RespFault) : Type 0 where
  pub digit : ℕ
  pub small : digit < 10
  pub fine : limit digit ≡ None

-- a number goes on behind a byte as it does from the number that this byte makes
number_behind : (limit : ℕ → Option RespFault) (so_far : Option ℕ) (b m : ℕ) (bytes : Bytes) → (b == 13) ≡ false → with_byte so_far b ≡ Some m
    → limit m ≡ None
    → number_line limit so_far (b ∷ bytes) ≡ number_line limit (Some m) bytes
number_behind limit so_far b m bytes t o l = rw (t, o, l) refl

end_ends : (limit : ℕ → Option RespFault) (so_far : Option ℕ) (bytes all : Bytes) → number_end so_far bytes ≡ begun
    → Ended (number_line limit so_far) all
end_ends limit None bytes all e = absurd (cc e)
end_ends limit (Some n) bytes all e = absurd (cc e)

one_ends : (limit : ℕ → Option RespFault) (so_far : Option ℕ) (b : ℕ) (bytes : Bytes)
    → ((m : ℕ) → number_line limit (Some m) bytes ≡ begun → Ended (number_line limit (Some m)) bytes)
    → (b == 13) ≡ false → (m : ℕ) → with_byte so_far b ≡ Some m → (l : Option RespFault) → limit m ≡ l
    → unless_fault l (number_line limit (Some m) bytes) ≡ begun → Ended (number_line limit so_far) (b ∷ bytes)
one_ends limit so_far b bytes go t m o None l e =
    let d = go m e in
    record { byte = d.byte; more = d.more; value = d.value; reads = number_behind limit so_far b m (bytes ++ d.byte ∷ d.more) t o l ∙ d.reads }
one_ends limit so_far b bytes go t m o (Some fault) l e = absurd (cc e)

digit_ends : (limit : ℕ → Option RespFault) (so_far : Option ℕ) (b : ℕ) (bytes : Bytes)
    → ((m : ℕ) → number_line limit (Some m) bytes ≡ begun → Ended (number_line limit (Some m)) bytes)
    → (b == 13) ≡ false → (o : Option ℕ) → with_byte so_far b ≡ o → one_more limit o (λ n. number_line limit n bytes) ≡ begun
    → Ended (number_line limit so_far) (b ∷ bytes)
digit_ends limit so_far b bytes go t None o e = absurd (cc e)
digit_ends limit so_far b bytes go t (Some m) o e = one_ends limit so_far b bytes go t m o (limit m) refl e

test_ends : (limit : ℕ → Option RespFault) (so_far : Option ℕ) (b : ℕ) (bytes : Bytes)
    → ((m : ℕ) → number_line limit (Some m) bytes ≡ begun → Ended (number_line limit (Some m)) bytes)
    → (t : Bool) → (b == 13) ≡ t → (if t then number_end so_far bytes else one_more limit (with_byte so_far b) (λ n. number_line limit n bytes))
    ≡ begun → Ended (number_line limit so_far) (b ∷ bytes)
test_ends limit so_far b bytes go true t e = end_ends limit so_far bytes (b ∷ bytes) e
test_ends limit so_far b bytes go false t e = digit_ends limit so_far b bytes go t (with_byte so_far b) refl e

number_ends : (limit : ℕ → Option RespFault) → LetsDigit limit → (bytes : Bytes) (so_far : Option ℕ) → number_line limit so_far bytes ≡ begun
    → Ended (number_line limit so_far) bytes
number_ends limit h [] None e =
    record { byte = 48 + h.digit; more = 13 ∷ []; value = h.digit; reads = one_digit limit None h.digit h.digit (13 ∷ []) h.small refl h.fine }
number_ends limit h [] (Some n) e = record { byte = 13; more = []; value = n; reads = refl }
number_ends limit h (b ∷ bytes) so_far e = test_ends limit so_far b bytes (λ m e. number_ends limit h bytes (Some m) e) (b == 13) refl e

pub open_number : (limit : ℕ → Option RespFault) → LetsDigit limit → (so_far : Option ℕ) → Open (number_line limit so_far)
open_number limit h so_far = record { stable = stable_number limit so_far; quiet = tt; ends = λ bytes e. number_ends limit h bytes so_far e }

-- ---- requests

word_zero : (allowed : ℕ) → LetsDigit (word_limit allowed)
word_zero allowed =
    let a : nat_le 0 allowed ≡ true = le-leb 0 allowed (omega arith) in
    record { digit = 0; small = omega arith; fine = rw a refl }

count_one : LetsDigit count_limit
count_one = record { digit = 1; small = omega arith; fine = refl }

open_word_end : (text : Bytes) → Open (word_end text)
open_word_end text = open_bind (byte 13 BadEnd) (λ u. byte 10 BadEnd >> done text) (open_byte 13 BadEnd)
    (λ u. open_bind (byte 10 BadEnd) (λ u. done text) (open_byte 10 BadEnd) (λ u. open_done text))

open_behind_length : (n : ℕ) → Open (behind_length n)
open_behind_length n = open_bind (byte 10 BadEnd) (λ u. bytes_of n >>= word_end) (open_byte 10 BadEnd)
    (λ u. open_bind (bytes_of n) word_end (open_bytes_of n) open_word_end)

pub open_word : (allowed : ℕ) → Open (word allowed)
open_word allowed = open_bind (byte 36 BadType) (λ u. number_line (word_limit allowed) None >>= behind_length) (open_byte 36 BadType)
    (λ u. open_bind (number_line (word_limit allowed) None) behind_length
    (open_number (word_limit allowed) (word_zero allowed) None) open_behind_length)

pub open_words : (n allowed : ℕ) → Open (words n allowed)
open_words zero allowed = open_done []
open_words (suc n) allowed = open_bind (word allowed) (others n allowed) (open_word allowed)
    (λ text. open_bind (words n (allowed - length text)) (with_word text) (open_words n (allowed - length text)) (λ rest. open_done (text ∷ rest)))

open_behind_count : (n : ℕ) → Open (behind_count n)
open_behind_count n = open_bind (byte 10 BadEnd) (λ u. words n max_request) (open_byte 10 BadEnd) (λ u. open_words n max_request)

pub open_request : Open request
unfolding request
open_request = open_bind (byte 42 BadType) (λ u. number_line count_limit None >>= behind_count) (open_byte 42 BadType)
    (λ u. open_bind (number_line count_limit None) behind_count (open_number count_limit count_one None) open_behind_count)
