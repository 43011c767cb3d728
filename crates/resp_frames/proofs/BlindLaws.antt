-- A request is read from the place of its `*` on, whatever its words are.
use Rattle.std.proofs.Common.{◌≡◌, ℕ, zero, suc, ◌-◌, Bool, true, false, nat_le, List, ◌∷◌, length, take, drop, None, refl, ap, ◌∙◌, if◌then◌else◌}
use Rattle.std.proofs.lemmas.Bool.{leb-true}
use Rattle.std.proofs.lemmas.List.{length-take-le}
use Rattle.byte_text.specs.Names.{Bytes}
use Rattle.byte_text.specs.Requests.{max_request}
use Rattle.byte_text.specs.Streams.{Front, found, begun, broken, Grammar, read_then, ◌>>=◌, ◌>>◌, done, byte, bytes_of, number_line, count_limit, word_limit, words, request}
use Rattle.byte_text.specs.declared.faults.RespFault.{RespFault}
use Rattle.byte_text.specs.declared.faults.RespFault.TheVariants.{BadType, BadEnd}
use Rattle.resp_frames.specs.declared.request_places.Place.TheVariants.{Star}
use Rattle.resp_frames.specs.RequestPlaces.{skipped, words_skipped, behind_count, from}
use Rattle.resp_frames.specs.RequestReader.{blind}

-- one part behind another
blind_behind : {A B : Type 0} (k : A → Grammar B) (l : A → Grammar (Unit {0})) (x : Front A) → ((a : A) (rest : Bytes) → blind (k a rest) ≡ l a rest) → blind (read_then k x) ≡ read_then l x
blind_behind k l (found a rest) h = h a rest
blind_behind k l begun h = refl
blind_behind k l (broken fault) h = refl

in_turn : {A B C : Type 0} (j : A → Grammar B) (k : B → Grammar C) (x : Front A) → read_then k (read_then j x) ≡ read_then (λ a rest. read_then k (j a rest)) x
in_turn j k (found a rest) = refl
in_turn j k begun = refl
in_turn j k (broken fault) = refl

-- a part behind two
blind_turn : {A B C : Type 0} (j : A → Grammar B) (k : B → Grammar C) (l : A → Grammar (Unit {0})) (x : Front A) → ((a : A) (rest : Bytes) → blind (read_then k (j a rest)) ≡ l a rest) → blind (read_then k (read_then j x)) ≡ read_then l x
blind_turn j k l x h = ap blind (in_turn j k x) ∙ blind_behind (λ a rest. read_then k (j a rest)) l x h

-- bytes are skipped
blind_bytes : {B : Type 0} (k : Bytes → Grammar B) (l : Grammar (Unit {0})) (n : ℕ) (bytes : Bytes) (t : Bool) → nat_le n (length bytes) ≡ t → ((text rest : Bytes) → length text ≡ n → blind (k text rest) ≡ l rest)
    → blind (read_then k (if t then found (take n bytes) (drop n bytes) else begun)) ≡ read_then (λ u. l) (if t then found (tt {0}) (drop n bytes) else begun)
blind_bytes k l n bytes true e h = h (take n bytes) (drop n bytes) (length-take-le n bytes (leb-true n (length bytes) e))
blind_bytes k l n bytes false e h = refl

-- the ends of a word, and the words behind it
abbrev word_end : Bytes → Grammar Bytes
word_end text = do
  byte 13 BadEnd
  byte 10 BadEnd
  done text

abbrev others : ℕ → ℕ → Bytes → Grammar (List Bytes)
others n allowed text = do
  rest ← words n (allowed - length text)
  done (text ∷ rest)

pub blind_words : (n allowed : ℕ) (bytes : Bytes) → blind (words n allowed bytes) ≡ words_skipped n allowed bytes
blind_words zero allowed bytes = refl
blind_words (suc n) allowed bytes =
    let k = others n allowed in
    blind_turn (λ u. number_line (word_limit allowed) None >>= (λ len. byte 10 BadEnd >> (bytes_of len >>= word_end))) k
    (λ u. number_line (word_limit allowed) None >>= (λ len. byte 10 BadEnd >> (skipped len >> (byte 13 BadEnd >> (byte 10 BadEnd >> words_skipped n (allowed - len))))))
    (byte 36 BadType bytes)
    (λ u rest. blind_turn (λ len. byte 10 BadEnd >> (bytes_of len >>= word_end)) k
    (λ len. byte 10 BadEnd >> (skipped len >> (byte 13 BadEnd >> (byte 10 BadEnd >> words_skipped n (allowed - len)))))
    (number_line (word_limit allowed) None rest)
    (λ len rest. blind_turn (λ u. bytes_of len >>= word_end) k
    (λ u. skipped len >> (byte 13 BadEnd >> (byte 10 BadEnd >> words_skipped n (allowed - len))))
    (byte 10 BadEnd rest)
    (λ u rest. ap blind (in_turn word_end k (bytes_of len rest))
    ∙ blind_bytes (λ text rest. read_then k (word_end text rest)) (byte 13 BadEnd >> (byte 10 BadEnd >> words_skipped n (allowed - len))) len rest (nat_le len (length rest)) refl
    (λ text rest e. blind_turn (λ u. byte 10 BadEnd >> done text) k (λ u. byte 10 BadEnd >> words_skipped n (allowed - len)) (byte 13 BadEnd rest)
    (λ u rest. blind_turn (λ u. done text) k (λ u. words_skipped n (allowed - len)) (byte 10 BadEnd rest)
    (λ u rest. blind_behind (λ ws. done (text ∷ ws)) (λ ws rest. found tt rest) (words n (allowed - length text) rest) (λ ws rest. refl)
    ∙ blind_words n (allowed - length text) rest ∙ ap (λ m. words_skipped n (allowed - m) rest) e))))))

pub blind_request : (bytes : Bytes) → blind (request bytes) ≡ from Star bytes
unfolding request
blind_request bytes =
    blind_behind (λ u. number_line count_limit None >>= (λ n. byte 10 BadEnd >> words n max_request)) (λ u. number_line count_limit None >>= behind_count) (byte 42 BadType bytes)
    (λ u rest. blind_behind (λ n. byte 10 BadEnd >> words n max_request) behind_count (number_line count_limit None rest)
    (λ n rest. blind_behind (λ u. words n max_request) (λ u. words_skipped n max_request) (byte 10 BadEnd rest) (λ u rest. blind_words n max_request rest)))

-- what a blind front says of the front
pub blind_begun : {A : Type 0} (x : Front A) → blind x ≡ begun → x ≡ begun
blind_begun (found a rest) e = absurd (cc e)
blind_begun begun e = refl
blind_begun (broken fault) e = absurd (cc e)

pub blind_broken : {A : Type 0} (x : Front A) (fault : RespFault) → blind x ≡ broken fault → x ≡ broken fault
blind_broken (found a rest) fault e = absurd (cc e)
blind_broken begun fault e = absurd (cc e)
blind_broken (broken f) fault e = let same : f ≡ fault = cc e in ap broken same

pub blind_found : {A : Type 0} (x : Front A) (rest : Bytes) → blind x ≡ found tt rest → (a : A) × (x ≡ found a rest)
blind_found (found a r) rest e = let same : r ≡ rest = cc e in (a, ap (found a) same)
blind_found begun rest e = absurd (cc e)
blind_found (broken fault) rest e = absurd (cc e)
