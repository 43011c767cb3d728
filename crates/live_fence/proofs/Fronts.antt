-- Beginnings of bytes, one behind another.
use Rattle.std.proofs.Common.{◌≡◌, ℕ, ◌+◌, ◌==◌, Bool, true, false, refl, sym, ap, ◌∙◌, [], ◌∷◌, ◌++◌, length, append_assoc, append-nil, arith, ◌-◌, ◌≤◌, drop, length-append}
use Rattle.std.specs.Prelude.{Option, Some, None, MatchOption, ◌≢◌, codes, decimal, if◌then◌else◌}
use Rattle.std.proofs.Common.{Bor}
use Rattle.std.proofs.lemmas.Bool.Decides.{nat_tests}
use Rattle.std.proofs.lemmas.Fmt.{decimal_digit}
use Rattle.byte_text.specs.Names.{Bytes}
use Rattle.byte_text.specs.Lines.{line, line_end, bulk_text}
use Rattle.byte_text.specs.Replies.{frame_text}
use Rattle.live_fence.specs.LiveFences.{live_name}
use Rattle.live_fence.specs.Parts.{behind, head_pieces, begins_bulk, bulk_in, payload_at}

-- two beginnings

none_if : (t : Bool) (x y : Option Bytes) → (x ≡ None → y ≡ None) → (if t then x else None) ≡ None → (if t then y else None) ≡ None
none_if true x y h e = h e
none_if false x y h e = refl

same_if : (t : Bool) (x y z : Option Bytes) (rest : Bytes) → (x ≡ Some rest → y ≡ z) → (if t then x else None) ≡ Some rest
    → (if t then y else None) ≡ z
same_if true x y z rest h e = h e
same_if false x y z rest h e = absurd (cc e)

pub behind_none : (a b bytes : Bytes) → behind a bytes ≡ None → behind (a ++ b) bytes ≡ None
behind_none [] b bytes e = absurd (cc e)
behind_none (x ∷ a) b [] e = refl
behind_none (x ∷ a) b (y ∷ bytes) e = none_if (x == y) (behind a bytes) (behind (a ++ b) bytes) (behind_none a b bytes) e

pub behind_some : (a b bytes rest : Bytes) → behind a bytes ≡ Some rest → behind (a ++ b) bytes ≡ behind b rest
behind_some [] b bytes rest e = ap (behind b) (cc e)
behind_some (x ∷ a) b [] rest e = absurd (cc e)
behind_some (x ∷ a) b (y ∷ bytes) rest e =
    same_if (x == y) (behind a bytes) (behind (a ++ b) bytes) (behind b rest) rest (behind_some a b bytes rest) e

-- what is behind a beginning

same_byte : (x y : ℕ) → (x == y) ≡ true → x ≡ y
same_byte x y e = grind (arith, nat_tests)

own_byte : (x : ℕ) → (x == x) ≡ true
own_byte x = grind (arith, nat_tests)

longer : (x y : ℕ) (a bytes rest : Bytes) (t : Bool) → (x == y) ≡ t → (behind a bytes ≡ Some rest → bytes ≡ a ++ rest)
    → (if t then behind a bytes else None) ≡ Some rest
    → y ∷ bytes ≡ x ∷ a ++ rest
longer x y a bytes rest true t h e = let s = same_byte x y t in let r = h e in cc (s, r)
longer x y a bytes rest false t h e = absurd (cc e)

pub front_is : (a bytes rest : Bytes) → behind a bytes ≡ Some rest → bytes ≡ a ++ rest
front_is [] bytes rest e = cc e
front_is (x ∷ a) [] rest e = absurd (cc e)
front_is (x ∷ a) (y ∷ bytes) rest e = longer x y a bytes rest (x == y) refl (front_is a bytes rest) e

pub front_behind : (a rest : Bytes) → behind a (a ++ rest) ≡ Some rest
front_behind [] rest = refl
front_behind (x ∷ a) rest = rw (own_byte x) (front_behind a rest)

-- the head of a message, in the pieces that are compared
module _ (session : ℕ) where
  abbrev number : Bytes
  number = decimal session ++ codes "\r\n"

  abbrev channel : Bytes
  channel = codes "\r\nlive/" ++ number

  abbrev counted : Bytes
  counted = decimal (length (live_name session)) ++ channel

  -- the head with the texts of its two numbers
  abbrev headed : Bytes → Bytes → Bytes
  headed three seven = line 42 three ++ ((line 36 seven ++ (codes "message" ++ line_end)) ++ (bulk_text (live_name session) ++ []))

  head_is : frame_text (head_pieces session) ≡ codes "*3\r\n$7\r\nmessage\r\n$" ++ counted
  head_is = ap (λ (three : Bytes). headed three (decimal 7)) (decimal_digit 3 (omega arith))
      ∙ ap (headed (51 ∷ [])) (decimal_digit 7 (omega arith))
      ∙ ap (λ (t : Bytes). codes "*3\r\n$7\r\nmessage\r\n$" ++ t)
      (append-nil ((decimal (length (live_name session)) ++ codes "\r\n") ++ (live_name session ++ codes "\r\n"))
      ∙ append_assoc (decimal (length (live_name session))) (codes "\r\n") (live_name session ++ codes "\r\n"))

  module _ (frame : Bytes) where
    at_head : payload_at session frame ≡ bulk_in (behind (codes "*3\r\n$7\r\nmessage\r\n$" ++ counted) frame)
    at_head = ap (λ (h : Bytes). bulk_in (behind h frame)) head_is

    pub none_first : behind (codes "*3\r\n$7\r\nmessage\r\n$") frame ≡ None → payload_at session frame ≡ None
    none_first e = at_head ∙ ap bulk_in (behind_none (codes "*3\r\n$7\r\nmessage\r\n$") counted frame e)

    module _ (a : Bytes) (first : behind (codes "*3\r\n$7\r\nmessage\r\n$") frame ≡ Some a) where
      at_count : payload_at session frame ≡ bulk_in (behind counted a)
      at_count = at_head ∙ ap bulk_in (behind_some (codes "*3\r\n$7\r\nmessage\r\n$") counted frame a first)

      pub none_count : behind (decimal (length (live_name session))) a ≡ None → payload_at session frame ≡ None
      none_count e = at_count ∙ ap bulk_in (behind_none (decimal (length (live_name session))) channel a e)

      module _ (b : Bytes) (second : behind (decimal (length (live_name session))) a ≡ Some b) where
        at_channel : payload_at session frame ≡ bulk_in (behind channel b)
        at_channel = at_count ∙ ap bulk_in (behind_some (decimal (length (live_name session))) channel a b second)

        pub none_channel : behind (codes "\r\nlive/") b ≡ None → payload_at session frame ≡ None
        none_channel e = at_channel ∙ ap bulk_in (behind_none (codes "\r\nlive/") number b e)

        module _ (d : Bytes) (third : behind (codes "\r\nlive/") b ≡ Some d) where
          at_number : payload_at session frame ≡ bulk_in (behind number d)
          at_number = at_channel ∙ ap bulk_in (behind_some (codes "\r\nlive/") number b d third)

          pub none_number : behind (decimal session) d ≡ None → payload_at session frame ≡ None
          none_number e = at_number ∙ ap bulk_in (behind_none (decimal session) (codes "\r\n") d e)

          module _ (e : Bytes) (fourth : behind (decimal session) d ≡ Some e) where
            at_end : payload_at session frame ≡ bulk_in (behind (codes "\r\n") e)
            at_end = at_number ∙ ap bulk_in (behind_some (decimal session) (codes "\r\n") d e fourth)

            pub none_end : behind (codes "\r\n") e ≡ None → payload_at session frame ≡ None
            none_end h = at_end ∙ ap bulk_in h

            module _ (f : Bytes) (fifth : behind (codes "\r\n") e ≡ Some f) where
              at_rest : payload_at session frame ≡ bulk_in (Some f)
              at_rest = at_end ∙ ap bulk_in fifth

              pub some_rest : begins_bulk f ≡ true → payload_at session frame ≡ Some f
              some_rest h = at_rest ∙ ap (λ (t : Bool). if t then Some f else None) h

              pub none_rest : begins_bulk f ≡ false → payload_at session frame ≡ None
              none_rest h = at_rest ∙ ap (λ (t : Bool). if t then Some f else None) h

-- the payload is the end of the frame

bulk_is : (o : Option Bytes) (payload : Bytes) → bulk_in o ≡ Some payload → o ≡ Some payload
bulk_is None payload e = absurd (cc e)
bulk_is (Some rest) payload e = by (begins_bulk rest) e
  where
    by : (t : Bool) → (if t then Some rest else None) ≡ Some payload → Some rest ≡ Some payload
    by true f = f
    by false f = absurd (cc f)

pub payload_last : (session : ℕ) (frame payload : Bytes) → payload_at session frame ≡ Some payload
    → frame ≡ frame_text (head_pieces session) ++ payload
payload_last session frame payload e =
    let head = frame_text (head_pieces session) in front_is head frame payload (bulk_is (behind head frame) payload e)

pub payload_bulk : (session : ℕ) (frame payload : Bytes) → payload_at session frame ≡ Some payload → begins_bulk payload ≡ true
payload_bulk session frame payload e = begun (behind (frame_text (head_pieces session)) frame) payload e
  where
    begun : (o : Option Bytes) (p : Bytes) → bulk_in o ≡ Some p → begins_bulk p ≡ true
    begun None p e = absurd (cc e)
    begun (Some rest) p e = by (begins_bulk rest) refl e
      where
        by : (t : Bool) → begins_bulk rest ≡ t → (if t then Some rest else None) ≡ Some p → begins_bulk p ≡ true
        by true b f = let is : rest ≡ p = cc f in ap begins_bulk (sym is) ∙ b
        by false b f = absurd (cc f)

drop_front : (a rest : Bytes) → drop (length a) (a ++ rest) ≡ rest
drop_front [] rest = refl
drop_front (x ∷ a) rest = drop_front a rest

pub shown_last : (session : ℕ) (frame payload : Bytes) → payload_at session frame ≡ Some payload
    → drop (length frame - length payload) frame ≡ payload
shown_last session frame payload e =
    let head = frame_text (head_pieces session) in
    let is = payload_last session frame payload e in
    let n : length frame ≡ length head + length payload = ap length is ∙ length-append head payload in
    let k : length frame - length payload ≡ length head = omega (arith, n) in
    ap (λ (m : ℕ). drop m frame) k ∙ ap (drop (length head)) is ∙ drop_front head payload

pub payload_shorter : (session : ℕ) (frame payload : Bytes) → payload_at session frame ≡ Some payload → length payload ≤ length frame
payload_shorter session frame payload e =
    let head = frame_text (head_pieces session) in
    let is = payload_last session frame payload e in
    let n : length frame ≡ length head + length payload = ap length is ∙ length-append head payload in
    omega (arith, n)

-- what a slice has behind a beginning
pub behind_of_strip : (a bytes : Bytes) (r : Option (Bor Bytes)) → MatchOption r ((rest : Bytes) → bytes ≢ a ++ rest) (λ rest. bytes ≡ a ++ rest.now)
    → MatchOption r (behind a bytes ≡ None) (λ rest. behind a bytes ≡ Some rest.now)
behind_of_strip a bytes (Some rest) e = ap (behind a) e ∙ front_behind a rest.now
behind_of_strip a bytes None e = by (behind a bytes) refl
  where
    by : (o : Option Bytes) → behind a bytes ≡ o → behind a bytes ≡ None
    by None f = f
    by (Some rest) f = absurd (e rest (front_is a bytes rest f))
