-- The reading of a line byte by byte, where the source tells what it has left.
use Rattle.std.proofs.Common.{◌≡◌, ◌≢◌, ℕ, ◌+◌, ◌<◌, ◌≤◌, Bool, true, false, List, [], ◌∷◌, ◌++◌, length, Some, None, refl, sym, ap, ◌∙◌, subst, arith, length-append, append_assoc, not}
use Rattle.std.specs.List.{list_all}
use Rattle.std.proofs.lemmas.List.{append-nil}
use Rattle.std.specs.Prelude.{Option, if◌then◌else◌, ◌==◌}
use Rattle.std.proofs.lemmas.Bool.Decides.{nat_tests}
use Rattle.std.specs.Io.KnownBytes.{Consumes, Keeps, IsAtEnd}
use Rattle.replay_run.specs.declared.streams.LineEnd.TheVariants.{Line, End, TooLong}
use Rattle.replay_run.specs.TextLines.{TextLine, in_front, lines, size, max_script}
use Rattle.script_text.specs.Lines.{max_line}
use Rattle.replay_run.specs.Reads.{OnLine, IsFirstLine, IsOneLine}

-- the lines with these bytes in front of the first
abbrev pub all_in_front : List ℕ → List TextLine → List TextLine
all_in_front [] ls = ls
all_in_front (b ∷ bytes) ls = in_front b (all_in_front bytes ls)

one_more : (line : List ℕ) (x : ℕ) (ls : List TextLine) → all_in_front line (in_front x ls) ≡ all_in_front (line ++ x ∷ []) ls
one_more [] x ls = refl
one_more (b ∷ line) x ls = ap (in_front b) (one_more line x ls)

-- a line feed ends the line
at_feed : (line : List ℕ) (ls : List TextLine) → all_in_front line (record { bytes = []; is_ended = true } ∷ ls) ≡ record { bytes = line; is_ended = true } ∷ ls
at_feed [] ls = refl
at_feed (b ∷ line) ls = ap (in_front b) (at_feed line ls)

-- the end of the text ends the line, if it has a byte
at_end : (b : ℕ) (line : List ℕ) → all_in_front (b ∷ line) [] ≡ record { bytes = b ∷ line; is_ended = false } ∷ []
at_end b [] = refl
at_end b (c ∷ line) = ap (in_front b) (at_end c line)

feed_line : (x : ℕ) (rest : List ℕ) → x ≡ 10 → lines (x ∷ rest) ≡ record { bytes = []; is_ended = true } ∷ lines rest
feed_line x rest is = subst (λ (y : ℕ). lines (y ∷ rest) ≡ record { bytes = []; is_ended = true } ∷ lines rest) (sym is) refl

plain_line : (x : ℕ) (rest : List ℕ) → x ≢ 10 → lines (x ∷ rest) ≡ in_front x (lines rest)
plain_line x rest ne = let no : (x == 10) ≡ false = grind (arith, nat_tests) in ap (λ (b : Bool). if b then record { bytes = []; is_ended = true } ∷ lines rest else in_front x (lines rest)) no

-- these bytes of the first line were read
abbrev pub Reads : Option (List ℕ) → Option (List ℕ) → List ℕ → Type 0
Reads None left line = Unit {0}
Reads (Some text) None line = ⊥
Reads (Some text) (Some rest) line = lines text ≡ all_in_front line (lines rest)

pub reads_start : (old : Option (List ℕ)) → Reads old old []
reads_start None = tt
reads_start (Some text) = refl

pub reads_more : (old mid new : Option (List ℕ)) (line : List ℕ) (x : ℕ) → x ≢ 10 → Reads old mid line → Consumes mid new (x ∷ []) → Reads old new (line ++ x ∷ [])
reads_more None mid new line x ne r c = tt
reads_more (Some text) None new line x ne r c = absurd r
reads_more (Some text) (Some rest) None line x ne r c = absurd c
reads_more (Some text) (Some rest) (Some left) line x ne r c = r ∙ ap (λ (z : List ℕ). all_in_front line (lines z)) c ∙ ap (all_in_front line) (plain_line x left ne) ∙ one_more line x (lines left)

pub reads_line : (old mid new : Option (List ℕ)) (used : ℕ) (line : List ℕ) (x : ℕ) → x ≡ 10 → length line ≤ max_line → used + length line + 1 ≤ max_script → Reads old mid line → Consumes mid new (x ∷ []) → OnLine Line old new used (used + length line + 1) line
reads_line old mid new used line x is le few r c = (record { bytes = line; is_ended = true }, first old mid new r c, refl, omega arith, record { in_line = le; in_script = omega arith })
  where
    first : (old mid new : Option (List ℕ)) → Reads old mid line → Consumes mid new (x ∷ []) → IsFirstLine old new (record { bytes = line; is_ended = true })
    first None mid new r c = tt
    first (Some text) None new r c = absurd r
    first (Some text) (Some rest) None r c = absurd c
    first (Some text) (Some rest) (Some left) r c = r ∙ ap (λ (z : List ℕ). all_in_front line (lines z)) c ∙ ap (all_in_front line) (feed_line x left is) ∙ at_feed line (lines left)

last_line : (line : List ℕ) → 0 < length line → all_in_front line [] ≡ record { bytes = line; is_ended = false } ∷ []
last_line [] h = absurd (omega (arith, h))
last_line (x ∷ xs) h = at_end x xs

pub reads_last : (old mid new : Option (List ℕ)) (used : ℕ) (line : List ℕ) → 0 < length line → length line ≤ max_line → used + length line ≤ max_script → Reads old mid line → IsAtEnd new → Keeps mid new → OnLine Line old new used (used + length line) line
reads_last old mid new used line h le few r e k = (record { bytes = line; is_ended = false }, first old mid new r e k, refl, omega arith, record { in_line = le; in_script = omega arith })
  where
    first : (old mid new : Option (List ℕ)) → Reads old mid line → IsAtEnd new → Keeps mid new → IsFirstLine old new (record { bytes = line; is_ended = false })
    first None mid new r e k = tt
    first (Some text) None new r e k = absurd r
    first (Some text) (Some rest) None r e k = absurd k
    first (Some text) (Some rest) (Some left) r e k =
        r ∙ ap (λ (z : List ℕ). all_in_front line (lines z)) (sym k ∙ e) ∙ last_line line h ∙ ap (λ (z : List ℕ). record { bytes = line; is_ended = false } ∷ lines z) (sym e)

nil_is : (line : List ℕ) → length line ≡ 0 → line ≡ []
nil_is [] h = refl
nil_is (x ∷ xs) h = absurd (omega (arith, h))

pub reads_end : (old mid new : Option (List ℕ)) (used now : ℕ) (line more : List ℕ) → length line ≡ 0 → Reads old mid line → IsAtEnd new → Keeps mid new → OnLine End old new used now more
reads_end None mid new used now line more h r e k = tt
reads_end (Some text) None new used now line more h r e k = absurd r
reads_end (Some text) (Some rest) None used now line more h r e k = absurd k
reads_end (Some text) (Some rest) (Some left) used now line more h r e k = (r ∙ ap (λ (z : List ℕ). all_in_front line (lines z)) (sym k ∙ e) ∙ ap (λ (z : List ℕ). all_in_front z []) (nil_is line h), e)

-- the first line has the bytes that were read
first_of : (line : List ℕ) (ls : List TextLine) → 0 < length line → (l : TextLine) × (behind : List TextLine) × (all_in_front line ls ≡ l ∷ behind) × (length line ≤ length l.bytes)
first_of [] ls h = absurd (omega (arith, h))
first_of (b ∷ []) [] h = (record { bytes = b ∷ []; is_ended = false }, [], refl, omega arith)
first_of (b ∷ []) (l ∷ ls) h = (record l { bytes = b ∷ l.bytes }, ls, refl, omega arith)
first_of (b ∷ c ∷ line) ls h =
    let f = first_of (c ∷ line) ls (omega arith) in
    let l : length (c ∷ line) ≤ length f.0.bytes = f.3 in
    (record f.0 { bytes = b ∷ f.0.bytes }, f.1, ap (in_front b) f.2, omega (arith, l))

-- and it is longer where one more byte was read
longer : (line : List ℕ) (x : ℕ) (rest : List ℕ) → (l : TextLine) × (behind : List TextLine) × (all_in_front line (lines (x ∷ rest)) ≡ l ∷ behind) × (length line + 1 ≤ size l)
longer line x rest = by (x == 10) (grind (arith, nat_tests)) (grind (arith, nat_tests))
  where
    by : (b : Bool) → (b ≡ true → x ≡ 10) → (b ≡ false → x ≢ 10) → (l : TextLine) × (behind : List TextLine) × (all_in_front line (lines (x ∷ rest)) ≡ l ∷ behind) × (length line + 1 ≤ size l)
    by true is ne = (record { bytes = line; is_ended = true }, lines rest, ap (all_in_front line) (feed_line x rest (is refl)) ∙ at_feed line (lines rest), omega arith)
    by false is ne =
        let long = length-append line (x ∷ []) in
        let f = first_of (line ++ x ∷ []) (lines rest) (omega (arith, long)) in
        let l : length (line ++ x ∷ []) ≤ length f.0.bytes = f.3 in
        (f.0, f.1, ap (all_in_front line) (plain_line x rest (ne refl)) ∙ one_more line x (lines rest) ∙ f.2, omega (arith, long, l))

-- the line passes the limit of lines
pub reads_long : (old mid new : Option (List ℕ)) (used now : ℕ) (line : List ℕ) (x : ℕ) → x ≢ 10 → max_line ≤ length line → Reads old mid line → Consumes mid new (x ∷ []) → OnLine TooLong old new used now line
reads_long None mid new used now line x ne h r c = tt
reads_long (Some text) None new used now line x ne h r c = absurd r
reads_long (Some text) (Some rest) None used now line x ne h r c = absurd c
reads_long (Some text) (Some rest) (Some left) used now line x ne h r c =
    let long = length-append line (x ∷ []) in
    let f = first_of (line ++ x ∷ []) (lines left) (omega (arith, long)) in
    let l : length (line ++ x ∷ []) ≤ length f.0.bytes = f.3 in (
      f.0,
      f.1,
      r ∙ ap (λ (z : List ℕ). all_in_front line (lines z)) c ∙ ap (all_in_front line) (plain_line x left ne) ∙ one_more line x (lines left) ∙ f.2,
      λ s. let short : length f.0.bytes ≤ max_line = s.in_line in absurd (omega (arith, long, l, h, short)),
    )

-- the script passes its limit in this line
pub reads_past : (old mid new : Option (List ℕ)) (used now : ℕ) (line : List ℕ) (x : ℕ) → max_script ≤ used + length line → Reads old mid line → Consumes mid new (x ∷ []) → OnLine TooLong old new used now line
reads_past None mid new used now line x h r c = tt
reads_past (Some text) None new used now line x h r c = absurd r
reads_past (Some text) (Some rest) None used now line x h r c = absurd c
reads_past (Some text) (Some rest) (Some left) used now line x h r c =
    let f = longer line x left in
    let l : length line + 1 ≤ size f.0 = f.3 in (
      f.0,
      f.1,
      r ∙ ap (λ (z : List ℕ). all_in_front line (lines z)) c ∙ f.2,
      λ s. let short : used + size f.0 ≤ max_script = s.in_script in absurd (omega (arith, l, h, short)),
    )

-- the bytes that were read have no line feed, and what is left stands behind them
abbrev pub Plain : Option (List ℕ) → Option (List ℕ) → List ℕ → Type 0
Plain None left line = Unit {0}
Plain (Some text) None line = ⊥
Plain (Some text) (Some rest) line = (text ≡ line ++ rest) × (list_all (λ b. not (b == 10)) line ≡ true)

pub plain_start : (old : Option (List ℕ)) → Plain old old []
plain_start None = tt
plain_start (Some text) = (refl, refl)

all_behind : (p : ℕ → Bool) (line : List ℕ) (x : ℕ) → list_all p line ≡ true → p x ≡ true → list_all p (line ++ x ∷ []) ≡ true
all_behind p [] x all here = rw here refl
all_behind p (b ∷ line) x all here = let ih = all_behind p line x in grind arith

pub plain_more : (old mid new : Option (List ℕ)) (line : List ℕ) (x : ℕ) → x ≢ 10 → Plain old mid line → Consumes mid new (x ∷ []) → Plain old new (line ++ x ∷ [])
plain_more None mid new line x ne p c = tt
plain_more (Some text) None new line x ne p c = absurd p
plain_more (Some text) (Some rest) None line x ne p c = absurd c
plain_more (Some text) (Some rest) (Some left) line x ne p c =
    let no : not (x == 10) ≡ true = grind (arith, nat_tests) in
    (p.0 ∙ ap (λ (z : List ℕ). line ++ z) c ∙ sym (append_assoc line (x ∷ []) left), all_behind (λ b. not (b == 10)) line x p.1 no)

-- bytes without a line feed stand in front of the first line
front_lines : (line more : List ℕ) → list_all (λ b. not (b == 10)) line ≡ true → lines (line ++ more) ≡ all_in_front line (lines more)
front_lines [] more all = refl
front_lines (b ∷ line) more all =
    let ih = front_lines line more in
    let both : ((b == 10) ≡ false) × (list_all (λ b. not (b == 10)) line ≡ true) = (grind arith, grind arith) in
    ap (λ (t : Bool). if t then record { bytes = []; is_ended = true } ∷ lines (line ++ more) else in_front b (lines (line ++ more))) both.0 ∙ ap (in_front b) (ih both.1)

few_in_front : (b : ℕ) (ls : List TextLine) → length ls ≤ 1 → length (in_front b ls) ≤ 1
few_in_front b [] h = omega arith
few_in_front b (l ∷ ls) h = h

few_lines : (line : List ℕ) (ls : List TextLine) → length ls ≤ 1 → length (all_in_front line ls) ≤ 1
few_lines [] ls h = h
few_lines (b ∷ line) ls h = few_in_front b (all_in_front line ls) (few_lines line ls h)

one_byte : (x : ℕ) → length (lines (x ∷ [])) ≤ 1
one_byte x = by (x == 10)
  where
    by : (b : Bool) → length (if b then record { bytes = []; is_ended = true } ∷ [] else in_front x []) ≤ 1
    by true = omega arith
    by false = omega arith

-- no byte more was read
pub one_line_kept : (old mid new : Option (List ℕ)) (line : List ℕ) → Plain old mid line → Keeps mid new → IsOneLine old new
one_line_kept None mid new line p k = tt
one_line_kept (Some text) None new line p k = absurd p
one_line_kept (Some text) (Some rest) None line p k = absurd k
one_line_kept (Some text) (Some rest) (Some left) line p k =
    let none : lines line ≡ all_in_front line [] = ap lines (sym (append-nil line)) ∙ front_lines line [] p.1 in
    (line, p.0 ∙ ap (λ (z : List ℕ). line ++ z) (sym k), subst (λ (ls : List TextLine). length ls ≤ 1) (sym none) (few_lines line [] (omega arith)))

-- one byte more was read, which may end the line
pub one_line_more : (old mid new : Option (List ℕ)) (line : List ℕ) (x : ℕ) → Plain old mid line → Consumes mid new (x ∷ []) → IsOneLine old new
one_line_more None mid new line x p c = tt
one_line_more (Some text) None new line x p c = absurd p
one_line_more (Some text) (Some rest) None line x p c = absurd c
one_line_more (Some text) (Some rest) (Some left) line x p c = (
  line ++ x ∷ [],
  p.0 ∙ ap (λ (z : List ℕ). line ++ z) c ∙ sym (append_assoc line (x ∷ []) left),
  subst (λ (ls : List TextLine). length ls ≤ 1) (sym (front_lines line (x ∷ []) p.1)) (few_lines line (lines (x ∷ [])) (one_byte x)),
)
