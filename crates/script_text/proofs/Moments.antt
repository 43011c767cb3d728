-- What a line says names no moment behind the last one.
use Rattle.std.proofs.Common.{◌≡◌, ◌≤◌, ℕ, Bool, true, false, refl, subst, List, [], ◌∷◌, arith}
use Rattle.std.specs.Prelude.{Option, Some, None, Result, Ok, Err, IfOk, ◌&&◌, nat_le, nat_lt, if◌then◌else◌, option_map, option_and_then, codes, length}
use Rattle.std.proofs.lemmas.Bool.Decides.{nat_tests}
use Rattle.byte_text.specs.Names.{Bytes, same}
use Rattle.byte_text.specs.Numbers.{natural}
use Rattle.script_text.specs.Words.{words}
use Rattle.script_text.specs.Lines.{max_line, max_moment, session, moment, piece, line_of_words, is_silent, line, IsAnswer, KeepsMoment}
use Rattle.script_text.specs.declared.lines.ScriptLine.{ScriptLine}
use Rattle.script_text.specs.declared.lines.ScriptLine.TheVariants.{Nothing, Enter, Feed, Take, Tick, Close, Step, Reopen}
use Rattle.script_text.specs.declared.lines.LineFault.{LineFault}

-- a line that is said, if any, keeps its moment
abbrev IsKept : Option ScriptLine → Type 0
IsKept None = Unit {0}
IsKept (Some l) = KeepsMoment l

within_last : (o : Option ℕ) (m : ℕ) → option_and_then (λ n. if nat_le 0 n && nat_le n max_moment then Some n else None) o ≡ Some m → m ≤ max_moment
within_last None m e = absurd cc
within_last (Some n) m e = by (nat_le 0 n && nat_le n max_moment) refl e
  where
    by : (b : Bool) → (nat_le 0 n && nat_le n max_moment) ≡ b → (if b then Some n else None) ≡ Some m → m ≤ max_moment
    by true t is = let same_one : n ≡ m = cc in let low : n ≤ max_moment = grind (arith, nat_tests) in subst (λ (k : ℕ). k ≤ max_moment) same_one low
    by false t is = absurd cc

moment_kept : (w : Bytes) (m : ℕ) → moment w ≡ Some m → m ≤ max_moment
moment_kept w m e = within_last (natural w) m e

tick_kept : (o : Option ℕ) → ((m : ℕ) → o ≡ Some m → m ≤ max_moment) → IsKept (option_map Tick o)
tick_kept None h = tt
tick_kept (Some m) h = h m refl

take_kept : (o : Option ℕ) → IsKept (option_map Take o)
take_kept None = tt
take_kept (Some n) = tt

close_kept : (o : Option ℕ) → IsKept (option_map Close o)
close_kept None = tt
close_kept (Some n) = tt

text_kept : (n m : ℕ) (o : Option Bytes) → m ≤ max_moment → IsKept (option_map (λ text. Feed n m text) o)
text_kept n m None h = tt
text_kept n m (Some text) h = h

at_kept : (n : ℕ) (o : Option ℕ) (p : Option Bytes) → ((m : ℕ) → o ≡ Some m → m ≤ max_moment) → IsKept (option_and_then (λ m. option_map (λ text. Feed n m text) p) o)
at_kept n None p h = tt
at_kept n (Some m) p h = text_kept n m p (h m refl)

feed_kept : (s o : Option ℕ) (p : Option Bytes) → ((m : ℕ) → o ≡ Some m → m ≤ max_moment) → IsKept (option_and_then (λ n. option_and_then (λ m. option_map (λ text. Feed n m text) p) o) s)
feed_kept None o p h = tt
feed_kept (Some n) o p h = at_kept n o p h

if_kept : (b : Bool) (l o : Option ScriptLine) → IsKept l → IsKept o → IsKept (if b then l else o)
if_kept true l o h k = h
if_kept false l o h k = k

words_kept : (ws : List Bytes) → IsKept (line_of_words ws)
words_kept [] = tt
words_kept (name ∷ []) = if_kept (same name (codes "open")) (Some Enter) _ tt (if_kept (same name (codes "step")) (Some Step) _ tt (if_kept (same name (codes "reopen")) (Some Reopen) None tt tt))
words_kept (name ∷ number ∷ []) = if_kept (same name (codes "take")) _ _ (take_kept (session number)) (
    if_kept (same name (codes "tick")) _ _ (tick_kept (moment number) (moment_kept number)) (if_kept (same name (codes "close")) _ None (close_kept (session number)) tt))
words_kept (name ∷ number ∷ at ∷ []) = tt
words_kept (name ∷ number ∷ at ∷ bytes ∷ []) = if_kept (same name (codes "feed")) _ None (feed_kept (session number) (moment at) (piece bytes) (moment_kept at)) tt
words_kept (name ∷ number ∷ at ∷ bytes ∷ more ∷ others) = tt

line_kept : (bytes : Bytes) → IsKept (line bytes)
unfolding line
line_kept bytes = if_kept (nat_lt max_line (length bytes)) None _ tt (if_kept (is_silent bytes) (Some Nothing) _ tt (words_kept (words bytes)))

pub answer_kept : (bytes : Bytes) (r : Result ScriptLine LineFault) → IsAnswer (line bytes) r → IfOk r KeepsMoment
answer_kept bytes (Ok l) is = subst IsKept is (line_kept bytes)
answer_kept bytes (Err f) is = tt
