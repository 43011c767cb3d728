-- Frames that are taken and written: nothing is written twice, nothing is lost, and all stays in order, however the link cuts it.
use Rattle.std.specs.Prelude.{◌≡◌, [], ◌++◌, Option, Some, None, IfSome, ℕ, take, drop}
use Rattle.std.proofs.Common.{refl, sym, ap, ◌∙◌, append_assoc, take-append-drop}
use Rattle.std.proofs.lemmas.List.{append-nil}
use Rattle.std.specs.Io.KnownBytes.{append_known, Appends, Keeps}
use Rattle.outside.specs.Writing.{AppendsPart}
use Rattle.byte_text.specs.Names.{Bytes}

-- what is still to be written is known where the link tells what it holds; these were written, and the rest is to be
pub owed_sent : (held held' : Option Bytes) (out : Bytes) (n : ℕ) → Appends held held' (take n out)
    → Keeps (append_known held out) (append_known held' (drop n out))
owed_sent None held' out n a = tt
owed_sent (Some xs) None out n a = absurd a
owed_sent (Some xs) (Some ys) out n a = ap (λ (l : Bytes). l ++ drop n out) a ∙ append_assoc xs (take n out) (drop n out)
    ∙ ap (λ (l : Bytes). xs ++ l) (take-append-drop n out)

pub owed_same : (held : Option Bytes) (out : Bytes) → Keeps (append_known held out) (append_known held out)
owed_same None out = tt
owed_same (Some xs) out = refl

pub owed_taken : (held : Option Bytes) (out more : Bytes) → Appends (append_known held out) (append_known held (out ++ more)) more
owed_taken None out more = tt
owed_taken (Some xs) out more = sym (append_assoc xs out more)

-- at the end of a link to which nothing was written before: what it was written is a first part of what was given, and all of it where
-- nothing is left to be written
pub owed_part : (first held : Option Bytes) (out given : Bytes) → IfSome first (λ bytes. bytes ≡ [])
    → Appends first (append_known held out) given → AppendsPart first held given
owed_part None held out given new a = ([], (given, refl), tt)
owed_part (Some xs) None out given new a = absurd a
owed_part (Some xs) (Some ys) out given new a = (
  ys,
  (out, a ∙ ap (λ (l : Bytes). l ++ given) new),
  sym (ap (λ (l : Bytes). l ++ ys) new),
)

pub owed_all : (first held : Option Bytes) (given : Bytes) → Appends first (append_known held []) given → Appends first held given
owed_all None held given a = tt
owed_all (Some xs) None given a = absurd a
owed_all (Some xs) (Some ys) given a = sym (append-nil ys) ∙ a
