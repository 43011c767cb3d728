-- Marks of names, and of subscriptions.
use Rattle.std.specs.Prelude.{◌≡◌, ℕ, ◌+◌, ◌*◌, ◌%◌, Bool, true, false, ◌||◌, List, fold, get_or, if◌then◌else◌}
use Rattle.std.specs.List.{AllByRecursion}
use Rattle.byte_text.specs.Names.{Bytes}
use Rattle.world_model.specs.Subscriptions.{Sub}
use Rattle.session_table.specs.declared.marks.TheConstants.{MARKS}

abbrev pub marks : ℕ
marks = MARKS

-- a number under 64, the same for the same bytes
abbrev pub mark_of : Bytes → ℕ
mark_of bytes = fold (λ sum b. sum % 64 * 37 + b) 0 bytes % 64

-- which marks the names have that are held, and whether a pattern is
pub record Marked : Type 0 where
  pub names : List Bool
  pub patterns : Bool

abbrev pub is_marked : Marked → Sub → Bool
is_marked m s = if s.pattern then m.patterns else get_or m.names (mark_of s.word) false

-- whether something may be held that hears a name of a mark
abbrev pub may_hear : Marked → ℕ → Bool
may_hear m mark = m.patterns || get_or m.names mark false

abbrev pub AreMarked : Marked → List Sub → Type 0
AreMarked m subs = AllByRecursion (λ s. is_marked m s ≡ true) subs
