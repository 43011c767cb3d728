-- Subscriptions of a session, in the order of subscribing.
use Rattle.std.specs.Prelude.{ℕ, Bool, true, false, not, ◌&&◌, List, [], ◌∷◌, ◌++◌, length, if◌then◌else◌}
use Rattle.std.specs.List.{list_any}
use Rattle.byte_text.specs.Names.{Bytes, same}

-- a subscription: to a name, or to the names that meet a pattern
pub record Sub : Type 0 where
  pub pattern : Bool
  pub word : Bytes

-- a name and a pattern of one text are two subscriptions
abbrev pub same_sub : Sub → Sub → Bool
same_sub s t = same s.word t.word && (if s.pattern then t.pattern else not t.pattern)

-- the subscriptions with one more at the end, where it is not held
abbrev pub with_sub : List Sub → Sub → List Sub
with_sub held s = if list_any (same_sub s) held then held else held ++ s ∷ []

abbrev pub with_subs : List Sub → List Sub → List Sub
with_subs held [] = held
with_subs held (s ∷ subs) = with_subs (with_sub held s) subs

-- how many are held after each of them
abbrev pub counts_with : List Sub → List Sub → List ℕ
counts_with held [] = []
counts_with held (s ∷ subs) = length (with_sub held s) ∷ counts_with (with_sub held s) subs

abbrev pub has_subs : List Sub → Bool
has_subs [] = false
has_subs (s ∷ subs) = true
