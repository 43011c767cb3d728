-- Rows whose words do not call a command.
use Rattle.std.proofs.Common.{◌≡◌, ◌+◌, ◌<◌, ℕ, zero, suc, false, subst, sym, List, [], ◌∷◌, length, take, get_or, arith}
use Rattle.std.specs.List.{AllByRecursion}
use Rattle.std.proofs.lemmas.List.{take_more}
use Rattle.byte_text.specs.Names.{Bytes, is_word}
use Rattle.ordered_lists.specs.Reading.{each-append}
use Rattle.cmd_words.specs.CommandNames.{AreOthers, IsRow}
use Rattle.cmd_words.specs.declared.command_names.Row.{Row}

-- one more of some rows
pub others_more : (called : Bytes) (xs : List Row) (i : ℕ) (d : Row) → i < length xs → is_word called (get_or xs i d).word.now ≡ false → AreOthers called (take i xs) → AreOthers called (take (i + 1) xs)
others_more called xs i d lt e all = subst (AreOthers called) (sym (take_more xs i d lt)) (each-append (λ r. is_word called r.word.now ≡ false) (take i xs) (get_or xs i d ∷ []) all (e, tt))

-- a row of the table has the word of what it names
pub row_at : (xs : List Row) (i : ℕ) (d : Row) → i < length xs → AllByRecursion IsRow xs → IsRow (get_or xs i d)
row_at [] i d lt all = absurd (omega (arith, lt))
row_at (x ∷ xs) zero d lt all = all.0
row_at (x ∷ xs) (suc i) d lt all = row_at xs i d (omega (arith, lt)) all.1
