-- The rows of the table of commands.
use Rattle.std.specs.Prelude.{List, [], ◌∷◌, ◌++◌}
use Rattle.byte_text.specs.Names.{Bytes}
use Rattle.world_model.specs.Grammar.{Form, ◌>>=◌, ◌>>◌, done, word, once_or_more}
use Rattle.world_model.specs.Kinds.{name}
use Rattle.world_model.specs.declared.commands.Command.{Command}

-- a row of the table: what a command is called, and the form of the words behind its name
pub record Row : Type 0 where
  pub called : Bytes
  pub behind : Form Command

abbrev pub row : Bytes → Form Command → Row
row called behind = record { called = called; behind = behind }

-- the form of a row: the name in any case, and the words behind it
abbrev pub form_of : Row → Form Command
form_of r = word r.called >> r.behind

-- forms that several commands have: a key and an id, one word of a kind, one or more of them

abbrev pub of_key_and_id : (Bytes → Bytes → Command) → Form Command
of_key_and_id make = do
  key ← name
  id ← name
  done (make key id)

abbrev pub of_one : Form Bytes → (Bytes → Command) → Form Command
of_one kind make = do
  w ← kind
  done (make w)

abbrev pub of_some : Form Bytes → (List Bytes → Command) → Form Command
of_some kind make = do
  words ← once_or_more (λ read. kind >>= λ w. done (read ++ w ∷ [])) []
  done (make words)
