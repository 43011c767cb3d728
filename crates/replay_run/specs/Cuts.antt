-- Where the bytes of a session are cut into lines makes no difference.
use Rattle.std.specs.Prelude.{◌≡◌, ℕ, Bool, ◌++◌, Some}
use Rattle.byte_text.specs.Names.{Bytes}
use Rattle.script_text.specs.declared.lines.ScriptLine.TheVariants as says
use Rattle.replay_run.specs.declared.readers.Reader.{Reader}
use Rattle.replay_run.specs.Played.{Played}
use Rattle.replay_run.specs.Readers.{reader_of}
use Rattle.replay_run.specs.Traces.{Trace, joined}
use Rattle.replay_run.specs.Scripts.{Acts}

-- the session has a reader, and its protocol is not broken
pub record IsRead (n : ℕ) (p : Played) : Type 0 where
  pub reader : Reader
  pub found : reader_of n p.readers ≡ Some reader
  pub rest : Bytes
  pub unbroken : reader.unread ≡ Some rest

-- two feeds one behind another do, and print, what one feed of all their bytes does, where the first left the protocol unbroken
abbrev pub CutAnywhere : Type 0
CutAnywhere = (told : Bool) (p mid next : Played) (n m : ℕ) (first second : Bytes) (t more : Trace)
    → Acts told p (says.Feed n m first) t mid → IsRead n mid → Acts told mid (says.Feed n m second) more next
    → Acts told p (says.Feed n m (first ++ second)) (joined t more) next
