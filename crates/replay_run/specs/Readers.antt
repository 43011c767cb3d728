-- The sessions' readers: what of each session's stream of requests is unread, and the calls that more bytes bring.
use Rattle.std.specs.Prelude.{ℕ, ◌==◌, Bool, List, [], ◌∷◌, ◌++◌, Option, Some, None, find, map, if◌then◌else◌}
use Rattle.byte_text.specs.Names.{Bytes}
use Rattle.byte_text.specs.Streams.{Stream, StreamEnd, holds, fails}
use Rattle.world_model.specs.declared.events.Asked.{Asked}
use Rattle.world_model.specs.declared.events.Asked.TheVariants.{Words, Broken}
use Rattle.world_model.specs.declared.events.Outcome.{Outcome}
use Rattle.world_model.specs.declared.events.Outcome.TheVariants.{Entered}
use Rattle.replay_run.specs.declared.readers.Reader.{Reader}

-- the bytes of a stream that are unread: those behind its last whole request; nothing once its protocol is broken
abbrev pub Unread : Type 0
Unread = Option Bytes

abbrev pub unread_of : StreamEnd → Unread
unread_of (holds rest) = Some rest
unread_of (fails fault) = None

-- what a stream asks for: each of its requests, and at last the end that its fault brings
abbrev pub last_asked : StreamEnd → List Asked
last_asked (holds rest) = []
last_asked (fails fault) = Broken fault ∷ []

abbrev pub asked_by : Stream → List Asked
asked_by stream = map Words stream.requests ++ last_asked stream.ending

abbrev pub is_of : ℕ → Reader → Bool
is_of n r = r.session == n

-- the reader of a session
abbrev pub reader_of : ℕ → List Reader → Option Reader
reader_of n readers = find (is_of n) readers

-- the readers where this is what the session's one has unread now
abbrev pub with_unread : ℕ → Unread → List Reader → List Reader
with_unread n unread [] = []
with_unread n unread (r ∷ readers) = if is_of n r then record r { unread = unread } ∷ readers else r ∷ with_unread n unread readers

-- a session that was entered has a reader from then on, before the first byte
abbrev pub with_entered : Outcome → List Reader → List Reader
with_entered (Entered n) readers = readers ++ record { session = n; unread = Some [] } ∷ []
with_entered o readers = readers

-- a session that was closed has a reader no more
abbrev pub without_reader : ℕ → List Reader → List Reader
without_reader n [] = []
without_reader n (r ∷ readers) = if is_of n r then readers else r ∷ without_reader n readers
