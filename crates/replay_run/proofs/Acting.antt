-- What one line does to the hall and to the readers.
use Rattle.std.proofs.Common.{◌≡◌, ℕ, sym, ap, ◌∙◌, subst, List}
use Rattle.std.specs.Prelude.{Option, slice_set}
use Rattle.byte_text.specs.Names.{Bytes}
use Rattle.world_model.specs.Halls.{Hall}
use Rattle.replay_run.specs.declared.halts.Halt.{Halt}
use Rattle.replay_run.specs.declared.readers.Reader.{Reader}
use Rattle.replay_run.specs.Readers.{reader_of}
use Rattle.replay_run.specs.Played.{Played}
use Rattle.replay_run.specs.Traces.{Deed, Trace}
use Rattle.replay_run.specs.Scripts.{FedTo, Feeds}
use Rattle.replay_run.specs.Undone.{FedFails, FeedsFails}
use Rattle.replay_run.proofs.Present.{IsAt}

-- a session's reader was fed
pub fed_at : (p : Played) (n m : ℕ) (bytes : Bytes) (i : ℕ) (old new : Reader) (t : Trace) (next : Hall) (at : IsAt p.readers n i) → old ≡ at.reader → new.session ≡ old.session
    → FedTo p.hall old.session m old.unread bytes t next new.unread → Feeds p n m bytes (reader_of n p.readers) t (record { hall = next; readers = slice_set p.readers i new })
fed_at p n m bytes i old new t next at is same f =
    let after : Played = record { hall = next; readers = slice_set p.readers i new } in
    let read : FedTo p.hall at.reader.session m at.reader.unread bytes t next new.unread = subst (λ (q : Reader). FedTo p.hall q.session m q.unread bytes t next new.unread) is f in
    let fed : FedTo p.hall n m at.reader.unread bytes t next new.unread = subst (λ (k : ℕ). FedTo p.hall k m at.reader.unread bytes t next new.unread) at.numbered read in
    let session : new.session ≡ at.reader.session = same ∙ ap (λ (q : Reader). q.session) is in
    let changed : new ≡ record at.reader { unread = new.unread } = ap (λ (k : ℕ). record new { session = k }) session in
    let set : slice_set p.readers i new ≡ slice_set p.readers i (record at.reader { unread = new.unread }) = ap (λ (q : Reader). slice_set p.readers i q) changed in
    subst (λ (o : Option Reader). Feeds p n m bytes o t after) (sym at.found) (new.unread, fed, set ∙ sym (at.changes new.unread))

-- a call that a session's reader brought ended the script
pub fails_at : (p : Played) (n m : ℕ) (bytes : Bytes) (i : ℕ) (old : Reader) (halt : Halt) (deeds : List Deed) (last : Hall) (at : IsAt p.readers n i) → old ≡ at.reader
    → FedFails halt p.hall old.session m old.unread bytes deeds last → FeedsFails halt p.hall n m bytes (reader_of n p.readers) deeds last
fails_at p n m bytes i old halt deeds last at is s =
    let read : FedFails halt p.hall at.reader.session m at.reader.unread bytes deeds last = subst (λ (q : Reader). FedFails halt p.hall q.session m q.unread bytes deeds last) is s in
    let numbered : FedFails halt p.hall n m at.reader.unread bytes deeds last = subst (λ (k : ℕ). FedFails halt p.hall k m at.reader.unread bytes deeds last) at.numbered read in
    subst (λ (o : Option Reader). FeedsFails halt p.hall n m bytes o deeds last) (sym at.found) numbered
