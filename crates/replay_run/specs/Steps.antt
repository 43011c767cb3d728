-- The steps by which the calls of a stream are made.
use Rattle.std.specs.Prelude.{◌≡◌, ℕ, ◌+◌, ◌≤◌, ◌<◌, List, [], ◌++◌, length, drop, Option, Some, None, codes}
use Rattle.byte_text.specs.Names.{Bytes}
use Rattle.byte_text.specs.Streams.{stream_of, with_first}
use Rattle.resp_frames.specs.declared.faults.FeedFault.{FeedFault}
use Rattle.resp_frames.specs.declared.faults.FeedFault.TheVariants as feed
use Rattle.world_model.specs.Halls.{Hall}
use Rattle.world_model.specs.declared.events.Asked.TheVariants.{Words, Broken}
use Rattle.world_model.specs.declared.events.Event.TheVariants as event
use Rattle.replay_run.specs.declared.halts.Halt.{Halt}
use Rattle.replay_run.specs.Readers.{Unread}
use Rattle.replay_run.specs.Traces.{Deed, Trace, printing}
use Rattle.replay_run.specs.Scripts.{Makes, FedTo}
use Rattle.replay_run.specs.Undone.{Fails, WantsMemory}

-- the fault of a stream makes its call; a stream that had met one makes none
abbrev pub IsBrokenOff : Hall → ℕ → ℕ → FeedFault → Trace → Hall → Type 0
IsBrokenOff h n m (feed.Broken fault) t next = Makes h (event.Call n m (Broken fault)) t next
IsBrokenOff h n m feed.Dead t next = (t ≡ printing (codes "dead\n")) × (next ≡ h)
IsBrokenOff h n m feed.Memory t next = ⊥

-- that call ends the script, or memory wants
abbrev pub BreakingFails : Halt → Hall → ℕ → ℕ → FeedFault → List Deed → Hall → Type 0
BreakingFails halt h n m (feed.Broken fault) deeds last = Fails halt h (event.Call n m (Broken fault)) deeds last
BreakingFails halt h n m feed.Dead deeds last = WantsMemory halt h deeds last
BreakingFails halt h n m feed.Memory deeds last = WantsMemory halt h deeds last

-- so many of the bytes end a request: its call is made, and the stream goes on with the others, which are less than there was
pub record IsFirst (h : Hall) (n m : ℕ) (rest bytes : Bytes) (t : Trace) (next : Hall) (unread : Unread) (taken : ℕ) : Type 0 where
  pub words : List Bytes
  pub first : stream_of (rest ++ bytes) ≡ with_first words (stream_of (drop taken bytes))
  pub made : Makes h (event.Call n m (Words words)) t next
  pub read : unread ≡ Some []
  pub within : taken ≤ length bytes
  pub less : length (drop taken bytes) < length rest + length bytes

-- what comes of the first request of the bytes that are fed; where none ends in them, that is all
abbrev pub IsStep : Hall → ℕ → ℕ → Unread → Bytes → Trace → Hall → Unread → Option ℕ → Type 0
IsStep h n m unread bytes t next left None = FedTo h n m unread bytes t next left
IsStep h n m None bytes t next left (Some taken) = ⊥
IsStep h n m (Some rest) bytes t next left (Some taken) = IsFirst h n m rest bytes t next left taken
