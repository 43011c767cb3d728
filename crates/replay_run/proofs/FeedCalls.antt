-- Calls of the bytes that come to a reader, over a disk.
use Rattle.std.proofs.Common.{◌≡◌, ℕ, Bool, false, refl, sym, ap, subst, List, [], ◌++◌, drop}
use Rattle.std.specs.Prelude.{Option, Some, None, Result, Ok, Err, IfOk, IfErr, codes, slice_set}
use Rattle.std.proofs.lemmas.List.{append-nil}
use Rattle.byte_text.specs.Names.{Bytes}
use Rattle.resp_frames.specs.declared.faults.FeedFault.{FeedFault}
use Rattle.resp_frames.specs.declared.faults.FeedFault.TheVariants as feed
use Rattle.byte_text.specs.declared.faults.RespFault.{RespFault}
use Rattle.outside.specs.Sides.{Sides}
use Rattle.world_model.specs.Halls.{Hall}
use Rattle.world_model.specs.declared.events.Asked.TheVariants.{Broken}
use Rattle.world_model.specs.declared.events.Event.TheVariants as event
use Rattle.durable_core.specs.Logged.{hall_of}
use Rattle.durable_core.specs.declared.cores.DurableCore.{DurableCore}
use Rattle.replay_run.specs.declared.halts.Halt.{Halt}
use Rattle.replay_run.specs.declared.halts.Halt.TheVariants as halted
use Rattle.replay_run.specs.declared.readers.Reader.{Reader}
use Rattle.replay_run.specs.Readers.{Unread, reader_of}
use Rattle.replay_run.specs.Traces.{Deed, Trace, trace, printing}
use Rattle.replay_run.specs.Scripts.{Makes, FedTo, Feeds}
use Rattle.replay_run.specs.Undone.{Fails, WantsMemory, FedFails, FeedsFails}
use Rattle.replay_run.specs.Steps.{IsBrokenOff, BreakingFails, IsStep}
use Rattle.replay_run.specs.Standing.{Comes}
use Rattle.replay_run.proofs.Present.{IsAt}
use Rattle.replay_run.proofs.Feeding.{Goes, goes_more, wants_fed, made_fed}
use Rattle.replay_run.proofs.Acting.{fed_at, fails_at}
use Rattle.replay_run.proofs.Calling.{comes_as, comes_still}

-- what was made so far, and then a step behind which memory wants
pub lost_step : (old : Hall) (n m : ℕ) (unread : Unread) (bytes : Bytes) (h mid : Hall) (left new : Unread) (rest : Bytes) (t u : Trace) (taken : Option ℕ)
    → Goes old n m unread bytes h left rest t → IsStep h n m left rest u mid new taken → FedFails halted.Memory old n m unread bytes (t.deeds ++ u.deeds) mid
lost_step old n m unread bytes h mid left new rest t u None g s = g.fails halted.Memory u.deeds mid (made_fed h mid n m left new rest u s)
lost_step old n m unread bytes h mid left new rest t u (Some taken) g s =
    let more = goes_more old n m unread bytes h mid left new rest t u taken g s in
    subst (λ (z : List Deed). FedFails halted.Memory old n m unread bytes z mid) (append-nil (t.deeds ++ u.deeds))
    (more.fails halted.Memory [] mid (wants_fed halted.Memory mid mid n m new (drop taken rest) [] (refl, refl, refl)))

module _ {D : Type 0} (crashes : D → Bool) (seen : D → Option Sides) (images : D → Sides → Type 0) (moment : D → ℕ) (left_since : D → ℕ → Sides → Type 0) (faults : D → ℕ) where
  pub broken_comes : (old new : DurableCore D) (n m : ℕ) (fault : FeedFault) (f : RespFault) (r : Result Bytes Halt) → fault ≡ feed.Broken f
      → Comes crashes seen images moment left_since faults old new (λ out deeds. Makes (hall_of old) (event.Call n m (Broken f)) (trace deeds out) (hall_of new)) (λ halt deeds. Fails halt (hall_of old) (event.Call n m (Broken f)) deeds (hall_of new)) r
      → Comes crashes seen images moment left_since faults old new (λ out deeds. IsBrokenOff (hall_of old) n m fault (trace deeds out) (hall_of new)) (λ halt deeds. BreakingFails halt (hall_of old) n m fault deeds (hall_of new)) r
  broken_comes old new n m fault f r is c =
      subst (λ (z : FeedFault). Comes crashes seen images moment left_since faults old new (λ out deeds. IsBrokenOff (hall_of old) n m z (trace deeds out) (hall_of new)) (λ halt deeds. BreakingFails halt (hall_of old) n m z deeds (hall_of new)) r) (sym is) c

  dead_by : (core : DurableCore D) (n m : ℕ) (r : Result Bytes Halt) → IfOk r (λ t. t ≡ codes "dead\n") → IfOk r (λ out. IsBrokenOff (hall_of core) n m feed.Dead (trace [] out) (hall_of core))
  dead_by core n m (Ok t) is = (ap printing is, refl)
  dead_by core n m (Err halt) is = tt

  pub wants_by : {T : Type 0} (core : DurableCore D) (Q : Halt → List Deed → Type 0) (r : Result T Halt) → Q halted.Memory [] → IfErr r (λ halt. halt ≡ halted.Memory) → IfErr r (λ halt. (halt ≡ halted.Memory) × Q halted.Memory [])
  wants_by core Q (Ok t) w is = tt
  wants_by core Q (Err halt) w is = (is, w)

  pub dead_comes : (core : DurableCore D) (n m : ℕ) (fault : FeedFault) (r : Result Bytes Halt) → fault ≡ feed.Dead → (hall_of core).stopped ≡ false → IfOk r (λ t. t ≡ codes "dead\n") → IfErr r (λ halt. halt ≡ halted.Memory)
      → Comes crashes seen images moment left_since faults core core (λ out deeds. IsBrokenOff (hall_of core) n m fault (trace deeds out) (hall_of core)) (λ halt deeds. BreakingFails halt (hall_of core) n m fault deeds (hall_of core)) r
  dead_comes core n m fault r is goes text memory =
      subst (λ (z : FeedFault). Comes crashes seen images moment left_since faults core core (λ out deeds. IsBrokenOff (hall_of core) n m z (trace deeds out) (hall_of core)) (λ halt deeds. BreakingFails halt (hall_of core) n m z deeds (hall_of core)) r) (sym is)
      (comes_still crashes seen images moment left_since faults core (λ out deeds. IsBrokenOff (hall_of core) n m feed.Dead (trace deeds out) (hall_of core)) (λ halt deeds. BreakingFails halt (hall_of core) n m feed.Dead deeds (hall_of core)) r goes (dead_by core n m r text) (wants_by core (λ halt deeds. WantsMemory halt (hall_of core) deeds (hall_of core)) r (refl, refl, refl) memory))

  pub unfed_comes : (core : DurableCore D) (n m : ℕ) (fault : FeedFault) → fault ≡ feed.Memory → (hall_of core).stopped ≡ false
      → Comes crashes seen images moment left_since faults core core (λ out deeds. IsBrokenOff (hall_of core) n m fault (trace deeds out) (hall_of core)) (λ halt deeds. BreakingFails halt (hall_of core) n m fault deeds (hall_of core)) (Err halted.Memory)
  unfed_comes core n m fault is goes =
      subst (λ (z : FeedFault). Comes crashes seen images moment left_since faults core core (λ out deeds. IsBrokenOff (hall_of core) n m z (trace deeds out) (hall_of core)) (λ halt deeds. BreakingFails halt (hall_of core) n m z deeds (hall_of core)) (Err halted.Memory)) (sym is)
      (comes_still crashes seen images moment left_since faults core (λ out deeds. IsBrokenOff (hall_of core) n m feed.Memory (trace deeds out) (hall_of core)) (λ halt deeds. BreakingFails halt (hall_of core) n m feed.Memory deeds (hall_of core)) (Err halted.Memory) goes tt (refl, (refl, refl, refl)))

  -- the session's reader was fed
  pub fed_comes : (old new : DurableCore D) (readers : List Reader) (n m : ℕ) (bytes : Bytes) (i : ℕ) (before after : Reader) (r : Result Bytes Halt) (at : IsAt readers n i) → before ≡ at.reader → after.session ≡ before.session
      → Comes crashes seen images moment left_since faults old new (λ out deeds. FedTo (hall_of old) before.session m before.unread bytes (trace deeds out) (hall_of new) after.unread) (λ halt deeds. FedFails halt (hall_of old) before.session m before.unread bytes deeds (hall_of new)) r
      → Comes crashes seen images moment left_since faults old new
      (λ out deeds. Feeds (record { hall = hall_of old; readers = readers }) n m bytes (reader_of n readers) (trace deeds out) (record { hall = hall_of new; readers = slice_set readers i after }))
      (λ halt deeds. FeedsFails halt (hall_of old) n m bytes (reader_of n readers) deeds (hall_of new)) r
  fed_comes old new readers n m bytes i before after r at is same c =
      comes_as crashes seen images moment left_since faults old new (λ out deeds. FedTo (hall_of old) before.session m before.unread bytes (trace deeds out) (hall_of new) after.unread)
      (λ out deeds. Feeds (record { hall = hall_of old; readers = readers }) n m bytes (reader_of n readers) (trace deeds out) (record { hall = hall_of new; readers = slice_set readers i after }))
      (λ halt deeds. FedFails halt (hall_of old) before.session m before.unread bytes deeds (hall_of new)) (λ halt deeds. FeedsFails halt (hall_of old) n m bytes (reader_of n readers) deeds (hall_of new)) r c
      (λ out deeds fed. fed_at (record { hall = hall_of old; readers = readers }) n m bytes i before after (trace deeds out) (hall_of new) at is same fed)
      (λ halt deeds fails. fails_at (record { hall = hall_of old; readers = readers }) n m bytes i before halt deeds (hall_of new) at is fails)

  none_by : (core : DurableCore D) (readers : List Reader) (n m : ℕ) (bytes : Bytes) (r : Result Bytes Halt) → IfOk r (λ t. t ≡ codes "gone\n") → IfOk r (λ out. Feeds (record { hall = hall_of core; readers = readers }) n m bytes None (trace [] out) (record { hall = hall_of core; readers = readers }))
  none_by core readers n m bytes (Ok t) is = (ap printing is, refl)
  none_by core readers n m bytes (Err halt) is = tt

  -- no session has the reader
  pub gone_comes : (core : DurableCore D) (readers : List Reader) (n m : ℕ) (bytes : Bytes) (r : Result Bytes Halt) → reader_of n readers ≡ None → (hall_of core).stopped ≡ false → IfOk r (λ t. t ≡ codes "gone\n") → IfErr r (λ halt. halt ≡ halted.Memory)
      → Comes crashes seen images moment left_since faults core core
      (λ out deeds. Feeds (record { hall = hall_of core; readers = readers }) n m bytes (reader_of n readers) (trace deeds out) (record { hall = hall_of core; readers = readers }))
      (λ halt deeds. FeedsFails halt (hall_of core) n m bytes (reader_of n readers) deeds (hall_of core)) r
  gone_comes core readers n m bytes r none goes text memory =
      subst (λ (z : Option Reader). Comes crashes seen images moment left_since faults core core
      (λ out deeds. Feeds (record { hall = hall_of core; readers = readers }) n m bytes z (trace deeds out) (record { hall = hall_of core; readers = readers }))
      (λ halt deeds. FeedsFails halt (hall_of core) n m bytes z deeds (hall_of core)) r) (sym none)
      (comes_still crashes seen images moment left_since faults core (λ out deeds. Feeds (record { hall = hall_of core; readers = readers }) n m bytes None (trace deeds out) (record { hall = hall_of core; readers = readers }))
      (λ halt deeds. FeedsFails halt (hall_of core) n m bytes None deeds (hall_of core)) r goes (none_by core readers n m bytes r text) (wants_by core (λ halt deeds. WantsMemory halt (hall_of core) deeds (hall_of core)) r (refl, refl, refl) memory))
