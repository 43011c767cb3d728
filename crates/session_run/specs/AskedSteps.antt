-- What each step of a session keeps of what was asked so far.
use Rattle.std.specs.Prelude.{◌≡◌, ◌≤◌, ◌<◌, ℕ, Bool, true, List, [], ◌∷◌, ◌++◌, length, map, take, drop, Option, Some, None, Result, Ok, Err}
use Rattle.std.proofs.Common.{refl, sym, ap, ◌∙◌, subst, arith, append_assoc, length-drop, inl, inr}
use Rattle.std.proofs.lemmas.List.{append-nil, drop_all}
use Rattle.std.specs.Io.KnownBytes.{Consumes, IsAtEnd}
use Rattle.outside.specs.CauseLaws.{rose_later}
use Rattle.byte_text.specs.Names.{Bytes}
use Rattle.resp_frames.specs.RequestReader.{Held}
use Rattle.world_model.specs.Outcomes.{IsCount}
use Rattle.world_model.specs.declared.events.Asked.{Asked}
use Rattle.world_model.specs.declared.events.Asked.TheVariants as asks_for
use Rattle.world_model.specs.declared.events.CallOutcome.{CallOutcome}
use Rattle.world_model.specs.declared.events.CallOutcome.TheVariants as called
use Rattle.world_model.specs.declared.events.Outcome.{Outcome}
use Rattle.world_model.specs.declared.events.Outcome.TheVariants as outcome
use Rattle.outside.specs.Links.{LinkState, Reads, Writes}
use Rattle.outside.specs.declared.links.Got.{Got}
use Rattle.outside.specs.declared.links.Got.TheVariants as got
use Rattle.outside.specs.declared.links.Sent.{Sent}
use Rattle.outside.specs.declared.links.Sent.TheVariants as sent
use Rattle.session_run.specs.Calls.{Call, Serves, IsStop}
use Rattle.session_run.specs.Ends.{end_of}
use Rattle.session_run.specs.Feeds.{asked_next, EndsBroken}
use Rattle.session_run.specs.Live.{shown_bytes}
use Rattle.session_run.specs.declared.ends.InEnd.{InEnd}
use Rattle.session_run.specs.declared.ends.InEnd.TheVariants as ended
use Rattle.session_run.specs.declared.phases.Asking.{Asking}
use Rattle.session_run.specs.declared.phases.Asking.TheVariants.{Open, Breaking, Ended}
use Rattle.session_run.specs.declared.phases.TakeEnd.{TakeEnd}
use Rattle.session_run.specs.declared.phases.TakeEnd.TheVariants as taking
use Rattle.session_run.specs.Filling.{IsFilled}
use Rattle.session_run.specs.Sessions.{SessionState, opened, demand, goes_on, WantsToRead, CanDismiss}
use Rattle.session_run.specs.Steps.{got_bytes, UnlessMemory, said_too, Readies, AsksOn, Answered, Takes, WritesOut, Dismisses, Cuts, taking_behind}
use Rattle.session_run.specs.SoFar.{asked_for, ServesOn, Asks, AskedSoFar, asked_at, left_of, no_less, rose_before}
use Rattle.session_run.specs.Turns.{ok_calls, next_calls, turn_calls, call_at, IsTold, serves_more, serves_oks, serves_full, stops_next}
use Rattle.session_run.specs.Turns.{split_asks, serves_front, ends_at}

-- ---- before the first byte

consumes_none : (left : Option Bytes) → Consumes left left []
consumes_none None = tt
consumes_none (Some xs) = refl

pub asked_at_first : (told : Option ℕ) (came : LinkState) (n : ℕ) → AskedSoFar told [] came (opened came n)
asked_at_first told came n = record {
  read = [];
  consumed = consumes_none came.left;
  calls = [];
  stop = [];
  made_are = refl;
  asks = (refl, λ more. refl);
  at_end = λ is. absurd (cc);
  cause = λ is. absurd (cc);
  later = omega arith;
}

-- ---- a read

consumes_more : (a b c : Option Bytes) (x y : Bytes) → Consumes a b x → Consumes b c y → Consumes a c (x ++ y)
consumes_more None b c x y p q = tt
consumes_more (Some s) None c x y p q = absurd p
consumes_more (Some s) (Some t) None x y p q = absurd q
consumes_more (Some s) (Some t) (Some u) x y p q = p ∙ ap (λ (l : Bytes). x ++ l) q ∙ sym (append_assoc x y u)

broken_behind : (front left asks : List Asked) → asks ≡ front ++ left → EndsBroken left → EndsBroken asks
broken_behind front left asks is b = (
  front ++ b.0,
  b.1,
  is ∙ ap (λ (l : List Asked). front ++ l) b.2
      ∙ sym (append_assoc front b.0 (asks_for.Broken b.1 ∷ [])),
)

-- all of a state that a fault ended is asked
dead_demand : (s : SessionState) → s.held ≡ None → demand s [] ≡ s.asked
dead_demand s dead = ap (λ (h : Held). s.asked ++ asked_next s.number h (s.rest ++ [])) dead ∙ append-nil s.asked

module _ (told : Option ℕ) (calls : List Call) (read : Bytes) (new : SessionState) where
  read_all : (left : List Asked) → Serves told calls (asked_for new.number (read ++ [])) left → Serves told calls (asked_for new.number read) left
  read_all left s = subst (λ (l : Bytes). Serves told calls (asked_for new.number l) left) (append-nil read) s

  all_broken : ServesOn told calls read new → EndsBroken new.asked → new.held ≡ None → EndsBroken (asked_for new.number read)
  all_broken s b dead =
      let f = serves_front told calls (asked_for new.number read) (demand new []) (read_all (demand new []) (s [])) in
      broken_behind f.0 (demand new []) (asked_for new.number read) f.1 (subst (λ (l : List Asked). EndsBroken l) (sym (dead_demand new dead)) b)

  -- behind a filling
  filled : (held : Held) (bytes : Bytes) (asking : Asking) (left : List Asked) → Serves told calls (asked_for new.number read) left
      → UnlessMemory asking (ServesOn told calls read new) → IsFilled new.number held bytes new.held new.rest new.asked asking
      → Asks told calls [] read new asking
  filled held bytes Open left l s f = (refl, s)
  filled held bytes Breaking left l s f = (refl, s, all_broken s f.1 f.3)
  filled held bytes (Ended ended.Memory) left l s f = (left, l, inl refl)
  filled held bytes (Ended end) left l s f = absurd f

not_filled : (n : ℕ) (held held' : Held) (bytes rest : Bytes) (asks : List Asked) (asking : Asking) → IsFilled n held bytes held' rest asks asking
    → (asking ≡ Ended ended.Over → ⊥) × (asking ≡ Ended ended.ReadFault → ⊥)
not_filled n held held' bytes rest asks Open f = (λ is. absurd (cc), λ is. absurd (cc))
not_filled n held held' bytes rest asks Breaking f = (λ is. absurd (cc), λ is. absurd (cc))
not_filled n held held' bytes rest asks (Ended ended.Memory) f = (λ is. absurd (cc), λ is. absurd (cc))
not_filled n held held' bytes rest asks (Ended end) f = absurd f

module _ (told : Option ℕ) (made : List Call) (came : LinkState) (old new : SessionState) (into : Bytes) (ready : WantsToRead old)
    (s : AskedSoFar told made came old) where
  before : Asks told s.calls s.stop s.read old Open
  before = subst (λ (a : Asking). Asks told s.calls s.stop s.read old a) ready.0 s.asks

  made_before : made ≡ s.calls ++ []
  made_before = s.made_are ∙ ap (λ (l : List Call). s.calls ++ l) before.0

  behind_read : (bytes more : Bytes) (left : List Asked) → Serves told s.calls (asked_for old.number (s.read ++ (bytes ++ more))) left
      → Serves told s.calls (asked_for old.number ((s.read ++ bytes) ++ more)) left
  behind_read bytes more left t = subst (λ (l : Bytes). Serves told s.calls (asked_for old.number l) left) (sym (append_assoc s.read bytes more)) t

  abbrev now : SessionState
  now = record old { line = new.line; held = new.held; rest = new.rest; asked = new.asked; asking = new.asking }

  brought : (n : ℕ) → Consumes old.line.left new.line.left (take n into) → new.line ≡ record old.line { left = new.line.left }
      → IsFilled old.number old.held (take n into) new.held new.rest new.asked new.asking
      → UnlessMemory new.asking ((more : Bytes) → demand old (take n into ++ more) ≡ demand now more) → AskedSoFar told made came now
  brought n consumed line fill goes =
      let bytes = take n into in
      let none = not_filled old.number old.held new.held bytes new.rest new.asked new.asking fill in
      let faults : new.line.faults ≡ old.line.faults = ap (λ (l : LinkState). l.faults) line in
      record {
        read = s.read ++ bytes;
        consumed = consumes_more came.left old.line.left new.line.left s.read bytes s.consumed consumed;
        calls = s.calls;
        stop = [];
        made_are = made_before;
        asks = filled told s.calls (s.read ++ bytes) now old.held bytes new.asking (demand old bytes) (before.1 bytes)
            (said_too new.asking (λ (d : (more : Bytes) → demand old (bytes ++ more) ≡ demand now more) (more : Bytes). behind_read bytes more
            (demand now more)
            (subst (λ (l : List Asked). Serves told s.calls (asked_for old.number (s.read ++ (bytes ++ more))) l) (d more)
            (before.1 (bytes ++ more)))) goes)
            fill;
        at_end = λ is. absurd (none.0 is);
        cause = λ is. absurd (none.1 is);
        later = omega (arith, faults, s.later);
      }

  -- nothing more comes, and nothing is left to be asked
  nothing_left : demand old [] ≡ [] → Serves told s.calls (asked_for old.number s.read) []
  nothing_left none = subst (λ (l : List Asked). Serves told s.calls (asked_for old.number s.read) l) none
      (read_all told s.calls s.read old (demand old []) (before.1 []))

  pub asked_read : {E : Type 0} → (r : Result Got E) → Reads old.line new.line r into → Readies old new r into
      → UnlessMemory new.asking ((more : Bytes) → demand old (got_bytes r into ++ more) ≡ demand new more) → AskedSoFar told made came new
  asked_read (Ok (got.Bytes n)) reads readies goes = asked_at readies.1 (brought n reads.0 reads.1 readies.0
      (subst (λ (x : SessionState). UnlessMemory new.asking ((more : Bytes) → demand old (take n into ++ more) ≡ demand x more)) readies.1 goes))
  asked_read (Ok got.Later) reads readies goes = asked_at readies s
  asked_read (Ok got.End) reads readies goes = asked_at readies.0 (record {
    read = s.read;
    consumed = s.consumed;
    calls = s.calls;
    stop = [];
    made_are = made_before;
    asks = ([], nothing_left (ap (λ (x : SessionState). demand x []) (sym readies.0) ∙ readies.1), (refl, refl));
    at_end = λ is. reads.0;
    cause = λ is. absurd (cc);
    later = s.later;
  })
  asked_read (Err e) reads readies goes = asked_at readies.0 (record {
    read = s.read;
    consumed = subst (λ (l : LinkState). Consumes came.left l.left s.read) (sym reads.same) s.consumed;
    calls = s.calls;
    stop = [];
    made_are = made_before;
    asks = ([], nothing_left (ap (λ (x : SessionState). demand x []) (sym readies.0) ∙ readies.1), (refl, refl));
    at_end = λ is. absurd (cc);
    cause = λ is. rose_later came.faults old.line.faults new.line.faults s.later reads.rose;
    later = omega (arith, s.later, reads.later);
  })

-- ---- the answers of a turn

not_of_calls : (end : CallOutcome) (why : InEnd) → end_of end ≡ Some why
    → (Ended why ≡ Ended ended.Over → ⊥) × (Ended why ≡ Ended ended.ReadFault → ⊥)
not_of_calls called.Ok why is = (λ e. absurd (cc), λ e. absurd (cc))
not_of_calls called.Full why is = (λ e. absurd (cc), λ e. absurd (cc))
not_of_calls called.Gone why is = (λ e. absurd (cc), λ e. absurd (cc))
not_of_calls called.LogFault why is = (λ e. absurd (cc), λ e. absurd (cc))
not_of_calls called.Stopped why is = (λ e. absurd (cc), λ e. absurd (cc))
not_of_calls called.Spent why is = (λ e. absurd (cc), λ e. absurd (cc))
not_of_calls called.Memory why is = (λ e. absurd (cc), λ e. absurd (cc))

-- while the asking goes on no call has stopped it
goes_before : (told : Option ℕ) (calls stop : List Call) (read : Bytes) (s : SessionState) (asking : Asking) → goes_on asking ≡ true
    → Asks told calls stop read s asking
    → (stop ≡ []) × ServesOn told calls read s
goes_before told calls stop read s Open goes a = a
goes_before told calls stop read s Breaking goes a = (a.0, a.1)
goes_before told calls stop read s (Ended end) goes a = absurd (cc)

ended_goes : (end : InEnd) → goes_on (Ended end) ≡ true → ⊥
ended_goes end on = cc

made_more : (made calls stop a b : List Call) → made ≡ calls ++ stop → stop ≡ [] → made ++ (a ++ b) ≡ (calls ++ a) ++ b
made_more made calls stop a b is none =
    ap (λ (l : List Call). l ++ (a ++ b)) (is ∙ ap (λ (l : List Call). calls ++ l) none ∙ append-nil calls) ∙ sym (append_assoc calls a b)

module _ (told : Option ℕ) (made : List Call) (came : LinkState) (old new : SessionState) (asked : List Asked) (served m : ℕ) (timely : IsTold told m)
    (goes : goes_on old.asking ≡ true) (s : AskedSoFar told made came (record old { asked = asked })) where
  so_far : (s.stop ≡ []) × ServesOn told s.calls s.read (record old { asked = asked })
  so_far = goes_before told s.calls s.stop s.read (record old { asked = asked }) old.asking goes s.asks

  made_so_far : made ≡ s.calls
  made_so_far = s.made_are ∙ ap (λ (l : List Call). s.calls ++ l) so_far.0 ∙ append-nil s.calls

  -- what is left behind those that were answered Ok
  abbrev behind_oks : Bytes → List Asked
  behind_oks more = drop served asked ++ asked_next old.number old.held (old.rest ++ more)

  serves_these : (more : Bytes) (left : List Asked) → demand (record old { asked = asked }) more ≡ take served asked ++ left
      → Serves told (s.calls ++ ok_calls m asked served) (asked_for old.number (s.read ++ more)) left
  serves_these more left is = serves_more told s.calls (ok_calls m asked served) (asked_for old.number (s.read ++ more))
      (demand (record old { asked = asked }) more) left (so_far.1 more)
      (subst (λ (l : List Asked). Serves told (ok_calls m asked served) l left) (sym is) (serves_oks told m timely (take served asked) left))

  serves_left : (more : Bytes) → Serves told (s.calls ++ ok_calls m asked served) (asked_for old.number (s.read ++ more)) (behind_oks more)
  serves_left more = serves_these more (behind_oks more) (split_asks served asked (asked_next old.number old.held (old.rest ++ more)))

  left_all : Serves told (s.calls ++ ok_calls m asked served) (asked_for old.number s.read) (behind_oks [])
  left_all = read_all told (s.calls ++ ok_calls m asked served) s.read old (behind_oks []) (serves_left [])

  oks_made : made ++ turn_calls m asked served called.Ok ≡ (s.calls ++ ok_calls m asked served) ++ []
  oks_made = made_more made s.calls s.stop (ok_calls m asked served) [] s.made_are so_far.0

  -- all were answered Ok
  abbrev again : SessionState
  again = record old { held = new.held; rest = new.rest; asked = new.asked; asking = new.asking }

  refilled : UnlessMemory new.asking ((more : Bytes) → demand (record old { asked = asked }) more ≡ take served asked ++ demand again more)
      → IsFilled old.number old.held old.rest new.held new.rest new.asked new.asking
      → AskedSoFar told (made ++ turn_calls m asked served called.Ok) came again
  refilled behind f =
      let none = not_filled old.number old.held new.held old.rest new.rest new.asked new.asking f in
      record {
        read = s.read;
        consumed = s.consumed;
        calls = s.calls ++ ok_calls m asked served;
        stop = [];
        made_are = oks_made;
        asks = filled told (s.calls ++ ok_calls m asked served) s.read again old.held old.rest new.asking (behind_oks []) left_all
            (said_too new.asking (λ (d : (more : Bytes) → demand (record old { asked = asked }) more ≡ take served asked ++ demand again more)
            (more : Bytes). serves_these more (demand again more) (d more)) behind)
            f;
        at_end = λ is. absurd (none.0 is);
        cause = λ is. absurd (none.1 is);
        later = s.later;
      }

  broken_off : served ≡ length asked → old.asked ≡ [] → old.asking ≡ Breaking → asked_next old.number old.held (old.rest ++ []) ≡ []
      → AskedSoFar told (made ++ turn_calls m asked served called.Ok) came (record old { asking = Ended ended.Broken })
  broken_off count moved was none =
      let left : behind_oks [] ≡ [] = ap (λ (l : List Asked). l ++ asked_next old.number old.held (old.rest ++ []))
      (drop_all served asked (omega (arith, count))) ∙ none in
      let a : Asks told s.calls s.stop s.read (record old { asked = asked }) Breaking = subst
      (λ (x : Asking). Asks told s.calls s.stop s.read (record old { asked = asked }) x) was s.asks in
      record {
        read = s.read;
        consumed = s.consumed;
        calls = s.calls ++ ok_calls m asked served;
        stop = [];
        made_are = oks_made;
        asks = (
          [],
          subst (λ (l : List Asked). Serves told (s.calls ++ ok_calls m asked served) (asked_for old.number s.read) l) left left_all,
          (refl, refl, a.2),
        );
        at_end = λ is. absurd (cc);
        cause = λ is. absurd (cc);
        later = s.later;
      }

  all_ok : (asking : Asking) → old.asking ≡ asking → served ≡ length asked → old.asked ≡ [] → AsksOn asking old new
      → UnlessMemory new.asking ((more : Bytes) → demand (record old { asked = asked }) more ≡ take served asked ++ demand new more)
      → AskedSoFar told (made ++ turn_calls m asked served called.Ok) came new
  all_ok Open was count moved on behind = asked_at on.1 (refilled
      (subst (λ (x : SessionState). UnlessMemory new.asking ((more : Bytes)
      → demand (record old { asked = asked }) more ≡ take served asked ++ demand x more)) on.1 behind)
      on.0)
  all_ok Breaking was count moved on behind = asked_at on.0
      (broken_off count moved was (ap (λ (l : List Asked). l ++ asked_next old.number old.held (old.rest ++ [])) (sym moved)
      ∙ ap (λ (x : SessionState). demand x []) (sym on.0) ∙ on.1 []))
  all_ok (Ended end) was count moved on behind = absurd (ended_goes end (subst (λ (x : Asking). goes_on x ≡ true) was goes))

  -- the next one was answered Full, and is asked again
  full_on : served < length asked → ServesOn told (s.calls ++ turn_calls m asked served called.Full) s.read (record old { asked = drop served asked })
  full_on count = λ more.
      let nexts = next_calls m asked served called.Full in
      subst (λ (l : List Call). Serves told l (asked_for old.number (s.read ++ more)) (behind_oks more))
      (append_assoc s.calls (ok_calls m asked served) nexts)
      (serves_more told (s.calls ++ ok_calls m asked served) nexts (asked_for old.number (s.read ++ more)) (behind_oks more) (behind_oks more)
      (serves_left more)
      (serves_full told m timely (drop served asked) (asked_next old.number old.held (old.rest ++ more)) (omega (arith, count, length-drop served asked))))

  full_asks : (asking : Asking) → goes_on asking ≡ true → served < length asked
      → Asks told s.calls s.stop s.read (record old { asked = asked }) asking
      → Asks told (s.calls ++ turn_calls m asked served called.Full) [] s.read (record old { asked = drop served asked }) asking
  full_asks Open on count a = (refl, full_on count)
  full_asks Breaking on count a = (refl, full_on count, a.2)
  full_asks (Ended end) on count a = absurd (ended_goes end on)

  full_again : served < length asked → AskedSoFar told (made ++ turn_calls m asked served called.Full) came (record old { asked = drop served asked })
  full_again count = record {
    read = s.read;
    consumed = s.consumed;
    calls = s.calls ++ turn_calls m asked served called.Full;
    stop = [];
    made_are = ap (λ (l : List Call). l ++ turn_calls m asked served called.Full) made_so_far
        ∙ sym (append-nil (s.calls ++ turn_calls m asked served called.Full));
    asks = full_asks old.asking goes count s.asks;
    at_end = s.at_end;
    cause = s.cause;
    later = s.later;
  }

  -- the next one was answered otherwise
  stopped : (end : CallOutcome) (why : InEnd) → end_of end ≡ Some why
      → next_calls m asked served end ≡ map (call_at m end) (take 1 (drop served asked)) → served < length asked
      → AskedSoFar told (made ++ turn_calls m asked served end) came (record old { asked = drop served asked; asking = Ended why })
  stopped end why is nexts count =
      let none = not_of_calls end why is in
      record {
        read = s.read;
        consumed = s.consumed;
        calls = s.calls ++ ok_calls m asked served;
        stop = next_calls m asked served end;
        made_are = made_more made s.calls s.stop (ok_calls m asked served) (next_calls m asked served end) s.made_are so_far.0;
        asks = (
          behind_oks [],
          left_all,
          ends_at told end why (next_calls m asked served end) (asked_for old.number s.read) (behind_oks []) is
              (subst (λ (l : List Call). IsStop told end l (behind_oks [])) (sym nexts)
              (stops_next told m timely end (drop served asked) (asked_next old.number old.held (old.rest ++ []))
              (omega (arith, count, length-drop served asked)))),
        );
        at_end = λ e. absurd (none.0 e);
        cause = λ e. absurd (none.1 e);
        later = s.later;
      }

  stopped_at : (end : CallOutcome) → ((why : InEnd) × (end_of end ≡ Some why) × (new ≡ record old { asked = drop served asked; asking = Ended why }))
      → next_calls m asked served end ≡ map (call_at m end) (take 1 (drop served asked)) → served < length asked
      → AskedSoFar told (made ++ turn_calls m asked served end) came new
  stopped_at end a nexts count = asked_at a.2 (stopped end a.0 a.1 nexts count)

  -- a turn's calls are those of what was asked, and none twice
  pub asked_answered : (end : CallOutcome) → IsCount served end (length asked) → old.asked ≡ [] → Answered old new asked served end
      → UnlessMemory new.asking ((more : Bytes) → demand (record old { asked = asked }) more ≡ take served asked ++ demand new more)
      → AskedSoFar told (made ++ turn_calls m asked served end) came new
  asked_answered called.Ok count moved a behind = all_ok old.asking refl count moved a behind
  asked_answered called.Full count moved a behind = asked_at a (full_again count)
  asked_answered called.Gone count moved a behind = stopped_at called.Gone a refl count
  asked_answered called.LogFault count moved a behind = stopped_at called.LogFault a refl count
  asked_answered called.Stopped count moved a behind = stopped_at called.Stopped a refl count
  asked_answered called.Spent count moved a behind = stopped_at called.Spent a refl count
  asked_answered called.Memory count moved a behind = stopped_at called.Memory a refl count

-- ---- takes and writes

module _ (told : Option ℕ) (made : List Call) (came : LinkState) (old new : SessionState) (s : AskedSoFar told made came old) where
  same_asked : (line : LinkState) (out : Bytes) (taking : Option TakeEnd) → line.left ≡ old.line.left → old.line.faults ≤ line.faults
      → AskedSoFar told made came (record old { line = line; out = out; taking = taking })
  same_asked line out taking left faults = record {
    read = s.read;
    consumed = subst (λ (l : Option Bytes). Consumes came.left l s.read) (sym left) s.consumed;
    calls = s.calls;
    stop = s.stop;
    made_are = s.made_are;
    asks = s.asks;
    at_end = λ is. subst (λ (l : Option Bytes). IsAtEnd l) (sym left) (s.at_end is);
    cause = λ is. rose_before came.faults old.line.faults line.faults (s.cause is) faults;
    later = omega (arith, s.later, faults);
  }

  pub asked_taken : (o : Outcome) → Takes old new o → AskedSoFar told made came new
  asked_taken (outcome.Given frames) (inl is) = asked_at is (same_asked old.line (old.out ++ shown_bytes old.number frames) old.taking refl (omega arith))
  asked_taken (outcome.Given frames) (inr is) = asked_at is (same_asked old.line old.out (Some taking.Memory) refl (omega arith))
  asked_taken o is = asked_at is (same_asked old.line old.out (taking_behind o) refl (omega arith))

  pub asked_written : {E : Type 0} → (r : Result Sent E) → Writes old.line new.line r old.out → WritesOut old new r → AskedSoFar told made came new
  asked_written (Ok (sent.Bytes n)) w is = asked_at is
      (same_asked new.line (drop n old.out) old.taking (left_of w.1) (no_less w.1))
  asked_written (Ok sent.Later) w is = asked_at is s
  asked_written (Err e) w is = asked_at is
      (same_asked new.line old.out (Some taking.WriteFault) (left_of w.same) w.later)

  pub asked_cut : Cuts old new → AskedSoFar told made came new
  asked_cut is = asked_at is (same_asked old.line old.out (Some taking.Late) refl (omega arith))

-- ---- an end by the server

module _ (told : Option ℕ) (made : List Call) (came : LinkState) (old new : SessionState) (can : CanDismiss old) (s : AskedSoFar told made came old) where
  asks_before : Asks told s.calls s.stop s.read old Open
  asks_before = subst (λ (a : Asking). Asks told s.calls s.stop s.read old a) can.0 s.asks

  none_left : demand old [] ≡ [] → Serves told s.calls (asked_for old.number s.read) []
  none_left none = subst (λ (l : List Asked). Serves told s.calls (asked_for old.number s.read) l) none
      (read_all told s.calls s.read old (demand old []) (asks_before.1 []))

  pub asked_dismissed : Dismisses old new → AskedSoFar told made came new
  asked_dismissed is = asked_at is.0 (record {
    read = s.read;
    consumed = s.consumed;
    calls = s.calls;
    stop = [];
    made_are = s.made_are ∙ ap (λ (l : List Call). s.calls ++ l) asks_before.0;
    asks = ([], none_left (ap (λ (x : SessionState). demand x []) (sym is.0) ∙ is.1), (refl, refl));
    at_end = λ e. absurd (cc);
    cause = λ e. absurd (cc);
    later = s.later;
  })

-- ---- whether its calls have set its live channel is no part of this

pub asked_fenced : (told : Option ℕ) (made : List Call) (came : LinkState) (s : SessionState) (b : Bool) → AskedSoFar told made came s
    → AskedSoFar told made came (record s { is_fenced = b })
asked_fenced told made came s b a = record {
  read = a.read;
  consumed = a.consumed;
  calls = a.calls;
  stop = a.stop;
  made_are = a.made_are;
  asks = same_asks s.asking a.asks;
  at_end = a.at_end;
  cause = a.cause;
  later = a.later;
}
  where
    same_asks : (asking : Asking) → Asks told a.calls a.stop a.read s asking → Asks told a.calls a.stop a.read (record s { is_fenced = b }) asking
    same_asks Open asks = asks
    same_asks Breaking asks = asks
    same_asks (Ended end) asks = asks

-- ---- at the end of a link, whatever ended it

pub left_over : (told : Option ℕ) (made : List Call) (came : LinkState) (s : SessionState) (a : AskedSoFar told made came s)
    → (left : List Asked) × Serves told a.calls (asked_for s.number a.read) left
left_over told made came s a = left_by s.asking a.asks
  where
    left_by : (asking : Asking) → Asks told a.calls a.stop a.read s asking → (left : List Asked) × Serves told a.calls (asked_for s.number a.read) left
    left_by Open asks = (demand s [], read_all told a.calls a.read s (demand s []) (asks.1 []))
    left_by Breaking asks = (demand s [], read_all told a.calls a.read s (demand s []) (asks.1 []))
    left_by (Ended end) asks = (asks.0, asks.1)
