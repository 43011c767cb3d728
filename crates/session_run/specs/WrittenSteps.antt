-- What each step of a session keeps of what was written so far.
use Rattle.std.specs.Prelude.{◌≡◌, ◌≤◌, ℕ, Bool, List, [], ◌∷◌, ◌++◌, Option, Some, None, Result, Ok, Err, IfSome}
use Rattle.std.proofs.Common.{refl, sym, ap, ◌∙◌, subst, arith, append_assoc, inl, inr}
use Rattle.std.proofs.lemmas.List.{append-nil}
use Rattle.std.proofs.lemmas.Grind.{flat_map-append}
use mathlib.Core.List.{IsPrefix}
use Rattle.std.specs.Io.KnownBytes.{append_known, Appends, Keeps}
use Rattle.outside.specs.CauseLaws.{rose_later}
use Rattle.outside.specs.Writing.{AppendsPart, appends_more, appends_kept}
use Rattle.byte_text.specs.Names.{Bytes}
use Rattle.world_model.specs.declared.events.Asked.{Asked}
use Rattle.world_model.specs.declared.events.CallOutcome.{CallOutcome}
use Rattle.world_model.specs.declared.events.CallOutcome.TheVariants as called
use Rattle.world_model.specs.declared.events.Outcome.{Outcome}
use Rattle.world_model.specs.declared.events.Outcome.TheVariants as outcome
use Rattle.outside.specs.Links.{LinkState, Reads, Writes}
use Rattle.outside.specs.declared.links.Got.{Got}
use Rattle.outside.specs.declared.links.Got.TheVariants as got
use Rattle.outside.specs.declared.links.Sent.{Sent}
use Rattle.outside.specs.declared.links.Sent.TheVariants as sent
use Rattle.session_run.specs.Live.{shown_bytes}
use Rattle.session_run.specs.Outs.{given_bytes, bytes_given}
use Rattle.session_run.specs.declared.phases.Asking.{Asking}
use Rattle.session_run.specs.declared.phases.Asking.TheVariants.{Open, Breaking, Ended}
use Rattle.session_run.specs.declared.phases.TakeEnd.{TakeEnd}
use Rattle.session_run.specs.declared.phases.TakeEnd.TheVariants as taking
use Rattle.session_run.specs.Sessions.{SessionState, opened, owed, WantsTake}
use Rattle.session_run.specs.Steps.{Readies, AsksOn, Answered, Takes, WritesOut, Dismisses, Cuts, taking_behind}
use Rattle.session_run.specs.Owing.{owed_same, owed_taken, owed_part, owed_all}
use Rattle.session_run.specs.SoFar.{Owes, WrittenSoFar, held_of, line_of, no_less, number_of, out_of, rose_before, taking_of, written_at}

owes_first : (held : Option Bytes) → Appends held (append_known held []) []
owes_first None = tt
owes_first (Some xs) = refl

pub written_at_first : (came : LinkState) (n : ℕ) → WrittenSoFar [] came (opened came n)
written_at_first came n = record { owes = owes_first came.held; last = λ is. absurd (cc); cause = λ is. absurd (cc); later = omega arith }

part_kept : (held0 held held' : Option Bytes) (given : Bytes) → AppendsPart held0 held given → Keeps held held' → AppendsPart held0 held' given
part_kept held0 held held' given p k = (p.0, p.1, appends_kept held0 held held' p.0 p.2 k)

owes_kept : (t : Option TakeEnd) (held : Option Bytes) (old new : SessionState) (given : Bytes) → Keeps (owed old) (owed new)
    → Owes t held old given → Owes t held new given
owes_kept (Some taking.WriteFault) held old new given k o = part_kept held (owed old) (owed new) given o k
owes_kept (Some taking.Memory) held old new given k o = part_kept held (owed old) (owed new) given o k
owes_kept (Some taking.Late) held old new given k o = part_kept held (owed old) (owed new) given o k
owes_kept t held old new given k o = appends_kept held (owed old) (owed new) given o k

no_end : (t : Option TakeEnd) → t ≡ None → t ≡ Some taking.Ended → ⊥
no_end t none is = cc

part_of : (t : Option TakeEnd) (held : Option Bytes) (s : SessionState) (given : Bytes) → Owes t held s given → AppendsPart held (owed s) given
part_of (Some taking.WriteFault) held s given o = o
part_of (Some taking.Memory) held s given o = o
part_of (Some taking.Late) held s given o = o
part_of t held s given o = (given, ([], append-nil given), o)

part_of_part : (held held' : Option Bytes) (part given : Bytes) → IsPrefix part given → AppendsPart held held' part → AppendsPart held held' given
part_of_part held held' part given p q = (
  q.0,
  (q.1.0 ++ p.0, sym (append_assoc q.0 q.1.0 p.0) ∙ ap (λ (l : Bytes). l ++ p.0) q.1.1 ∙ p.1),
  q.2,
)

module _ (takes : List Outcome) (came : LinkState) (old : SessionState) (w : WrittenSoFar takes came old) where
  -- a step that takes nothing
  kept : (new : SessionState) → new.number ≡ old.number → Keeps (owed old) (owed new) → new.taking ≡ old.taking
      → old.line.faults ≤ new.line.faults → WrittenSoFar takes came new
  kept new n k t f = record {
    owes = subst (λ (m : ℕ). Owes new.taking came.held new (bytes_given m takes)) (sym n)
        (subst (λ (x : Option TakeEnd). Owes x came.held new (bytes_given old.number takes)) (sym t)
        (owes_kept old.taking came.held old new (bytes_given old.number takes) k w.owes));
    last = λ is. w.last (sym t ∙ is);
    cause = λ is. rose_before came.faults old.line.faults new.line.faults (w.cause (sym t ∙ is)) f;
    later = omega (arith, w.later, f);
  }

  -- a step that writes nothing either
  unwritten : (new : SessionState) → new.number ≡ old.number → new.line.held ≡ old.line.held → new.out ≡ old.out → new.taking ≡ old.taking
      → old.line.faults ≤ new.line.faults → WrittenSoFar takes came new
  unwritten new n held out t f = kept new n
      (subst (λ (h : Option Bytes). Keeps (owed old) (append_known h new.out)) (sym held)
      (subst (λ (o : Bytes). Keeps (owed old) (append_known old.line.held o)) (sym out) (owed_same old.line.held old.out)))
      t f

  pub written_read : {E : Type 0} → (new : SessionState) (r : Result Got E) (into : Bytes) → Reads old.line new.line r into → Readies old new r into
      → WrittenSoFar takes came new
  written_read new (Ok (got.Bytes n)) into reads is = unwritten new (number_of is.1) (held_of reads.1) (out_of is.1) (taking_of is.1) (no_less reads.1)
  written_read new (Ok got.Later) into reads is = written_at is w
  written_read new (Ok got.End) into reads is = unwritten new (number_of is.0) (held_of reads.1) (out_of is.0) (taking_of is.0) (no_less reads.1)
  written_read new (Err e) into reads is = unwritten new (number_of is.0) (held_of reads.same) (out_of is.0) (taking_of is.0) reads.later

  same_line : (new : SessionState) → new.number ≡ old.number → new.line ≡ old.line → new.out ≡ old.out → new.taking ≡ old.taking
      → WrittenSoFar takes came new
  same_line new n line out t = unwritten new n (held_of line) out t (no_less line)

  asks_on : (asking : Asking) (new : SessionState) → AsksOn asking old new → WrittenSoFar takes came new
  asks_on Open new is = same_line new (number_of is.1) (line_of is.1) (out_of is.1) (taking_of is.1)
  asks_on Breaking new is = same_line new (number_of is.0) (line_of is.0) (out_of is.0) (taking_of is.0)
  asks_on (Ended end) new is = same_line new (number_of is) (line_of is) (out_of is) (taking_of is)

  pub written_answered : (new : SessionState) (asked : List Asked) (served : ℕ) (end : CallOutcome) → Answered old new asked served end
      → WrittenSoFar takes came new
  written_answered new asked served called.Ok is = asks_on old.asking new is
  written_answered new asked served called.Full is = same_line new (number_of is) (line_of is) (out_of is) (taking_of is)
  written_answered new asked served end is = same_line new (number_of is.2) (line_of is.2) (out_of is.2) (taking_of is.2)

  -- a write
  pub written_sent : {E : Type 0} → (new : SessionState) (r : Result Sent E) → Writes old.line new.line r old.out → WritesOut old new r
      → Keeps (owed old) (owed new) → WrittenSoFar takes came new
  written_sent new (Ok (sent.Bytes n)) writes is k = kept new (number_of is) k (taking_of is) (no_less writes.1)
  written_sent new (Ok sent.Later) writes is k = kept new (number_of is) k (taking_of is) (no_less (line_of is))
  written_sent new (Err e) writes is k = written_at is (record {
    owes = part_kept came.held (owed old) (append_known new.line.held old.out) (bytes_given old.number takes)
        (part_of old.taking came.held old (bytes_given old.number takes) w.owes)
        (subst (λ (x : SessionState). Keeps (owed old) (owed x)) is k);
    last = λ e. absurd (cc);
    cause = λ e. rose_later came.faults old.line.faults new.line.faults w.later writes.rose;
    later = omega (arith, w.later, writes.later);
  })

  -- ---- a take

  more_given : (o : Outcome) → bytes_given old.number (takes ++ o ∷ []) ≡ bytes_given old.number takes ++ given_bytes old.number o
  more_given o = flat_map-append (given_bytes old.number) takes (o ∷ [])
      ∙ ap (λ (l : Bytes). bytes_given old.number takes ++ l) (append-nil (given_bytes old.number o))

  owes_before : old.taking ≡ None → Appends came.held (owed old) (bytes_given old.number takes)
  owes_before none = subst (λ (x : Option TakeEnd). Owes x came.held old (bytes_given old.number takes)) none w.owes

  -- the frames are to be written behind all that is
  given : (frames : List Bytes) → old.taking ≡ None → WrittenSoFar (takes ++ outcome.Given frames ∷ []) came
      (record old { out = old.out ++ shown_bytes old.number frames })
  given frames none = record {
    owes = subst (λ (x : Option TakeEnd). Owes x came.held (record old { out = old.out ++ shown_bytes old.number frames })
        (bytes_given old.number (takes ++ outcome.Given frames ∷ []))) (sym none)
        (subst (λ (l : Bytes). Appends came.held (append_known old.line.held (old.out ++ shown_bytes old.number frames)) l) (sym (more_given (outcome.Given frames)))
        (appends_more came.held (owed old) (append_known old.line.held (old.out ++ shown_bytes old.number frames)) (bytes_given old.number takes) (shown_bytes old.number frames)
        (owes_before none) (owed_taken old.line.held old.out (shown_bytes old.number frames))));
    last = λ is. absurd (no_end old.taking none is);
    cause = w.cause;
    later = w.later;
  }

  lost : (frames : List Bytes) → old.taking ≡ None → WrittenSoFar (takes ++ outcome.Given frames ∷ []) came
      (record old { taking = Some taking.Memory })
  lost frames none = record {
    owes = (bytes_given old.number takes, (shown_bytes old.number frames, sym (more_given (outcome.Given frames))), owes_before none);
    last = λ is. absurd (cc);
    cause = λ is. absurd (cc);
    later = w.later;
  }

  -- no frame was given
  nothing : (o : Outcome) → old.taking ≡ None → given_bytes old.number o ≡ [] → ((g : Bytes) → Appends came.held (owed old) g
      → Owes (taking_behind o) came.held (record old { taking = taking_behind o }) g)
      → (taking_behind o ≡ Some taking.Ended → o ≡ outcome.Ended) → (taking_behind o ≡ Some taking.WriteFault → ⊥)
      → WrittenSoFar (takes ++ o ∷ []) came (record old { taking = taking_behind o })
  nothing o none no_bytes owes ends no_fault = record {
    owes = subst (λ (l : Bytes). Owes (taking_behind o) came.held (record old { taking = taking_behind o }) l)
        (sym (more_given o ∙ ap (λ (l : Bytes). bytes_given old.number takes ++ l) no_bytes ∙ append-nil (bytes_given old.number takes)))
        (owes (bytes_given old.number takes) (owes_before none));
    last = λ is. (takes, ap (λ (x : Outcome). takes ++ x ∷ []) (ends is));
    cause = λ is. absurd (no_fault is);
    later = w.later;
  }

  by_none : (new : SessionState) (o : Outcome) → old.taking ≡ None → new ≡ record old { taking = taking_behind o } → given_bytes old.number o ≡ []
      → ((g : Bytes) → Appends came.held (owed old) g → Owes (taking_behind o) came.held (record old { taking = taking_behind o }) g)
      → (taking_behind o ≡ Some taking.Ended → o ≡ outcome.Ended) → (taking_behind o ≡ Some taking.WriteFault → ⊥)
      → WrittenSoFar (takes ++ o ∷ []) came new
  by_none new o none is no_bytes owes ends no_fault = written_at is (nothing o none no_bytes owes ends no_fault)

  pub written_taken : (new : SessionState) (o : Outcome) → WantsTake old → Takes old new o → WrittenSoFar (takes ++ o ∷ []) came new
  written_taken new (outcome.Given frames) wants (inl is) = written_at is (given frames wants.0)
  written_taken new (outcome.Given frames) wants (inr is) = written_at is (lost frames wants.0)
  written_taken new outcome.Ended wants is = by_none new outcome.Ended wants.0 is refl (λ g a. a) (λ e. refl) (λ e. absurd (cc))
  written_taken new (outcome.Answered called.LogFault) wants is = by_none new (outcome.Answered called.LogFault) wants.0 is refl (λ g a. a)
      (λ e. absurd (cc)) (λ e. absurd (cc))
  written_taken new (outcome.Answered called.Stopped) wants is = by_none new (outcome.Answered called.Stopped) wants.0 is refl (λ g a. a)
      (λ e. absurd (cc)) (λ e. absurd (cc))
  written_taken new o wants is = by_none new o wants.0 is refl (λ g a. a) (λ e. absurd (cc)) (λ e. absurd (cc))

  -- ---- an end by the server

  pub written_dismissed : (new : SessionState) → Dismisses old new → WrittenSoFar takes came new
  written_dismissed new is = same_line new (number_of is.0) (line_of is.0) (out_of is.0) (taking_of is.0)

  pub written_cut : (new : SessionState) → old.taking ≡ None → Cuts old new → WrittenSoFar takes came new
  written_cut new none is = written_at is (record {
    owes = (bytes_given old.number takes, ([], append-nil (bytes_given old.number takes)), owes_before none);
    last = λ e. absurd (cc);
    cause = λ e. absurd (cc);
    later = w.later;
  })

  -- whether its calls have set its live channel is no part of this
  pub written_fenced : (b : Bool) → WrittenSoFar takes came (record old { is_fenced = b })
  written_fenced b = record { owes = same_owes old.taking w.owes; last = w.last; cause = w.cause; later = w.later }
    where
      same_owes : (t : Option TakeEnd) → Owes t came.held old (bytes_given old.number takes)
          → Owes t came.held (record old { is_fenced = b }) (bytes_given old.number takes)
      same_owes None o = o
      same_owes (Some taking.WriteFault) o = o
      same_owes (Some taking.Memory) o = o
      same_owes (Some taking.Late) o = o
      same_owes (Some end) o = o

  -- ---- at the end of a link

  -- all that the takes gave was written, where the last one told that there are no more and nothing is left to be written
  pub written_in_order : old.taking ≡ Some taking.Ended → old.out ≡ [] → Appends came.held old.line.held (bytes_given old.number takes)
  written_in_order ended none =
      let a : Appends came.held (owed old) (bytes_given old.number takes) = subst
      (λ (x : Option TakeEnd). Owes x came.held old (bytes_given old.number takes)) ended w.owes in
      owed_all came.held old.line.held (bytes_given old.number takes) (subst (λ (o : Bytes). Appends came.held (append_known old.line.held o)
      (bytes_given old.number takes)) none a)

  -- and at every end a first part of it
  pub written_part : IfSome came.held (λ bytes. bytes ≡ []) → AppendsPart came.held old.line.held (bytes_given old.number takes)
  written_part unwritten =
      let p = part_of old.taking came.held old (bytes_given old.number takes) w.owes in
      part_of_part came.held old.line.held p.0 (bytes_given old.number takes) p.1 (owed_part came.held old.line.held old.out p.0 unwritten p.2)
