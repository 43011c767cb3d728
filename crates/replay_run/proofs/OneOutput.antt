-- What a script prints, and leads to, is one.
use Rattle.std.proofs.Common.{◌≡◌, ◌≢◌, ℕ, true, ◌+◌, refl, sym, ap, ◌∙◌, subst, List, [], ◌∷◌, ◌++◌, append_assoc, inl, inr}
use Rattle.std.specs.Prelude.{Option, Some, None, map, ◌⊎◌}
use mathlib.Core.List.{IsPrefix}
use Rattle.byte_text.specs.Names.{Bytes}
use Rattle.byte_text.specs.Streams.{stream_of}
use Rattle.script_text.specs.Lines.{line}
use Rattle.script_text.specs.declared.lines.ScriptLine.{ScriptLine}
use Rattle.script_text.specs.declared.lines.ScriptLine.TheVariants as says
use Rattle.world_data.specs.declared.worlds.World.{World}
use Rattle.world_model.specs.Halls.{Hall}
use Rattle.world_model.specs.Histories.{Step, answer}
use Rattle.world_model.specs.Laws.{StepsAreDetermined}
use Rattle.world_model.specs.declared.events.CallOutcome.TheVariants as called
use Rattle.world_model.specs.declared.events.Event.{Event}
use Rattle.world_model.specs.declared.events.Event.TheVariants as event
use Rattle.world_model.specs.declared.events.Outcome.{Outcome}
use Rattle.replay_run.specs.declared.halts.Halt.TheVariants as halted
use Rattle.replay_run.specs.declared.readers.Reader.{Reader}
use Rattle.replay_run.specs.TextLines.{TextLine, size}
use Rattle.replay_run.specs.Outputs.{printed}
use Rattle.replay_run.specs.Readers.{Unread, asked_by, reader_of, with_unread, with_entered, without_reader}
use Rattle.replay_run.specs.Traces.{Deed, Trace, no_trace, joined}
use Rattle.replay_run.specs.Played.{Played}
use Rattle.replay_run.specs.Scripts.{Makes, MakesEach, FedTo, Feeds, Reopens, reopened_line, opening, Acts, Does, Runs}
use Rattle.replay_run.specs.Undone.{Fails, WantsMemory, FailsEach, FedFails, FeedsFails, ActsFail, IsUndone}
use Rattle.replay_run.specs.OneOutput.{silent, but_the_log}
use Rattle.replay_run.proofs.Quiet.{quiet_step}

-- what prints something is determined
pub record IsClean (o : Outcome) : Type 0 where
  pub no_fault : o ≢ answer called.LogFault
  pub memory : o ≢ answer called.Memory
  pub goes : o ≢ answer called.Spent

clean : (o : Outcome) (out : Bytes) → printed o ≡ Some out → IsClean o
clean o out is = record {
  no_fault = λ e. let none : printed o ≡ None = ap printed e in absurd (cc);
  memory = λ e. let none : printed o ≡ None = ap printed e in absurd (cc);
  goes = λ e. let none : printed o ≡ None = ap printed e in absurd (cc);
}

done_clean : IsClean (answer called.Ok)
done_clean = record { no_fault = λ e. absurd (cc); memory = λ e. absurd (cc); goes = λ e. absurd (cc) }

same_text : (a b : Bytes) → Some a ≡ Some b → a ≡ b
same_text a b e = cc

same_said : (a b : ScriptLine) → Some a ≡ Some b → a ≡ b
same_said a b e = cc

-- nothing was printed, or both printed the same
printed_by : (t u : Trace) → t ≡ u → t.out ≡ u.out
printed_by t u e = ap (λ (z : Trace). z.out) e

both_printed : (t now behind : Trace) → t ≡ joined now behind → t.out ≡ now.out ++ behind.out
both_printed t now behind e = ap (λ (z : Trace). z.out) e

-- two lines of play are alike: but for the length of the log they are one
pub record Alike (p q : Played) : Type 0 where
  pub hall : silent q.hall ≡ silent p.hall
  pub readers : q.readers ≡ p.readers

alike_to : (p q : Played) → Alike p q → but_the_log q ≡ but_the_log p
alike_to p q a = ap (λ (z : Hall). record q { hall = z }) a.hall ∙ ap (λ (z : List Reader). record p { hall = silent p.hall; readers = z }) a.readers

module _ (determined : StepsAreDetermined) where
  -- steps of halls that are alike
  same_step : (h g next end : Hall) (e : Event) (o p : Outcome) → silent g ≡ silent h → IsClean o → IsClean p → Step h e o next → Step g e p end → (p ≡ o) × (silent end ≡ silent next)
  same_step h g next end e o p same co cp a b =
      let qa = quiet_step h next e o co.goes a in
      let qb = quiet_step g end e p cp.goes b in
      let moved : Step (silent h) e p qb.0 = subst (λ (z : Hall). Step z e p qb.0) same qb.1 in
      let d = determined (silent h) qb.0 qa.0 e p o cp.no_fault cp.memory co.no_fault co.memory moved qa.1 in
      (d.0, sym qb.2 ∙ ap silent d.1 ∙ qa.2)

  same_make : (h g : Hall) (e : Event) (t other : Trace) (next end : Hall) → silent g ≡ silent h → (a : Makes h e t next) (b : Makes g e other end) → (other.out ≡ t.out) × (silent end ≡ silent next) × (b.outcome ≡ a.outcome)
  same_make h g e t other next end same a b =
      let d = same_step h g next end e a.outcome b.outcome same (clean a.outcome t.out a.prints) (clean b.outcome other.out b.prints) a.step b.step in
      (same_text other.out t.out (sym b.prints ∙ ap printed d.0 ∙ a.prints), d.1, d.0)

  same_each : (h g : Hall) (events : List Event) (t other : Trace) (next end : Hall) → silent g ≡ silent h → MakesEach h events t next → MakesEach g events other end → (other.out ≡ t.out) × (silent end ≡ silent next)
  same_each h g [] t other next end same a b = (printed_by other no_trace b.0 ∙ sym (printed_by t no_trace a.0), ap silent b.1 ∙ same ∙ ap silent (sym a.1))
  same_each h g (e ∷ events) t other next end same a b =
      let s = same_make h g e a.1 b.1 a.0 b.0 same a.3 b.3 in
      let r = same_each a.0 b.0 events a.2 b.2 next end s.1 a.4 b.4 in
      (both_printed other b.1 b.2 b.5 ∙ ap (λ (z : Bytes). z ++ b.2.out) s.0 ∙ ap (λ (z : Bytes). a.1.out ++ z) r.0 ∙ sym (both_printed t a.1 a.2 a.5), r.1)

  same_fed : (h g : Hall) (n m : ℕ) (u : Unread) (bytes : Bytes) (t other : Trace) (next end : Hall) (v w : Unread) → silent g ≡ silent h → FedTo h n m u bytes t next v → FedTo g n m u bytes other end w → (other.out ≡ t.out) × (silent end ≡ silent next) × (w ≡ v)
  same_fed h g n m None bytes t other next end v w same a b = (ap (λ (z : Trace). z.out) (b.0 ∙ sym a.0), ap silent b.1 ∙ same ∙ ap silent (sym a.1), b.2 ∙ sym a.2)
  same_fed h g n m (Some rest) bytes t other next end v w same a b =
      let s = same_each h g (map (event.Call n m) (asked_by (stream_of (rest ++ bytes)))) t other next end same a.0 b.0 in
      (s.0, s.1, b.1 ∙ sym a.1)

  same_feeds : (p q : Played) (n m : ℕ) (bytes : Bytes) (r : Option Reader) (t other : Trace) (next end : Played) → Alike p q → Feeds p n m bytes r t next → Feeds q n m bytes r other end → (other.out ≡ t.out) × Alike next end
  same_feeds p q n m bytes None t other next end alike a b = (
    ap (λ (z : Trace). z.out) (b.0 ∙ sym a.0),
    record { hall = ap (λ (z : Played). silent z.hall) b.1 ∙ alike.hall ∙ ap (λ (z : Played). silent z.hall) (sym a.1); readers = ap (λ (z : Played). z.readers) b.1 ∙ alike.readers ∙ ap (λ (z : Played). z.readers) (sym a.1) },
  )
  same_feeds p q n m bytes (Some r) t other next end alike a b =
      let s = same_fed p.hall q.hall n m r.unread bytes t other next.hall end.hall a.0 b.0 alike.hall a.1 b.1 in
      (s.0, record { hall = s.1; readers = b.2 ∙ ap (λ (u : Unread). with_unread n u q.readers) s.2 ∙ ap (with_unread n a.0) alike.readers ∙ sym a.2 })

  same_reopened : (p q : Played) (t other : Trace) (next end : Played) → Alike p q → (a : Reopens true p t.deeds next) → t.out ≡ reopened_line next.hall.world → (b : Reopens true q other.deeds end) → other.out ≡ reopened_line end.hall.world → (other.out ≡ t.out) × Alike next end
  same_reopened p q t other next end alike a printed b printed_too =
      let d = same_step p.hall q.hall a.left b.left event.Retire (answer called.Ok) (answer called.Ok) alike.hall done_clean done_clean a.retired b.retired in
      let world : b.world ≡ a.world = b.same refl ∙ ap (λ (z : Hall). z.world) d.1 ∙ sym (a.same refl) in
      let halls : silent end.hall ≡ silent next.hall = ap (λ (z : Played). silent z.hall) b.begins ∙ ap (λ (w : World). (opening w 0).hall) world ∙ ap (λ (z : Played). silent z.hall) (sym a.begins) in (
        printed_too ∙ ap (λ (z : Hall). reopened_line z.world) halls ∙ sym printed,
        record { hall = halls; readers = ap (λ (z : Played). z.readers) b.begins ∙ ap (λ (z : Played). z.readers) (sym a.begins) },
      )

  same_one : (p q : Played) (e : Event) (t other : Trace) (next end : Played) → Alike p q → Makes p.hall e t next.hall → next.readers ≡ p.readers → Makes q.hall e other end.hall → end.readers ≡ q.readers → (other.out ≡ t.out) × Alike next end
  same_one p q e t other next end alike a stay b stay_too =
      let s = same_make p.hall q.hall e t other next.hall end.hall alike.hall a b in
      (s.0, record { hall = s.1; readers = stay_too ∙ alike.readers ∙ sym stay })

  same_acts : (p q : Played) (said : ScriptLine) (t other : Trace) (next end : Played) → Alike p q → Acts true p said t next → Acts true q said other end → (other.out ≡ t.out) × Alike next end
  same_acts p q says.Nothing t other next end alike a b = (
    ap (λ (z : Trace). z.out) (b.0 ∙ sym a.0),
    record { hall = ap (λ (z : Played). silent z.hall) b.1 ∙ alike.hall ∙ ap (λ (z : Played). silent z.hall) (sym a.1); readers = ap (λ (z : Played). z.readers) b.1 ∙ alike.readers ∙ ap (λ (z : Played). z.readers) (sym a.1) },
  )
  same_acts p q says.Enter t other next end alike a b =
      let s = same_make p.hall q.hall event.Enter t other next.hall end.hall alike.hall a.0 b.0 in
      (s.0, record { hall = s.1; readers = b.1 ∙ ap (λ (o : Outcome). with_entered o q.readers) s.2 ∙ ap (with_entered a.0.outcome) alike.readers ∙ sym a.1 })
  same_acts p q (says.Feed n m bytes) t other next end alike a b =
      same_feeds p q n m bytes (reader_of n p.readers) t other next end alike a (subst (λ (rs : List Reader). Feeds q n m bytes (reader_of n rs) other end) alike.readers b)
  same_acts p q (says.Take n) t other next end alike a b = same_one p q (event.Take n) t other next end alike a.0 a.1 b.0 b.1
  same_acts p q (says.Tick m) t other next end alike a b = same_one p q (event.Tick m) t other next end alike a.0 a.1 b.0 b.1
  same_acts p q (says.Close n) t other next end alike a b =
      let s = same_make p.hall q.hall (event.Close n) t other next.hall end.hall alike.hall a.0 b.0 in
      (s.0, record { hall = s.1; readers = b.1 ∙ ap (without_reader n) alike.readers ∙ sym a.1 })
  same_acts p q says.Step t other next end alike a b = same_one p q event.Rewrite t other next end alike a.0 a.1 b.0 b.1
  same_acts p q says.Reopen t other next end alike a b = same_reopened p q t other next end alike a.0 a.1 b.0 b.1

  same_does : (before : ℕ) (p q : Played) (l : TextLine) (t other : Trace) (next end : Played) → Alike p q → Does true before p l t next → Does true before q l other end → (other.out ≡ t.out) × Alike next end
  same_does before p q l t other next end alike a b =
      let said : b.said ≡ a.said = same_said b.said a.said (sym b.says_it ∙ a.says_it) in
      same_acts p q a.said t other next end alike a.acts (subst (λ (z : ScriptLine). Acts true q z other end) said b.acts)

  same_runs_of : (before : ℕ) (p q last end : Played) (ls : List TextLine) (t other : Trace) → Alike p q → Runs true before p ls t last → Runs true before q ls other end → (other.out ≡ t.out) × Alike last end
  same_runs_of before p q last end [] t other alike a b = (
    printed_by other no_trace b.0 ∙ sym (printed_by t no_trace a.0),
    record { hall = ap (λ (z : Played). silent z.hall) b.1 ∙ alike.hall ∙ ap (λ (z : Played). silent z.hall) (sym a.1); readers = ap (λ (z : Played). z.readers) b.1 ∙ alike.readers ∙ ap (λ (z : Played). z.readers) (sym a.1) },
  )
  same_runs_of before p q last end (l ∷ ls) t other alike a b =
      let s = same_does before p q l a.1 b.1 a.0 b.0 alike a.3 b.3 in
      let r = same_runs_of (before + size l) a.0 b.0 last end ls a.2 b.2 s.1 a.4 b.4 in
      (both_printed other b.1 b.2 b.5 ∙ ap (λ (z : Bytes). z ++ b.2.out) s.0 ∙ ap (λ (z : Bytes). a.1.out ++ z) r.0 ∙ sym (both_printed t a.1 a.2 a.5), r.1)

  pub same_runs : (before : ℕ) (p last end : Played) (ls : List TextLine) (t other : Trace) → Runs true before p ls t last → Runs true before p ls other end → (other.out ≡ t.out) × (but_the_log end ≡ but_the_log last)
  same_runs before p last end ls t other a b =
      let s = same_runs_of before p p last end ls t other (record { hall = refl; readers = refl }) a b in
      (s.0, alike_to last end s.1)

  first_runs_of : (before : ℕ) (p q mid last : Played) (front more : List TextLine) (t all : Trace) → Alike p q → Runs true before p front t mid → Runs true before q (front ++ more) all last → IsPrefix t.out all.out
  first_runs_of before p q mid last [] more t all alike a b = (all.out, ap (λ (z : Bytes). z ++ all.out) (printed_by t no_trace a.0))
  first_runs_of before p q mid last (l ∷ front) more t all alike a b =
      let s = same_does before p q l a.1 b.1 a.0 b.0 alike a.3 b.3 in
      let r = first_runs_of (before + size l) a.0 b.0 mid last front more a.2 b.2 s.1 a.4 b.4 in
      (r.0, ap (λ (z : Bytes). z ++ r.0) (both_printed t a.1 a.2 a.5) ∙ append_assoc a.1.out a.2.out r.0 ∙ ap (λ (z : Bytes). a.1.out ++ z) r.1 ∙ ap (λ (z : Bytes). z ++ b.2.out) (sym s.0) ∙ sym (both_printed all b.1 b.2 b.5))

  pub first_runs : (before : ℕ) (p mid last : Played) (front more : List TextLine) (t all : Trace) → Runs true before p front t mid → Runs true before p (front ++ more) all last → IsPrefix t.out all.out
  first_runs before p mid last front more t all a b = first_runs_of before p p mid last front more t all (record { hall = refl; readers = refl }) a b

  -- an event that is made leads to one hall
  exact_make : (h : Hall) (e : Event) (t other : Trace) (next end : Hall) → Makes h e t next → Makes h e other end → end ≡ next
  exact_make h e t other next end a b =
      let p = clean a.outcome t.out a.prints in
      let q = clean b.outcome other.out b.prints in
      (determined h end next e b.outcome a.outcome q.no_fault q.memory p.no_fault p.memory b.step a.step).1

  not_spent : (h : Hall) (e : Event) (t : Trace) (next last : Hall) (deeds : List Deed) → Makes h e t next → Fails halted.Spent h e deeds last → ⊥
  not_spent h e t next last deeds a s =
      let p = clean a.outcome t.out a.prints in
      p.goes (determined h next h e a.outcome (answer called.Spent) p.no_fault p.memory (λ e. absurd (cc)) (λ e. absurd (cc)) a.step s.0.step).0

  no_want : (h last : Hall) (deeds : List Deed) → WantsMemory halted.Spent h deeds last → ⊥
  no_want h last deeds w = let is : halted.Spent ≡ halted.Memory = w.0 in cc

  not_each : (h : Hall) (events : List Event) (t : Trace) (next last : Hall) (deeds : List Deed) → MakesEach h events t next → FailsEach halted.Spent h events deeds last → ⊥
  not_each h [] t next last deeds a s = no_want h last deeds s
  not_each h (e ∷ events) t next last deeds a (inl s) = not_spent h e a.1 a.0 last deeds a.3 s
  not_each h (e ∷ events) t next last deeds a (inr s) =
      let same = exact_make h e a.1 s.1 a.0 s.0 a.3 s.3 in
      not_each a.0 events a.2 next last s.2 a.4 (subst (λ (z : Hall). FailsEach halted.Spent z events s.2 last) same s.4)

  not_fed : (h : Hall) (n m : ℕ) (u : Unread) (bytes : Bytes) (t : Trace) (next last : Hall) (v : Unread) (deeds : List Deed) → FedTo h n m u bytes t next v → FedFails halted.Spent h n m u bytes deeds last → ⊥
  not_fed h n m None bytes t next last v deeds a s = no_want h last deeds s
  not_fed h n m (Some rest) bytes t next last v deeds a s = not_each h (map (event.Call n m) (asked_by (stream_of (rest ++ bytes)))) t next last deeds a.0 s

  not_feeds : (p : Played) (n m : ℕ) (bytes : Bytes) (r : Option Reader) (t : Trace) (next : Played) (last : Hall) (deeds : List Deed) → Feeds p n m bytes r t next → FeedsFails halted.Spent p.hall n m bytes r deeds last → ⊥
  not_feeds p n m bytes None t next last deeds a s = no_want p.hall last deeds s
  not_feeds p n m bytes (Some r) t next last deeds a s = not_fed p.hall n m r.unread bytes t next.hall last a.0 deeds a.1 s

  not_reopened : (p : Played) (left last : Hall) (deeds : List Deed) → Step p.hall event.Retire (answer called.Ok) left → Fails halted.Spent p.hall event.Retire deeds last → ⊥
  not_reopened p left last deeds a s =
      let is : answer called.Ok ≡ answer called.Spent = (determined p.hall left p.hall event.Retire (answer called.Ok) (answer called.Spent) (λ e. absurd (cc)) (λ e. absurd (cc)) (λ e. absurd (cc)) (λ e. absurd (cc)) a s.0.step).0 in
      cc

  not_acts : (p : Played) (said : ScriptLine) (t : Trace) (next : Played) (last : Hall) (deeds : List Deed) → Acts true p said t next → ActsFail true halted.Spent p said deeds last → ⊥
  not_acts p says.Nothing t next last deeds a s = no_want p.hall last deeds s
  not_acts p says.Enter t next last deeds a s = not_spent p.hall event.Enter t next.hall last deeds a.0 s
  not_acts p (says.Feed n m bytes) t next last deeds a s = not_feeds p n m bytes (reader_of n p.readers) t next last deeds a s
  not_acts p (says.Take n) t next last deeds a s = not_spent p.hall (event.Take n) t next.hall last deeds a.0 s
  not_acts p (says.Tick m) t next last deeds a s = not_spent p.hall (event.Tick m) t next.hall last deeds a.0 s
  not_acts p (says.Close n) t next last deeds a s = not_spent p.hall (event.Close n) t next.hall last deeds a.0 s
  not_acts p says.Step t next last deeds a s = not_spent p.hall event.Rewrite t next.hall last deeds a.0 s
  not_acts p says.Reopen t next last deeds a (inl s) = not_reopened p a.0.left last deeds a.0.retired s
  not_acts p says.Reopen t next last deeds a (inr (inl s)) = s.0 refl
  not_acts p says.Reopen t next last deeds a (inr (inr s)) = let is : halted.Spent ≡ halted.Memory = s.0 in cc

  pub not_done : (before : ℕ) (p next : Played) (l : TextLine) (t : Trace) (deeds : List Deed) (last : Hall) → Does true before p l t next → IsUndone true halted.Spent before p l deeds last → ⊥
  not_done before p next l t deeds last a s = by_fault s.fails
    where
      by_fault : (WantsMemory halted.Spent p.hall deeds last ⊎ ((said : ScriptLine) × (line l.bytes ≡ Some said) × ActsFail true halted.Spent p said deeds last)) → ⊥
      by_fault (inl w) = no_want p.hall last deeds w
      by_fault (inr f) =
          let said : f.0 ≡ a.said = same_said f.0 a.said (sym f.1 ∙ a.says_it) in
          not_acts p a.said t next last deeds a.acts (subst (λ (z : ScriptLine). ActsFail true halted.Spent p z deeds last) said f.2)
