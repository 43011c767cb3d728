-- A script, line by line.
use Rattle.std.proofs.Common.{◌≡◌, ◌≢◌, ◌⊎◌, ℕ, ◌+◌, Bool, true, false, refl, sym, ap, ◌∙◌, subst, List, [], ◌∷◌, ◌++◌, length, append_assoc, length-append, arith, inl, inr}
use Rattle.std.specs.Prelude.{Option, None, Some}
use Rattle.std.proofs.lemmas.List.{append-nil}
use Rattle.std.specs.Io.KnownBytes.{Appends}
use Rattle.byte_text.specs.Names.{Bytes}
use Rattle.script_text.specs.Lines.{line}
use Rattle.script_text.specs.declared.lines.ScriptLine.{ScriptLine}
use Rattle.script_text.specs.declared.lines.ScriptLine.TheVariants as says
use Rattle.world_data.specs.declared.worlds.World.{World}
use Rattle.world_model.specs.Halls.{Hall}
use Rattle.world_model.specs.Histories.{StepBy, Step, answer, refusal_going}
use Rattle.world_model.specs.declared.events.CallOutcome.{CallOutcome}
use Rattle.world_model.specs.declared.events.CallOutcome.TheVariants as called
use Rattle.world_model.specs.declared.events.Event.TheVariants as event
use Rattle.replay_run.specs.Played.{Played}
use Rattle.replay_run.specs.declared.ends.ReplayEnd.TheVariants as ended
use Rattle.replay_run.specs.declared.halts.Halt.{Halt}
use Rattle.replay_run.specs.declared.halts.Halt.TheVariants as halted
use Rattle.replay_run.specs.declared.streams.LineEnd.TheVariants as read
use Rattle.replay_run.specs.declared.turns.Acted.TheVariants.{Printed}
use Rattle.replay_run.specs.declared.turns.Turn.{Turn}
use Rattle.replay_run.specs.declared.turns.Turn.TheVariants.{Next, End, Script, Again, ReadFault, WriteFault, Halted}
use Rattle.replay_run.specs.TextLines.{TextLine, lines, size, size_of_all}
use Rattle.replay_run.specs.Reads.{OnLine, IsOneLine, IsFirstLine, HasNoLine}
use Rattle.replay_run.specs.Traces.{Deed, Trace, trace, no_trace, joined}
use Rattle.replay_run.specs.Scripts.{IsLine, Does, Runs, Reopens, reopened_line}
use Rattle.replay_run.specs.Undone.{FailsOn, ReopenFails, IsUndone}
use Rattle.replay_run.specs.Plays.{AreDone, Retires, retired, IsReadOf, IsRead, IsBefore, IsCut, OnTurn, OnPlay, ActsOn, OnLineDone, IsTold, end_of}
use Rattle.replay_run.proofs.GoingOn.{while_going}
use Rattle.replay_run.proofs.Traces.{joined_assoc, joined_nothing}
use Rattle.outside.specs.Writing.{appends_more, appends_nothing}

-- the first line of what is left, where the source tells it
first_line_of : (left left' : Option Bytes) (l : TextLine) (xs : Bytes) → IsFirstLine left left' l → left ≡ Some xs → (rest : Bytes) × (lines xs ≡ l ∷ lines rest) × (left' ≡ Some rest)
first_line_of None left' l xs f e = absurd (cc)
first_line_of (Some ys) None l xs f e = absurd f
first_line_of (Some ys) (Some rest) l xs f e = let is : ys ≡ xs = cc in (rest, subst (λ (z : Bytes). lines z ≡ l ∷ lines rest) is f, refl)

none_of : (left left' : Option Bytes) (xs : Bytes) → HasNoLine left left' → left ≡ Some xs → (lines xs ≡ []) × (left' ≡ Some [])
none_of None left' xs f e = absurd (cc)
none_of (Some ys) None xs f e = absurd f
none_of (Some ys) (Some rest) xs f e = let is : ys ≡ xs = cc in (subst (λ (z : Bytes). lines z ≡ []) is f.0, ap (λ (z : Bytes). Some z) f.1)

-- a line was read, and then done
does_of : (told : Bool) (p p' : Played) (used used' : ℕ) (left left' : Option Bytes) (bytes out : Bytes) (deeds : List Deed) (r : OnLine read.Line left left' used used' bytes) → ActsOn told p p' bytes deeds (Printed out)
    → Does told used p r.0 (trace deeds out) p'
does_of told p p' used used' left left' bytes out deeds r d =
    record { short = r.4; said = d.0; says_it = subst (λ (b : Bytes). line b ≡ Some d.0) (sym r.2) d.1; acts = d.2 }

says_none : (l : TextLine) (bytes : Bytes) (said : ScriptLine) → l.bytes ≡ bytes → line bytes ≡ None → line l.bytes ≡ Some said → ⊥
says_none l bytes said is none some =
    let here : line bytes ≡ Some said = subst (λ (b : Bytes). line b ≡ Some said) is some in
    let clash : None ≡ Some said = sym none ∙ here in
    cc

pub line_done : (told : Bool) (t : Turn) (left left' held held' : Option Bytes) (p p' : Played) (used used' : ℕ) (bytes : Bytes) (deeds : List Deed) → OnLine read.Line left left' used used' bytes → OnLineDone told t held held' p p' bytes deeds → OnTurn told t left left' held held' p p' used used' deeds
line_done told Next left left' held held' p p' used used' bytes deeds r d = (r.0, d.0, r.1, does_of told p p' used used' left left' bytes d.0 deeds r d.1, r.3, d.2)
line_done told WriteFault left left' held held' p p' used used' bytes deeds r d = (r.0, d.0, d.1, r.1, does_of told p p' used used' left left' bytes d.0 deeds r d.2, d.3, d.4)
line_done told Script left left' held held' p p' used used' bytes deeds r d = (d.0, d.1.1, d.1.2, told_is)
  where
    told_is : (text : Bytes) → left ≡ Some text → (l : TextLine) × (behind : List TextLine) × (lines text ≡ l ∷ behind) × (IsLine used l → ⊥)
    told_is text e =
        let f = first_line_of left left' r.0 text r.1 e in
        (r.0, lines f.0, f.1, λ k. says_none r.0 bytes k.said r.2 d.1.0 k.says_it)
line_done told Again left left' held held' p p' used used' bytes deeds r d = (d.0, d.1.1, d.1.2, (r.0, r.1, r.4, subst (λ (b : Bytes). line b ≡ Some says.Reopen) (sym r.2) d.1.0, r.3))
line_done told (Halted halt) left left' held held' p p' used used' bytes deeds r d =
    (d.0, inl (r.0, r.1, record { short = r.4; fails = subst (λ (b : Bytes). FailsOn told halt p b deeds p'.hall) (sym r.2) d.1 }))
line_done told ReadFault left left' held held' p p' used used' bytes deeds r d = absurd d
line_done told End left left' held held' p p' used used' bytes deeds r d = absurd d

-- no line was read
pub no_line : (told : Bool) (left left' held : Option Bytes) (p : Played) (used used' : ℕ) (bytes : Bytes) → OnLine read.End left left' used used' bytes → OnTurn told End left left' held held p p used used' []
no_line told left left' held p used used' bytes r = (refl, refl, refl, r)

pub long_line : (told : Bool) (left left' held : Option Bytes) (p : Played) (used used' : ℕ) (bytes : Bytes) → OnLine read.TooLong left left' used used' bytes → OnTurn told Script left left' held held p p used used' []
long_line told None left' held p used used' bytes r = (refl, refl, refl, λ text e. absurd (cc))
long_line told (Some xs) left' held p used used' bytes r = (refl, refl, refl, λ text e. let is : xs ≡ text = cc in (r.0, r.1, subst (λ (z : Bytes). lines z ≡ r.0 ∷ r.1) is r.2, λ k. r.3 k.short))

-- all was opened again, and that was told
pub again_turn : (told : Bool) (turn : Turn) (left left' held held' mid : Option Bytes) (p p' q : Played) (used used' : ℕ) (none deeds : List Deed) → OnTurn told Again left left' held mid p q used used' none → Reopens told q deeds p' → IsTold turn mid held' p'.hall.world
    → OnTurn told turn left left' held held' p p' used used' deeds
again_turn told Next left left' held held' mid p p' q used used' none deeds t r w =
    let l = t.3 in
    (l.0, reopened_line p'.hall.world, l.1, record { short = l.2; said = says.Reopen; says_it = l.3; acts = (subst (λ (z : Played). Reopens told z deeds p') t.1 r, refl) }, l.4, subst (λ (z : Option Bytes). Appends z held' (reopened_line p'.hall.world)) t.0 w)
again_turn told WriteFault left left' held held' mid p p' q used used' none deeds t r w =
    let l = t.3 in
    (l.0, reopened_line p'.hall.world, w.0, l.1, record { short = l.2; said = says.Reopen; says_it = l.3; acts = (subst (λ (z : Played). Reopens told z deeds p') t.1 r, refl) }, w.1, subst (λ (z : Option Bytes). Appends z held' w.0) t.0 w.2)
again_turn told (Halted halt) left left' held held' mid p p' q used used' none deeds t r w =
    let l = t.3 in
    (w.1 ∙ t.0, inl (l.0, l.1, record { short = l.2; fails = inr (says.Reopen, l.3, inr (inr (w.0, p', subst (λ (z : Played). Reopens told z deeds p') t.1 r, refl))) }))
again_turn told End left left' held held' mid p p' q used used' none deeds t r w = absurd w
again_turn told Script left left' held held' mid p p' q used used' none deeds t r w = absurd w
again_turn told Again left left' held held' mid p p' q used used' none deeds t r w = absurd w
again_turn told ReadFault left left' held held' mid p p' q used used' none deeds t r w = absurd w

-- it was not opened again
pub again_fails : (told : Bool) (halt : Halt) (left left' held mid : Option Bytes) (p q : Played) (last : Hall) (used used' : ℕ) (none deeds : List Deed) → OnTurn told Again left left' held mid p q used used' none → ReopenFails told halt q deeds last
    → (l : TextLine) × IsFirstLine left left' l × IsUndone told halt used p l deeds last
again_fails told halt left left' held mid p q last used used' none deeds t f =
    let l = t.3 in
    (l.0, l.1, record { short = l.2; fails = inr (says.Reopen, l.3, subst (λ (z : Played). ReopenFails told halt z deeds last) t.1 f) })

-- one line more behind those that were done
pub runs_more : (told : Bool) (before : ℕ) (p : Played) (front : List TextLine) (t : Trace) (mid : Played) (l : TextLine) (now : Trace) (last : Played) → Runs told before p front t mid → Does told (before + size_of_all front) mid l now last → Runs told before p (front ++ l ∷ []) (joined t now) last
runs_more told before p [] t mid l now last r d =
    let here : Does told before p l now last = subst (λ (z : Played). Does told before z l now last) r.1 (subst (λ (n : ℕ). Does told n mid l now last) (plus before) d) in
    (last, now, no_trace, here, (refl, refl), ap (λ (z : Trace). joined z now) r.0 ∙ sym (joined_nothing now))
  where
    plus : (n : ℕ) → n + 0 ≡ n
    plus n = omega arith
runs_more told before p (k ∷ front) t mid l now last r d =
    let step : Does told (before + size k + size_of_all front) mid l now last = subst (λ (n : ℕ). Does told n mid l now last) (add before (size k) (size_of_all front)) d in
    let rest = runs_more told (before + size k) r.0 front r.2 mid l now last r.4 step in
    (r.0, r.1, joined r.2 now, r.3, rest, ap (λ (z : Trace). joined z now) r.5 ∙ joined_assoc r.1 r.2 now)
  where
    add : (a b c : ℕ) → a + (b + c) ≡ a + b + c
    add a b c = omega arith

size_more : (front : List TextLine) (l : TextLine) → size_of_all (front ++ l ∷ []) ≡ size_of_all front + size l
size_more [] l = omega arith
size_more (k ∷ front) l = let ih = size_more front l in omega (arith, ih)

-- what was done so far, and what is left of the script
pub record Going (told : Bool) (first : Played) (left0 left held0 held : Option Bytes) (number used : ℕ) (p : Played) (deeds : List Deed) : Type 0 where
  pub front : List TextLine
  pub out : Bytes
  pub written : Appends held0 held out
  pub numbered : number ≡ length front + 1
  pub used_is : used ≡ size_of_all front
  pub runs : Runs told 0 first front (trace deeds out) p
  pub text : (xs : Bytes) → left0 ≡ Some xs → (rest : Bytes) × (left ≡ Some rest) × (lines xs ≡ front ++ lines rest)

pub going_start : (told : Bool) (first : Played) (left0 held0 : Option Bytes) → Going told first left0 left0 held0 held0 1 0 first []
going_start told first left0 held0 = record { front = []; out = []; written = appends_nothing held0; numbered = refl; used_is = refl; runs = (refl, refl); text = λ xs is. (xs, is, refl) }

pub going_next : (told : Bool) (first : Played) (left0 left left' held0 held held' : Option Bytes) (number used used' : ℕ) (p p' : Played) (deeds more : List Deed) → Going told first left0 left held0 held number used p deeds → OnTurn told Next left left' held held' p p' used used' more
    → Going told first left0 left' held0 held' (number + 1) used' p' (deeds ++ more)
going_next told first left0 left left' held0 held held' number used used' p p' deeds more g t =
    let l : TextLine = t.0 in
    let grown : length (g.front ++ l ∷ []) ≡ length g.front + 1 = length-append g.front (l ∷ []) in
    let d : Does told (size_of_all g.front) p l (trace more t.1) p' = subst (λ (n : ℕ). Does told n p l (trace more t.1) p') g.used_is t.3 in
    record {
      front = g.front ++ l ∷ [];
      out = g.out ++ t.1;
      written = appends_more held0 held held' g.out t.1 g.written t.5;
      numbered = ap (λ (n : ℕ). n + 1) (g.numbered ∙ sym grown);
      used_is = t.4 ∙ ap (λ (n : ℕ). n + size l) g.used_is ∙ sym (size_more g.front l);
      runs = runs_more told 0 first g.front (trace deeds g.out) p l (trace more t.1) p' g.runs (subst (λ (n : ℕ). Does told n p l (trace more t.1) p') (zero_plus (size_of_all g.front)) d);
      text = λ xs is.
          let q = g.text xs is in
          let f = first_line_of left left' l q.0 t.2 q.1 in
          (f.0, f.2, q.2 ∙ ap (λ (ls : List TextLine). g.front ++ ls) f.1 ∙ sym (append_assoc g.front (l ∷ []) (lines f.0)));
    }
  where
    zero_plus : (n : ℕ) → n ≡ 0 + n
    zero_plus n = omega arith

-- a hall that goes on is retired, or the log fails
pub retire_answers : (h end : Hall) (c : CallOutcome) → h.stopped ≡ false → Step h event.Retire (answer c) end → (c ≡ called.Ok) ⊎ (c ≡ called.LogFault)
retire_answers h end c goes s = by_step (while_going h.stopped h end event.Retire (answer c) goes s)
  where
    by_step : StepBy (refusal_going h event.Retire) h event.Retire (answer c) end → (c ≡ called.Ok) ⊎ (c ≡ called.LogFault)
    by_step (inl f) = let is : answer c ≡ answer called.LogFault = f.1.0 in inr cc
    by_step (inr (inl m)) = let clash : false ≡ true = m.0 in absurd (cc)
    by_step (inr (inr d)) = let is : answer c ≡ answer called.Ok = d.0 in inl cc

pub not_ok : (h end : Hall) (c : CallOutcome) → h.stopped ≡ false → Step h event.Retire (answer c) end → c ≢ called.Ok → c ≡ called.LogFault
not_ok h end c goes s apart = by_answer (retire_answers h end c goes s)
  where
    by_answer : (c ≡ called.Ok) ⊎ (c ≡ called.LogFault) → c ≡ called.LogFault
    by_answer (inl is) = absurd (apart is)
    by_answer (inr is) = is

-- which turn a script ended with
pub end_read : (turn : Turn) (number : ℕ) (c : CallOutcome) → end_of turn number c ≡ ended.ReadFault → turn ≡ ReadFault
end_read ReadFault number c e = refl
end_read End number called.Ok e = absurd (cc)
end_read End number called.Full e = absurd (cc)
end_read End number called.Gone e = absurd (cc)
end_read End number called.LogFault e = absurd (cc)
end_read End number called.Stopped e = absurd (cc)
end_read End number called.Spent e = absurd (cc)
end_read End number called.Memory e = absurd (cc)
end_read Script number c e = absurd (cc)
end_read WriteFault number c e = absurd (cc)
end_read (Halted halt) number c e = absurd (cc)
end_read Next number c e = absurd (cc)
end_read Again number c e = absurd (cc)

pub end_write : (turn : Turn) (number : ℕ) (c : CallOutcome) → end_of turn number c ≡ ended.WriteFault → turn ≡ WriteFault
end_write WriteFault number c e = refl
end_write End number called.Ok e = absurd (cc)
end_write End number called.Full e = absurd (cc)
end_write End number called.Gone e = absurd (cc)
end_write End number called.LogFault e = absurd (cc)
end_write End number called.Stopped e = absurd (cc)
end_write End number called.Spent e = absurd (cc)
end_write End number called.Memory e = absurd (cc)
end_write Script number c e = absurd (cc)
end_write ReadFault number c e = absurd (cc)
end_write (Halted halt) number c e = absurd (cc)
end_write Next number c e = absurd (cc)
end_write Again number c e = absurd (cc)

-- the disk failed in the last turn, or at the retirement behind it
pub end_disk : (turn : Turn) (number : ℕ) (c : CallOutcome) → end_of turn number c ≡ ended.Halted halted.DiskFault → (turn ≡ Halted halted.DiskFault) ⊎ ((turn ≡ End) × (c ≢ called.Ok))
end_disk (Halted halt) number c e = let is : halt ≡ halted.DiskFault = cc in inl (ap Halted is)
end_disk End number called.Ok e = absurd (cc)
end_disk End number called.Full e = inr (refl, λ is. cc)
end_disk End number called.Gone e = inr (refl, λ is. cc)
end_disk End number called.LogFault e = inr (refl, λ is. cc)
end_disk End number called.Stopped e = inr (refl, λ is. cc)
end_disk End number called.Spent e = inr (refl, λ is. cc)
end_disk End number called.Memory e = inr (refl, λ is. cc)
end_disk ReadFault number c e = absurd (cc)
end_disk Script number c e = absurd (cc)
end_disk WriteFault number c e = absurd (cc)
end_disk Next number c e = absurd (cc)
end_disk Again number c e = absurd (cc)

kept_held : (held0 held held' : Option Bytes) (out : Bytes) → held' ≡ held → Appends held0 held out → Appends held0 held' out
kept_held held0 held held' out e a = subst (λ (z : Option Bytes). Appends held0 z out) (sym e) a

piece_of : (left left' : Option Bytes) (behind : Bytes) → left ≡ Some behind → IsOneLine left left' → IsReadOf behind left'
piece_of None left' behind e o = absurd cc
piece_of (Some xs) None behind e o = absurd o
piece_of (Some xs) (Some ys) behind e o = let is : xs ≡ behind = cc in (o.0, ys, sym is ∙ o.1, refl, o.2)

module _ (told : Bool) (first : Played) (Holds : World → Type 0) (Ends : List Deed → Type 0) (left0 left left' held0 held held' : Option Bytes) (number used used' : ℕ) (p p' : Played) (deeds more : List Deed) (g : Going told first left0 left held0 held number used p deeds) where
  -- the lines before, with this behind their output
  done_with : (tail : Bytes) → Appends held held' tail → AreDone told first held0 held' g.front p deeds tail
  done_with tail w = record { out = g.out; runs = g.runs; written = appends_more held0 held held' g.out tail g.written w }

  done_still : held' ≡ held → AreDone told first held0 held' g.front p deeds []
  done_still is = record { out = g.out; runs = g.runs; written = subst (λ (o : Bytes). Appends held0 held' o) (sym (append-nil g.out)) (kept_held held0 held held' g.out is g.written) }

  none_more : (answered : CallOutcome) → more ≡ [] → Ends ((deeds ++ more) ++ retired answered) → Ends (deeds ++ retired answered)
  none_more answered is e = subst (λ (z : List Deed). Ends (z ++ retired answered)) (ap (λ (z : List Deed). deeds ++ z) is ∙ append-nil deeds) e

  read_all : OnTurn told End left left' held held' p p' used used' more → (answered : CallOutcome) → Retires p'.hall answered → Ends ((deeds ++ more) ++ retired answered) → IsRead told first Ends left0 left' held0 held' answered []
  read_all t answered r e = record {
    all = g.front;
    last = p;
    deeds = deeds;
    done = done_still t.0;
    closed = subst (λ (z : Played). Retires z.hall answered) t.1 r;
    ends = none_more answered t.2 e;
    told_is = λ xs is.
        let q = g.text xs is in
        let n = none_of left left' q.0 t.3 q.1 in
        (q.2 ∙ ap (λ (ls : List TextLine). g.front ++ ls) n.0 ∙ append-nil g.front, n.1);
  }

  -- a hall that went on was not retired, as the log failed
  read_cut : OnTurn told End left left' held held' p p' used used' more → (answered : CallOutcome) → p.hall.stopped ≡ false → answered ≢ called.Ok → Retires p'.hall answered → Ends ((deeds ++ more) ++ retired answered)
      → IsCut told first Ends left0 left' held0 held' halted.DiskFault []
  read_cut t answered goes apart r e =
      let here : Retires p.hall answered = subst (λ (z : Played). Retires z.hall answered) t.1 r in
      let failed : answered ≡ called.LogFault = not_ok p.hall here.end answered goes here.step apart in
      inr (inr (refl, subst (λ (z : CallOutcome). IsRead told first Ends left0 left' held0 held' z []) failed (read_all t answered r e)))

  pub ends_play : (turn : Turn) (answered : CallOutcome) → OnTurn told turn left left' held held' p p' used used' more → IsOneLine left left' → turn ≢ Next → turn ≢ Again → p.hall.stopped ≡ false
      → Retires p'.hall answered → (answered ≡ called.Ok → Holds p'.hall.world) → Ends ((deeds ++ more) ++ retired answered) → OnPlay told first Holds Ends (end_of turn number answered) left0 left' held0 held'
  unfolding read_all
  ends_play End called.Ok t piece last over goes r w e = record { read = read_all t called.Ok r e; holds = subst (λ (z : Played). Holds z.hall.world) t.1 (w refl) }
  ends_play End called.Full t piece last over goes r w e = read_cut t called.Full goes (λ is. cc) r e
  ends_play End called.Gone t piece last over goes r w e = read_cut t called.Gone goes (λ is. cc) r e
  ends_play End called.LogFault t piece last over goes r w e = read_cut t called.LogFault goes (λ is. cc) r e
  ends_play End called.Stopped t piece last over goes r w e = read_cut t called.Stopped goes (λ is. cc) r e
  ends_play End called.Spent t piece last over goes r w e = read_cut t called.Spent goes (λ is. cc) r e
  ends_play End called.Memory t piece last over goes r w e = read_cut t called.Memory goes (λ is. cc) r e
  ends_play Script answered t piece last over goes r w e = record {
    front = g.front;
    last = p;
    deeds = deeds;
    done = done_still t.0;
    numbered = g.numbered;
    closing = retired answered;
    closed = inl (answered, subst (λ (z : Played). Retires z.hall answered) t.1 r, refl);
    ends = none_more answered t.2 e;
    told_is = λ xs is.
        let q = g.text xs is in
        let n = t.3 q.0 q.1 in
        record { behind = q.0; is = q.2; read = piece_of left left' q.0 q.1 piece; l = n.0; others = n.1; next = n.2; none = subst (λ (k : ℕ). IsLine k n.0 → ⊥) g.used_is n.3 };
  }
  ends_play ReadFault answered t piece last over goes r w e = before_all t.0 t.1 t.2 answered piece r e
    where
      before_all : held' ≡ held → p' ≡ p → more ≡ [] → (answered : CallOutcome) → IsOneLine left left' → Retires p'.hall answered → Ends ((deeds ++ more) ++ retired answered) → IsBefore told first Ends left0 left' held0 held' []
      before_all still same none answered piece r e = record {
        front = g.front;
        last = p;
        deeds = deeds;
        done = done_still still;
        closing = retired answered;
        closed = inl (answered, subst (λ (z : Played). Retires z.hall answered) same r, refl);
        ends = none_more answered none e;
        told_is = λ xs is. let q = g.text xs is in record { behind = q.0; is = q.2; read = piece_of left left' q.0 q.1 piece };
      }
  ends_play WriteFault answered t piece last over goes r w e = record {
    front = g.front;
    before = p;
    deeds = deeds;
    part = t.2;
    done = done_with t.2 t.6;
    l = t.0;
    now = trace more t.1;
    last = p';
    does_it = subst (λ (k : ℕ). Does told k p t.0 (trace more t.1) p') g.used_is t.4;
    is_part = t.5;
    closing = retired answered;
    closed = inl (answered, r, refl);
    ends = e;
    told_is = λ xs is.
        let q = g.text xs is in
        let f = first_line_of left left' t.0 q.0 t.3 q.1 in
        (f.0, q.2 ∙ ap (λ (ls : List TextLine). g.front ++ ls) f.1, f.2);
  }
  ends_play (Halted halt) answered t piece last over goes r w e = by_cause t.1
    where
      by_cause : ((l : TextLine) × IsFirstLine left left' l × IsUndone told halt used p l more p'.hall) ⊎ ((halt ≡ halted.Memory) × (p' ≡ p) × (more ≡ [])) → IsCut told first Ends left0 left' held0 held' halt []
      by_cause (inl u) = inl (record {
        front = g.front;
        before = p;
        deeds = deeds;
        done = done_still t.0;
        l = u.0;
        part = more;
        last = p'.hall;
        undone = subst (λ (k : ℕ). IsUndone told halt k p u.0 more p'.hall) g.used_is u.2;
        closing = retired answered;
        closed = inl (answered, r, refl);
        ends = e;
        told_is = λ xs is.
            let q = g.text xs is in
            let f = first_line_of left left' u.0 q.0 u.1 q.1 in
            (f.0, q.2 ∙ ap (λ (ls : List TextLine). g.front ++ ls) f.1, f.2);
      })
      by_cause (inr w) = inr (inl (
        w.0,
        record {
          front = g.front;
          last = p;
          deeds = deeds;
          done = done_still t.0;
          closing = retired answered;
          closed = inl (answered, subst (λ (z : Played). Retires z.hall answered) w.1 r, refl);
          ends = none_more answered w.2 e;
          told_is = λ xs is. let q = g.text xs is in record { behind = q.0; is = q.2; read = piece_of left left' q.0 q.1 piece };
        },
      ))
  ends_play Next answered t piece last over goes r w e = absurd (last refl)
  ends_play Again answered t piece last over goes r w e = absurd (over refl)

  -- all was not opened again
  pub ends_unopened : (halt : Halt) (last : Hall) → held' ≡ held → (l : TextLine) × IsFirstLine left left' l × IsUndone told halt used p l more last → last.stopped ≡ true → Ends (deeds ++ more) → IsCut told first Ends left0 left' held0 held' halt []
  ends_unopened halt last still u stops e = inl (record {
    front = g.front;
    before = p;
    deeds = deeds;
    done = done_still still;
    l = u.0;
    part = more;
    last = last;
    undone = subst (λ (k : ℕ). IsUndone told halt k p u.0 more last) g.used_is u.2;
    closing = [];
    closed = inr (stops, refl);
    ends = subst Ends (sym (append-nil (deeds ++ more))) e;
    told_is = λ xs is.
        let q = g.text xs is in
        let f = first_line_of left left' u.0 q.0 u.1 q.1 in
        (f.0, q.2 ∙ ap (λ (ls : List TextLine). g.front ++ ls) f.1, f.2);
  })
