-- Each work has an answer of its own kind, which tells what was done.
use Rattle.std.proofs.Common.{◌≡◌, ◌∙◌, ℕ, List, [], ◌∷◌, ◌++◌, length, false, refl, sym, ap, subst, true≢false}
use Rattle.std.specs.Prelude.{Result, Option, Bool}
use Rattle.world_data.specs.Frames.{FrameList}
use Rattle.world_data.specs.Limits.{take_frames}
use Rattle.outside.specs.Sides.{Sides}
use Rattle.world_model.specs.Halls.{NamesChanged}
use Rattle.world_model.specs.Outcomes.{enter_outcome, take_outcome, given_count, call_acts, IsCount}
use Rattle.world_model.specs.Seats.{Knows, AddsCalls, AddsNamed}
use Rattle.world_model.specs.declared.events.Answers.{Answers}
use Rattle.world_model.specs.declared.events.Asked.{Asked}
use Rattle.world_model.specs.declared.events.CallOutcome.{CallOutcome}
use Rattle.world_model.specs.declared.events.EnterFault.{EnterFault}
use Rattle.world_model.specs.declared.events.Entry.{Entry}
use Rattle.world_model.specs.declared.events.LogState.{LogState}
use Rattle.world_model.specs.declared.events.Taken.{Taken}
use Rattle.world_model.specs.declared.events.Event.TheVariants as event
use Rattle.world_model.specs.declared.events.Outcome.TheVariants as outcome
use Rattle.world_model.specs.Halls.{Hall}
use Rattle.repl_stream.specs.Feeds.{IfGiven, bytes_in, called_of}
use Rattle.repl_stream.specs.declared.feeds.PartAnswer.{PartAnswer}
use Rattle.repl_stream.specs.declared.feeds.PartAnswer.TheVariants as parts
use Rattle.repl_stream.specs.declared.part_bytes.PartBytes.{PartBytes}
use Rattle.durable_core.specs.Parts.{IsPartOfWorld}
use Rattle.shared_hall.specs.declared.works.Asking.{Asking}
use Rattle.shared_hall.specs.declared.works.AskingPart.{AskingPart}
use Rattle.shared_hall.specs.declared.works.Taking.{Taking}
use Rattle.shared_hall.specs.declared.works.Ticking.{Ticking}
use Rattle.shared_hall.specs.declared.works.HallAnswer.{HallAnswer}
use Rattle.shared_hall.specs.declared.works.HallAnswer.TheVariants as answer
use Rattle.shared_hall.specs.declared.works.HallWork.{HallWork}
use Rattle.shared_hall.specs.declared.works.HallWork.TheVariants as work
use Rattle.shared_hall.specs.declared.places.Place.{Place}
use Rattle.durable_core.specs.Histories.{Writing}
use Rattle.shared_hall.specs.Cores.{hall_in, tells, writing_in}
use Rattle.shared_hall.specs.Turns.{acts, note_by, retires, Gives}
use Rattle.shared_hall.specs.Fed.{EndsNoted, note_in}
use Rattle.shared_hall.specs.Seats.{AnswersAsk, IsDone}
use Rattle.shared_hall.specs.Times.{entries_at, noted_at}
use Rattle.shared_hall.proofs.Adding.{NoRetire, calls_go_on, adds_acts, adds_named}
use Rattle.shared_hall.proofs.Feeding.{any_feeds}

module _ {D : Type 0} (crashes : D → Bool) (seen : D → Option Sides) (images : D → Sides → Type 0) (moment : D → ℕ) (left_since : D → ℕ → Sides → Type 0) (faults : D → ℕ) (handed : D) (first : Writing) where
  abbrev GivesIn : HallWork → Place D → HallAnswer D → Place D → Type 0
  GivesIn = Gives crashes seen images moment left_since faults

  abbrev Done : HallWork → HallAnswer D → Knows → Knows → Type 0
  Done = IsDone crashes seen images moment left_since faults handed first

  is_entered : (old new : Place D) (out : HallAnswer D) → GivesIn work.Enter old out new → (r : Result ℕ EnterFault) × (out ≡ answer.Entered r)
  is_entered old new (answer.Entered r) g = (r, refl)
  is_entered old new (answer.Called a asked touched) g = absurd g
  is_entered old new (answer.Taken t into) g = absurd g
  is_entered old new (answer.Ticked c touched) g = absurd g
  is_entered old new (answer.Rewrote c state) g = absurd g
  is_entered old new (answer.Parted a into) g = absurd g
  is_entered old new (answer.Retired given) g = absurd g
  is_entered old new answer.Done g = absurd g

  is_called : (w : Asking) (old new : Place D) (out : HallAnswer D) → GivesIn (work.Call w) old out new → (a : Answers) × (asked : List Asked) × (touched : List ℕ) × (out ≡ answer.Called a asked touched)
  is_called w old new (answer.Entered r) g = absurd g
  is_called w old new (answer.Called a asked touched) g = (a, asked, touched, refl)
  is_called w old new (answer.Taken t into) g = absurd g
  is_called w old new (answer.Ticked c touched) g = absurd g
  is_called w old new (answer.Rewrote c state) g = absurd g
  is_called w old new (answer.Parted a into) g = absurd g
  is_called w old new (answer.Retired given) g = absurd g
  is_called w old new answer.Done g = absurd g

  is_taken : (w : Taking) (old new : Place D) (out : HallAnswer D) → GivesIn (work.Take w) old out new → (t : Taken) × (into : FrameList) × (out ≡ answer.Taken t into)
  is_taken w old new (answer.Entered r) g = absurd g
  is_taken w old new (answer.Called a asked touched) g = absurd g
  is_taken w old new (answer.Taken t into) g = (t, into, refl)
  is_taken w old new (answer.Ticked c touched) g = absurd g
  is_taken w old new (answer.Rewrote c state) g = absurd g
  is_taken w old new (answer.Parted a into) g = absurd g
  is_taken w old new (answer.Retired given) g = absurd g
  is_taken w old new answer.Done g = absurd g

  is_ticked : (w : Ticking) (old new : Place D) (out : HallAnswer D) → GivesIn (work.Tick w) old out new → (c : CallOutcome) × (touched : List ℕ) × (out ≡ answer.Ticked c touched)
  is_ticked w old new (answer.Entered r) g = absurd g
  is_ticked w old new (answer.Called a asked touched) g = absurd g
  is_ticked w old new (answer.Taken t into) g = absurd g
  is_ticked w old new (answer.Ticked c touched) g = (c, touched, refl)
  is_ticked w old new (answer.Rewrote c state) g = absurd g
  is_ticked w old new (answer.Parted a into) g = absurd g
  is_ticked w old new (answer.Retired given) g = absurd g
  is_ticked w old new answer.Done g = absurd g

  is_closed : (n : ℕ) (old new : Place D) (out : HallAnswer D) → GivesIn (work.Close n) old out new → out ≡ answer.Done
  is_closed n old new (answer.Entered r) g = absurd g
  is_closed n old new (answer.Called a asked touched) g = absurd g
  is_closed n old new (answer.Taken t into) g = absurd g
  is_closed n old new (answer.Ticked c touched) g = absurd g
  is_closed n old new (answer.Rewrote c state) g = absurd g
  is_closed n old new (answer.Parted a into) g = absurd g
  is_closed n old new (answer.Retired given) g = absurd g
  is_closed n old new answer.Done g = refl

  is_removed : (n : ℕ) (old new : Place D) (out : HallAnswer D) → GivesIn (work.Remove n) old out new → out ≡ answer.Done
  is_removed n old new (answer.Entered r) g = absurd g
  is_removed n old new (answer.Called a asked touched) g = absurd g
  is_removed n old new (answer.Taken t into) g = absurd g
  is_removed n old new (answer.Ticked c touched) g = absurd g
  is_removed n old new (answer.Rewrote c state) g = absurd g
  is_removed n old new (answer.Parted a into) g = absurd g
  is_removed n old new (answer.Retired given) g = absurd g
  is_removed n old new answer.Done g = refl

  is_rewrote : (old new : Place D) (out : HallAnswer D) → GivesIn work.StepRewrite old out new → (c : CallOutcome) × (state : LogState) × (out ≡ answer.Rewrote c state)
  is_rewrote old new (answer.Entered r) g = absurd g
  is_rewrote old new (answer.Called a asked touched) g = absurd g
  is_rewrote old new (answer.Taken t into) g = absurd g
  is_rewrote old new (answer.Ticked c touched) g = absurd g
  is_rewrote old new (answer.Rewrote c state) g = (c, state, refl)
  is_rewrote old new (answer.Parted a into) g = absurd g
  is_rewrote old new (answer.Retired given) g = absurd g
  is_rewrote old new answer.Done g = absurd g

  is_parted : (w : AskingPart) (old new : Place D) (out : HallAnswer D) → GivesIn (work.Part w) old out new → (a : PartAnswer) × (into : PartBytes) × (out ≡ answer.Parted a into)
  is_parted w old new (answer.Entered r) g = absurd g
  is_parted w old new (answer.Called a asked touched) g = absurd g
  is_parted w old new (answer.Taken t into) g = absurd g
  is_parted w old new (answer.Ticked c touched) g = absurd g
  is_parted w old new (answer.Rewrote c state) g = absurd g
  is_parted w old new (answer.Parted a into) g = (a, into, refl)
  is_parted w old new (answer.Retired given) g = absurd g
  is_parted w old new answer.Done g = absurd g

  is_retired : (old new : Place D) (out : HallAnswer D) → GivesIn work.Retire old out new → (given : Option (D × CallOutcome)) × (out ≡ answer.Retired given)
  is_retired old new (answer.Entered r) g = absurd g
  is_retired old new (answer.Called a asked touched) g = absurd g
  is_retired old new (answer.Taken t into) g = absurd g
  is_retired old new (answer.Ticked c touched) g = absurd g
  is_retired old new (answer.Rewrote c state) g = absurd g
  is_retired old new (answer.Parted a into) g = absurd g
  is_retired old new (answer.Retired given) g = (given, refl)
  is_retired old new answer.Done g = absurd g

  -- what each answer tells of the work that was done

  pub entered : (out : HallAnswer D) (old new : Knows) (r : Result ℕ EnterFault) → out ≡ answer.Entered r → Done work.Enter out old new → AddsCalls ((event.Enter, enter_outcome r) ∷ []) old new
  entered out old new r is d = adds_acts crashes seen images moment left_since faults handed first work.Enter out old new ((event.Enter, enter_outcome r) ∷ []) (ap (λ (z : HallAnswer D). acts work.Enter z) is) d

  called_gives : (w : Asking) (out : HallAnswer D) (old new : Knows) (a : Answers) (asked : List Asked) (touched : List ℕ) → out ≡ answer.Called a asked touched → (d : Done (work.Call w) out old new) → (asked ≡ w.asked) × IsCount a.served a.end (length w.asked) × NamesChanged touched (hall_in d.before) (hall_in d.after)
  called_gives w out old new a asked touched is d = subst (λ (z : HallAnswer D). GivesIn (work.Call w) d.before z d.after) is d.gives

  pub called : (w : Asking) (out : HallAnswer D) (old new : Knows) (a : Answers) (asked : List Asked) (touched : List ℕ) → out ≡ answer.Called a asked touched → Done (work.Call w) out old new → AddsNamed (call_acts w.session w.moment w.asked a.served a.end) touched old new
  called w out old new a asked touched is d =
      adds_named crashes seen images moment left_since faults handed first (work.Call w) out old new (call_acts w.session w.moment w.asked a.served a.end) touched (ap (λ (z : HallAnswer D). acts (work.Call w) z) is) d (called_gives w out old new a asked touched is d).2

  pub called_count : (w : Asking) (out : HallAnswer D) (old new : Knows) (a : Answers) (asked : List Asked) (touched : List ℕ) → out ≡ answer.Called a asked touched → Done (work.Call w) out old new → IsCount a.served a.end (length w.asked)
  called_count w out old new a asked touched is d = (called_gives w out old new a asked touched is d).1

  pub called_back : (w : Asking) (out : HallAnswer D) (old new : Knows) (a : Answers) (asked : List Asked) (touched : List ℕ) → out ≡ answer.Called a asked touched → Done (work.Call w) out old new → asked ≡ w.asked
  called_back w out old new a asked touched is d = (called_gives w out old new a asked touched is d).0

  pub taken : (w : Taking) (out : HallAnswer D) (old new : Knows) (t : Taken) (into : FrameList) → out ≡ answer.Taken t into → Done (work.Take w) out old new → AddsCalls ((event.Take w.session, take_outcome t into.list) ∷ []) old new
  taken w out old new t into is d = adds_acts crashes seen images moment left_since faults handed first (work.Take w) out old new ((event.Take w.session, take_outcome t into.list) ∷ []) (ap (λ (z : HallAnswer D). acts (work.Take w) z) is) d

  pub taken_places : (w : Taking) (out : HallAnswer D) (old new : Knows) (t : Taken) (into : FrameList) → out ≡ answer.Taken t into → Done (work.Take w) out old new → (length into.list ≡ given_count t) × (into.places ≡ take_frames)
  taken_places w out old new t into is d = subst (λ (z : HallAnswer D). GivesIn (work.Take w) d.before z d.after) is d.gives

  pub ticked : (w : Ticking) (out : HallAnswer D) (old new : Knows) (a : CallOutcome) (touched : List ℕ) → out ≡ answer.Ticked a touched → Done (work.Tick w) out old new → AddsNamed ((event.Tick w.moment, outcome.Answered a) ∷ []) touched old new
  ticked w out old new a touched is d =
      adds_named crashes seen images moment left_since faults handed first (work.Tick w) out old new ((event.Tick w.moment, outcome.Answered a) ∷ []) touched (ap (λ (z : HallAnswer D). acts (work.Tick w) z) is) d (subst (λ (z : HallAnswer D). GivesIn (work.Tick w) d.before z d.after) is d.gives)

  pub closed : (n : ℕ) (out : HallAnswer D) (old new : Knows) → Done (work.Close n) out old new → AddsCalls ((event.Close n, outcome.Done) ∷ []) old new
  closed n out old new d = adds_acts crashes seen images moment left_since faults handed first (work.Close n) out old new ((event.Close n, outcome.Done) ∷ []) (ap (λ (z : HallAnswer D). acts (work.Close n) z) (is_closed n d.before d.after out d.gives)) d

  pub removed : (n : ℕ) (out : HallAnswer D) (old new : Knows) → Done (work.Remove n) out old new → AddsCalls ((event.Remove n, outcome.Done) ∷ []) old new
  removed n out old new d = adds_acts crashes seen images moment left_since faults handed first (work.Remove n) out old new ((event.Remove n, outcome.Done) ∷ []) (ap (λ (z : HallAnswer D). acts (work.Remove n) z) (is_removed n d.before d.after out d.gives)) d

  pub rewrote : (out : HallAnswer D) (old new : Knows) (a : CallOutcome) (state : LogState) → out ≡ answer.Rewrote a state → Done work.StepRewrite out old new → AddsCalls ((event.Rewrite, outcome.Answered a) ∷ []) old new
  rewrote out old new a state is d = adds_acts crashes seen images moment left_since faults handed first work.StepRewrite out old new ((event.Rewrite, outcome.Answered a) ∷ []) (ap (λ (z : HallAnswer D). acts work.StepRewrite z) is) d

  pub parted : (w : AskingPart) (out : HallAnswer D) (old new : Knows) (a : PartAnswer) (into : PartBytes) → out ≡ answer.Parted a into → Done (work.Part w) out old new
      → AddsCalls ((event.Rewrite, outcome.Answered (called_of a)) ∷ []) old new
  parted w out old new a into is d = adds_acts crashes seen images moment left_since faults handed first (work.Part w) out old new ((event.Rewrite, outcome.Answered (called_of a)) ∷ []) (ap (λ (z : HallAnswer D). acts (work.Part w) z) is) d

  -- what a part is, by the world to which the history leads
  parted_gives : (w : AskingPart) (out : HallAnswer D) (old new : Knows) (a : PartAnswer) (into : PartBytes) → out ≡ answer.Parted a into → (d : Done (work.Part w) out old new) → GivesIn (work.Part w) d.before (answer.Parted a into) d.after
  parted_gives w out old new a into is d = subst (λ (z : HallAnswer D). GivesIn (work.Part w) d.before z d.after) is d.gives

  -- and what the entry tells of it
  parted_noted : (w : AskingPart) (out : HallAnswer D) (old new : Knows) (a : PartAnswer) (into : PartBytes) → out ≡ answer.Parted a into → Done (work.Part w) out old new → EndsNoted new.seen (note_in w.ask a into)
  parted_noted w out old new a into is d =
      let at = d.noted in
      let are = subst (λ (z : HallAnswer D). d.adds.entries ≡ entries_at at.0 at.1 (note_by (work.Part w) z) (acts (work.Part w) z)) is at.2 in
      (old.seen ++ d.adds.between, noted_at at.1 (event.Rewrite, outcome.Answered (called_of a)) (note_in w.ask a into), d.adds.seen ∙ ap (λ (l : List Entry). (old.seen ++ d.adds.between) ++ l) are, refl)

  pub parted_answers : (w : AskingPart) (out : HallAnswer D) (old new : Knows) (a : PartAnswer) (into : PartBytes) → out ≡ answer.Parted a into → Done (work.Part w) out old new
      → IfGiven a (λ part. AnswersAsk (tells crashes seen handed) first new w.ask part (bytes_in into))
  parted_answers w out old new a into is d = by a (parted_gives w out old new a into is d) (parted_noted w out old new a into is d)
    where
      by : (a : PartAnswer) → GivesIn (work.Part w) d.before (answer.Parted a into) d.after → EndsNoted new.seen (note_in w.ask a into)
          → IfGiven a (λ part. AnswersAsk (tells crashes seen handed) first new w.ask part (bytes_in into))
      by (parts.Given part) gives ends = record {
        generation = (writing_in d.after).generation;
        leaves = record { hall = hall_in d.after; end = writing_in d.after; writes = d.stands.writes; is = refl };
        is = λ told h reached.
            let k = d.stood.kept told in
            let x = gives k.1.0 k.1.1 in
            subst (λ (x : Hall). IsPartOfWorld w.ask (writing_in d.after).generation x.world part (bytes_in into)) (sym (d.one h reached))
            (record { batches = x.0; whole = x.1.makes.whole; world_is = x.1.makes.world_is; is = x.1.is });
        noted = ends;
        numbers = λ told.
            let k = d.stood.kept told in
            let x = gives k.1.0 k.1.1 in
            (x.1.asked, x.1.given);
        feeds = λ told. let f = d.stands.fed told in any_feeds _ _ first new f.0 f.1 f.2 f.3;
      }
      by parts.LogFault gives ends = tt
      by parts.Stopped gives ends = tt
      by parts.Memory gives ends = tt

  -- of a work that was done, the answer's own kind

  pub entered_out : (out : HallAnswer D) (old new : Knows) → Done work.Enter out old new → (r : Result ℕ EnterFault) × (out ≡ answer.Entered r)
  entered_out out old new d = is_entered d.before d.after out d.gives

  pub called_out : (w : Asking) (out : HallAnswer D) (old new : Knows) → Done (work.Call w) out old new → (a : Answers) × (asked : List Asked) × (touched : List ℕ) × (out ≡ answer.Called a asked touched)
  called_out w out old new d = is_called w d.before d.after out d.gives

  pub taken_out : (w : Taking) (out : HallAnswer D) (old new : Knows) → Done (work.Take w) out old new → (t : Taken) × (into : FrameList) × (out ≡ answer.Taken t into)
  taken_out w out old new d = is_taken w d.before d.after out d.gives

  pub ticked_out : (w : Ticking) (out : HallAnswer D) (old new : Knows) → Done (work.Tick w) out old new → (c : CallOutcome) × (touched : List ℕ) × (out ≡ answer.Ticked c touched)
  ticked_out w out old new d = is_ticked w d.before d.after out d.gives

  pub rewrote_out : (out : HallAnswer D) (old new : Knows) → Done work.StepRewrite out old new → (c : CallOutcome) × (state : LogState) × (out ≡ answer.Rewrote c state)
  rewrote_out out old new d = is_rewrote d.before d.after out d.gives

  pub parted_out : (w : AskingPart) (out : HallAnswer D) (old new : Knows) → Done (work.Part w) out old new → (a : PartAnswer) × (into : PartBytes) × (out ≡ answer.Parted a into)
  parted_out w out old new d = is_parted w d.before d.after out d.gives

  -- none of its acts is a retirement
  pub goes_on : (w : HallWork) (old new : Place D) (out : HallAnswer D) → GivesIn w old out new → retires w ≡ false → NoRetire (acts w out)
  goes_on work.Enter old new out g stays = let k = is_entered old new out g in subst (λ (z : HallAnswer D). NoRetire (acts work.Enter z)) (sym k.1) (refl, tt)
  goes_on (work.Call w) old new out g stays = let k = is_called w old new out g in
      subst (λ (z : HallAnswer D). NoRetire (acts (work.Call w) z)) (sym k.3) (calls_go_on w.session w.moment w.asked k.0.served k.0.end)
  goes_on (work.Take w) old new out g stays = let k = is_taken w old new out g in subst (λ (z : HallAnswer D). NoRetire (acts (work.Take w) z)) (sym k.2) (refl, tt)
  goes_on (work.Tick w) old new out g stays = let k = is_ticked w old new out g in subst (λ (z : HallAnswer D). NoRetire (acts (work.Tick w) z)) (sym k.2) (refl, tt)
  goes_on (work.Close n) old new out g stays = subst (λ (z : HallAnswer D). NoRetire (acts (work.Close n) z)) (sym (is_closed n old new out g)) (refl, tt)
  goes_on (work.Remove n) old new out g stays = subst (λ (z : HallAnswer D). NoRetire (acts (work.Remove n) z)) (sym (is_removed n old new out g)) (refl, tt)
  goes_on work.StepRewrite old new out g stays = let k = is_rewrote old new out g in subst (λ (z : HallAnswer D). NoRetire (acts work.StepRewrite z)) (sym k.2) (refl, tt)
  goes_on (work.Part w) old new out g stays = let k = is_parted w old new out g in subst (λ (z : HallAnswer D). NoRetire (acts (work.Part w) z)) (sym k.2) (refl, tt)
  goes_on work.Retire old new out g stays = absurd (true≢false stays)

  pub retired_out : (out : HallAnswer D) (old new : Knows) → Done work.Retire out old new → (given : Option (D × CallOutcome)) × (out ≡ answer.Retired given)
  retired_out out old new d = is_retired d.before d.after out d.gives
