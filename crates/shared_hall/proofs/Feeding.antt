-- Logs that grow: what notes told of them before, they still tell.
use Rattle.std.proofs.Common.{◌≡◌, ◌⊎◌, ◌≤◌, ◌<◌, ◌==◌, ◌∙◌, ℕ, Bool, true, false, List, [], ◌∷◌, ◌++◌, map, refl, sym, ap, subst, inl, inr, arith, append_assoc, append-nil}
use Rattle.std.specs.Prelude.{if◌then◌else◌, Some}
use Rattle.std.proofs.lemmas.Bool.{eqb-true}
use Rattle.std.proofs.lemmas.Bool.Decides.{nat_tests}
use Rattle.byte_text.specs.Names.{Bytes}
use Rattle.log_sides.specs.Texts.{newest}
use Rattle.journal.specs.Logs.{Grows}
use Rattle.journal.specs.Openings.{AreWhole}
use Rattle.world_recovery.specs.Recorded.{record_fault}
use Rattle.world_model.specs.Halls.{Hall}
use Rattle.world_model.specs.Histories.{Step, StepBy, opening_hall, refusal_going, when_stopped}
use Rattle.world_model.specs.Seats.{Act, Knows, act_of}
use Rattle.world_model.specs.declared.events.Entry.{Entry}
use Rattle.world_model.specs.declared.events.Event.{Event}
use Rattle.world_model.specs.declared.events.Outcome.{Outcome}
use Rattle.durable_core.specs.Histories.{Writing, Writes}
use Rattle.durable_core.specs.Written.{Sided}
use Rattle.shared_hall.specs.Fed.{AreAllWhole, AreFed, FeedsLogs, IsFed, IsNoted, WasTold, WereTold, any_grown, any_lasting}
use Rattle.shared_hall.specs.Standing.{IsLast}
use Rattle.shared_hall.specs.Times.{Time}
use Rattle.shared_hall.proofs.Raising.{raised}

-- each of the logs goes on with the one of before
abbrev GoOn : (ℕ → List Bytes) → (ℕ → List Bytes) → Type 0
GoOn logs next = (n : ℕ) → (more : List Bytes) × (next n ≡ logs n ++ more)

fed_on : (lasting on_lasting : ℕ → ℕ → List Bytes → Type 0) (logs next : ℕ → List Bytes) (h : Hall) (first : Writing) (acts : List Act) (es : List Entry)
    → ((since g : ℕ) (batches : List Bytes) → lasting since g batches → on_lasting since g batches) → GoOn logs next → AreFed lasting logs h first acts es → AreFed on_lasting next h first acts es
fed_on lasting on_lasting logs next h first acts [] last on fed = tt
fed_on lasting on_lasting logs next h first acts (e ∷ es) last on fed = (by fed.0, fed_on lasting on_lasting logs next h first (acts ++ act_of e ∷ []) es last on fed.1)
  where
    by : (e.note ≡ []) ⊎ IsFed lasting logs h first (acts ++ act_of e ∷ []) e.moment e.note → (e.note ≡ []) ⊎ IsFed on_lasting next h first (acts ++ act_of e ∷ []) e.moment e.note
    by (inl none) = inl none
    by (inr f) =
        let m = on f.end.generation in
        inr (record {
          hall = f.hall;
          end = f.end;
          writes = f.writes;
          batches = f.batches;
          later = f.later ++ m.0;
          begun = m.1 ∙ ap (λ (l : List Bytes). l ++ m.0) f.begun ∙ append_assoc f.batches f.later m.0;
          noted = f.noted;
          lasts = last e.moment f.end.generation f.batches f.lasts;
        })

-- what lasts, as something else that follows
pub fed_lasting : (lasting on_lasting : ℕ → ℕ → List Bytes → Type 0) (logs : ℕ → List Bytes) (h : Hall) (first : Writing) (acts : List Act) (es : List Entry)
    → ((since g : ℕ) (batches : List Bytes) → lasting since g batches → on_lasting since g batches) → AreFed lasting logs h first acts es → AreFed on_lasting logs h first acts es
fed_lasting lasting on_lasting logs h first acts es last fed = fed_on lasting on_lasting logs logs h first acts es last (λ n. ([], sym (append-nil (logs n)))) fed

-- one entry more
pub fed_last : (lasting : ℕ → ℕ → List Bytes → Type 0) (logs : ℕ → List Bytes) (h : Hall) (first : Writing) (acts : List Act) (log : List Entry) (e : Entry) → AreFed lasting logs h first acts log
    → (e.note ≡ []) ⊎ IsFed lasting logs h first ((acts ++ map act_of log) ++ act_of e ∷ []) e.moment e.note → AreFed lasting logs h first acts (log ++ e ∷ [])
fed_last lasting logs h first acts [] e fed last =
    (subst (λ (l : List Act). (e.note ≡ []) ⊎ IsFed lasting logs h first (l ++ act_of e ∷ []) e.moment e.note) (append-nil acts) last, tt)
fed_last lasting logs h first acts (d ∷ log) e fed last = (
  fed.0,
  fed_last lasting logs h first (acts ++ act_of d ∷ []) log e fed.1
      (subst (λ (l : List Act). (e.note ≡ []) ⊎ IsFed lasting logs h first (l ++ act_of e ∷ []) e.moment e.note) (sym (append_assoc acts (act_of d ∷ []) (map act_of log))) last),
)

-- entries that end later, which bear no note
pub fed_raised : (t : Time) (lasting : ℕ → ℕ → List Bytes → Type 0) (logs : ℕ → List Bytes) (h : Hall) (first : Writing) (acts : List Act) (log es : List Entry)
    → AreFed lasting logs h first acts (log ++ es) → AreFed lasting logs h first acts (log ++ map (raised t) es)
fed_raised t lasting logs h first acts [] [] fed = tt
fed_raised t lasting logs h first acts [] (e ∷ es) fed = (inl refl, fed_raised t lasting logs h first (acts ++ act_of e ∷ []) [] es fed.1)
fed_raised t lasting logs h first acts (b ∷ log) es fed = (fed.0, fed_raised t lasting logs h first (acts ++ act_of b ∷ []) log es fed.1)

-- the logs, of which that of one generation now has these batches
abbrev pub with_log : ℕ → List Bytes → (ℕ → List Bytes) → ℕ → List Bytes
with_log g batches logs n = if n == g then batches else logs n

module _ (logs : ℕ → List Bytes) (g k : ℕ) (before after : List Bytes) (here : (more : List Bytes) × (before ≡ logs g ++ more)) (none : (n : ℕ) → g < n → logs n ≡ []) (grows : Grows g k before after) where
  -- the log begins what has grown
  begins : (more : List Bytes) × (after ≡ logs k ++ more)
  begins = by grows
    where
      by : Grows g k before after → (more : List Bytes) × (after ≡ logs k ++ more)
      by (inl e) = (here.0 ++ e.1.0, e.1.1 ∙ ap (λ (l : List Bytes). l ++ e.1.0) here.1 ∙ append_assoc (logs g) here.0 e.1.0 ∙ ap (λ (n : ℕ). logs n ++ (here.0 ++ e.1.0)) (sym e.0))
      by (inr later) = (after, sym (ap (λ (l : List Bytes). l ++ after) (none k later)))

  not_earlier : Grows g k before after → g ≤ k
  not_earlier (inl e) = let same = e.0 in omega (arith, same)
  not_earlier (inr later) = omega (arith, later)

  none_behind : (n : ℕ) → k < n → logs n ≡ []
  none_behind n behind = none n (omega (arith, behind, not_earlier grows))

  -- no part was told of it
  pub last_still : (sides : Sided) (sided : Sided → Type 0) → sides.batches ≡ after → sided sides → IsLast logs k sided
  last_still sides sided is keeps = record { sides = sides; keeps = keeps; here = (begins.0, is ∙ begins.1); none = none_behind }

  go_on : GoOn logs (with_log k after logs)
  go_on n = by (n == k) refl
    where
      at : n ≡ k → (more : List Bytes) × (after ≡ logs n ++ more)
      at same = (begins.0, begins.1 ∙ ap (λ (m : ℕ). logs m ++ begins.0) (sym same))

      by : (b : Bool) → (n == k) ≡ b → (more : List Bytes) × ((if b then after else logs n) ≡ logs n ++ more)
      by true is = at (eqb-true n k is)
      by false is = ([], sym (append-nil (logs n)))

  now_here : with_log k after logs k ≡ after
  now_here = let same : (k == k) ≡ true = grind (arith, nat_tests) in ap (λ (b : Bool). if b then after else logs k) same

  none_later : (n : ℕ) → k < n → with_log k after logs n ≡ []
  none_later n behind =
      let other : (n == k) ≡ false = grind (arith, nat_tests) in
      ap (λ (b : Bool). if b then after else logs n) other ∙ none_behind n behind

  pub whole_more : AreAllWhole logs → AreWhole (record_fault newest) after → AreAllWhole (with_log k after logs)
  whole_more whole more n = by (n == k)
    where
      by : (b : Bool) → AreWhole (record_fault newest) (if b then after else logs n)
      by true = more
      by false = whole n

  -- a part was told of it
  pub told_more : (grew : ℕ → List Bytes → Type 0) → grew k after → WereTold grew logs → WereTold grew (with_log k after logs)
  told_more grew so told n = by (n == k) refl
    where
      here_now : n ≡ k → WasTold grew (with_log k after logs) n
      here_now same = record {
        batches = after;
        later = [];
        begun = ap (with_log k after logs) same ∙ now_here ∙ sym (append-nil after);
        grew_so = subst (λ (m : ℕ). grew m after) (sym same) so;
      }

      as_before : (n == k) ≡ false → (logs n ≡ []) ⊎ WasTold grew logs n → (with_log k after logs n ≡ []) ⊎ WasTold grew (with_log k after logs) n
      as_before other (inl none) = inl (ap (λ (b : Bool). if b then after else logs n) other ∙ none)
      as_before other (inr was) = inr (record {
        batches = was.batches;
        later = was.later;
        begun = ap (λ (b : Bool). if b then after else logs n) other ∙ was.begun;
        grew_so = was.grew_so;
      })

      by : (b : Bool) → (n == k) ≡ b → (with_log k after logs n ≡ []) ⊎ WasTold grew (with_log k after logs) n
      by true is = inr (here_now (eqb-true n k is))
      by false is = as_before is (told n)

  -- an entry more tells a part of it
  pub fed_more : (lasting on_lasting : ℕ → ℕ → List Bytes → Type 0) (h : Hall) (first : Writing) (log : List Entry) (e : Entry) (next : Hall) (end : Writing) → end.generation ≡ k
      → ((since n : ℕ) (batches : List Bytes) → lasting since n batches → on_lasting since n batches) → AreFed lasting logs h first [] log → Writes h first (map act_of log ++ act_of e ∷ []) next end
      → IsNoted k next.world after e.note → on_lasting e.moment k after → AreFed on_lasting (with_log k after logs) h first [] (log ++ e ∷ [])
  fed_more lasting on_lasting h first log e next end is last fed writes noted lasts =
      fed_last on_lasting (with_log k after logs) h first [] log e (fed_on lasting on_lasting logs (with_log k after logs) h first [] log last go_on fed) (inr (record {
        hall = next;
        end = end;
        writes = writes;
        batches = after;
        later = [];
        begun = ap (with_log k after logs) is ∙ now_here ∙ sym (append-nil after);
        noted = subst (λ (m : ℕ). IsNoted m next.world after e.note) (sym is) noted;
        lasts = subst (λ (m : ℕ). on_lasting e.moment m after) (sym is) lasts;
      }))

  pub last_more : (sides : Sided) (sided : Sided → Type 0) → sides.batches ≡ after → sided sides → IsLast (with_log k after logs) k sided
  last_more sides sided is keeps = record { sides = sides; keeps = keeps; here = ([], is ∙ sym now_here ∙ sym (append-nil (with_log k after logs k))); none = none_later }

-- a hall that goes on behind an event went on before it
pub went_on : (h next : Hall) (event : Event) (outcome : Outcome) → Step h event outcome next → next.stopped ≡ false → h.stopped ≡ false
went_on h next event outcome step going = by h.stopped refl
  where
    by : (b : Bool) → h.stopped ≡ b → h.stopped ≡ false
    by false is = is
    by true is =
        let ends = subst (λ (b : Bool). StepBy (if b then Some (when_stopped event, h) else refusal_going h event) h event outcome next) is step in
        sym (ap (λ (g : Hall). g.stopped) ends.1) ∙ going

-- what a history feeds, with nothing said of what lasts
pub any_feeds : (lasting : ℕ → ℕ → List Bytes → Type 0) (grew : ℕ → List Bytes → Type 0) (first : Writing) (k : Knows) (logs : ℕ → List Bytes) → AreAllWhole logs → WereTold grew logs
    → AreFed lasting logs (opening_hall k.opening.world k.opening.logged) first [] k.seen → FeedsLogs any_lasting any_grown first k
any_feeds lasting grew first k logs whole told fed = record {
  logs = logs;
  whole = whole;
  told = λ n. by n (told n);
  fed = fed_lasting lasting any_lasting logs (opening_hall k.opening.world k.opening.logged) first [] k.seen (λ since g batches was. tt) fed;
}
  where
    by : (n : ℕ) → (logs n ≡ []) ⊎ WasTold grew logs n → (logs n ≡ []) ⊎ WasTold any_grown logs n
    by n (inl none) = inl none
    by n (inr was) = inr (record { batches = was.batches; later = was.later; begun = was.begun; grew_so = tt })
