-- What the calls of a core make of its log's batches: in one generation the log grows, and a part that is given is one of it.
use Rattle.std.proofs.Common.{◌≡◌, ◌≢◌, ◌⊎◌, ◌≤◌, ◌<◌, ◌+◌, ◌^◌, ◌∙◌, ℕ, Bool, true, false, List, [], ◌∷◌, ◌++◌, length, take, drop, refl, sym, ap, subst, inl, inr, arith, true≢false, append-nil, length-append, length-take}
use Rattle.std.specs.Prelude.{if◌then◌else◌, Option, None, Some}
use Rattle.byte_text.specs.Names.{Bytes}
use Rattle.outside.specs.Sides.{Sides}
use Rattle.world_data.specs.declared.worlds.World.{World}
use Rattle.world_model.specs.Halls.{Hall}
use Rattle.world_model.specs.Histories.{Step, StepBy, refusal_going, when_stopped}
use Rattle.world_model.specs.declared.events.CallOutcome.{CallOutcome}
use Rattle.world_model.specs.declared.events.CallOutcome.TheVariants as called
use Rattle.world_model.specs.declared.events.Event.TheVariants.{Rewrite}
use Rattle.world_model.specs.declared.events.Outcome.TheVariants.{Answered}
use Rattle.log_sides.specs.Texts.{committed, front_text, gate_place, max_side, newest}
use Rattle.journal.specs.Growing.{committed_more}
use Rattle.journal.specs.Journals.{pending}
use Rattle.journal.specs.Logs.{Grows}
use Rattle.log_record.specs.Journals.{Journal}
use Rattle.repl_stream.specs.Feeds.{IfGiven, bytes_in, called_of}
use Rattle.repl_stream.specs.Texts.{IsAsk, max_part}
use Rattle.repl_stream.specs.declared.asks.Ask.{Ask}
use Rattle.repl_stream.specs.declared.feeds.PartAnswer.{PartAnswer}
use Rattle.repl_stream.specs.declared.feeds.PartAnswer.TheVariants as parts
use Rattle.repl_stream.specs.declared.part_bytes.PartBytes.{PartBytes}
use Rattle.repl_stream.specs.declared.parts.Part.{Part}
use Rattle.durable_core.specs.Histories.{Writing, writing_of, written}
use Rattle.durable_core.specs.Logged.{KeepsLogOf, generation_of, hall_of}
use Rattle.durable_core.specs.Parts.{IsPartOfLog, MakeWorld, is_within}
use Rattle.durable_core.specs.Rewriting.{Item, going, is_ending, items_left}
use Rattle.durable_core.specs.Steps.{next_generation}
use Rattle.durable_core.specs.Written.{IsMirrored, KeepsSided, Sided, sided_next, sided_on, sided_with}
use Rattle.durable_core.specs.declared.cores.DurableCore.{DurableCore}
use Rattle.durable_core.specs.declared.rewritings.Rewriting.{Rewriting}
use Rattle.durable_core.specs.declared.rewritings.Rewriting.TheVariants as rewriting
use Rattle.durable_core.specs.declared.tails.Tail.{Tail}
use Rattle.shared_hall.specs.Cores.{SidedIn, hall_in, writing_in}
use Rattle.shared_hall.specs.Fed.{IsGiven, IsNoted, note_in}
use Rattle.shared_hall.specs.Standing.{FeedsOn}
use Rattle.shared_hall.specs.declared.places.Place.TheVariants.{Inside}
use Rattle.shared_hall.proofs.Feeding.{went_on}

-- a commit puts a batch behind the others, or none; so does a step of a rewriting, unless it ends it
next_grows : (r : Rewriting) (w : World) (g : ℕ) (batch : Bytes) (s : Sided) → Grows g (next_generation r w g) s.batches (sided_next r w (sided_with batch s)).batches
next_grows rewriting.Idle w g batch s = inl (omega arith, committed_more s.batches batch)
next_grows rewriting.Asked w g batch s = inl (omega arith, committed_more s.batches batch)
next_grows (rewriting.Going last) w g batch s = by (items_left last w)
  where
    by : (items : List Item) → Grows g (g + (if is_ending (going items) then 1 else 0)) s.batches (sided_on items (sided_with batch s)).batches
    by [] = inr (omega arith)
    by (item ∷ items) = inl (omega arith, committed_more s.batches batch)

-- a step of rewriting of a hall that goes on was done, or wanted memory
rewrite_ends : (h next : Hall) (answer : CallOutcome) → Step h Rewrite (Answered answer) next → next.stopped ≡ false → (answer ≡ called.Ok) ⊎ (answer ≡ called.Memory)
rewrite_ends h next answer step goes =
    by (subst (λ (b : Bool). StepBy (if b then Some (when_stopped Rewrite, h) else refusal_going h Rewrite) h Rewrite (Answered answer) next) (went_on h next Rewrite (Answered answer) step goes) step)
  where
    by : StepBy None h Rewrite (Answered answer) next → (answer ≡ called.Ok) ⊎ (answer ≡ called.Memory)
    by (inl failed) = absurd (true≢false (sym (ap (λ (g : Hall). g.stopped) failed.1.1) ∙ goes))
    by (inr (inl lacks)) = let is = lacks.1.0 in let e : answer ≡ called.Memory = cc in inr e
    by (inr (inr does)) = let is = does.0 in let e : answer ≡ called.Ok = cc in inl e

-- one that was done found a hall that goes on
ok_goes : (h next : Hall) → Step h Rewrite (Answered called.Ok) next → h.stopped ≡ false
ok_goes h next step = by h.stopped refl
  where
    by : (b : Bool) → h.stopped ≡ b → h.stopped ≡ false
    by false is = is
    by true is =
        let ends = subst (λ (b : Bool). StepBy (if b then Some (when_stopped Rewrite, h) else refusal_going h Rewrite) h Rewrite (Answered called.Ok) next) is step in
        let said = ends.0 in
        absurd (cc)

-- behind such a step the hall goes on
goes_ok : (h next : Hall) → Step h Rewrite (Answered called.Ok) next → next.stopped ≡ false
goes_ok h next step =
    by (subst (λ (b : Bool). StepBy (if b then Some (when_stopped Rewrite, h) else refusal_going h Rewrite) h Rewrite (Answered called.Ok) next) (ok_goes h next step) step)
  where
    by : StepBy None h Rewrite (Answered called.Ok) next → next.stopped ≡ false
    by (inl failed) = let said = failed.1.0 in absurd (cc)
    by (inr (inl lacks)) = let said = lacks.1.0 in absurd (cc)
    by (inr (inr does)) = ap (λ (g : Hall). g.stopped) does.1 ∙ ok_goes h next step

-- a note is there where a part was given alone
pub noted_ok : (h next : Hall) (ask : Ask) (a : PartAnswer) (into : PartBytes) → Step h Rewrite (Answered (called_of a)) next → (note_in ask a into ≡ []) ⊎ ((true ≡ true) × (next.stopped ≡ false))
noted_ok h next ask (parts.Given part) into step = inr (refl, goes_ok h next step)
noted_ok h next ask parts.LogFault into step = inl refl
noted_ok h next ask parts.Stopped into step = inl refl
noted_ok h next ask parts.Memory into step = inl refl

none_noted : (ask : Ask) (a : PartAnswer) (into : PartBytes) → called_of a ≡ called.Memory → note_in ask a into ≡ []
none_noted ask (parts.Given part) into is = absurd (cc)
none_noted ask parts.LogFault into is = refl
none_noted ask parts.Stopped into is = refl
none_noted ask parts.Memory into is = refl

-- a part begins at a place of 64 bits
from_fits : (b : Bool) (from : ℕ) → from < 2 ^ 64 → (if b then from else 16) < 2 ^ 64
from_fits true from fits = fits
from_fits false from fits = omega arith

few : (n : ℕ) (xs : Bytes) → length (take n xs) ≤ n
few n xs = omega (arith, length-take n xs)

module _ {D : Type 0} (crashes : D → Bool) (seen : D → Option Sides) (images : D → Sides → Type 0) where
  abbrev Keeps : DurableCore D → Sided → Type 0
  Keeps c s = KeepsSided crashes seen images c.tail.journal s

  abbrev Feeds : DurableCore D → DurableCore D → Bytes → Sided → Type 0
  Feeds c d note s = FeedsOn hall_in writing_in (SidedIn crashes seen images) (Inside c) (Inside d) note s

  -- what a call makes of the batches, where the hall goes on
  abbrev pub HasFed : DurableCore D → DurableCore D → Bytes → Type 0
  HasFed c d note = (hall_of d).stopped ≡ false → (j : Journal) → KeepsLogOf crashes seen images c j → (s : Sided) → Keeps c s → Feeds c d note s

  -- nothing was written, or what was pending
  mirrored : (c d : DurableCore D) (note : Bytes) (s : Sided) → generation_of d ≡ generation_of c → note ≡ [] → Keeps d s ⊎ Keeps d (sided_with (pending c.tail.journal) s) → Feeds c d note s
  mirrored c d note s same none (inl keeps) = record { sides = s; keeps = keeps; grows = inl (same, ([], sym (append-nil s.batches))); noted = inl none }
  mirrored c d note s same none (inr keeps) = record { sides = sided_with (pending c.tail.journal) s; keeps = keeps; grows = inl (same, committed_more s.batches (pending c.tail.journal)); noted = inl none }

  pub fed_mirrored : (c d : DurableCore D) → generation_of d ≡ generation_of c → ((hall_of d).stopped ≡ false → IsMirrored crashes seen images c.tail.journal d.tail.journal) → HasFed c d []
  fed_mirrored c d same is goes j kept s keeps = mirrored c d [] s same refl (is goes s keeps)

  -- the log was left alone
  pub fed_beside : (c d : DurableCore D) → d.tail ≡ c.tail → HasFed c d []
  fed_beside c d same goes j kept s keeps =
      mirrored c d [] s (ap (λ (t : Tail D). t.journal.log.generation) same) refl (inl (subst (λ (t : Tail D). KeepsSided crashes seen images t.journal s) (sym same) keeps))

  abbrev Next : DurableCore D → Sided → Sided
  Next c s = sided_next c.tail.rewriting (hall_of c).world (sided_with (pending c.tail.journal) s)

  -- a step of rewriting
  pub fed_stepped : (c d : DurableCore D) (answer : CallOutcome) (note : Bytes) → Step (hall_of c) Rewrite (Answered answer) (hall_of d)
      → (answer ≢ called.LogFault → writing_of d ≡ written (hall_of c) Rewrite (Answered answer) (writing_of c))
      → ((s : Sided) → Keeps c s → answer ≡ called.Ok → Keeps d (Next c s)) → (answer ≡ called.Memory → IsMirrored crashes seen images c.tail.journal d.tail.journal)
      → (answer ≡ called.Memory → note ≡ [])
      → ((j : Journal) → KeepsLogOf crashes seen images c j → (s : Sided) → Keeps c s → answer ≡ called.Ok → (note ≡ []) ⊎ IsNoted (generation_of d) (hall_of d).world (Next c s).batches note)
      → HasFed c d note
  fed_stepped c d answer note step writes on unmoved none noted goes j kept s keeps = by (rewrite_ends (hall_of c) (hall_of d) answer step goes)
    where
      by : (answer ≡ called.Ok) ⊎ (answer ≡ called.Memory) → Feeds c d note s
      by (inl ok) =
          let is = subst (λ (a : CallOutcome). writing_of d ≡ written (hall_of c) Rewrite (Answered a) (writing_of c)) ok (writes (λ failed. cc)) in
          record {
            sides = Next c s;
            keeps = on s keeps ok;
            grows = subst (λ (n : ℕ). Grows (generation_of c) n s.batches (Next c s).batches) (sym (ap (λ (w : Writing). w.generation) is))
                (next_grows c.tail.rewriting (hall_of c).world (generation_of c) (pending c.tail.journal) s);
            noted = noted j kept s keeps ok;
          }
      by (inr memory) =
          let is = subst (λ (a : CallOutcome). writing_of d ≡ written (hall_of c) Rewrite (Answered a) (writing_of c)) memory (writes (λ failed. cc)) in
          mirrored c d note s (ap (λ (w : Writing). w.generation) is) (none memory) (unmoved memory s keeps)

  -- a part of a log that a core keeps
  is_given : (d : DurableCore D) (t : Sided) (world : World) (ask : Ask) (part : Part) (bytes : Bytes) → IsAsk ask → Keeps d t → MakeWorld t.batches world → IsPartOfLog ask (generation_of d) t.batches part bytes
      → IsGiven (generation_of d) world t.batches ask part bytes
  is_given d t world ask part bytes asked keeps makes is =
      let k = d.tail.journal.log in
      let has = keeps.log.safe.has in
      let short : gate_place newest k.generation t.batches ≤ max_side = omega (arith, ap length has.text, length-append (front_text k.version k.generation t.batches) (has.gate ∷ has.stale), has.within) in
      let numbered = has.numbered in
      record {
        asked = asked;
        given = record {
          generation = subst (λ (n : ℕ). n < 2 ^ 64) (sym is.generation_is) numbered.most;
          from = subst (λ (n : ℕ). n < 2 ^ 64) (sym is.from) (from_fits (is_within ask k.generation (gate_place newest k.generation t.batches)) ask.from asked.from);
          end = subst (λ (n : ℕ). n < 2 ^ 64) (sym is.end) (omega (arith, short));
          short = subst (λ (l : Bytes). length l ≤ max_part) (sym is.bytes_are) (few max_part (drop part.from (front_text newest k.generation t.batches)));
        };
        is = is;
        makes = makes;
        numbered = numbered.least;
        short = short;
      }

  -- the answer to an ask
  module _ (c d : DurableCore D) (ask : Ask) (into : PartBytes) (asked : IsAsk ask) where
    given_noted : (a : PartAnswer) (t : Sided) → called_of a ≡ called.Ok → Keeps d t → MakeWorld t.batches (hall_of d).world → IfGiven a (λ part. IsPartOfLog ask (generation_of d) t.batches part (bytes_in into))
        → (note_in ask a into ≡ []) ⊎ IsNoted (generation_of d) (hall_of d).world t.batches (note_in ask a into)
    given_noted (parts.Given part) t ok keeps makes is =
        inr (record { ask = ask; part = part; bytes = bytes_in into; note_is = refl; given = is_given d t (hall_of d).world ask part (bytes_in into) asked keeps makes is })
    given_noted parts.LogFault t ok keeps makes is = inl refl
    given_noted parts.Stopped t ok keeps makes is = inl refl
    given_noted parts.Memory t ok keeps makes is = inl refl

    module _ (a : PartAnswer) (step : Step (hall_of c) Rewrite (Answered (called_of a)) (hall_of d))
        (on : (s : Sided) → Keeps c s → called_of a ≡ called.Ok → Keeps d (Next c s))
        (is : (s : Sided) → Keeps c s → IfGiven a (λ part. IsPartOfLog ask (generation_of d) (Next c s).batches part (bytes_in into)))
        (makes : (j : Journal) (s : Sided) → KeepsLogOf crashes seen images c j → Keeps c s → called_of a ≡ called.Ok → MakeWorld (Next c s).batches (hall_of d).world) where
      pub fed_part : (called_of a ≢ called.LogFault → writing_of d ≡ written (hall_of c) Rewrite (Answered (called_of a)) (writing_of c))
          → (called_of a ≡ called.Memory → IsMirrored crashes seen images c.tail.journal d.tail.journal) → HasFed c d (note_in ask a into)
      fed_part writes unmoved =
          fed_stepped c d (called_of a) (note_in ask a into) step writes on unmoved (none_noted ask a into)
          (λ j kept s keeps ok. given_noted a (Next c s) ok (on s keeps ok) (makes j s kept keeps ok) (is s keeps))

    -- of whichever batches the log has
    pub part_given : (a : PartAnswer) → Step (hall_of c) Rewrite (Answered (called_of a)) (hall_of d) → ((s : Sided) → Keeps c s → called_of a ≡ called.Ok → Keeps d (Next c s))
        → ((s : Sided) → Keeps c s → IfGiven a (λ part. IsPartOfLog ask (generation_of d) (Next c s).batches part (bytes_in into)))
        → ((j : Journal) (s : Sided) → KeepsLogOf crashes seen images c j → Keeps c s → called_of a ≡ called.Ok → MakeWorld (Next c s).batches (hall_of d).world)
        → (j : Journal) → KeepsLogOf crashes seen images c j
        → IfGiven a (λ part. (batches : List Bytes) × IsGiven (generation_of d) (hall_of d).world batches ask part (bytes_in into))
    part_given (parts.Given part) step on is makes j kept =
        let k = (kept (ok_goes (hall_of c) (hall_of d) step)).kept in
        let s : Sided = record { batches = k.batches; copied = k.copied } in
        ((Next c s).batches, is_given d (Next c s) (hall_of d).world ask part (bytes_in into) asked (on s k.keeps refl) (makes j s kept k.keeps refl) (is s k.keeps))
    part_given parts.LogFault step on is makes j kept = tt
    part_given parts.Stopped step on is makes j kept = tt
    part_given parts.Memory step on is makes j kept = tt
