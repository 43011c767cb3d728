-- A commit of a journal, as it leads from a log to another.
use Rattle.std.proofs.Common.{◌≡◌, ◌∙◌, ℕ, Bool, true, List, [], Option, Ok, Err, refl, sym, ap, subst, inl, inr}
use Rattle.byte_text.specs.Names.{Bytes}
use Rattle.world_data.specs.declared.worlds.World.{World}
use Rattle.outside.specs.Sides.{Sides}
use Rattle.outside.specs.Crashes.{LeavesOnly}
use Rattle.outside.specs.CrashLaws.{begins, weaker}
use Rattle.log_sides.specs.Texts.{committed}
use Rattle.journal.specs.Growing.{committed_more, grows_none, round_grown}
use Rattle.journal.specs.Logs.{HasGrown, HoldsEither, HoldsRound}
use Rattle.journal.specs.Standing.{of_any}
use Rattle.journal.specs.Journals.{Keeps, pending}
use Rattle.journal.specs.Openings.{AreWhole}
use Rattle.log_record.specs.Recovery.{RecoversEither}
use Rattle.log_record.specs.Folding.{folded}
use Rattle.log_record.specs.Journals as log
use Rattle.world_recovery.specs.Recorded.{record_fault, world_in}
use Rattle.world_recovery.specs.BatchesHeld.{committed_world, committed_whole, either_recovers}
use Rattle.durable_core.specs.Kept.{IsKeptBy, LeadsTo}
use Rattle.durable_core.specs.Rewriting.{IsCopyWhile}
use Rattle.durable_core.specs.Written.{KeepsGrown, KeepsSided, Sided}
use Rattle.durable_core.specs.declared.rewritings.Rewriting.{Rewriting}
use Rattle.durable_core.specs.declared.tails.Tail.{Tail}
use Rattle.durable_core.proofs.Copying.{copies_on}

module _ {D : Type 0} (crashes : D → Bool) (seen : D → Option Sides) (images : D → Sides → Type 0) (moment : D → ℕ) (left_since : D → ℕ → Sides → Type 0) (old new : Tail D) (same : new.rewriting ≡ old.rewriting)
    (version : new.journal.log.version ≡ old.journal.log.version) (generation : new.journal.log.generation ≡ old.journal.log.generation) (j : log.Journal) (kept : IsKeptBy crashes seen images old j) where
  abbrev v : ℕ
  v = old.journal.log.version

  abbrev g : ℕ
  g = old.journal.log.generation

  -- the batches with the pending one are the log's
  settles : Keeps crashes seen images new.journal (committed kept.batches (pending old.journal)) (committed kept.copied (pending old.journal)) → pending new.journal ≡ [] → IsKeptBy crashes seen images new (log.settled j)
  settles keeps none = record {
    batches = committed kept.batches (pending old.journal);
    copied = committed kept.copied (pending old.journal);
    keeps = keeps;
    whole = subst (λ (k : ℕ). AreWhole (record_fault k) (committed kept.batches (pending old.journal))) (sym version)
        (subst (λ (l : Bytes). AreWhole (record_fault v) (committed kept.batches l)) (sym kept.pending_is) (committed_whole v kept.batches j.pending kept.whole kept.recorded));
    committed = ap (λ (w : World). folded w j.pending) kept.committed ∙ sym (committed_world v kept.batches j.pending kept.recorded)
        ∙ ap (λ (l : Bytes). world_in v (committed kept.batches l)) (sym kept.pending_is) ∙ ap (λ (k : ℕ). world_in k (committed kept.batches (pending old.journal))) (sym version);
    pending_is = none;
    recorded = tt;
    copies = subst (λ (k : ℕ). IsCopyWhile new.rewriting k (committed kept.copied (pending old.journal)) (committed kept.batches (pending old.journal))) (sym version)
        (subst (λ (r : Rewriting). IsCopyWhile r v (committed kept.copied (pending old.journal)) (committed kept.batches (pending old.journal))) (sym same)
        (subst (λ (l : Bytes). IsCopyWhile old.rewriting v (committed kept.copied l) (committed kept.batches l)) (sym kept.pending_is) (copies_on old.rewriting v kept.copied kept.batches j.pending kept.recorded kept.copies)));
  }

  -- what a crash leaves of it is recovered as one of the two worlds
  any_round : (c : Sides) (batches others : List Bytes) → HoldsRound v g batches others c → HoldsEither v batches v others c
  any_round c batches others (inl holds) = inl (of_any c v g batches holds)
  any_round c batches others (inr holds) = inr (of_any c v g others holds)

  either : (c : Sides) → HoldsEither v kept.batches v (committed kept.batches (pending old.journal)) c → RecoversEither j.committed (log.whole j) c
  either c holds = subst (λ (w : World). RecoversEither w (folded w j.pending) c) (sym kept.committed)
      (either_recovers v kept.batches j.pending c kept.whole kept.recorded (subst (λ (l : Bytes). HoldsEither v kept.batches v (committed kept.batches l) c) kept.pending_is holds))

  abbrev LeavesEither : Type 0
  LeavesEither = (batches copied : List Bytes) → Keeps crashes seen images old.journal batches copied → crashes old.journal.disk ≡ true
      → LeavesOnly moment left_since old.journal.disk new.journal.disk (HoldsRound v g batches (committed batches (pending old.journal)))

  leaves : LeavesEither → crashes old.journal.disk ≡ true → log.Leaves moment left_since old.journal.disk new.journal.disk j
  leaves left told = weaker moment left_since old.journal.disk new.journal.disk (HoldsRound v g kept.batches (committed kept.batches (pending old.journal))) (RecoversEither j.committed (log.whole j))
      (λ c holds. either c (any_round c kept.batches (committed kept.batches (pending old.journal)) holds)) (left kept.batches kept.copied kept.keeps told)

  leaves_grown : LeavesEither → crashes old.journal.disk ≡ true → (s : Sided) → KeepsSided crashes seen images old.journal s
      → LeavesOnly moment left_since old.journal.disk new.journal.disk (HasGrown g s.batches)
  leaves_grown left told s keeps = weaker moment left_since old.journal.disk new.journal.disk (HoldsRound v g s.batches (committed s.batches (pending old.journal))) (HasGrown g s.batches)
      (λ c holds. round_grown v g s.batches (pending old.journal) c holds) (left s.batches s.copied keeps told)

  pub leads_on : {E : Type 0} → ((batches copied : List Bytes) → Keeps crashes seen images old.journal batches copied → Keeps crashes seen images new.journal (committed batches (pending old.journal)) (committed copied (pending old.journal)))
      → LeavesEither → pending new.journal ≡ [] → LeadsTo {E = E} crashes seen images moment left_since old new (Ok tt) j (log.settled j)
  leads_on keeps left none = record {
    same = refl;
    leaves = leaves left;
    kept = settles (keeps kept.batches kept.copied kept.keeps) none;
    leaves_grown = leaves_grown left;
    grown = λ s k. record {
      sides = record { batches = committed s.batches (pending old.journal); copied = committed s.copied (pending old.journal) };
      keeps = keeps s.batches s.copied k;
      grows = inl (generation, committed_more s.batches (pending old.journal));
    };
  }

  pub leads_off : {E : Type 0} (fault : E) → LeavesEither → LeadsTo crashes seen images moment left_since old new (Err fault) j (log.settled j)
  leads_off fault left = record { same = refl; leaves = leaves left; kept = tt; leaves_grown = leaves_grown left; grown = tt }

-- nothing was done
pub leads_nowhere : {D E : Type 0} (crashes : D → Bool) (seen : D → Option Sides) (images : D → Sides → Type 0) (moment : D → ℕ) (left_since : D → ℕ → Sides → Type 0) (t : Tail D) (j : log.Journal)
    → IsKeptBy crashes seen images t j → LeadsTo {E = E} crashes seen images moment left_since t t (Ok tt) j j
leads_nowhere crashes seen images moment left_since t j kept = record {
  same = refl;
  leaves = λ told. begins moment left_since t.journal.disk (RecoversEither j.committed (log.whole j));
  kept = kept;
  leaves_grown = λ told s k. begins moment left_since t.journal.disk (HasGrown t.journal.log.generation s.batches);
  grown = λ s k. record { sides = s; keeps = k; grows = grows_none t.journal.log.generation s.batches };
}
