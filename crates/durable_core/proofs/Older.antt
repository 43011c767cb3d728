-- A log of an older version is rewritten, step by step.
use Rattle.std.proofs.Common.{◌≡◌, ◌≢◌, ◌∙◌, ◌+◌, ◌≤◌, ◌<◌, ℕ, Bool, true, false, [], ◌∷◌, Option, Ok, length-drop, refl, sym, subst, arith, inl, inr, ⊎_elim}
use Rattle.std.proofs.Math.Nat.{eq-or-lt_of_le}
use Rattle.std.specs.Prelude.{if◌then◌else◌}
use Rattle.std.proofs.lemmas.Bool.{lt-ltb, le-ltb}
use Rattle.world_data.specs.declared.worlds.World.{World}
use Rattle.world_model.specs.declared.events.CallOutcome.{CallOutcome}
use Rattle.world_model.specs.declared.events.CallOutcome.TheVariants as called
use Rattle.outside.specs.Sides.{Sides}
use Rattle.outside.specs.CrashLaws.{begins}
use Rattle.outside.specs.Crashes.{LeavesOnly}
use Rattle.log_sides.specs.Texts.{newest}
use Rattle.journal.specs.Growing.{grows_none}
use Rattle.journal.specs.Logs.{HasGrown}
use Rattle.log_record.specs.Journals as log
use Rattle.log_record.specs.Recovery.{RecoversEither}
use Rattle.durable_core.specs.Kept.{IsKeptBy, LeadsTo, settled_log}
use Rattle.durable_core.specs.Rewriting.{Shown, idle, asked, going, is_ending, is_idle, next_shown, shown_by, steps_left}
use Rattle.durable_core.specs.Steps.{IsEnded, next_generation, next_version}
use Rattle.durable_core.specs.Upgrading.{IsUnderway, upgraded}
use Rattle.durable_core.specs.Written.{KeepsGrown}
use Rattle.durable_core.specs.declared.rewritings.Rewriting.{Rewriting}
use Rattle.durable_core.specs.declared.rewritings.Rewriting.TheVariants as rewriting
use Rattle.durable_core.specs.declared.tails.Tail.{Tail}

-- one step of a rewriting that goes on

module _ (from first version generation : ℕ) (w : World) where
  shown_on : (shown : Shown) (v g : ℕ) → (shown ≡ idle → ⊥) → IsUnderway from first version generation shown → v ≡ (if is_ending shown then newest else version)
      → g ≡ generation + (if is_ending shown then 1 else 0) → IsUnderway from first v g (next_shown w shown)
  shown_on idle v g busy at e f = absurd (busy refl)
  shown_on asked v g busy at e f = (e ∙ at.0, omega (arith, f, at.1))
  shown_on (going []) v g busy at e f = (e, omega (arith, f, at.1))
  shown_on (going (item ∷ items)) v g busy at e f = (e ∙ at.0, omega (arith, f, at.1))

  shown_down : (shown : Shown) → (shown ≡ idle → ⊥) → steps_left w (next_shown w shown) < steps_left w shown
  shown_down idle busy = absurd (busy refl)
  shown_down asked busy = omega arith
  shown_down (going []) busy = omega arith
  shown_down (going (item ∷ items)) busy = let cut = length-drop 256 (item ∷ items) in omega (arith, cut)

  not_idle : (r : Rewriting) → is_idle r ≡ false → shown_by r w ≡ idle → ⊥
  not_idle rewriting.Idle e is = cc
  not_idle rewriting.Asked e is = cc
  not_idle (rewriting.Going last) e is = cc

  pub underway_on : (old new : Rewriting) (v g : ℕ) → is_idle old ≡ false → IsUnderway from first version generation (shown_by old w) → v ≡ next_version old w version
      → g ≡ next_generation old w generation → shown_by new w ≡ next_shown w (shown_by old w) → IsUnderway from first v g (shown_by new w)
  underway_on old new v g busy at e f shown =
      subst (IsUnderway from first v g) (sym shown) (shown_on (shown_by old w) v g (not_idle old busy) at e f)

  pub fewer_left : (old new : Rewriting) → is_idle old ≡ false → shown_by new w ≡ next_shown w (shown_by old w) → steps_left w (shown_by new w) < steps_left w (shown_by old w)
  fewer_left old new busy shown = subst (λ (x : Shown). steps_left w x < steps_left w (shown_by old w)) (sym shown) (shown_down (shown_by old w) (not_idle old busy))

  -- one that is asked for, and one that has ended
  pub underway_first : (r : Rewriting) → r ≡ rewriting.Asked → from ≡ version → first ≡ generation → IsUnderway from first version generation (shown_by r w)
  underway_first r is e f = subst (λ (q : Rewriting). IsUnderway from first version generation (shown_by q w)) (sym is) (sym e, sym f)

  pub underway_last : (r : Rewriting) → r ≡ rewriting.Idle → IsUnderway from first version generation (shown_by r w) → (version ≡ newest) × (generation ≡ first + 1)
  underway_last r is at = subst (λ (q : Rewriting). IsUnderway from first version generation (shown_by q w)) is at

pub idle_is : (r : Rewriting) → is_idle r ≡ true → r ≡ rewriting.Idle
idle_is rewriting.Idle e = refl
idle_is rewriting.Asked e = absurd (cc)
idle_is (rewriting.Going last) e = absurd (cc)

-- the generation behind it

pub upgraded_newest : (version generation : ℕ) → version ≡ newest → generation ≡ upgraded version generation
upgraded_newest version generation is = rw (le-ltb version newest (omega (arith, is))) refl

pub upgraded_older : (version generation : ℕ) → version < newest → generation + 1 ≡ upgraded version generation
upgraded_older version generation less = rw (lt-ltb version newest less) refl

pub is_older : (version : ℕ) → version ≤ newest → (version ≡ newest → ⊥) → version < newest
is_older version known not = ⊎_elim (λ is. absurd (not is)) (λ less. less) (eq-or-lt_of_le known)

-- what has not ended well, and not for want of memory
pub log_fault : (answer : CallOutcome) → answer ≢ called.Ok → answer ≢ called.Memory → IsEnded answer → answer ≡ called.LogFault
log_fault answer fine few (inl is) = absurd (fine is)
log_fault answer fine few (inr (inl is)) = absurd (few is)
log_fault answer fine few (inr (inr is)) = is

-- nothing was done yet, or a rewriting was asked for
module _ {D E : Type 0} (crashes : D → Bool) (seen : D → Option Sides) (images : D → Sides → Type 0) (moment : D → ℕ) (left_since : D → ℕ → Sides → Type 0) (old new : Tail D) (w : World) where
  pub leads_first : new.journal ≡ old.journal → IsKeptBy crashes seen images new (settled_log w) → LeadsTo {E = E} crashes seen images moment left_since old new (Ok tt) (settled_log w) (settled_log w)
  leads_first same kept = record {
    same = refl;
    leaves = λ told. subst (λ k. log.Leaves moment left_since old.journal.disk k.disk (settled_log w)) (sym same) (begins moment left_since old.journal.disk (RecoversEither w w));
    kept = kept;
    leaves_grown = λ told s k. subst (λ n. LeavesOnly moment left_since old.journal.disk n.disk (HasGrown old.journal.log.generation s.batches)) (sym same)
        (begins moment left_since old.journal.disk (HasGrown old.journal.log.generation s.batches));
    grown = λ s k. subst (λ n. KeepsGrown crashes seen images n old.journal.log.generation s.batches) (sym same)
        (record { sides = s; keeps = k; grows = grows_none old.journal.log.generation s.batches });
  }
