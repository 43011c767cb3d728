-- Halving comes to the first key behind another that has an object.
use Rattle.std.proofs.Common.{◌≡◌, ◌≤◌, ℕ, Bool, true, false, arith, sym, ◌∙◌}
use Rattle.std.specs.Prelude.{filter, nat_le}
use Rattle.std.proofs.lemmas.Bool.Decides.{nat_tests}
use Rattle.ordered_lists.specs.Lists.{ascends}
use Rattle.keyspace.specs.Entries.{key_before, has_objects, objects_in}
use Rattle.world_store.specs.Copies.{has_key_behind}
use Rattle.world_store.proofs.Walking.{bare_back, held_found}
use Rattle.world_store.proofs.Rising.{key_up, key_down}
use Rattle.world_store.proofs.NextKeys.{held_ascend}
use Rattle.world_store.proofs.copies.key_place.Goals as goal
use Rattle.world_store.proofs.copies.key_place.Goals.{then-at-high, else-at-high}

pub loop-low-preserved-then-is_before : goal.loop-low-preserved-then-is_before
loop-low-preserved-then-is_before c =
    let es = c.args.objects.now in
    let asc : ascends key_before (filter has_objects es) ≡ true = held_ascend es (objects_in es) c.requires c.keys-high.ensures.distinct in
    record {
      ordered = omega arith;
      within = omega arith;
      front = c.loop-low.invariant.front;
      back = elim c.if-at-high.branch [
        | then-at-high w ↦ bare_back has_objects (has_key_behind c.args.key.now) es _ c.next_held-at.result c.loop-low.high c.next_held-at.ensures.bare w.if-at-high.true c.loop-low.invariant.back
        | else-at-high w ↦ key_down c.args.key.now es asc c.next_held-at.result (omega arith) c.next_held-at.ensures.held w.key.result.now w.key.ensures _ c.next_held-at.ensures.bare (sym w.is_before.ensures ∙ sym w.value-is ∙ c.if-is_before.true)
      ];
    }

not_high : (a b : ℕ) (v : Bool) → v ≡ nat_le a b → a ≤ b → v ≡ false → ⊥
not_high a b v e le f = grind (arith, nat_tests)

pub loop-low-preserved : goal.loop-low-preserved
loop-low-preserved c =
    let es = c.args.objects.now in
    let asc : ascends key_before (filter has_objects es) ≡ true = held_ascend es (objects_in es) c.requires c.keys-high.ensures.distinct in
    record {
      ordered = elim c.if-at-high.branch [ then-at-high w ↦ absurd (not_high _ _ _ w.value-is w.if-at-high.true c.if-is_before.false) | else-at-high w ↦ omega arith ];
      within = c.loop-low.invariant.within;
      front = elim c.if-at-high.branch [
        | then-at-high w ↦ absurd (not_high _ _ _ w.value-is w.if-at-high.true c.if-is_before.false)
        | else-at-high w ↦ key_up c.args.key.now es asc c.next_held-at.result (omega arith) c.next_held-at.ensures.held w.key.result.now w.key.ensures (sym w.is_before.ensures ∙ sym w.value-is ∙ c.if-is_before.false)
      ];
      back = c.loop-low.invariant.back;
    }

pub returns-clause-place : goal.returns-clause-place
returns-clause-place c =
    held_found has_objects (has_key_behind c.args.key.now) c.args.objects.now c.loop-low.low c.loop-low.high c.next_held.result (omega arith) c.loop-low.invariant.front c.loop-low.invariant.back
    c.next_held.ensures.from c.next_held.ensures.bare c.next_held.ensures.held
