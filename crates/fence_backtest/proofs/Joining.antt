-- Batches that are read one by one, and what is read of all of them.
use Rattle.std.proofs.Common.{◌≡◌, ◌∙◌, ℕ, List, [], ◌∷◌, ◌++◌, flat_map, refl, sym, ap}
use Rattle.std.specs.List.{AllZip}
use Rattle.byte_text.specs.Names.{Bytes}
use Rattle.world_data.specs.declared.worlds.Change.{Change}
use Rattle.journal.specs.Openings.{AreWhole}
use Rattle.world_recovery.specs.Recorded.{changes_in, changes_of, fault_of, record_fault}
use Rattle.fence_backtest.specs.Replayed.{IsPartOf}

-- what was read of batches that are all records is what they hold
pub read_whole : (version : ℕ) (batches : List Bytes) (parts : List (List Change)) → AllZip (IsPartOf version) batches parts
    → (flat_map (λ part. part) parts ≡ flat_map (changes_in version) batches) × AreWhole (record_fault version) batches
read_whole version [] [] are = (refl, tt)
read_whole version [] (part ∷ parts) are = absurd are
read_whole version (batch ∷ batches) [] are = absurd are
read_whole version (batch ∷ batches) (part ∷ parts) are =
    let rest = read_whole version batches parts are.1 in (
      ap (λ (l : List Change). l ++ flat_map (λ p. p) parts) (sym (ap changes_of are.0)) ∙ ap (λ (l : List Change). changes_in version batch ++ l) rest.0,
      (ap fault_of are.0, rest.1),
    )
