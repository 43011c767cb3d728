use Rattle.std.proofs.Common.{◌∙◌, ap}
use Rattle.log_sides.specs.Texts.{records_in}
use Rattle.log_sides.specs.Sealing.{still_sealed, records_sealed}
use Rattle.log_sides.proofs.batches.Batch.new.Goals as goal

pub invariant_of-result : goal.invariant_of-result
invariant_of-result c = still_sealed c.seal_all.new.bytes.items (records_in c.in-Ok.bytes.items) c.seal_all.ensures

pub returns-in-Ok : goal.returns-in-Ok
returns-in-Ok c = ap records_in c.seal_all.ensures ∙ records_sealed (records_in c.in-Ok.bytes.items) ∙ ap records_in (c.in-Ok.ensures.items_if_clones_equal (λ y e. e))
