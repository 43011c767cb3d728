use Rattle.std.proofs.Common.{◌+◌, ◌∙◌, List, ℕ, length, take, ap, arith, length-take}
use Rattle.log_sides.specs.Texts.{records_in}
use Rattle.log_sides.specs.Sealing.{sealed_long, still_sealed, records_sealed, records_cut}
use Rattle.log_sides.proofs.batches.Batch.cut_to.Goals as goal

pub seal_all-requires : goal.seal_all-requires
seal_all-requires c = omega (arith, ap length c.truncate.ensures.items, length-take (c.args.len + 10) c.self.inside.bytes.items, sealed_long c.self.inside.bytes.items c.self.invariant)

pub invariant_of-self : goal.invariant_of-self
invariant_of-self c = still_sealed c.seal_all.new.bytes.items (records_in c.truncate.new.self.items) c.seal_all.ensures

pub returns : goal.returns
returns c =
    let items = c.self.inside.bytes.items in
    let len = c.args.len in
    ap records_in c.seal_all.ensures ∙ records_sealed (records_in c.truncate.new.self.items) ∙ ap records_in c.truncate.ensures.items
    ∙ records_cut items len (omega (arith, c.requires, ap length c.self.view_is, sealed_long items c.self.invariant)) ∙ ap (λ (l : List ℕ). take len l) c.self.view_is
