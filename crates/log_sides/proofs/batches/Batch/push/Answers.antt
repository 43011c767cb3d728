use Rattle.std.proofs.Common.{◌+◌, ◌-◌, ◌++◌, ◌∙◌, List, ℕ, length, take, drop, ap, arith, length-append}
use Rattle.log_sides.specs.Texts.{records_in}
use Rattle.log_sides.specs.Sealing.{sealed_long, still_sealed, records_sealed, records_pushed}
use Rattle.log_sides.proofs.batches.Batch.push.Goals as goal

pub seal_all-requires : goal.seal_all-requires
seal_all-requires c = omega (arith, c.put.ensures.len, ap length c.in-Ok.ensures.items, length-append c.self.inside.bytes.items c.args.entry.now, sealed_long c.self.inside.bytes.items c.self.invariant)

pub invariant_of-self : goal.invariant_of-self
invariant_of-self c = still_sealed c.seal_all.new.bytes.items (records_in c.put.new.bytes.items) c.seal_all.ensures

pub returns-in-Ok-clause-ok : goal.returns-in-Ok-clause-ok
returns-in-Ok-clause-ok c =
    let items = c.self.inside.bytes.items in
    let end = c.len-end.result - 1 in
    let record_ = c.args.entry.now in
    ap records_in c.seal_all.ensures ∙ records_sealed (records_in c.put.new.bytes.items) ∙ ap records_in c.put.ensures.items ∙ ap (λ (l : List ℕ). records_in (take end l ++ record_ ++ drop (end + length record_) l)) c.in-Ok.ensures.items
    ∙ records_pushed items record_ end (omega (arith, sealed_long items c.self.invariant)) (omega (arith, c.len-end.ensures, c.self.inside.bytes.ok.0)) ∙ ap (λ (l : List ℕ). l ++ record_) c.self.view_is
