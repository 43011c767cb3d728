use Rattle.std.proofs.Common.{inl, inr, refl, ap}
use Rattle.world_model.specs.Histories.{answer}
use Rattle.tile_top.proofs.Fronting.{not_fine}
use Rattle.tile_top.proofs.serves.end_behind.Goals as goal

pub returns-in-Ok-clause-ended : goal.returns-in-Ok-clause-ended
returns-in-Ok-clause-ended g c = inl (inl (ap answer c.in-Ok.is), refl, refl)

pub returns-in_default-clause-ended : goal.returns-in_default-clause-ended
returns-in_default-clause-ended g c = inr (c.if-before-eq0.true, not_fine c.args.answer c.in_default.not-Ok, c.end.ensures.told)

pub returns-in_default-2-clause-ended : goal.returns-in_default-2-clause-ended
returns-in_default-2-clause-ended g c = inl (inr c.if-before-eq0.false, refl, refl)
