use Rattle.delivery_model.specs.Effects.{either, answers, subscribing_keeps, four_alone, four_keep}
use Rattle.delivery_model.proofs.laws.effect_laws.Goals as goal

pub returns : goal.returns
returns c = record { either = either; others = answers; subscribing = subscribing_keeps; four = four_alone; nothing = four_keep }
