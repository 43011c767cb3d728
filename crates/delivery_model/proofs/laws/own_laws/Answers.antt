use Rattle.delivery_model.specs.Callers.{one_reply, own_call, answer_fits}
use Rattle.delivery_model.specs.Confirming.{subscribing_fits}
use Rattle.delivery_model.proofs.laws.own_laws.Goals as goal

pub returns : goal.returns
returns c = record { own = own_call; one = one_reply; answers = answer_fits; confirmations = subscribing_fits }
