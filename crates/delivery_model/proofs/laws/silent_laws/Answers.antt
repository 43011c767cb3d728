use Rattle.delivery_model.specs.Silent.{none_listening, without_channels, staged_append, heard_append}
use Rattle.delivery_model.proofs.laws.silent_laws.Goals as goal

pub returns : goal.returns
returns c = record { listening = none_listening; channels = without_channels; turn = staged_append; heard = heard_append }
