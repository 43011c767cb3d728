use Rattle.delivery_model.specs.Placing.{of_sessions, own}
use Rattle.delivery_model.specs.Applying.{enough, all_suffice, staged_is, lists_serve, staging_sound, apply_hears}
use Rattle.delivery_model.specs.Rising.{rising}
use Rattle.delivery_model.proofs.laws.staging_laws.Goals as goal

pub returns : goal.returns
returns c = record { sessions = of_sessions; own = own; sound = staging_sound; each = apply_hears; rising = rising; staged = staged_is; lists = lists_serve; enough = enough; all = all_suffice }
