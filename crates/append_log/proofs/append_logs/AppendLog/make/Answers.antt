use Rattle.std.proofs.Common.{◌∙◌}
use Rattle.log_sides.specs.Texts.{newest}
use Rattle.log_sides.specs.Torn.{first_place}
use Rattle.append_log.proofs.append_logs.AppendLog.make.Goals as goal

pub returns-in-Ok-make_side-clause-stands : goal.returns-in-Ok-make_side-clause-stands
returns-in-Ok-make_side-clause-stands g c before short safe = record { place = c.in-Ok.ensures.gate ∙ first_place newest c.args.generation; safe = c.in-Ok-make_side.ensures.stands before short safe }

pub returns-in-Err-make_side-clause-either : goal.returns-in-Err-make_side-clause-either
returns-in-Err-make_side-clause-either g c before short safe disk = c.in-Err-make_side.ensures.either before short safe
