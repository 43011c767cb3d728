use Rattle.std.proofs.Common.{◌≡◌, ◌∙◌, ap, arith}
use Rattle.std.specs.Option.{unwrap_or}
use Rattle.keyspace.specs.Entries.{objects_in}
use Rattle.tile_core.proofs.Soonest.{are_due_from}
use Rattle.tile_core.proofs.dues.least_deadline.Goals as goal

pub returns : goal.returns
returns c = are_due_from c.unwrap_or.result (objects_in c.args.objects.now) (λ m e. let is : c.unwrap_or.result ≡ m = c.unwrap_or.ensures ∙ ap (λ d. unwrap_or d 18446744073709551615) (c.least_due.ensures ∙ e) in omega (arith, is))
