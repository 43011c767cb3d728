use Rattle.std.proofs.Common.{rules}
use Rattle.std.proofs.lemmas.Fn.{filter_same}
use Rattle.run_list.proofs.runs.retain_numbers.Goals as goal

pub returns-clause-numbers : goal.returns-clause-numbers
returns-clause-numbers g c = filter_same _ _ _ (λ x b f' k. search rules) _ _ c.retain.ensures.filtered
