use Rattle.std.proofs.Common.{◌≡◌, []}
use Rattle.std.specs.Prelude.{map}
use Rattle.world_data.specs.Filters.{with_values}
use Rattle.cmd_words.proofs.FieldValues.{marked}
use Rattle.cmd_words.proofs.fields.fields_of.Given as goal

abbrev pub invariant-loop-name : goal.invariant-loop-name
invariant-loop-name l = (l.fields ≡ with_values [] l.yielded) × (l.zeros ≡ with_values [] (map marked l.yielded))
