use Rattle.std.proofs.Common.{◌≡◌, true, take}
use Rattle.std.specs.List.{list_all}
use Rattle.byte_text.specs.Names.{before}
use Rattle.world_data.proofs.fields.place_of.Given as goal

abbrev pub invariant-loop-at : goal.invariant-loop-at
invariant-loop-at l = list_all (λ f. before f.0 l.name) (take l.at l.list) ≡ true
