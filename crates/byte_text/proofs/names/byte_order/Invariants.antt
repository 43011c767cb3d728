use Rattle.std.proofs.Common.{◌≡◌}
use Rattle.std.specs.Cmp.Lexicographic.{slice_cmp}
use Rattle.std.specs.Ordering.{nat_cmp}
use Rattle.byte_text.proofs.names.byte_order.Given as goal

abbrev pub invariant-loop : goal.invariant-loop
invariant-loop l = slice_cmp nat_cmp l.front l.back ≡ slice_cmp nat_cmp l.fn.a l.fn.b
