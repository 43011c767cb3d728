use Rattle.std.proofs.Common.{◌≡◌, drop}
use Rattle.std.specs.List.{list_any}
use Rattle.log_record.specs.Versions.{is_text}
use Rattle.record_reader.proofs.versions.hold_text.Given as goal

-- those that are left decide
abbrev pub invariant-loop-i : goal.invariant-loop-i
invariant-loop-i l = list_any is_text (drop l.i l.values) ≡ list_any is_text l.values
