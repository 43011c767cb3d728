use Rattle.std.proofs.Common.{◌≡◌, ◌++◌, take, drop, length}
use Rattle.std.specs.Prelude.{flat_map}
use Rattle.std.specs.List.{list_all}
use Rattle.world_data.specs.Records.{is_kept_field}
use Rattle.record_writer.specs.Texts.{field_text}
use Rattle.record_writer.proofs.parts.push_fields.Given as goal

abbrev pub invariant-loop-i : goal.invariant-loop-i
invariant-loop-i l = record {
  written : l.into ++ flat_map field_text (drop l.i l.fields) ≡ l.fn.into ++ flat_map field_text l.fields;
  are_kept : list_all is_kept_field (drop l.i l.fields) ≡ list_all is_kept_field l.fields;
  front : take (length l.fn.into) l.into ≡ l.fn.into;
}
