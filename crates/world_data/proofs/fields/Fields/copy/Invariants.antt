use Rattle.std.proofs.Common.{◌≡◌, take}
use Rattle.world_data.proofs.fields.Fields.copy.Given as goal

-- the list has copies of what was passed
abbrev pub invariant-loop-field : goal.invariant-loop-field
invariant-loop-field l = l.list.items ≡ take l.field-index l.field-items
