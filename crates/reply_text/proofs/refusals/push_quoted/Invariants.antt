use Rattle.std.proofs.Common.{◌≡◌, ◌++◌, map, take}
use Rattle.std.specs.Prelude.{codes}
use Rattle.world_model.specs.Refusals.{shown_byte}
use Rattle.reply_text.proofs.refusals.push_quoted.Given as goal

abbrev pub invariant-loop-byte : goal.invariant-loop-byte
invariant-loop-byte l = l.text ≡ l.fn.text ++ (codes "'" ++ map shown_byte (take l.byte-index l.word))
