-- The frames of a message that are kept for those that hear it.
use Rattle.std.specs.Prelude.{◌≡◌, true, IfSome, Option}
use Rattle.byte_text.specs.Names.{Bytes}
use Rattle.byte_text.specs.Globs.{glob_meets}
use Rattle.fence_model.specs.Messages.{Message}
use Rattle.world_model.specs.Halls.{message_frame, pattern_frame}
use Rattle.session_table.specs.declared.frames.PatternFrame.{PatternFrame}

-- for those that hold the name
abbrev pub IsForName : Message → Option Bytes → Type 0
IsForName m made = IfSome made (λ t. t ≡ message_frame m)

-- for those that hold a pattern that the name meets
abbrev pub IsForPattern : Message → Option PatternFrame → Type 0
IsForPattern m made = IfSome made (λ p. (glob_meets p.pattern m.0 ≡ true) × (p.frame ≡ pattern_frame p.pattern m))
