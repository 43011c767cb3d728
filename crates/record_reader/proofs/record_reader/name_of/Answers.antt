use Rattle.std.proofs.Common.{refl}
use Rattle.byte_text.specs.Names.{name_fault}
use Rattle.record_reader.proofs.Parts.{named_of, unnamed_of}
use Rattle.record_reader.proofs.record_reader.name_of.Goals as goal

pub returns-in-Ok : goal.returns-in-Ok
returns-in-Ok c = named_of c.args.word.now c.in-Ok.name (name_fault c.args.word.now) refl c.in-Ok.ensures

pub returns-in-Err-Refused : goal.returns-in-Err-Refused
returns-in-Err-Refused c = unnamed_of c.args.word.now _ _ (name_fault c.args.word.now) refl c.in-Err-Refused.field-0-is c.in-Err-Refused.ensures
