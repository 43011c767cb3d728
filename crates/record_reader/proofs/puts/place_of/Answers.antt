use Rattle.record_reader.proofs.PutParts.{no_shape}
use Rattle.record_reader.proofs.puts.place_of.Goals as goal

pub returns-in-Err-Refused : goal.returns-in-Err-Refused
returns-in-Err-Refused c = no_shape c.args.word.now _ _ c.in-Err-Refused.field-0-is c.in-Err-Refused.ensures
