use Rattle.std.proofs.Common.{subst}
use Rattle.std.specs.Prelude.{Err}
use Rattle.record_reader.specs.Reading.{IsChangeOf}
use Rattle.record_reader.specs.declared.faults.ReadFault.{ReadFault}
use Rattle.record_reader.proofs.Versioned.{said_is, said_again, said_some, said_later, said_never}
use Rattle.record_reader.proofs.changes.change_of.Goals as goal

pub returns-in-Ok-clause-ok : goal.returns-in-Ok-clause-ok
returns-in-Ok-clause-ok c = said_is c.args.version c.args.words.now c.in-Ok.change c.in-Ok.ensures c.said_in.result c.said_in.ensures

pub returns-in-Ok-clause-written : goal.returns-in-Ok-clause-written
returns-in-Ok-clause-written c = said_again c.args.version c.args.words.now c.in-Ok.change c.in-Ok.ensures c.said_in.result c.said_in.ensures

pub returns-in-Ok-clause-none : goal.returns-in-Ok-clause-none
returns-in-Ok-clause-none c = said_some c.args.version c.args.words.now c.in-Ok.change c.in-Ok.ensures c.said_in.result c.said_in.ensures

pub returns-in-Ok-clause-later : goal.returns-in-Ok-clause-later
returns-in-Ok-clause-later c = said_later c.args.version c.args.words.now c.in-Ok.change c.in-Ok.ensures c.said_in.result c.said_in.ensures

pub returns-in-Err-NotRecord-clause-none : goal.returns-in-Err-NotRecord-clause-none
returns-in-Err-NotRecord-clause-none c = λ is. said_never c.args.words.now (subst (λ (f : ReadFault). IsChangeOf c.args.words.now (Err f)) c.in-Err-NotRecord.field-0-is c.in-Err-NotRecord.ensures)
