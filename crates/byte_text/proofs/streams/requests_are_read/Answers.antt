use Rattle.byte_text.specs.StreamTexts.{request_read}
use Rattle.byte_text.specs.StreamFound.{request_found}
use Rattle.byte_text.specs.StreamLaws.{begun_ends, beginning_begins, broken_stays}
use Rattle.byte_text.proofs.streams.requests_are_read.Goals as goal

pub returns-clause-text : goal.returns-clause-text
returns-clause-text c = λ words behind is. request_read words behind is

pub returns-clause-found : goal.returns-clause-found
returns-clause-found c = λ bytes behind words e. request_found bytes words behind e

pub returns-clause-begun : goal.returns-clause-begun
returns-clause-begun c = begun_ends

pub returns-clause-beginning : goal.returns-clause-beginning
returns-clause-beginning c = beginning_begins

pub returns-clause-broken : goal.returns-clause-broken
returns-clause-broken c = broken_stays
