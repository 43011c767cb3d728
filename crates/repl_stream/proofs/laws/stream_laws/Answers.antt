use Rattle.repl_stream.proofs.Apart.{asks_are_requests, parts_are_requests, asks_are_apart, parts_are_apart, kinds_are_apart}
use Rattle.repl_stream.proofs.laws.stream_laws.Goals as goal

pub returns-clause-asks : goal.returns-clause-asks
returns-clause-asks c = asks_are_requests c.requests_are_read.ensures.text

pub returns-clause-parts : goal.returns-clause-parts
returns-clause-parts c = parts_are_requests c.requests_are_read.ensures.text

pub returns-clause-ask : goal.returns-clause-ask
returns-clause-ask c = asks_are_apart c.request_texts_differ.ensures

pub returns-clause-part : goal.returns-clause-part
returns-clause-part c = parts_are_apart c.request_texts_differ.ensures

pub returns-clause-kind : goal.returns-clause-kind
returns-clause-kind c = kinds_are_apart c.request_texts_differ.ensures
