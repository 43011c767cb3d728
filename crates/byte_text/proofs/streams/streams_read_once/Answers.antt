use Rattle.byte_text.specs.StreamLaws.{stream_fed, stream_found, stream_begun, stream_broken}
use Rattle.byte_text.proofs.streams.streams_read_once.Goals as goal

pub returns-clause-cut : goal.returns-clause-cut
returns-clause-cut c = stream_fed

pub returns-clause-found : goal.returns-clause-found
returns-clause-found c = stream_found

pub returns-clause-begun : goal.returns-clause-begun
returns-clause-begun c = stream_begun

pub returns-clause-broken : goal.returns-clause-broken
returns-clause-broken c = stream_broken
