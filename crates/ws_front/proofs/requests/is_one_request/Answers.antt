use Rattle.ws_front.proofs.OneRequests.{decides}
use Rattle.ws_front.proofs.requests.is_one_request.Goals as goal

pub returns-clause-text : goal.returns-clause-text
returns-clause-text c = decides c.requests_are_read.ensures.text c.requests_are_read.ensures.found c.args.bytes.now c.is_read.result c.is_read.ensures
