use Rattle.std.proofs.Common.{ap, ◌∙◌}
use Rattle.ws_front.specs.WebLinks.{WebState, link_of}
use Rattle.ws_front.proofs.WebLaws.{read_given}
use Rattle.ws_front.proofs.web_links.WebLinkReadyLink.read.Goals as goal

pub returns-in_default-clause-read : goal.returns-in_default-clause-read
returns-in_default-clause-read g c =
    let mid : WebState = record {
      talk = g.T.Talk.shows c.self.inside.talk;
      caller = c.self.inside.caller;
      pending = c.self.inside.pending;
      unread = c.self.inside.unread;
      phase = c.self.inside.phase;
      faults = c.self.inside.faults;
    } in
    read_given c.args.self.now mid c.give.new.self c.give.new.into c.give.result (ap link_of c.self.view_is ∙ c.gather.ensures.link) c.give.ensures.given c.give.ensures.left
