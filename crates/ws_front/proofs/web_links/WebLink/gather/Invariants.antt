use Rattle.std.proofs.Common.{◌≡◌}
use Rattle.ws_front.specs.WebLinks.{link_of}
use Rattle.ws_front.proofs.web_links.WebLink.gather.Given as goal

abbrev pub invariant-loop : goal.invariant-loop
invariant-loop g l = (link_of l.self ≡ link_of l.fn.self) × (l.self.talk.said ≡ l.fn.self.talk.said)
