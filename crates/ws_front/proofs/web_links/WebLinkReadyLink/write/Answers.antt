use Rattle.std.proofs.Common.{◌≡◌, subst, take}
use Rattle.std.specs.Io.KnownBytes.{Appends}
use Rattle.ws_front.specs.WebLinks.{WebState, link_of}
use Rattle.ws_front.proofs.WebLaws.{whole_by}
use Rattle.ws_front.proofs.web_links.WebLinkReadyLink.write.Goals as goal

pub returns-in-Ok-Whole-clause-written : goal.returns-in-Ok-Whole-clause-written
returns-in-Ok-Whole-clause-written g c =
    let talk = g.T.Talk.shows c.say.new.self in
    let frame = take c.in-Some.len c.args.piece.now in
    let w : WebState = record {
      talk = g.T.Talk.shows c.self.inside.talk;
      caller = c.self.inside.caller;
      pending = c.self.inside.pending;
      unread = c.self.inside.unread;
      phase = c.self.inside.phase;
      faults = c.self.inside.faults;
    } in
    subst (λ (old : WebState).
    Appends (link_of old).held (link_of (record w { talk = talk })).held frame
    × (link_of (record w { talk = talk }) ≡ record (link_of old) { held = (link_of (record w { talk = talk })).held })) c.self.view_is
    (whole_by w talk frame c.in-Ok-Whole.field-0 c.in-Ok-Whole.field-0-is c.in-Ok-Whole.ensures.said)
