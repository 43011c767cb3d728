use Rattle.tile_top.proofs.Telling.{begun_telling, told_shut}
use Rattle.tile_top.proofs.follows.follow_one.Goals as goal

pub returns-clause-follows : goal.returns-clause-follows
returns-clause-follows g c = told_shut c.args.terms c.follow_named-stop.result c.shut.result (g.L.Link.ReadyLink.shows c.args.link)
    (g.L.Link.ReadyLink.shows c.into_parts-link.result.0) c.args.copied.node c.into_parts-link.result.1 c.args.copied.told
    c.follow_named-stop.new.told (g.W.WaitForLinks.shows c.args.wait.now) (g.W.WaitForLinks.shows c.follow_named-stop.new.wait)
    (g.W.WaitForLinks.shows c.shut.new.wait) (g.K.Sink.held c.args.sink.now) (g.K.Sink.held c.follow_named-stop.new.sink)
    (g.K.Sink.faults c.args.sink.now) (g.K.Sink.faults c.follow_named-stop.new.sink) c.follow_named-stop.new.follower
    (c.follow_named-stop.ensures.keeps c.args.copied.node (g.L.Link.ReadyLink.shows c.args.link) c.args.copied.told (g.K.Sink.held c.args.sink.now)
    (begun_telling c.args.terms c.args.copied.node (g.L.Link.ReadyLink.shows c.args.link) c.args.copied.told (g.K.Sink.held c.args.sink.now)
    c.new-follower.result c.new-follower.ensures.first))
    c.into_parts-link.ensures.node c.into_parts-link.ensures.link c.shut.ensures.shut c.follow_named-stop.ensures.shut c.shut.ensures.stop
    c.shut.ensures.over c.follow_named-stop.ensures.wait c.shut.ensures.wait c.follow_named-stop.ensures.why
