use Rattle.std.proofs.Common.{refl, ap, subst, [], true}
use Rattle.std.specs.Prelude.{Ok}
use Rattle.byte_text.specs.Names.{Bytes}
use Rattle.script_text.specs.Lines.{KeepsMoment}
use Rattle.replay_run.specs.Traces.{trace}
use Rattle.replay_run.specs.Scripts.{Acts, Feeds}
use Rattle.replay_run.specs.Undone.{ActsFail, FeedsFails}
use Rattle.durable_core.specs.Logged.{hall_of}
use Rattle.script_text.specs.declared.lines.ScriptLine.TheVariants as says
use Rattle.replay_run.specs.Readers.{reader_of}
use Rattle.replay_run.specs.Standing.{Comes}
use Rattle.replay_run.specs.Players.{played}
use Rattle.replay_run.proofs.Calling.{comes_still}
use Rattle.replay_run.proofs.Saying.{said_comes}
use Rattle.replay_run.proofs.acts.Player.does.Goals as goal

pub feed-requires-clause-moment : goal.feed-requires-clause-moment
feed-requires-clause-moment g c = subst KeepsMoment c.in-Feed.is c.requires.moment

pub tick-requires-clause-moment : goal.tick-requires-clause-moment
tick-requires-clause-moment g c = subst KeepsMoment c.in-Tick.is c.requires.moment

pub returns-in-Nothing : goal.returns-in-Nothing
returns-in-Nothing g c =
    let p = played c.args.self.now in
    let core = c.args.self.now.core in
    record {
      made = said_comes g.D.Disk.crashes g.D.Disk.seen g.D.Disk.images g.D.Disk.moment g.D.Disk.left_since g.D.Disk.faults core core p p c.args.said says.Nothing _ _ (Ok c.new.result) c.in-Nothing.is
          (comes_still g.D.Disk.crashes g.D.Disk.seen g.D.Disk.images g.D.Disk.moment g.D.Disk.left_since g.D.Disk.faults core (λ out deeds. Acts true p says.Nothing (trace deeds out) p) (λ halt deeds. ActsFail true halt p says.Nothing deeds (hall_of core)) (Ok c.new.result) c.requires.goes (ap (λ (z : Bytes). trace [] z) c.new.ensures, refl) tt)
          (λ out deeds m told. m) (λ halt deeds f told. f);
    }

pub returns-in-Enter : goal.returns-in-Enter
returns-in-Enter g c = record { made = said_comes g.D.Disk.crashes g.D.Disk.seen g.D.Disk.images g.D.Disk.moment g.D.Disk.left_since g.D.Disk.faults c.args.self.now.core c.enter.new.self.core (played c.args.self.now) (played c.enter.new.self) c.args.said says.Enter _ _ c.enter.result c.in-Enter.is c.enter.ensures.made (λ out deeds m told. m) (λ halt deeds f told. f) }

pub returns-in-Feed : goal.returns-in-Feed
returns-in-Feed g c = record {
  made = said_comes g.D.Disk.crashes g.D.Disk.seen g.D.Disk.images g.D.Disk.moment g.D.Disk.left_since g.D.Disk.faults c.args.self.now.core c.feed.new.self.core (played c.args.self.now) (played c.feed.new.self) c.args.said (says.Feed c.in-Feed.session c.in-Feed.moment c.in-Feed.bytes) _ _ c.feed.result c.in-Feed.is
      (subst (λ (z : Bytes). Comes g.D.Disk.crashes g.D.Disk.seen g.D.Disk.images g.D.Disk.moment g.D.Disk.left_since g.D.Disk.faults c.args.self.now.core c.feed.new.self.core (λ out deeds. Feeds (played c.args.self.now) c.in-Feed.session c.in-Feed.moment z (reader_of c.in-Feed.session c.args.self.now.readers.items) (trace deeds out) (played c.feed.new.self)) (λ halt deeds. FeedsFails halt (hall_of c.args.self.now.core) c.in-Feed.session c.in-Feed.moment z (reader_of c.in-Feed.session c.args.self.now.readers.items) deeds (hall_of c.feed.new.self.core)) c.feed.result) c.bytes-in-Feed.ensures c.feed.ensures.made)
      (λ out deeds m told. m) (λ halt deeds f told. f);
}

pub returns-in-Take : goal.returns-in-Take
returns-in-Take g c = record { made = said_comes g.D.Disk.crashes g.D.Disk.seen g.D.Disk.images g.D.Disk.moment g.D.Disk.left_since g.D.Disk.faults c.args.self.now.core c.take.new.core (played c.args.self.now) _ c.args.said (says.Take c.in-Take.session) _ _ c.take.result c.in-Take.is c.take.ensures.made (λ out deeds m told. (m, refl)) (λ halt deeds f told. f) }

pub returns-in-Tick : goal.returns-in-Tick
returns-in-Tick g c = record { made = said_comes g.D.Disk.crashes g.D.Disk.seen g.D.Disk.images g.D.Disk.moment g.D.Disk.left_since g.D.Disk.faults c.args.self.now.core c.tick.new.core (played c.args.self.now) _ c.args.said (says.Tick c.in-Tick.moment) _ _ c.tick.result c.in-Tick.is c.tick.ensures.made (λ out deeds m told. (m, refl)) (λ halt deeds f told. f) }

pub returns-in-Close : goal.returns-in-Close
returns-in-Close g c = record { made = said_comes g.D.Disk.crashes g.D.Disk.seen g.D.Disk.images g.D.Disk.moment g.D.Disk.left_since g.D.Disk.faults c.args.self.now.core c.close.new.self.core (played c.args.self.now) (played c.close.new.self) c.args.said (says.Close c.in-Close.session) _ _ c.close.result c.in-Close.is c.close.ensures.made (λ out deeds m told. m) (λ halt deeds f told. f) }

pub returns-in-Step : goal.returns-in-Step
returns-in-Step g c = record { made = said_comes g.D.Disk.crashes g.D.Disk.seen g.D.Disk.images g.D.Disk.moment g.D.Disk.left_since g.D.Disk.faults c.args.self.now.core c.step.new.core (played c.args.self.now) _ c.args.said says.Step _ _ c.step.result c.in-Step.is c.step.ensures.made (λ out deeds m told. (m, refl)) (λ halt deeds f told. f) }
